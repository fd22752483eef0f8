-- A worked case: a board of four blocks, and room for four keys.
use Rattle.std.specs.Prelude.{◌≡◌, ℕ, ◌<◌, true, List, [], ◌∷◌, map, length, Ok, Err}
use Rattle.blocks.specs.Blocks.{Placement}
use Rattle.faults.specs.declared.Ground.TheVariants.{NoFreeBlock}
use Rattle.calls.specs.Answers.{Answer}
use Rattle.ledger.specs.Keys.{KeyRule}
use Rattle.ledger.specs.Sound.{New}
use Rattle.ledger.specs.Store.{Shape, State, Ask, Told, own, outcome}
use Rattle.calls.specs.declared.Call.TheVariants.{Write, Clear}
use Rattle.calls.specs.declared.Granted.TheVariants.{Wrote, GaveBack}
use Rattle.calls.specs.declared.Written.TheVariants.{Board}

-- Under any key rule, with any number of files and of blocks to a file.
abbrev pub four_blocks : (Placement → ℕ) → ℕ → ℕ → Shape
four_blocks rule files width = record { rule = rule; keys = 4; size = 4; files = files; width = width }

abbrev pub answers_to : Shape → State → List Ask → List Answer
answers_to sh s qs = map (λ (t : Told). t.answer) (outcome sh s qs)

abbrev pub keep : List ℕ → ℕ → ℕ → Ask
keep bytes file block = record { call = Write file block 1; sent = bytes }

abbrev pub clear_one_block : ℕ → ℕ → Ask
clear_one_block file block = record { call = Clear file block 1; sent = [] }

abbrev pub took : ℕ → Answer
took p = Ok (Wrote (Board p true))

-- Block 5 of file 0 takes 1, and block 6 takes 2 behind it; block 6 of file 1 takes 3, and block 7 goes round to 0;
-- block 0 of file 0 finds none free. Once block 5 of file 0 is cleared, it takes 1.
abbrev pub worked_calls : List ℕ → List Ask
worked_calls bytes =
    keep bytes 0 5
    ∷ keep bytes 0 6
    ∷ keep bytes 1 6
    ∷ keep bytes 1 7
    ∷ keep bytes 0 0
    ∷ clear_one_block 0 5
    ∷ keep bytes 0 0
    ∷ []

abbrev pub worked_answers : List Answer
worked_answers =
    took 1
    ∷ took 2
    ∷ took 3
    ∷ took 0
    ∷ Err (own NoFreeBlock 0 0)
    ∷ Ok (GaveBack 1)
    ∷ took 1
    ∷ []

-- So it goes from a new store on, under every key rule.
abbrev pub WorkedBoard : Type 0
WorkedBoard = (rule : Placement → ℕ) → KeyRule rule
    → (files width : ℕ) → 1 < files → 7 < width
    → (s : State) → New (four_blocks rule files width) s
    → (bytes : List ℕ) → length bytes ≡ 4096
    → answers_to (four_blocks rule files width) s (worked_calls bytes) ≡ worked_answers
