-- What the answers of a map say of a row, also where they are refusals.
use Rattle.std.proofs.Common.{◌≡◌, ℕ, ◌-◌, ◌<◌, ◌≤◌, true, ◌⊎◌, is_some, Some, None, Option, sym, refl, ap, ◌∙◌, inl, inr, arith}
use Rattle.std.proofs.lemmas.Bool.{cases_lt, le-ltb}
use Rattle.std.specs.Option.{option_flatten}
use Rattle.std.specs.Result.{result_ok}
use Rattle.faults.specs.declared.Ground.{Ground}
use Rattle.blocks.specs.Blocks.{Placement}
use Rattle.maps.specs.Steps.{answer, ground_of_block, lowest_mapped_block, next_answer}
use Rattle.maps.proofs.Lowest.{lowest_when_none, lowest_when_some}
use Rattle.walks.specs.Steps.{LowestFrom}

-- a question is refused only past all numbers
refused_past : (file block : ℕ) (g : Ground) → ground_of_block file block ≡ Some g → (65536 ≤ file) ⊎ (65536 ≤ block)
refused_past file block g e = go (cases_lt file 65536) (cases_lt block 65536)
  where
    go : (file < 65536) ⊎ (65536 ≤ file) → (block < 65536) ⊎ (65536 ≤ block) → (65536 ≤ file) ⊎ (65536 ≤ block)
    go (inr a) b = inl a
    go (inl a) (inr b) = inr b
    go (inl a) (inl b) =
        let f = le-ltb 65535 file (omega arith) in
        let h = le-ltb 65535 block (omega arith) in
        grind arith

-- The map's search tells the lowest block from a block on.
pub next_lowest : (p : Placement) → ((f b : ℕ) → (65536 ≤ f) ⊎ (65536 ≤ b) → p f b ≡ None) → (file block : ℕ)
    → LowestFrom (p file) block (option_flatten (result_ok (next_answer p file block)))
next_lowest p none file block = by (ground_of_block file block) refl (lowest_mapped_block (p file) block (65536 - block)) refl
  where
    past : (65536 ≤ file) ⊎ (65536 ≤ block) → (b : ℕ) → block ≤ b → p file b ≡ None
    past (inl l) b k = none file b (inl l)
    past (inr l) b k = none file b (inr (omega arith))

    rest : lowest_mapped_block (p file) block (65536 - block) ≡ None → (b : ℕ) → block ≤ b → (b < 65536) ⊎ (65536 ≤ b) → p file b ≡ None
    rest e b k (inl l) = lowest_when_none (p file) block (65536 - block) e b k (omega arith)
    rest e b k (inr l) = none file b (inr l)

    there : (b : ℕ) → is_some (p file b) ≡ true → p file b ≡ None → ⊥
    there b e n = let z = sym e ∙ ap is_some n in grind arith

    by : (g : Option Ground) → ground_of_block file block ≡ g → (o : Option ℕ) → lowest_mapped_block (p file) block (65536 - block) ≡ o
        → LowestFrom (p file) block (option_flatten (result_ok (answer file block g o)))
    by (Some g) e o h = past (refused_past file block g e)
    by None e None h = λ b k. rest h b k (cases_lt b 65536)
    by None e (Some x) h =
        let r = lowest_when_some (p file) block (65536 - block) x h in
        (r.least, there x r.there, r.before)
