-- Where a granted write puts its bytes, and what a granted read tells of where they came from.
use Rattle.std.specs.Prelude.{◌≡◌, ℕ, ◌+◌, ◌%◌, true, false, List, is_some, Some, None, Ok}
use Rattle.calls.specs.Answers.{is_from_board}
use Rattle.calls.specs.declared.Call.TheVariants.{Write, Read}
use Rattle.calls.specs.declared.Granted.TheVariants.{Wrote, Showed}
use Rattle.calls.specs.declared.Source.{Source}
use Rattle.calls.specs.declared.Written.{Written}
use Rattle.calls.specs.declared.Written.TheVariants.{Lower, Board}
use Rattle.ledger.specs.Free.{NearestFree}
use Rattle.ledger.specs.Store.{Shape, State, answer_to}

-- A board block that a new block takes: behind the block before it in the file, if that has a place, else at its own number;
-- the nearest free one from there on, going round.
pub record TakesNearest (sh : Shape) (s : State) (file block p : ℕ) : Type 0 where
  pub behind : (b q : ℕ) → block ≡ b + 1 → s.place file b ≡ Some q → NearestFree s.taken sh.size ((q + 1) % sh.size) (Some p)
  pub alone : ((b : ℕ) → block ≡ b + 1 → s.place file b ≡ None) → NearestFree s.taken sh.size (block % sh.size) (Some p)

-- What goes to the lower store is loose, and has no place. A board number that is not newly taken is the block's place.
-- One that is newly taken is for a kept block that had no place.
abbrev pub Goes : Shape → State → ℕ → ℕ → ℕ → Written → Type 0
Goes sh s file block mark Lower = (s.place file block ≡ None) × (mark ≡ 0)
Goes sh s file block mark (Board p false) = s.place file block ≡ Some p
Goes sh s file block mark (Board p true) = (s.place file block ≡ None) × (mark ≡ 1) × TakesNearest sh s file block p

abbrev pub WritesWhere : Type 0
WritesWhere = (sh : Shape) (s : State) (file block mark : ℕ) (sent : List ℕ) (w : Written)
    → answer_to sh s (Write file block mark) sent ≡ Ok (Wrote w) → Goes sh s file block mark w

-- The bytes of a granted read came from the board exactly if the block has a place there.
abbrev pub ReadsWhere : Type 0
ReadsWhere = (sh : Shape) (s : State) (file block : ℕ) (buffer : List ℕ) (from : Source)
    → answer_to sh s (Read file block) buffer ≡ Ok (Showed from) → is_from_board from ≡ is_some (s.place file block)
