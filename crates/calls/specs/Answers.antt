-- What the answers of a store say: the number of a refusal, and the values of a grant.
use Rattle.std.specs.Prelude.{ℕ, Bool, true, false, Some, None, Ok, Err, Option, Result}
use Rattle.blocks.specs.Blocks.{one}
use Rattle.faults.specs.Grounds.{ground_number}
use Rattle.faults.specs.declared.Fault.{Fault}
use Rattle.calls.specs.declared.Granted.{Granted}
use Rattle.calls.specs.declared.Granted.TheVariants.{Wrote, Showed, GaveBack}
use Rattle.calls.specs.declared.Source.{Source}
use Rattle.calls.specs.declared.Source.TheVariants.{Lower as LowerBytes, Board as BoardBytes}
use Rattle.calls.specs.declared.StoreFault.{StoreFault}
use Rattle.calls.specs.declared.StoreFault.TheVariants.{Own, FromMap}
use Rattle.calls.specs.declared.Written.{Written}
use Rattle.calls.specs.declared.Written.TheVariants.{Lower, Board}

-- the refusal itself, the store's own or the map's
abbrev pub fault_in : StoreFault → Fault
fault_in (Own f) = f
fault_in (FromMap f) = f

-- the number of the ground of a refusal
abbrev pub refusal_number : StoreFault → ℕ
refusal_number f = ground_number (fault_in f).ground

-- the board number that a write tells, unless the bytes went to the lower store
abbrev pub board_number : Written → Option ℕ
board_number Lower = None
board_number (Board p new) = Some p

-- whether a write tells of a board block newly taken
abbrev pub newly_taken : Written → Bool
newly_taken Lower = false
newly_taken (Board p new) = new

-- whether a read tells that its bytes came from the board
abbrev pub is_from_board : Source → Bool
is_from_board LowerBytes = false
is_from_board BoardBytes = true

-- ---- any answer

abbrev pub Answer : Type 0
Answer = Result Granted StoreFault

-- the number under which a call is refused, none if it is granted
abbrev pub refused_with : Answer → Option ℕ
refused_with (Ok g) = None
refused_with (Err f) = Some (refusal_number f)

-- the board number in an answer
abbrev pub board_in : Answer → Option ℕ
board_in (Ok (Wrote w)) = board_number w
board_in (Ok (Showed s)) = None
board_in (Ok (GaveBack k)) = None
board_in (Err f) = None

-- how many board blocks an answer says are taken: one for a write that took one
abbrev pub taken_in : Answer → ℕ
taken_in (Ok (Wrote w)) = one (newly_taken w)
taken_in (Ok (Showed s)) = 0
taken_in (Ok (GaveBack k)) = 0
taken_in (Err f) = 0

-- how many board blocks an answer says are given back
abbrev pub given_back_in : Answer → ℕ
given_back_in (Ok (Wrote w)) = 0
given_back_in (Ok (Showed s)) = 0
given_back_in (Ok (GaveBack k)) = k
given_back_in (Err f) = 0
