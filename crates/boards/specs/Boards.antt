-- What a board's calls answer and leave.
use Rattle.std.specs.Prelude.{◌≡◌, ℕ, ◌+◌, ◌-◌, ◌/◌, min, Bool, cond, not, ◌&&◌, List, [], ◌∷◌, length, is_ok, Result, ◌==◌, nat_le, nat_lt}
use Rattle.faults.specs.declared.Fault.{Fault}
use Rattle.faults.specs.declared.Ground.TheVariants.{Buffer, BoardNumber}
use Rattle.faults.specs.declared.Layer.TheVariants.{Board}
use Rattle.faults.specs.Grounds.{first_ground}
use Rattle.faults.specs.Answers.{answered}
use Rattle.memory.specs.Memory.{block_at}

-- The answer to a read or write of one block, on a board of so many blocks, with a buffer of so many bytes.
abbrev pub board_answer : ℕ → ℕ → ℕ → Result (Unit {0}) Fault
board_answer size number buffer = answered Board 0 number (first_ground (
    (not (buffer == 4096), Buffer)
    ∷ (not (nat_lt number size), BoardNumber)
    ∷ [])) tt

-- The same blocks, but that one has other bytes.
abbrev pub replaced : (ℕ → List ℕ) → ℕ → List ℕ → ℕ → List ℕ
replaced block number new i = cond (i == number) new (block i)

-- What a read answers and leaves, on a board of `size` blocks that hold `block`: the block's bytes in the buffer if granted, and nothing changed besides.
pub record ReadsBlock (size : ℕ) (block : ℕ → List ℕ) (number : ℕ) (buffer : List ℕ)
    (answer : Result (Unit {0}) Fault) (buffer_after : List ℕ) (size_after : ℕ) (block_after : ℕ → List ℕ) : Type 0 where
  pub answers : answer ≡ board_answer size number (length buffer)
  pub copies : buffer_after ≡ cond (is_ok answer) (block number) buffer
  pub keeps : block_after ≡ block
  pub same_size : size_after ≡ size

-- What a write answers and leaves: the one block replaced if granted, and nothing changed besides.
pub record ReplacesBlock (size : ℕ) (block : ℕ → List ℕ) (number : ℕ) (buffer : List ℕ)
    (answer : Result (Unit {0}) Fault) (size_after : ℕ) (block_after : ℕ → List ℕ) : Type 0 where
  pub answers : answer ≡ board_answer size number (length buffer)
  pub replaces : block_after ≡ cond (is_ok answer) (replaced block number buffer) block
  pub same_size : size_after ≡ size

-- ---- a board in memory

-- the whole blocks that fit, at most 4,096
abbrev pub size_in : List ℕ → ℕ
size_in memory = min (length memory / 4096) 4096

-- what each of them holds, and nothing past the last
abbrev pub block_in : List ℕ → ℕ → List ℕ
block_in memory i = cond (nat_lt i (size_in memory)) (block_at memory i) []

-- ---- two boards end to end

-- their blocks together, cut at 4,096
abbrev pub joined_size : ℕ → ℕ → ℕ
joined_size left right = min (left + right) 4096

-- what they hold: the blocks of the left board, then those of the right, and nothing past the last
abbrev pub joined_block : ℕ → (ℕ → List ℕ) → ℕ → (ℕ → List ℕ) → ℕ → List ℕ
joined_block left lefts right rights i =
    cond (nat_lt i (joined_size left right)) (cond (nat_lt i left) (lefts i) (rights (i - left))) []

-- What a call leaves of the two boards, also behind the cut: of each its size, and the blocks that are given.
pub record LeavesParts (left_size : ℕ) (left : ℕ → List ℕ) (right_size : ℕ) (right : ℕ → List ℕ)
    (left_size_after : ℕ) (left_after : ℕ → List ℕ) (right_size_after : ℕ) (right_after : ℕ → List ℕ) : Type 0 where
  pub same_left_size : left_size_after ≡ left_size
  pub left_blocks : left_after ≡ left
  pub same_right_size : right_size_after ≡ right_size
  pub right_blocks : right_after ≡ right

-- The left board's blocks after a write that is granted or not: it has the number if that is below its size.
abbrev pub left_written : Bool → ℕ → (ℕ → List ℕ) → ℕ → List ℕ → ℕ → List ℕ
left_written granted left_size left number new = cond (granted && nat_lt number left_size) (replaced left number new) left

-- The right board's: it has the numbers from there on.
abbrev pub right_written : Bool → ℕ → (ℕ → List ℕ) → ℕ → List ℕ → ℕ → List ℕ
right_written granted left_size right number new = cond (granted && nat_le left_size number) (replaced right (number - left_size) new) right
