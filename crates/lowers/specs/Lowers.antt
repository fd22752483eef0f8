-- What the calls of a reading side and of a lower store answer and leave.
use Rattle.std.specs.Prelude.{◌≡◌, ℕ, ◌+◌, Bool, cond, not, ◌||◌, List, [], ◌∷◌, length, is_ok, Option, Result, ◌==◌, nat_lt}
use Rattle.faults.specs.declared.Fault.{Fault}
use Rattle.faults.specs.declared.Ground.{Ground}
use Rattle.faults.specs.declared.Ground.TheVariants.{File, Block, Length, Buffer}
use Rattle.faults.specs.declared.Layer.TheVariants.{Lower}
use Rattle.faults.specs.Grounds.{first_ground}
use Rattle.blocks.specs.Blocks.{Contents, changed}
use Rattle.faults.specs.Answers.{answered}

-- Why a read or write of one block is refused, where there are so many files of so many blocks, with a buffer of so many bytes.
abbrev pub ground_of_block : ℕ → ℕ → ℕ → ℕ → ℕ → Option Ground
ground_of_block files width file block buffer = first_ground (
    (not (nat_lt file files), File)
    ∷ (not (nat_lt block width), Block)
    ∷ (not (buffer == 4096), Buffer)
    ∷ [])

-- Why a clear of the n blocks from the first on is refused.
abbrev pub ground_of_extent : ℕ → ℕ → ℕ → ℕ → ℕ → Option Ground
ground_of_extent files width file first n = first_ground (
    (not (nat_lt file files), File)
    ∷ (not (nat_lt first width) || nat_lt width (first + n), Block)
    ∷ (n == 0 || nat_lt 4096 n, Length)
    ∷ [])

-- The answer to a call of this file and block, by the ground that refuses it.
abbrev pub lower_answer : ℕ → ℕ → (ground : Option Ground) → Result (Unit {0}) Fault
lower_answer file block ground = answered Lower file block ground tt

-- The answer to a read or write of one block, where there are so many files of so many blocks, with a buffer of so many bytes.
abbrev pub block_answer : ℕ → ℕ → ℕ → ℕ → ℕ → Result (Unit {0}) Fault
block_answer files width file block buffer = lower_answer file block (ground_of_block files width file block buffer)

-- The answer to a clear of the n blocks from the first on.
abbrev pub extent_answer : ℕ → ℕ → ℕ → ℕ → ℕ → Result (Unit {0}) Fault
extent_answer files width file first n = lower_answer file first (ground_of_extent files width file first n)

-- What is meant afterwards: so many files, of so many blocks, with these bytes.
pub record Holds (files width : ℕ) (bytes : Contents) (files_after width_after : ℕ) (bytes_after : Contents) : Type 0 where
  pub same_files : files_after ≡ files
  pub same_width : width_after ≡ width
  pub same_bytes : bytes_after ≡ bytes

-- What a read answers and leaves, where there are `files` files of `width` blocks that hold `bytes`: the block's bytes in the buffer if granted, and nothing changed besides.
pub record CopiesOut (files width : ℕ) (bytes : Contents) (file block : ℕ) (buffer : List ℕ)
    (answer : Result (Unit {0}) Fault) (buffer_after : List ℕ) (files_after width_after : ℕ) (bytes_after : Contents) : Type 0 where
  pub answers : answer ≡ block_answer files width file block (length buffer)
  pub copies : buffer_after ≡ cond (is_ok answer) (bytes file block) buffer
  pub leaves : Holds files width bytes files_after width_after bytes_after

-- What a call that changes some blocks of a file answers and leaves: the answer that is due and, if granted, those blocks as `new` gives each; nothing changed besides.
pub record Changes (files width : ℕ) (bytes : Contents) (file : ℕ) (chosen : ℕ → Bool) (new : ℕ → List ℕ)
    (due answer : Result (Unit {0}) Fault) (files_after width_after : ℕ) (bytes_after : Contents) : Type 0 where
  pub answers : answer ≡ due
  pub same_files : files_after ≡ files
  pub same_width : width_after ≡ width
  pub makes : bytes_after ≡ cond (is_ok answer) (changed bytes file chosen new) bytes
