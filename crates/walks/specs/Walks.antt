-- What a walk over the mapped blocks of a file finds and leaves.
use Rattle.std.specs.Prelude.{◌≡◌, ℕ, zero, suc, ◌-◌, ◌<◌, Bool, true, false, List, is_some, Some, None, Option}
use Rattle.blocks.specs.Blocks.{Placement, Contents, inside, changed}
use Rattle.ledger.specs.Store.{put, placed, bytes_at}
use Rattle.block_set.specs.Members.{none}

-- ---- what stays

-- A map that was asked means what it meant.
pub record MapStays (room : ℕ) (place : Placement) (room_after : ℕ) (place_after : Placement) : Type 0 where
  pub same_room : room_after ≡ room
  pub same_place : place_after ≡ place

-- So does a board that was read.
pub record BoardStays (size : ℕ) (block : ℕ → List ℕ) (size_after : ℕ) (block_after : ℕ → List ℕ) : Type 0 where
  pub same_size : size_after ≡ size
  pub same_block : block_after ≡ block

-- ---- what a copy leaves

-- The lower store once every block of a file that has a place has the bytes that the board has there.
abbrev pub copied : (ℕ → List ℕ) → (ℕ → Option ℕ) → ℕ → Contents → Contents
copied board row file low = changed low file (λ b. is_some (row b)) (λ b. bytes_at board (low file b) (row b))

-- Every mapped block of a file is one of the lower store's, and lies on the board.
abbrev pub Reaches : (ℕ → Option ℕ) → ℕ → ℕ → Type 0
Reaches row width size = (b p : ℕ) → row b ≡ Some p → (b < width) × (p < size)

-- ---- what is gathered

-- A set of board numbers once a block's place is noted in it, if the block is chosen and has one.
abbrev pub noted : Bool → Option ℕ → (ℕ → Bool) → ℕ → Bool
noted true (Some p) set = put set p true
noted true None set = set
noted false o set = set

-- the places of the chosen blocks of a row, below n
abbrev pub places : (ℕ → Option ℕ) → (ℕ → Bool) → ℕ → ℕ → Bool
places row chosen zero = none
places row chosen (suc n) = noted (chosen n) (row n) (places row chosen n)

-- A set of board numbers and a number: the places of a row's blocks from `from` up to and without `to`, and how many of these blocks have one.
pub record Gathers (row : ℕ → Option ℕ) (from to : ℕ) (set : ℕ → Bool) (number : ℕ) : Type 0 where
  pub counts : number ≡ placed row (inside from (to - from)) to
  pub collects : set ≡ places row (inside from (to - from)) to
