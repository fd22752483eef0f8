-- One step of a walk over a row, which says where each block of a file lies.
use Rattle.std.specs.Prelude.{◌≡◌, ℕ, ◌+◌, ◌<◌, ◌≤◌, Some, None, Option, ◌≢◌}
use Rattle.std.specs.Borrow.{GName}
use Rattle.blocks.specs.Blocks.{Placement}
use Rattle.walks.specs.declared.Mapped.{Mapped}

-- no block from `from` on and below `to` has a place
abbrev pub Hole : (ℕ → Option ℕ) → ℕ → ℕ → Type 0
Hole row from to = (b : ℕ) → from ≤ b → b < to → row b ≡ None

-- the lowest block from a block on that has a place; or none has one
abbrev pub LowestFrom : (ℕ → Option ℕ) → ℕ → Option ℕ → Type 0
LowestFrom row block None = (b : ℕ) → block ≤ b → row b ≡ None
LowestFrom row block (Some b) = (block ≤ b) × (row b ≢ None) × Hole row block b

-- What was found lies from `from` on and below `to`.
abbrev pub Within : ℕ → ℕ → Option Mapped → Type 0
Within from to None = Unit {0}
Within from to (Some at) = (from ≤ at.block) × (at.block < to)

-- the lowest block there that has a place, with the place; or none has one
abbrev pub Lowest : (ℕ → Option ℕ) → ℕ → ℕ → Option Mapped → Type 0
Lowest row from to None = Hole row from to
Lowest row from to (Some at) = (row at.block ≡ Some at.board) × Hole row from at.block

-- ---- a walk

-- where a walk goes on once a block is given
abbrev pub next_from : ℕ → Option Mapped → ℕ
next_from from None = from
next_from from (Some at) = at.block + 1

-- A walk goes on: its lender, what the map means, its file and its end are as before.
pub record GoesOn (lender : GName) (room : ℕ) (place : Placement) (file to : ℕ)
    (lender_after : GName) (room_after : ℕ) (place_after : Placement) (file_after to_after : ℕ) : Type 0 where
  pub same_lender : lender_after ≡ lender
  pub same_room : room_after ≡ room
  pub same_place : place_after ≡ place
  pub same_file : file_after ≡ file
  pub same_end : to_after ≡ to

-- One step: the lowest block from `from` on and below `to` that has a place is given, or none has one, and the walk goes on behind it.
pub record Gives (row : ℕ → Option ℕ) (from to : ℕ) (given : Option Mapped) (from_after : ℕ) : Type 0 where
  pub within : Within from to given
  pub lowest : Lowest row from to given
  pub behind : from_after ≡ next_from from given
