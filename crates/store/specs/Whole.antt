-- What makes a store of its parts.
use Rattle.std.specs.Prelude.{◌≡◌, ℕ, Bool, List}
use Rattle.blocks.specs.Blocks.{Placement, Contents}
use Rattle.ledger.specs.Sound.{New}
use Rattle.ledger.specs.Store.{Shape, State}

-- the shape of a store over a map with this key rule and room, a board of this size, and a lower store of so many files of so many blocks
abbrev pub shaped : (Placement → ℕ) → ℕ → ℕ → ℕ → ℕ → Shape
shaped rule keys size files width = record { rule = rule; keys = keys; size = size; files = files; width = width }

-- the state of a store whose map has these places, whose pool has these blocks taken, and whose board and lower store hold these bytes
abbrev pub stated : Placement → (ℕ → Bool) → (ℕ → List ℕ) → Contents → State
stated place taken board lower = record { place = place; taken = taken; board = board; lower = lower }

-- A store that was made of parts of this shape, with these bytes on the board and in the lower store:
-- it has their shape and their bytes, no block has a place, and no board block is taken.
pub record Made (parts : Shape) (board : ℕ → List ℕ) (lower : Contents) (sh : Shape) (s : State) : Type 0 where
  pub shape : sh ≡ parts
  pub board_bytes : s.board ≡ board
  pub lower_bytes : s.lower ≡ lower
  pub new : New sh s
