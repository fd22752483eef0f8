-- What keeps the map, the pool and the sizes of a store in step.
use Rattle.std.specs.Prelude.{◌≡◌, ℕ, ◌<◌, true, false, Some, None}
use Rattle.blocks.specs.Blocks.{count, tally_below}
use Rattle.ledger.specs.Store.{Shape, State}

pub record Sound (sh : Shape) (s : State) : Type 0 where
  -- every place is of a block within the lower store, is below the board's size, and is taken
  pub within : (f b p : ℕ) → s.place f b ≡ Some p → (f < sh.files) × (b < sh.width) × (p < sh.size) × (s.taken p ≡ true)
  -- every board block that is taken is some block's place
  pub owned : (p : ℕ) → p < sh.size → s.taken p ≡ true → (f : ℕ) × (b : ℕ) × (s.place f b ≡ Some p)
  -- no two blocks have one place
  pub apart : (f b g c p : ℕ) → s.place f b ≡ Some p → s.place g c ≡ Some p → (f ≡ g) × (b ≡ c)
  -- as many board blocks are taken as blocks have a place
  pub counted : count sh.size s.taken ≡ tally_below sh.files sh.width s.place

-- A new store: no block has a place, and no board block is taken.
pub record New (sh : Shape) (s : State) : Type 0 where
  pub unplaced : (f b : ℕ) → s.place f b ≡ None
  pub untaken : (p : ℕ) → p < sh.size → s.taken p ≡ false
