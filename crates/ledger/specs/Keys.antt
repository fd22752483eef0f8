-- How many keys a map calls for, and that a store never lets it call for more than there is room for.
use Rattle.std.specs.Prelude.{ℕ, ◌≤◌, List, None}
use Rattle.blocks.specs.Blocks.{Placement, every, changed, tally}
use Rattle.ledger.specs.Sound.{New}
use Rattle.ledger.specs.Store.{Shape, State, Ask, final}

-- What makes a number a number of keys.
pub record KeyRule (rule : Placement → ℕ) : Type 0 where
  -- at most one key for each block that has a place
  pub most : (pl : Placement) → rule pl ≤ tally pl
  -- taking a whole file out never raises the number
  pub forgets : (pl : Placement) (file : ℕ) → rule (changed pl file every (λ _. None)) ≤ rule pl

-- After every list of calls, from a new store on, the map calls for no more keys than there is room for.
abbrev pub KeysFit : Type 0
KeysFit = (sh : Shape) → KeyRule sh.rule → (s : State) → New sh s → (qs : List Ask) → sh.rule (final sh s qs).place ≤ sh.keys
