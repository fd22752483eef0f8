-- What the walk over a run gives, step by step and as a whole.
use Rattle.std.specs.Prelude.{◌≡◌, ℕ, ◌+◌, ◌-◌, ◌<◌, ◌≤◌, List, Some, None, Ok, Err, Option, Result}
use Rattle.faults.specs.declared.Ground.{Ground}
use Rattle.extents.specs.declared.key.Key.{Key}
use Rattle.run_keys.specs.declared.walk.Walk.{Walk}
use Rattle.run_keys.specs.declared.run.RunError.{RunError}
use Rattle.run_keys.specs.declared.run.RunError.TheVariants.{Unadmitted, NoMemory}
use Rattle.extents.specs.Extents.{key}
use Rattle.extents.specs.Runs.{run_map, ground_of_run, piece, walk, ListsKeys}

-- A walk is begun at the run's first block, unless a ground refuses the run.
abbrev pub Begun : ℕ → ℕ → ℕ → Result Walk Ground → Type 0
Begun first n p (Ok w) = (ground_of_run first n p ≡ None) × (w.left.first ≡ first) × (w.left.end ≡ first + n) × (w.left.board ≡ p)
Begun first n p (Err g) = ground_of_run first n p ≡ Some g

-- A step gives the key at the front and leaves what follows it; where nothing is left it gives none.
abbrev pub Stepped : Walk → Option Key → Walk → Type 0
Stepped w None v = (w.left.end ≤ w.left.first) × (v ≡ w)
Stepped w (Some k) v =
    (w.left.first < w.left.end) × (k ≡ key w.left.first (piece w.left.first w.left.end) w.left.board)
    × (v.left.first ≡ w.left.first + piece w.left.first w.left.end) × (v.left.end ≡ w.left.end) × (v.left.board ≡ w.left.board + piece w.left.first w.left.end)

-- The keys that are still to come.
abbrev pub to_come : Walk → List Key
to_come w = walk (w.left.end - w.left.first) w.left.first w.left.end w.left.board

-- The list has the keys of the map that holds just this run, in the order of the walk.
pub record Planned (first n p : ℕ) (ks : List Key) : Type 0 where
  pub admitted : ground_of_run first n p ≡ None
  pub order : ks ≡ walk n first (first + n) p
  pub keys : ListsKeys (run_map first n p) ks

-- There is no list: a ground refuses the run, or there was no memory.
abbrev pub Unplanned : ℕ → ℕ → ℕ → RunError → Type 0
Unplanned first n p (Unadmitted g) = ground_of_run first n p ≡ Some g
Unplanned first n p NoMemory = ground_of_run first n p ≡ None
