use Rattle.std.proofs.Common.{ℕ, ◌<◌, vec_items}
use Rattle.probing.specs.Slots.{dist, Passed}
use Rattle.probing.proofs.slots.Slots.search.Given as goal

-- The slots before the k-th on the way have other keys.
abbrev pub invariant-loop-k : goal.invariant-loop-k
invariant-loop-k l = (x : ℕ) → x < l.n → dist l.n l.from x < l.k → Passed (vec_items l.self.slots) l.file l.block x
