-- A walk under way: the keys that are still to come.
use Rattle.std.proofs.Common.{◌≡◌, ℕ, ◌+◌, ◌-◌, List, [], ◌∷◌, length, Some, None, sym, ap, ◌∙◌, subst, arith}
use Rattle.std.proofs.lemmas.Iterator.{YieldsList}
use Rattle.std.proofs.lemmas.Iterator.Consumers.{YieldsList-from_shown}
use Rattle.extents.specs.declared.key.Key.{Key}
use Rattle.run_keys.specs.declared.walk.Walk.{Walk}
use Rattle.extents.specs.Runs.{run_map, ground_of_run, piece, walk, ListsKeys}
use Rattle.run_keys.specs.Walks.{Stepped, to_come, Planned}
use Rattle.extents.proofs.Greed.{walk_done, walk_step}
use Rattle.extents.proofs.OneRun.{run_keys}

pub to_come_first : (w : Walk) (first n p : ℕ) → w.left.first ≡ first → w.left.end ≡ first + n → w.left.board ≡ p → to_come w ≡ walk n first (first + n) p
to_come_first w first n p a e b =
    let d : w.left.end - w.left.first ≡ n = omega arith in
    cc

pub to_come_step : (w v : Walk) (k : Key) → Stepped w (Some k) v → to_come w ≡ k ∷ to_come v
to_come_step w v k s =
    let e = s.1 in
    let a = s.2 in
    let r = s.3 in
    let b = s.4 in
    let n : w.left.end - (w.left.first + piece w.left.first w.left.end) ≡ v.left.end - v.left.first = omega arith in
    walk_step w.left.first w.left.end w.left.board s.0 ∙ cc

pub to_come_none : (w v : Walk) → Stepped w None v → to_come w ≡ []
to_come_none w v s = walk_done (w.left.end - w.left.first) w.left.first w.left.end w.left.board s.0

-- Any run of a walk gives the keys that are to come, and then none.
pub walk_yields : (w : Walk) → YieldsList Stepped (λ k. k) w (to_come w)
walk_yields = YieldsList-from_shown Stepped (λ k. k) to_come (λ w v s. ap length (to_come_none w v s)) (λ w k v s. to_come_step w v k s)

pub planned : (first n p : ℕ) (ks : List Key) → ground_of_run first n p ≡ None → ks ≡ walk n first (first + n) p → Planned first n p ks
planned first n p ks g o = record { admitted = g; order = o; keys = subst (ListsKeys (run_map first n p)) (sym o) (run_keys first n p) }
