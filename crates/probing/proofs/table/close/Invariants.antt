use Rattle.std.proofs.Common.{◌≡◌, vec_items, vec_len}
use Rattle.probing.proofs.Closing.{Turn}
use Rattle.probing.proofs.table.close.Given as goal

abbrev pub invariant-loop-k : goal.invariant-loop-k
invariant-loop-k g l =
    (vec_len l.slots.slots ≡ l.n)
    × Turn (λ f b. g.S.Spread.place l.spread f b l.room) l.n (vec_items l.initial.slots.slots) l.start (vec_items l.slots.slots) l.hole l.k
