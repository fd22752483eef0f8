use Rattle.std.proofs.Common.{ℕ, ◌+◌, ◌<◌, vec_items, vec_len, ap, ◌∙◌, inl, inr, arith}
use Rattle.std.proofs.lemmas.Bool.{cases_lt}
use Rattle.probing.specs.Slots.{dist}
use Rattle.probing.proofs.Looking.{looked_found, looked_free, looked_full, looked_none}
use Rattle.probing.proofs.slots.Slots.looked.Goals as goal

pub returns-in-Found : goal.returns-in-Found
returns-in-Found c = λ h.
    let n = vec_len c.args.self.now.slots in
    let l : c.args.from < n = h (omega (arith, c.in-Found.ensures.within)) in
    ap (λ (d : ℕ). d + 1) (c.distance.ensures ∙ ap (λ (m : ℕ). dist m c.args.from c.in-Found.i) c.len-n.ensures)
    ∙ looked_found n (vec_items c.args.self.now.slots) c.args.from c.args.file c.args.block l c.in-Found.i (c.in-Found.ensures.probed l)

pub returns-in-Free : goal.returns-in-Free
returns-in-Free c = λ h.
    let n = vec_len c.args.self.now.slots in
    let l : c.args.from < n = h (omega (arith, c.in-Free.ensures.within)) in
    ap (λ (d : ℕ). d + 1) (c.distance-in-Free.ensures ∙ ap (λ (m : ℕ). dist m c.args.from c.in-Free.i) c.len-n.ensures)
    ∙ looked_free n (vec_items c.args.self.now.slots) c.args.from c.args.file c.args.block l c.in-Free.i (c.in-Free.ensures.probed l)

pub returns-in-Full : goal.returns-in-Full
returns-in-Full c = λ h.
    let n = vec_len c.args.self.now.slots in
    c.len-n.ensures ∙ (elim (cases_lt 0 n) [
      | inl k ↦ looked_full n (vec_items c.args.self.now.slots) c.args.from c.args.file c.args.block (h k) (c.in-Full.ensures.probed (h k))
      | inr k ↦ looked_none n (vec_items c.args.self.now.slots) c.args.from c.args.file c.args.block (omega arith)
    ])
