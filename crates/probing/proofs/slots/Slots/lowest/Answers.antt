use Rattle.std.proofs.Common.{vec_items, rules, tests, ◌∙◌, ap, arith}
use Rattle.std.specs.List.{filter}
use Rattle.probing.proofs.Lowest.{wants, best_run, least_keys}
use Rattle.probing.proofs.slots.Slots.lowest.Goals as goal

pub returns : goal.returns
returns c =
    let p = c.min_by_key.ensures.runs in
    let q = c.filter.ensures.runs p.0 p.0.seen p.1 in
    let u = c.filter_map.ensures.runs q.0 q.0.seen q.1 in
    let w = c.iter.ensures.runs u.0 u.0.seen in
    let rows = q.2.4 (wants c.args.file c.args.block) (λ x r f k. search (rules, tests)) ∙ ap (filter (wants c.args.file c.args.block)) (u.2.3 (λ s. s.now.row) (λ x r f k. search (rules, tests))) in
    let all = w.4 (search rules) in
    best_run p.0 c.args.file c.args.block _ (vec_items c.args.self.now.slots) u.0.items c.min_by_key.result rows
    (search rules) (omega arith) (least_keys p.0 _ _ c.min_by_key.result (λ x r f k. search (rules, tests)) (λ x j f k. search (rules, tests)) p.3)
