use Rattle.std.proofs.Common.{◌≡◌, ap, ◌∙◌, arith, rules}
use Rattle.std.specs.Option.{option_map}
use Rattle.tables.specs.declared.row.Row.{Row}
use Rattle.block_map.specs.Granted.{next_done}
use Rattle.block_map.proofs.block_map.BlockMapMap.next.Goals as goal

pub returns-clause-answer : goal.returns-clause-answer
returns-clause-answer g c =
    let e : c.map.result ≡ option_map (λ (r : Row). r.block) c.first_from-row.result = search rules in
    next_done (g.T.Table.holding c.args.self.now.table) c.args.file c.args.block c.in_ok-file.file c.in_ok-file.block c.map.result
    c.in_ok-file.ensures (omega arith) (e ∙ ap (option_map (λ (r : Row). r.block)) c.first_from-row.ensures)
