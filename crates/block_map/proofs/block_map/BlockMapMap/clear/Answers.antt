use Rattle.block_map.specs.Granted.{clear_done}
use Rattle.block_map.proofs.block_map.BlockMapMap.clear.Goals as goal

pub returns-clause-step : goal.returns-clause-step
returns-clause-step g c =
    let extent = c.in_ok-extent.extent in
    let table = c.args.self.now.table in
    clear_done (g.T.Table.holding table) (g.T.Table.holding c.drop_keys.new.table) (g.T.Table.places table) c.args.file c.args.first c.args.n
    (extent.file, extent.first, extent.n) c.in_ok-extent.ensures (g.met.T.Table.bounded table) c.drop_keys.ensures.after
