use Rattle.block_map.specs.Granted.{forget_done}
use Rattle.block_map.proofs.block_map.BlockMapMap.forget.Goals as goal

pub returns-clause-step : goal.returns-clause-step
returns-clause-step g c =
    forget_done (g.T.Table.holding c.args.self.now.table) (g.T.Table.holding c.drop_file.new.table) c.args.file c.in_ok-file.file c.in_ok-file.field-0-1
    c.in_ok-file.ensures c.drop_file.ensures.after
