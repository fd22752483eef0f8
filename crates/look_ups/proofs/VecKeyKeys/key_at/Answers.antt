use Rattle.extents.proofs.OneRun.{table_found}
use Rattle.look_ups.proofs.VecKeyKeys.key_at.Goals as goal

pub returns : goal.returns
returns c =
    let h = table_found c.args.self.now.items c.args.start in
    cc
