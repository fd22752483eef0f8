use Rattle.std.proofs.Common.{◌∙◌}
use Rattle.carrying.proofs.Steps.{differ_zip}
use Rattle.carrying.proofs.bytes_differing.Goals as goal

pub returns : goal.returns
returns c = c.pairs_differing.ensures ∙ differ_zip c.args.left.now c.args.right.now
