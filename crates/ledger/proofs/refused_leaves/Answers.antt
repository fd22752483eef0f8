use Rattle.ledger.proofs.Refusals.{leaves}
use Rattle.ledger.proofs.refused_leaves.Goals as goal

pub returns : goal.returns
returns c = leaves
