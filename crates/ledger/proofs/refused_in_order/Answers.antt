use Rattle.ledger.proofs.Refusals.{in_order}
use Rattle.ledger.proofs.refused_in_order.Goals as goal

pub returns : goal.returns
returns c = in_order
