use Rattle.ledger.proofs.Search.{nearest}
use Rattle.ledger.proofs.finds_nearest.Goals as goal

pub returns : goal.returns
returns c = nearest
