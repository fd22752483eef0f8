use Rattle.ledger.proofs.Places.{writes_where}
use Rattle.ledger.proofs.writes_where.Goals as goal

pub returns : goal.returns
returns c = writes_where
