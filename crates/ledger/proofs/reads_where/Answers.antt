use Rattle.ledger.proofs.Places.{reads_where}
use Rattle.ledger.proofs.reads_where.Goals as goal

pub returns : goal.returns
returns c = reads_where
