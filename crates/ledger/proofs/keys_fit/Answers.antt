use Rattle.ledger.proofs.Room.{keys_fit}
use Rattle.ledger.proofs.keys_fit.Goals as goal

pub returns : goal.returns
returns c = keys_fit
