use Rattle.ledger.proofs.Runs.{promise}
use Rattle.ledger.proofs.promise_over_lists.Goals as goal

pub returns : goal.returns
returns c = promise
