use Rattle.ledger.proofs.Board.{worked}
use Rattle.ledger.proofs.worked_board.Goals as goal

pub returns : goal.returns
returns c = worked
