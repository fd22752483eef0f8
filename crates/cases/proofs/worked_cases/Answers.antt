use Rattle.std.proofs.Common.{refl}
use Rattle.ledger.proofs.Board.{worked}
use Rattle.key_rule.proofs.Worked.{cut_in_two}
use Rattle.cases.proofs.Extents.{paths, joining}
use Rattle.cases.proofs.worked_cases.Goals as goal

pub returns : goal.returns
returns c = record { paths = paths; joining = joining; board = worked; mixing = refl; cut_in_two = cut_in_two }
