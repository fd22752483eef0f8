use Rattle.extents.proofs.Tried.{tries}
use Rattle.extents.proofs.laws.law_tries.Goals as goal

pub returns : goal.returns
returns c = tries
