use Rattle.extents.proofs.Sizes.{mended}
use Rattle.extents.proofs.laws.law_mended.Goals as goal

pub returns : goal.returns
returns c = mended
