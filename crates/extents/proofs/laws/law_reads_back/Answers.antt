use Rattle.extents.proofs.Paths.{reads_back}
use Rattle.extents.proofs.laws.law_reads_back.Goals as goal

pub returns : goal.returns
returns c = reads_back
