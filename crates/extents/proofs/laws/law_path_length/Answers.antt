use Rattle.extents.proofs.Paths.{path_length}
use Rattle.extents.proofs.laws.law_path_length.Goals as goal

pub returns : goal.returns
returns c = path_length
