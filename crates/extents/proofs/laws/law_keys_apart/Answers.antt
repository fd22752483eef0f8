use Rattle.extents.proofs.Straights.{key_same}
use Rattle.extents.proofs.laws.law_keys_apart.Goals as goal

pub returns : goal.returns
returns c = key_same
