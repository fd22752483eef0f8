use Rattle.extents.proofs.Greed.{walk_keys}
use Rattle.extents.proofs.laws.law_walk_keys.Goals as goal

pub returns : goal.returns
returns c = walk_keys
