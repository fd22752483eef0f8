use Rattle.extents.proofs.Barriers.{keys_beyond}
use Rattle.extents.proofs.laws.law_keys_beyond.Goals as goal

pub returns : goal.returns
returns c = keys_beyond
