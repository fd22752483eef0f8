use Rattle.block_set.proofs.Rows.{none_of_zeros}
use Rattle.block_set.proofs.BlockSet.new.Goals as goal

pub returns : goal.returns
returns c = none_of_zeros 64
