use Rattle.extents.proofs.Found.{key_at_keys, only}
use Rattle.extents.proofs.laws.law_one_table.Goals as goal

pub returns : goal.returns
returns c = record { exists = key_at_keys; unique = only }
