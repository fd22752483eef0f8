use Rattle.std.proofs.Common.{◌*◌}
use Rattle.block_set.specs.Members.{member}
use Rattle.block_set.proofs.Rows.{AllIn}
use Rattle.block_set.proofs.BlockSet.first_absent.Given as goal

-- all before the next word are in the set
abbrev pub invariant-loop-word : goal.invariant-loop-word
invariant-loop-word l = AllIn (member l.self) l.from (l.word * 64)
