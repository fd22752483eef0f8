use Rattle.std.proofs.Common.{◌≡◌}
use Rattle.block_set.specs.Members.{member}
use Rattle.block_set.proofs.Fewer.{partly}
use Rattle.block_set.proofs.BlockSet.remove_all.Given as goal

-- the words before the next have lost the other set's numbers
abbrev pub invariant-loop-i : goal.invariant-loop-i
invariant-loop-i l = member l.self ≡ partly (member l.initial.self) (member l.others) l.i
