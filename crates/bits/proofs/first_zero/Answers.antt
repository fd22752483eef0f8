use Rattle.std.proofs.Common.{◌%◌, refl, arith}
use Rattle.bits.proofs.Words.{no_zero, at_first_zero}
use Rattle.bits.proofs.first_zero.Goals as goal

pub returns-in-0 : goal.returns-in-0
returns-in-0 c = no_zero 64 c.args.word (c.args.from % 64) (omega arith) (omega arith) _ refl c.in-0.is

pub returns-in_default : goal.returns-in_default
returns-in_default c = at_first_zero 64 c.args.word (c.args.from % 64) (omega arith) (omega arith) _ refl (omega arith)
