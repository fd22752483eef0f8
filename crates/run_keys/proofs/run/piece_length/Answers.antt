use Rattle.std.proofs.Common.{arith}
use Rattle.extents.proofs.Sizes.{piece_by_zeros}
use Rattle.run_keys.proofs.run.piece_length.Goals as goal

pub returns : goal.returns
returns c = piece_by_zeros c.args.block c.args.left c.min-2.result c.if-left-eq0.false (omega arith) (cc)
