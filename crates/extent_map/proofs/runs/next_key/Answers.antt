use Rattle.std.proofs.Common.{arith}
use Rattle.extent_map.proofs.Nexts.{next_none, next_told}
use Rattle.extent_map.proofs.runs.next_key.Goals as goal

pub returns-in_err-row : goal.returns-in_err-row
returns-in_err-row g c =
    rw c.from_residual.ensures (next_none _ c.args.file c.args.from c.min-far.result c.args.end (λ b xb bz. c.loop-block.invariant b xb (omega arith)) c.in_err-row.ensures c.requires.1)

pub returns : goal.returns
returns g c =
    rw (c.then_some.ensures, c.at-2.ensures, c.from.ensures) (next_told _ c.args.file c.args.from c.min-far.result c.args.end (λ b xb bz. c.loop-block.invariant b xb (omega arith))
    c.in_ok-row.row (omega arith) c.in_ok-row.ensures (omega arith))
