use Rattle.std.proofs.Common.{arith}
use Rattle.key_rule.proofs.Edges.{lefting_next, left_break}
use Rattle.extent_map.proofs.keys.FileKeys.leftward.Goals as goal

pub returns-then-lowest-left-clause-found : goal.returns-then-lowest-left-clause-found
returns-then-lowest-left-clause-found g c =
    let e = c.loop-left.left in
    let k = c.in-Some.key in
    let s = c.in-Some.ensures.sane in
    left_break _ c.args.first e.block e.board k.start k.length k.board c.loop-left.invariant.2 c.in-Some.ensures.found (omega arith) (omega arith)
    (rw (c.from-start.ensures, c.from-lowest.ensures) at c.if-lowest-left.true)

pub loop-left-preserved : goal.loop-left-preserved
loop-left-preserved g c =
    let e = c.loop-left.left in
    let k = c.in-Some.key in
    let s = c.in-Some.ensures.sane in
    let i = c.loop-left.invariant in
    rw (c.from-start.ensures, c.from-lowest.ensures) (
      omega arith,
      omega arith,
      lefting_next _ c.args.first e.block e.board k.start k.length k.board i.2 c.in-Some.ensures.found (omega arith) (omega arith)
          (rw (c.from-start.ensures, c.from-lowest.ensures) at c.if-lowest-left.false),
    )
