use Rattle.std.proofs.Common.{arith}
use Rattle.key_rule.proofs.Edges.{right_some, right_none}
use Rattle.extent_map.proofs.keys.FileKeys.right_edge.Goals as goal

pub returns-in-Some-clause-found : goal.returns-in-Some-clause-found
returns-in-Some-clause-found g c =
    let k = c.in-Some.key in
    let s = c.in-Some.ensures.sane in
    rw (c.end.ensures, c.from.ensures, c.from-in-Some.ensures) (right_some _ c.args.end k.start k.length k.board c.in-Some.ensures.found (omega arith))

pub returns-in-None-clause-found : goal.returns-in-None-clause-found
returns-in-None-clause-found g c = right_none _ c.args.end c.requires.0 c.in-None.ensures.found
