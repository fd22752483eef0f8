use Rattle.key_rule.proofs.Edges.{left_some, left_none}
use Rattle.extent_map.proofs.keys.FileKeys.left_edge.Goals as goal

pub returns-in-Some-clause-found : goal.returns-in-Some-clause-found
returns-in-Some-clause-found g c =
    let k = c.in-Some.key in
    rw (c.from.ensures, c.from-in-Some.ensures) (left_some _ c.args.first k.start k.length k.board c.in-Some.ensures.found c.in-Some.ensures.sane.1)

pub returns-in-None-clause-found : goal.returns-in-None-clause-found
returns-in-None-clause-found g c = left_none _ c.args.first c.in-None.ensures.found
