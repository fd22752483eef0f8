use Rattle.extents.specs.OnPath.{starts}
use Rattle.extents.proofs.Looks.{Looking}
use Rattle.look_ups.proofs.first_held.Given as goal

abbrev pub invariant-loop-start : goal.invariant-loop-start
invariant-loop-start g l = Looking (g.K.Keys.table l.keys) l.block l.tried (starts l.start-iterator)
