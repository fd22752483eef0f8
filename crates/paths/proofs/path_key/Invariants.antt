use Rattle.std.proofs.Common.{◌≤◌}
use Rattle.paths.proofs.Walk.{At}
use Rattle.paths.proofs.path_key.Given as goal

abbrev pub invariant-loop-start : goal.invariant-loop-start
invariant-loop-start l = (l.i ≤ l.k) × At l.first l.i l.start-iterator
