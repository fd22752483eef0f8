use Rattle.std.proofs.Common.{vec_items}
use Rattle.extents.specs.Runs.{table_of}
use Rattle.planning.proofs.Counts.{Back}
use Rattle.planning.proofs.planned.PlannedRun.read_back.Given as goal

abbrev pub invariant-loop-i : goal.invariant-loop-i
invariant-loop-i l = Back (table_of (vec_items l.self.keys)) l.first l.board l.i l.right l.tried
