use Rattle.std.proofs.Common.{◌-◌, ◌≤◌, vec_len}
use Rattle.ordered.proofs.OrderedTableTable.held.Given as goal

abbrev pub invariant-loop-i : goal.invariant-loop-i
invariant-loop-i l = (l.i ≤ l.room) × (l.i ≤ vec_len l.self.rows)

abbrev pub decreases-loop-i : goal.decreases-loop-i
decreases-loop-i l = l.room - l.i
