use Rattle.lines.specs.Lines.{unread}
use Rattle.std.proofs.Common.{string_bytes}
use Rattle.planning.proofs.Counts.{Planning}
use Rattle.planning.proofs.plan.plan.Given as goal

abbrev pub invariant-loop-line : goal.invariant-loop-line
invariant-loop-line l = Planning l.input (string_bytes l.draft.text) l.draft.counts (unread l.line-iterator)
