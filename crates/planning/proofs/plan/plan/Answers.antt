use Rattle.std.proofs.Common.{◌++◌, string_bytes, ap, ◌∙◌}
use Rattle.lines.specs.Lines.{lines, unread}
use Rattle.lines.proofs.Steps.{unread_some}
use Rattle.planning.specs.Plans.{lines_text, summary_text}
use Rattle.planning.proofs.Counts.{planning_next, planning_text, planning_counts}
use Rattle.planning.proofs.plan.plan.Goals as goal

pub loop-line-preserved : goal.loop-line-preserved
loop-line-preserved c =
    let s = c.in-Some.ensures.steps in
    let e = c.in_ok-add.ensures in
    planning_next c.args.input.now (string_bytes c.loop-line.draft.text) c.loop-line.draft.counts (unread c.loop-line.line-iterator) c.loop-line.invariant
    c.in-Some.line.now (unread c.next.new.self) (string_bytes c.add.new.self.text) c.add.new.self.counts
    (unread_some c.loop-line.line-iterator s.0) s.1 s.2 e.text e.counts

pub returns-clause-answer : goal.returns-clause-answer
returns-clause-answer c =
    let s = c.in-None.ensures.steps in
    let t = planning_text c.args.input.now (string_bytes c.loop-line.draft.text) c.loop-line.draft.counts (unread c.loop-line.line-iterator) c.loop-line.invariant s in
    let k = planning_counts c.args.input.now (string_bytes c.loop-line.draft.text) c.loop-line.draft.counts (unread c.loop-line.line-iterator) c.loop-line.invariant s in
    c.in_ok-write.ensures.bytes ∙ ap (λ x. x ++ summary_text c.loop-line.draft.counts) t ∙ ap (λ x. lines_text (lines c.args.input.now) ++ summary_text x) k
