use Rattle.std.proofs.Common.{◌+◌, sym, ap, ◌∙◌, subst}
use Rattle.std.specs.Option.{option_map}
use Rattle.lines.specs.Lines.{number}
use Rattle.lines.proofs.Values.{Reading, reading_bad, reading_next}
use Rattle.lines.proofs.fields_of.Goals as goal

pub returns-in_err-number : goal.returns-in_err-number
returns-in_err-number g c =
    c.from_residual-in_err-number.ensures
    ∙ reading_bad g.row.K (option_map (λ x. x.now) c.args.line) c.loop-number.number-items c.loop-number.number-index (option_map (λ x. x.now) c.loop-number.rest) c.loop-number.invariant
    c.in_ok-rest.field-0.now c.loop-number-test.true (ap (option_map (λ x. x.now)) c.in_ok-rest.was)
    (ap number (sym c.cut-parts.ensures.front) ∙ sym c.in_err-number.ensures)

pub loop-number-preserved : goal.loop-number-preserved
loop-number-preserved g c =
    subst (Reading g.row.K (option_map (λ x. x.now) c.args.line) _ (c.loop-number.number-index + 1))
    (sym c.cut-parts.ensures.rest)
    (reading_next g.row.K (option_map (λ x. x.now) c.args.line) c.loop-number.number-items c.loop-number.number-index (option_map (λ x. x.now) c.loop-number.rest) c.loop-number.invariant
    c.in_ok-rest.field-0.now c.in_ok-number.field-0 c.loop-number-test.true (ap (option_map (λ x. x.now)) c.in_ok-rest.was)
    (ap number (sym c.cut-parts.ensures.front) ∙ sym c.in_ok-number.ensures))
