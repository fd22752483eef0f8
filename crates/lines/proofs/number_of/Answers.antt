use Rattle.std.proofs.Common.{◌+◌, ◌*◌, rules, sym, subst}
use Rattle.lines.proofs.Values.{Valued, valued_next, no_digit, valued}
use Rattle.lines.proofs.number_of.Goals as goal

pub returns-then-not-is_ascii_digit : goal.returns-then-not-is_ascii_digit
returns-then-not-is_ascii_digit c =
    no_digit c.args.field.now c.loop-digit.digit-index c.loop-digit.value c.loop-digit-test.true c.loop-digit.invariant (search rules)

pub loop-digit-preserved : goal.loop-digit-preserved
loop-digit-preserved c =
    subst (λ d. Valued c.args.field.now (c.loop-digit.digit-index + 1) (10 * c.loop-digit.value + d)) (sym c.from.ensures)
    (valued_next c.args.field.now c.loop-digit.digit-index c.loop-digit.value c.loop-digit-test.true c.loop-digit.invariant (search rules))

pub returns : goal.returns
returns c =
    valued c.args.field.now c.loop-digit.digit-index c.loop-digit.value c.loop-digit-test.false c.loop-digit.invariant (sym c.if-not-is_shaped.ensures)
