use Rattle.lines.proofs.Values.{Valued}
use Rattle.lines.proofs.number_of.Given as goal

abbrev pub invariant-loop-digit : goal.invariant-loop-digit
invariant-loop-digit l = Valued l.field l.digit-index l.value
