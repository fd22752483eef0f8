use Rattle.std.specs.Option.{option_map}
use Rattle.lines.proofs.Values.{Reading}
use Rattle.lines.proofs.fields_of.Given as goal

abbrev pub invariant-loop-number : goal.invariant-loop-number
invariant-loop-number g l = Reading g.row.K (option_map (λ x. x.now) l.line) l.number-items l.number-index (option_map (λ x. x.now) l.rest)
