use Rattle.std.proofs.Common.{◌≡◌}
use Rattle.lines.specs.Lines.{unread}
use Rattle.key_rule.specs.Keyed.{placing}
use Rattle.replies.specs.Console.{console_room}
use Rattle.replies.proofs.Printing.{Printing}
use Rattle.console.proofs.printing.answer_lines.Given as goal

abbrev pub invariant-loop-line : goal.invariant-loop-line
invariant-loop-line g l =
    (g.T.Table.places l.map.table ≡ console_room)
    × Printing l.input l.initial.output (placing (g.T.Table.holding l.map.table)) l.output l.printed (unread l.line-iterator)
