use Rattle.std.proofs.Common.{◌+◌, Some, sym, ap, ◌∙◌}
use Rattle.std.proofs.lemmas.List.{take_rest}
use Rattle.lines.proofs.Cuts.{cut_some, cut_none}
use Rattle.lines.proofs.cut.Goals as goal

pub returns-in-Some : goal.returns-in-Some
returns-in-Some c =
    let h = cut_some c.args.at c.args.text.now c.in-Some.end (sym c.in-Some.ensures) in
    record { front = h.0; rest = ap Some (take_rest c.args.text.now (c.in-Some.end + 1)) ∙ h.1 }

pub returns-in-None : goal.returns-in-None
returns-in-None c =
    let h = cut_none c.args.at c.args.text.now (sym c.in-None.ensures) in
    record { front = h.0; rest = h.1 }
