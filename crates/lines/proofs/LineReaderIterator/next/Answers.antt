use Rattle.std.proofs.Common.{◌+◌, length, drop, sym, ap, ◌∙◌}
use Rattle.std.proofs.lemmas.List.{drop-drop, take_rest}
use Rattle.lines.specs.Lines.{before}
use Rattle.lines.proofs.Cuts.{cut_behind}
use Rattle.lines.proofs.LineReaderIterator.next.Goals as goal

pub returns-clause-steps : goal.returns-clause-steps
returns-clause-steps c =
    let xs = c.args.self.now.input.now in
    let i = c.args.self.now.at in
    let e = c.cut.ensures.front ∙ ap (before 10) (take_rest xs i) in
    (c.if-self.false, e, ap (λ n. drop (i + (length n + 1)) xs) e ∙ sym (drop-drop (length (before 10 (drop i xs)) + 1) i xs) ∙ cut_behind 10 (drop i xs))
