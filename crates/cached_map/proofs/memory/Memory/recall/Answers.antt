use Rattle.std.proofs.Common.{◌≡◌, is_some, true, None, List, Option, sym, ap, ◌∙◌, rules}
use borrow.Author.Tests.{tests}
use Rattle.std.proofs.lemmas.Iterator.{first_from_find, YieldsList-from_slice}
use Rattle.cached_map.specs.declared.memory.Line.{Line}
use Rattle.cached_map.specs.Remembering.{says}
use Rattle.cached_map.proofs.Truth.{board_of, first_recalled}
use Rattle.cached_map.proofs.memory.Memory.recall.Goals as goal

pub returns : goal.returns
returns c =
    let ls : List (Option Line) = c.args.self.now.lines in
    let file = c.args.file in
    let block = c.args.block in
    c.said.ensures ∙ ap (board_of file block) (sym c.in_ok-line.was)
    ∙ first_recalled file block ls c.find.result
    (first_from_find _ _ c.find.result (λ (x : Option Line). is_some (says file block x) ≡ true) (λ (x : Option Line). says file block x ≡ None) c.find.ensures.ran
    (YieldsList-from_slice ls cc) (λ x q k. search (rules, tests)) (λ x q k. search (rules, tests)))

pub returns-in_err-line : goal.returns-in_err-line
returns-in_err-line c =
    let ls : List (Option Line) = c.args.self.now.lines in
    let file = c.args.file in
    let block = c.args.block in
    c.from_residual.ensures
    ∙ ap (board_of file block) (sym c.in_err-line.was)
    ∙ first_recalled file block ls c.find.result
    (first_from_find _ _ c.find.result (λ (x : Option Line). is_some (says file block x) ≡ true) (λ (x : Option Line). says file block x ≡ None) c.find.ensures.ran
    (YieldsList-from_slice ls cc) (λ x q k. search (rules, tests)) (λ x q k. search (rules, tests)))
