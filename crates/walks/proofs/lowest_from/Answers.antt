use Rattle.std.proofs.Common.{sym, ap, ◌∙◌, subst}
use Rattle.std.specs.Option.{option_flatten}
use Rattle.std.specs.Result.{result_ok}
use Rattle.walks.specs.Steps.{LowestFrom}
use Rattle.walks.proofs.Asks.{next_lowest}
use Rattle.walks.proofs.lowest_from.Goals as goal

pub returns-clause-answer : goal.returns-clause-answer
returns-clause-answer g c =
    let place = g.M.Map.placed c.args.map.now in
    subst (LowestFrom (place c.args.file) c.args.block)
    (sym (c.flatten.ensures ∙ ap option_flatten (c.ok.ensures.value ∙ ap result_ok c.next.ensures.answer)))
    (next_lowest place (g.met.M.Map.within c.args.map.now) c.args.file c.args.block)
