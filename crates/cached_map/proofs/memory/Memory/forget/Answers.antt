use Rattle.std.proofs.Common.{◌<◌, length, get_or, set, ap, ◌∙◌, arith, rules, None, length-append, length-drop}
use Rattle.std.proofs.lemmas.List.{get_or_default, length-map, length-take}
use Rattle.std.proofs.lemmas.List.Edits.{map_over_more}
use Rattle.cached_map.specs.Remembering.{struck}
use Rattle.cached_map.proofs.memory.Memory.forget.Goals as goal

pub loop-line-preserved : goal.loop-line-preserved
loop-line-preserved c =
    let lines = c.loop-line.line-items in
    let i = c.loop-line.line-index in
    let was : i < length c.args.self.now.lines = search rules in
    let long = simp (length-append, length-map, length-take, length-drop) at (ap length c.loop-line.invariant) in
    let now : i < length lines = omega arith in
    ap (set lines i) c.kept.ensures
    ∙ map_over_more (struck c.args.file c.args.first c.args.n) c.args.self.now.lines lines i (get_or lines i None)
    was c.loop-line.invariant (get_or_default lines i None _ now)
