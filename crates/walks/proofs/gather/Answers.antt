use Rattle.std.proofs.Common.{◌≡◌, ℕ, ◌-◌, Some, ◌∙◌, subst, ap₂, arith, rules}
use Rattle.blocks.specs.Blocks.{Placement, inside}
use Rattle.block_set.specs.Members.{member}
use Rattle.walks.specs.Steps.{Hole, Lowest}
use Rattle.walks.proofs.Places.{SoFar, gather_none, gather_more, gather_all}
use Rattle.walks.proofs.gather.Goals as goal

pub loop-at-init : goal.loop-at-init
loop-at-init g c =
    let row = g.M.Map.placed c.args.map.now c.args.file in
    let start = gather_none row c.args.from c.args.to in
    let from : c.args.from ≡ c.into_iter-at-iterator.result.from = search rules in (
      tt,
      tt,
      search rules,
      omega arith,
      subst (λ n. SoFar row (inside c.args.from (c.args.to - c.args.from)) n (member c.new-blocks.result) 0) from (start.0, c.new-blocks.ensures ∙ start.1),
    )

pub loop-at-preserved : goal.loop-at-preserved
loop-at-preserved g c =
    let at = c.in-Some.at in
    let walk = c.loop-at.at-iterator in
    let on = c.loop-at.invariant.2 in
    let step = c.in-Some.ensures.steps.0 in
    let place = g.M.Map.placed c.args.map.now in
    let row = ap₂ (λ (p : Placement) (f : ℕ). p f) on.same_place on.same_file in
    let found = subst (λ r. Lowest r walk.from walk.to (Some at)) row step.lowest in
    let more = gather_more (place c.args.file) c.args.from c.args.to walk.from at.block at.board c.next.new.self.from (member c.loop-at.blocks) c.loop-at.count
    (omega arith) step.within.0 (omega (arith, step.within.1, on.same_end))
    (g.met.M.Map.on_board c.args.map.now c.args.file at.block at.board found.0) found step.behind c.loop-at.invariant.4 in
    (tt, tt, search rules, omega (arith, step.within.0, step.behind), (more.0, c.insert.ensures ∙ more.1))

pub returns-clause-answer : goal.returns-clause-answer
returns-clause-answer g c =
    let walk = c.loop-at.at-iterator in
    let on = c.loop-at.invariant.2 in
    let row = ap₂ (λ (p : Placement) (f : ℕ). p f) on.same_place on.same_file in
    let hole = subst (λ r. Hole r walk.from c.args.to) row (subst (Hole (g.M.Map.placed walk.map.now walk.file) walk.from) on.same_end c.in-None.ensures.steps.0.lowest) in
    gather_all (g.M.Map.placed c.args.map.now c.args.file) c.args.from c.args.to walk.from (member c.loop-at.blocks) c.loop-at.count hole c.loop-at.invariant.4
