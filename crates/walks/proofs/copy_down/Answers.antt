use Rattle.std.proofs.Common.{ℕ, subst, ap₂, arith, rules}
use Rattle.blocks.specs.Blocks.{Placement}
use Rattle.walks.specs.Steps.{Hole}
use Rattle.walks.proofs.Copies.{turn_grants, turn_copies, end_copies}
use Rattle.walks.proofs.copy_down.Goals as goal

pub loop-at-preserved : goal.loop-at-preserved
loop-at-preserved g c = (
  tt,
  tt,
  search rules,
  search rules,
  (λ lf reach.
      let at = c.in-Some.at in
      let low = g.L.Reading.bytes c.args.lower.now in
      let on = c.loop-at.invariant.2 in
      let board = c.loop-at.invariant.3 in
      let going = c.loop-at.invariant.4 lf reach in
      let step = c.in-Some.ensures.steps.0 in
      let row = ap₂ (λ (p : Placement) (f : ℕ). p f) on.same_place on.same_file in
      let granted = turn_grants _ _ _ _ _ _ _ _ low _ _ _ c.args.file c.loop-at.at-iterator.from row board.same_size board.same_block going reach at.block at.board lf step.lowest.0 in
      turn_copies _ _ _ _ _ _ _ _ low _ _ _ c.args.file c.loop-at.at-iterator.from row board.same_size board.same_block going reach at.block at.board _ _ _ _
      step.within.0 step.lowest step.behind
      (c.copy_block.ensures.lower (omega arith) (omega arith) (omega arith))),
)

pub returns-clause-lower : goal.returns-clause-lower
returns-clause-lower g c = λ lf reach.
    let walk = c.loop-at.at-iterator in
    let low = g.L.Reading.bytes c.args.lower.now in
    let on = c.loop-at.invariant.2 in
    let board = c.loop-at.invariant.3 in
    let row = ap₂ (λ (p : Placement) (f : ℕ). p f) on.same_place on.same_file in
    end_copies _ _ _ _ _ _ _ _ low _ _ _ c.args.file walk.from row board.same_size board.same_block (c.loop-at.invariant.4 lf reach) reach
    (subst (Hole (g.M.Map.placed walk.map.now walk.file) walk.from) on.same_end c.in-None.ensures.steps.0.lowest)
