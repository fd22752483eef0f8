use Rattle.std.proofs.Common.{rules}
use Rattle.key_rule.proofs.Changes.{after_extent}
use Rattle.extent_map.proofs.Numbers.{granted_extent}
use Rattle.extent_map.proofs.Remaking.{assign_held, assign_outcome}
use Rattle.extent_map.proofs.map.ExtentMapMap.assign.Goals as goal

pub rightward-end-requires-clause-barrier : goal.rightward-end-requires-clause-barrier
rightward-end-requires-clause-barrier g c =
    let a = granted_extent c.args.file c.args.first c.args.n _ c.in_ok-extent.extent c.in_ok-extent.ensures.answer in
    after_extent _ c.args.first c.args.n a.some c.in_default.ensures

pub mend-requires-clause-barrier : goal.mend-requires-clause-barrier
mend-requires-clause-barrier g c =
    let k = c.keys_of-keys.ensures in
    rw (k.table, k.file) at c.rightward-end.ensures.found.barrier

pub invariant_of-self : goal.invariant_of-self
invariant_of-self g c =
    let e = c.in_ok-extent.extent in
    let l = c.leftward-left in
    let r = c.rightward-end in
    let k = c.keys_of-keys.ensures in
    record {
      held = assign_held _ _ c.args.self.now.held _ c.args.file c.args.first c.args.n e c.mend.result c.args.board l.result.block l.result.board r.result
          (granted_extent c.args.file c.args.first c.args.n _ e c.in_ok-extent.ensures.answer) c.in_ok-extent.ensures.fits (rw (k.table, k.file) at c.in_default.ensures)
          l.ensures.range.0 r.ensures.range.0 l.ensures.range.1 (rw (k.table, k.file) at l.ensures.found) (rw (k.table, k.file) at r.ensures.found) c.mend.ensures.after;
    }

pub returns-clause-step : goal.returns-clause-step
returns-clause-step g c =
    let e = c.in_ok-extent.extent in
    let l = c.leftward-left in
    let r = c.rightward-end in
    let k = c.keys_of-keys.ensures in
    assign_outcome _ _ c.args.self.now.held _ c.args.file c.args.first c.args.n e c.mend.result c.args.board l.result.block l.result.board r.result
    (granted_extent c.args.file c.args.first c.args.n _ e c.in_ok-extent.ensures.answer) c.in_ok-extent.ensures.fits (rw (k.table, k.file) at c.in_default.ensures)
    l.ensures.range.0 r.ensures.range.0 l.ensures.range.1 (rw (k.table, k.file) at l.ensures.found) (rw (k.table, k.file) at r.ensures.found) c.mend.ensures.after c.map_err.result (search rules)
