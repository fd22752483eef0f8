use Rattle.std.proofs.Common.{rules}
use Rattle.extent_map.proofs.Numbers.{granted_extent}
use Rattle.extent_map.proofs.Remaking.{clear_held, clear_outcome}
use Rattle.extent_map.proofs.map.ExtentMapMap.clear.Goals as goal

pub mend-requires-clause-barrier : goal.mend-requires-clause-barrier
mend-requires-clause-barrier g c =
    let k = c.keys_of-keys.ensures in
    rw (k.table, k.file) at c.right_edge-right.ensures.found.barrier

pub invariant_of-self : goal.invariant_of-self
invariant_of-self g c =
    let e = c.in_ok-extent.extent in
    let l = c.left_edge-left in
    let r = c.right_edge-right in
    let k = c.keys_of-keys.ensures in
    record {
      held = clear_held _ _ c.args.self.now.held _ c.args.file c.args.first c.args.n e c.mend.result l.result.block l.result.board r.result.block r.result.board
          (granted_extent c.args.file c.args.first c.args.n _ e c.in_ok-extent.ensures) l.ensures.range.0 r.ensures.range.0 (rw (k.table, k.file) at l.ensures.found) (rw (k.table, k.file) at r.ensures.found) c.mend.ensures.after;
    }

pub returns-clause-step : goal.returns-clause-step
returns-clause-step g c =
    let e = c.in_ok-extent.extent in
    let l = c.left_edge-left in
    let r = c.right_edge-right in
    let k = c.keys_of-keys.ensures in
    clear_outcome _ _ c.args.self.now.held _ c.args.file c.args.first c.args.n e c.mend.result l.result.block l.result.board r.result.block r.result.board
    (granted_extent c.args.file c.args.first c.args.n _ e c.in_ok-extent.ensures) l.ensures.range.0 r.ensures.range.0 (rw (k.table, k.file) at l.ensures.found) (rw (k.table, k.file) at r.ensures.found) c.mend.ensures.after
    c.map_err.result (search rules)
