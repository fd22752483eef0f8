use Rattle.std.proofs.Common.{Err, ap, ◌∙◌, arith}
use Rattle.faults.specs.declared.Fault.{Fault}
use Rattle.block_map.specs.BlockKeys.{placed_by}
use Rattle.block_map.specs.Lowest.{free_when_none}
use Rattle.block_map.specs.Granted.{named_n, assign_full, assign_done, single_put}
use Rattle.block_map.proofs.block_map.BlockMapMap.assign.Goals as goal

pub returns-then-n-room-clause-step : goal.returns-then-n-room-clause-step
returns-then-n-room-clause-step g c =
    let table = c.args.self.now.table in
    let h = g.T.Table.holding table in
    let extent = c.in_ok-extent.extent in
    ap (λ (z : Fault). (Err z, placed_by h)) c.refusal-then-n-room.ensures
    ∙ assign_full h (g.T.Table.places table) c.args.file c.args.first c.args.n c.args.board (extent.file, extent.first, extent.n)
    c.in_ok-extent.ensures.answer (omega arith) extent.within c.in_default.ensures (omega (arith, c.room.ensures, c.held.ensures))

pub invariant_of-self : goal.invariant_of-self
invariant_of-self g c =
    let table = c.args.self.now.table in
    let h = g.T.Table.holding table in
    let extent = c.in_ok-extent.extent in
    let e = c.in_ok-extent.ensures in
    let same = named_n h (g.T.Table.places table) c.args.file c.args.first c.args.n c.args.board (extent.file, extent.first, extent.n) e.answer in
    let held = g.met.T.Table.bounded table in
    record {
      single = single_put h (g.T.Table.holding c.put_keys.new.table) extent.file extent.first extent.n c.args.board (omega (arith, e.fits))
          (c.put_keys.ensures.after (free_when_none h extent.file extent.first extent.n c.in_default.ensures) (omega (arith, c.room.ensures, c.held.ensures)))
          c.args.self.now.single;
    }

pub returns-clause-step : goal.returns-clause-step
returns-clause-step g c =
    let table = c.args.self.now.table in
    let h = g.T.Table.holding table in
    let extent = c.in_ok-extent.extent in
    let e = c.in_ok-extent.ensures in
    let same = named_n h (g.T.Table.places table) c.args.file c.args.first c.args.n c.args.board (extent.file, extent.first, extent.n) e.answer in
    let held = g.met.T.Table.bounded table in
    let none = c.in_default.ensures in
    assign_done h (g.T.Table.places table) c.args.file c.args.first c.args.n c.args.board (extent.file, extent.first, extent.n)
    e.answer (g.T.Table.holding c.put_keys.new.table) (omega arith) extent.within none (omega (arith, c.room.ensures, c.held.ensures))
    (c.put_keys.ensures.after (free_when_none h extent.file extent.first extent.n none) (omega (arith, c.room.ensures, c.held.ensures)))
