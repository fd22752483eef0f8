use Rattle.std.proofs.Common.{◌≡◌, ℕ, ◌+◌, ◌-◌, ◌<◌, ◌∙◌, ap, arith}
use Rattle.blocks.specs.Blocks.{inside, changed}
use Rattle.tables.specs.Holding.{Holding}
use Rattle.block_map.specs.BlockKeys.{single}
use Rattle.block_map.specs.Extending.{put_next}
use Rattle.block_map.proofs.keys.put_keys.Goals as goal

pub loop-block-preserved : goal.loop-block-preserved
loop-block-preserved g c =
    let i = c.loop-block.invariant in
    let e = c.store.ensures in
    let extent = c.args.extent in
    let h0 : Holding = g.T.Table.holding c.args.table.now in
    let block : ℕ = c.in-Some.block in
    let upto : ℕ → Holding = λ z. changed h0 extent.file (inside extent.first (z - extent.first)) (single extent.first c.args.board) in
    let this : c.loop-block.block-iterator.start ≡ block = omega (arith, c.in-Some.ensures) in
    let next : block + 1 ≡ c.next.new.self.start = omega (arith, c.in-Some.ensures) in
    let less : block < extent.first + extent.n = omega (arith, c.in-Some.ensures) in
    record {
      from = omega arith;
      to = omega arith;
      end = omega (arith, c.in-Some.ensures);
      room = e.room ∙ i.room;
      after = λ free room.
          put_next h0 (g.T.Table.holding c.loop-block.table) (g.T.Table.holding c.store.new.self)
          (g.T.Table.places c.args.table.now) (g.T.Table.places c.loop-block.table) extent.file extent.first extent.n c.args.board block
          c.store.result (omega arith) extent.within (omega arith) (omega arith) free room i.room (i.after free room ∙ ap upto this) e.answer e.after
          ∙ ap upto next;
    }
