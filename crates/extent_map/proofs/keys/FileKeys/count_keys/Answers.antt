use Rattle.std.proofs.Common.{◌+◌, ap, ◌∙◌, arith}
use Rattle.blocks.specs.Blocks.{tally}
use Rattle.key_rule.specs.Mends.{none}
use Rattle.tables.specs.Holding.{Holding}
use Rattle.key_rule.proofs.Tallies.{blend_empty}
use Rattle.extent_map.proofs.Nexts.{none_left, long, next_stops, next_counts}
use Rattle.extent_map.proofs.keys.FileKeys.count_keys.Goals as goal

pub loop-key-init : goal.loop-key-init
loop-key-init g c = (
  omega arith,
  c.requires.range.0,
  (let e = ap tally (blend_empty c.args.self.now.file c.args.l none (g.T.Table.holding c.args.self.now.table.now)) in omega (arith, e)),
)

pub loop-key-smaller : goal.loop-key-smaller
loop-key-smaller g c =
    let n = c.in-Some.ensures in
    let l = long _ c.args.self.now.held c.args.self.now.file c.args.l c.loop-key.x c.args.r (omega arith) c.in-Some.key n in
    omega (arith, c.end-x.ensures)

pub loop-key-preserved : goal.loop-key-preserved
loop-key-preserved g c =
    let i = c.loop-key.invariant in
    let n = c.in-Some.ensures in
    let h = c.args.self.now.held in
    let f = c.args.self.now.file in
    let x = c.loop-key.x in
    let l = long _ h f c.args.l x c.args.r (omega arith) c.in-Some.key n in
    rw c.end-x.ensures (
      omega arith,
      next_stops _ h f c.args.l x c.args.r (omega arith) c.in-Some.key n c.requires.barrier,
      next_counts _ h f c.args.l x c.args.r (omega arith) c.in-Some.key n c.loop-key.count i.2,
    )

pub returns : goal.returns
returns g c =
    let i = c.loop-key.invariant in
    ap (λ (u : Holding). c.loop-key.count + tally u) (none_left _ c.args.self.now.held c.args.self.now.file c.args.l c.loop-key.x c.args.r (omega arith) i.1 c.in_default.ensures) ∙ i.2
