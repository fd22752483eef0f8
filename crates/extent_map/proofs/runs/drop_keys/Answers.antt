use Rattle.std.proofs.Common.{Some, None, sym, refl, ap, ◌∙◌, arith}
use Rattle.key_rule.specs.Mends.{update, none}
use Rattle.tables.specs.Holding.{Holding}
use Rattle.key_rule.proofs.Tallies.{blend_empty}
use Rattle.extent_map.proofs.Nexts.{none_left, long, next_stops, next_gone, next_back}
use Rattle.extent_map.proofs.runs.drop_keys.Goals as goal

pub loop-key-init : goal.loop-key-init
loop-key-init g c = (refl, omega arith, c.requires.range.0, sym (blend_empty c.args.file c.args.l none _))

pub loop-key-smaller : goal.loop-key-smaller
loop-key-smaller g c =
    let i = c.loop-key.invariant in
    let n = next_back _ _ c.args.file c.args.l c.loop-key.x c.args.r (Some c.in-Some.key) i.3 i.2 c.in-Some.ensures in
    let l = long _ c.requires.held c.args.file c.args.l c.loop-key.x c.args.r i.1 c.in-Some.key n in
    omega (arith, n.0, n.1, l, c.end-x.ensures)

pub loop-key-preserved : goal.loop-key-preserved
loop-key-preserved g c =
    let i = c.loop-key.invariant in
    let x = c.loop-key.x in
    let k = c.in-Some.key in
    let n = next_back _ _ c.args.file c.args.l x c.args.r (Some c.in-Some.key) i.3 i.2 c.in-Some.ensures in
    rw c.end-x.ensures (
      c.remove.ensures.room ∙ i.0,
      omega (arith, n.0),
      next_stops _ c.requires.held c.args.file c.args.l x c.args.r i.1 k n c.requires.barrier,
      c.remove.ensures.after ∙ ap (λ (u : Holding). update u c.args.file k.start None) i.3
          ∙ sym (next_gone _ c.requires.held c.args.file c.args.l x c.args.r i.1 k n),
    )

pub returns-clause-after : goal.returns-clause-after
returns-clause-after g c =
    let i = c.loop-key.invariant in
    let n = next_back _ _ c.args.file c.args.l c.loop-key.x c.args.r None i.3 i.2 c.in_default.ensures in
    i.3 ∙ sym (none_left _ c.requires.held c.args.file c.args.l c.loop-key.x c.args.r i.1 i.2 n)
