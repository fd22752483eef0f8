use Rattle.std.proofs.Common.{sym, refl, ap, ◌∙◌, subst, arith}
use Rattle.extents.specs.Extents.{Barrier, key_at}
use Rattle.extents.proofs.Greed.{piece_fits}
use Rattle.run_keys.specs.declared.walk.Run.{Run}
use Rattle.run_keys.specs.declared.walk.Walk.{Walk}
use Rattle.key_rule.specs.Mends.{blend}
use Rattle.key_rule.proofs.Tallies.{blend_empty}
use Rattle.extent_map.proofs.Walks.{put_step}
use Rattle.extent_map.proofs.runs.put_run.Goals as goal

pub loop-key-init : goal.loop-key-init
loop-key-init g c =
    let it = ap (λ (w : Walk). w.left) c.into_iter-key-iterator.ensures.into_iter_gives ∙ c.walk-key-items.ensures in
    let a = ap (λ (r : Run). r.first) it in
    let e = ap (λ (r : Run). r.end) it in
    let b = ap (λ (r : Run). r.board) it in (
      refl,
      omega (arith, a),
      omega (arith, a, c.args.run.order),
      e,
      omega (arith, a, b),
      (λ m lay lf em fits. (
        subst (Barrier m) (sym a) lay.left,
        sym (blend_empty c.args.file c.args.run.first (key_at m) _) ∙ ap (λ x. blend c.args.file c.args.run.first x (key_at m) (g.T.Table.holding c.args.table.now)) (sym a),
      )),
    )

pub loop-key-preserved : goal.loop-key-preserved
loop-key-preserved g c =
    let i = c.loop-key.invariant in
    let s = c.in-Some.ensures.steps in
    let t = c.store.ensures in
    let w = c.loop-key.key-iterator in
    let f = piece_fits w.left.first w.left.end s.0 in (
      t.room ∙ i.0,
      omega (arith, s.2),
      omega (arith, s.2, f),
      s.3 ∙ i.3,
      omega (arith, s.2, s.4),
      (λ m lay lf em fits.
          let old = i.5 m lay lf em fits in
          put_step m c.args.run.first c.args.run.end c.args.run.board lay c.args.run.inside c.args.file lf _ em _ fits _ _ _ w c.next.new.self c.in-Some.key
          s i.3 i.1 i.4 old.0 old.1 (rw i.0 at t.answer) (rw c.entry.ensures at t.after)),
    )
