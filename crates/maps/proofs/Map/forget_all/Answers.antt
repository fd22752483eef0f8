use Rattle.std.proofs.Common.{refl, ◌∙◌, arith}
use Rattle.maps.proofs.Forgets.{forget_leaves, empty_next, empty_all}
use Rattle.maps.proofs.Map.forget_all.Goals as goal

pub loop-file-init : goal.loop-file-init
loop-file-init g c = (refl, (λ f b l. absurd (omega arith)))

pub loop-file-preserved : goal.loop-file-preserved
loop-file-preserved g c = (
  c.forget.ensures.room ∙ c.loop-file.invariant.0,
  empty_next (g.Self.Map.placed c.loop-file.self) (g.Self.Map.placed c.forget.new.self) c.loop-file.file
      (forget_leaves _ _ c.loop-file.file _ (omega arith) c.forget.ensures.step) c.loop-file.invariant.1,
)

pub returns : goal.returns
returns g c = record {
  room = c.loop-file.invariant.0;
  after = empty_all (g.Self.Map.placed c.loop-file.self) (g.met.Self.Map.within c.loop-file.self) c.loop-file.file (omega arith) c.loop-file.invariant.1;
}
