use Rattle.std.proofs.Common.{Some, sym, ap, ◌∙◌}
use Rattle.extents.specs.OnPath.{starts}
use Rattle.extents.proofs.Looks.{looking_start, looking_hit, looking_end, looking_next}
use Rattle.look_ups.proofs.first_held.Goals as goal

pub loop-start-init : goal.loop-start-init
loop-start-init g c = looking_start (ap starts c.into_iter-start-iterator.ensures.into_iter_gives ∙ c.of-start-items.ensures)

pub returns-in-Some-key_at : goal.returns-in-Some-key_at
returns-in-Some-key_at g c =
    let h = looking_hit c.loop-start.invariant c.in-Some.ensures.steps (sym c.in-Some-key_at.ensures) in
    λ j. record { key = (ap Some c.at.ensures ∙ sym h.0) j; tried = sym h.1 j }

pub loop-start-preserved : goal.loop-start-preserved
loop-start-preserved g c = looking_next c.loop-start.invariant c.in-Some.ensures.steps (sym c.in_default.ensures)

pub returns : goal.returns
returns g c =
    let h = looking_end c.loop-start.invariant c.in-None.ensures.steps.0 in
    λ j. record { key = sym h.0 j; tried = sym h.1 j }
