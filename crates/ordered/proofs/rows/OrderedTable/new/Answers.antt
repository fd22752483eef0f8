use Rattle.std.proofs.Common.{ap, arith}
use Rattle.ordered.specs.Ordered.{lookup}
use Rattle.ordered.specs.OrderedLaws.{empty_sound}
use Rattle.ordered.proofs.rows.OrderedTable.new.Goals as goal

pub invariant_of-result : goal.invariant_of-result
invariant_of-result c =
    let m = c.in_ok-rows.ensures in
    let e = m.items in
    record { sound = rw e (empty_sound _ _ (omega (arith, m.capacity))) }

pub returns : goal.returns
returns c = (ap lookup c.in_ok-rows.ensures.items, c.min-room.ensures)
