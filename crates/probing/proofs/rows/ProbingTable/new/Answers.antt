use Rattle.std.proofs.Common.{vec_items, arith}
use Rattle.probing.proofs.TableLaws.{all_free}
use Rattle.probing.proofs.rows.ProbingTable.new.Goals as goal

pub invariant_of-result : goal.invariant_of-result
invariant_of-result g c =
    let m = c.in_ok-slots.ensures in
    record { sound = (all_free (λ f b. g.S.Spread.place c.args.spread f b c.min-room.result) c.min-room.result (vec_items c.in_ok-slots.slots.slots) (omega (arith, m.0)) m.1).0; few = omega (arith, c.min-room.ensures) }

pub returns : goal.returns
returns g c =
    let m = c.in_ok-slots.ensures in
    ((all_free (λ f b. g.S.Spread.place c.args.spread f b c.min-room.result) c.min-room.result (vec_items c.in_ok-slots.slots.slots) (omega (arith, m.0)) m.1).1, c.min-room.ensures)
