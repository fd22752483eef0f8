use Rattle.std.proofs.Common.{arith}
use Rattle.ordered.specs.OrderedLaws.{empty_sound}
use Rattle.ordered.proofs.OrderedTableTable.empty.Goals as goal

pub invariant_of-self : goal.invariant_of-self
invariant_of-self c =
    let e = c.clear.ensures.items in
    record { sound = rw e (empty_sound _ _ (omega (arith, c.args.self.now.sound.memory))) }
