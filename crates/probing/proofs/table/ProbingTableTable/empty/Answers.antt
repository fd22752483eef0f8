use Rattle.std.proofs.Common.{vec_items, arith}
use Rattle.probing.specs.Probing.{home_in}
use Rattle.probing.proofs.TableLaws.{all_free}
use Rattle.probing.proofs.table.ProbingTableTable.empty.Goals as goal

pub invariant_of-self : goal.invariant_of-self
invariant_of-self g c = record {
  sound = (all_free (home_in c.args.self.now) c.args.self.now.room (vec_items c.clear.new.self.slots)
      (omega (arith, c.args.self.now.sound.long, c.clear.ensures.len)) c.clear.ensures.cleared).0;
  few = c.args.self.now.few;
}

pub returns-clause-after : goal.returns-clause-after
returns-clause-after g c =
    (all_free (home_in c.args.self.now) c.args.self.now.room (vec_items c.clear.new.self.slots)
    (omega (arith, c.args.self.now.sound.long, c.clear.ensures.len)) c.clear.ensures.cleared).1
