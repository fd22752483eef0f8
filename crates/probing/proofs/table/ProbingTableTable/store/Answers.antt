use Rattle.std.proofs.Common.{vec_items, arith}
use Rattle.probing.specs.Probing.{home_in}
use Rattle.probing.proofs.TableLaws.{replaced, added, refused}
use Rattle.probing.proofs.table.ProbingTableTable.store.Goals as goal

pub invariant_of-self : goal.invariant_of-self
invariant_of-self g c =
    let t = c.args.self.now in
    record { sound = (replaced (home_in t) t.room (vec_items t.slots.slots) t.held c.args.file c.args.block c.in-Found.at c.args.entry (omega arith) (omega arith) t.sound c.in-Found.ensures).0; few = t.few }

pub returns-in-Found-clause-answer : goal.returns-in-Found-clause-answer
returns-in-Found-clause-answer g c =
    let t = c.args.self.now in
    (replaced (home_in t) t.room (vec_items t.slots.slots) t.held c.args.file c.args.block c.in-Found.at c.args.entry (omega arith) (omega arith) t.sound c.in-Found.ensures).2

pub returns-in-Found-clause-after : goal.returns-in-Found-clause-after
returns-in-Found-clause-after g c =
    let t = c.args.self.now in
    (replaced (home_in t) t.room (vec_items t.slots.slots) t.held c.args.file c.args.block c.in-Found.at c.args.entry (omega arith) (omega arith) t.sound c.in-Found.ensures).1

pub overflow_add-self : goal.overflow_add-self
overflow_add-self g c =
    let t = c.args.self.now in
    let d = added (home_in t) t.room (vec_items t.slots.slots) t.held c.args.file c.args.block c.in-Free.i c.args.entry (omega arith) (omega arith) t.sound
    (g.met.S.Spread.below t.spread c.args.file c.args.block t.room (omega (arith, c.in-Free.ensures.0))) c.in-Free.ensures in
    omega (arith, d.3, t.few)

pub invariant_of-self-in-Free : goal.invariant_of-self-in-Free
invariant_of-self-in-Free g c =
    let t = c.args.self.now in
    let d = added (home_in t) t.room (vec_items t.slots.slots) t.held c.args.file c.args.block c.in-Free.i c.args.entry (omega arith) (omega arith) t.sound
    (g.met.S.Spread.below t.spread c.args.file c.args.block t.room (omega (arith, c.in-Free.ensures.0))) c.in-Free.ensures in
    record { sound = d.0; few = t.few }

pub returns-in-Free-clause-answer : goal.returns-in-Free-clause-answer
returns-in-Free-clause-answer g c =
    let t = c.args.self.now in
    let d = added (home_in t) t.room (vec_items t.slots.slots) t.held c.args.file c.args.block c.in-Free.i c.args.entry (omega arith) (omega arith) t.sound
    (g.met.S.Spread.below t.spread c.args.file c.args.block t.room (omega (arith, c.in-Free.ensures.0))) c.in-Free.ensures in
    d.2

pub returns-in-Free-clause-after : goal.returns-in-Free-clause-after
returns-in-Free-clause-after g c =
    let t = c.args.self.now in
    let d = added (home_in t) t.room (vec_items t.slots.slots) t.held c.args.file c.args.block c.in-Free.i c.args.entry (omega arith) (omega arith) t.sound
    (g.met.S.Spread.below t.spread c.args.file c.args.block t.room (omega (arith, c.in-Free.ensures.0))) c.in-Free.ensures in
    d.1

pub returns-in-Full-clause-answer : goal.returns-in-Full-clause-answer
returns-in-Full-clause-answer g c =
    let t = c.args.self.now in
    refused (home_in t) t.room (vec_items t.slots.slots) t.held c.args.file c.args.block (home_in t c.args.file c.args.block) t.sound c.in-Full.ensures
