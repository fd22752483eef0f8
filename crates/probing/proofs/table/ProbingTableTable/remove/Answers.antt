use Rattle.std.proofs.Common.{vec_items, subst, of_calls, arith}
use Rattle.probing.specs.Probing.{home_in}
use Rattle.probing.specs.Slots.{Sound}
use Rattle.probing.proofs.TableLaws.{absent_free, absent_full, dropped, not_dropped}
use Rattle.probing.proofs.table.ProbingTableTable.remove.Goals as goal

pub overflow_sub-self : goal.overflow_sub-self
overflow_sub-self g c =
    let t = c.args.self.now in
    let d = dropped (home_in t) t.room (vec_items t.slots.slots) (vec_items c.close.new.slots.slots) t.held c.args.file c.args.block c.in-Found.i
    (omega arith) (omega arith) (omega (arith, t.sound.long, c.close.ensures.len)) t.sound c.in-Found.ensures (c.close.ensures.closed (omega (arith, t.sound.long))) in
    d.3

pub invariant_of-self : goal.invariant_of-self
invariant_of-self g c =
    let t = c.args.self.now in
    let d = dropped (home_in t) t.room (vec_items t.slots.slots) (vec_items c.close.new.slots.slots) t.held c.args.file c.args.block c.in-Found.i
    (omega arith) (omega arith) (omega (arith, t.sound.long, c.close.ensures.len)) t.sound c.in-Found.ensures (c.close.ensures.closed (omega (arith, t.sound.long))) in
    record { sound = subst (Sound (home_in t) t.room (vec_items c.close.new.slots.slots)) (search of_calls) d.0; few = t.few }

pub returns-in-Found-clause-answer : goal.returns-in-Found-clause-answer
returns-in-Found-clause-answer g c =
    let t = c.args.self.now in
    let d = dropped (home_in t) t.room (vec_items t.slots.slots) (vec_items c.close.new.slots.slots) t.held c.args.file c.args.block c.in-Found.i
    (omega arith) (omega arith) (omega (arith, t.sound.long, c.close.ensures.len)) t.sound c.in-Found.ensures (c.close.ensures.closed (omega (arith, t.sound.long))) in
    d.1

pub returns-in-Found-clause-after : goal.returns-in-Found-clause-after
returns-in-Found-clause-after g c =
    let t = c.args.self.now in
    let d = dropped (home_in t) t.room (vec_items t.slots.slots) (vec_items c.close.new.slots.slots) t.held c.args.file c.args.block c.in-Found.i
    (omega arith) (omega arith) (omega (arith, t.sound.long, c.close.ensures.len)) t.sound c.in-Found.ensures (c.close.ensures.closed (omega (arith, t.sound.long))) in
    d.2

pub returns-in-Free-clause-answer : goal.returns-in-Free-clause-answer
returns-in-Free-clause-answer g c =
    let t = c.args.self.now in
    let xs = vec_items t.slots.slots in
    let p = c.in-Free.ensures in
    let hh = g.met.S.Spread.below t.spread c.args.file c.args.block t.room (omega (arith, p.0)) in
    (not_dropped xs c.args.file c.args.block (absent_free (home_in t) t.room xs t.held c.args.file c.args.block c.in-Free.field-0 hh t.sound p)).0

pub returns-in-Free-clause-after : goal.returns-in-Free-clause-after
returns-in-Free-clause-after g c =
    let t = c.args.self.now in
    let xs = vec_items t.slots.slots in
    let p = c.in-Free.ensures in
    let hh = g.met.S.Spread.below t.spread c.args.file c.args.block t.room (omega (arith, p.0)) in
    (not_dropped xs c.args.file c.args.block (absent_free (home_in t) t.room xs t.held c.args.file c.args.block c.in-Free.field-0 hh t.sound p)).1

pub returns-in-Full-clause-answer : goal.returns-in-Full-clause-answer
returns-in-Full-clause-answer g c =
    let t = c.args.self.now in
    let xs = vec_items t.slots.slots in
    (not_dropped xs c.args.file c.args.block (absent_full t.room xs c.args.file c.args.block (home_in t c.args.file c.args.block) t.sound.long c.in-Full.ensures)).0

pub returns-in-Full-clause-after : goal.returns-in-Full-clause-after
returns-in-Full-clause-after g c =
    let t = c.args.self.now in
    let xs = vec_items t.slots.slots in
    (not_dropped xs c.args.file c.args.block (absent_full t.room xs c.args.file c.args.block (home_in t c.args.file c.args.block) t.sound.long c.in-Full.ensures)).1
