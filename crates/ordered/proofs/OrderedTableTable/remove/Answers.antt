use Rattle.std.proofs.Common.{is_some, vec_items, sym, ap, ◌∙◌, arith}
use Rattle.ordered.specs.Ordered.{lookup}
use Rattle.ordered.specs.OrderedLaws.{hit_found, miss_none, remove_after, remove_sound, remove_none}
use Rattle.ordered.proofs.OrderedTableTable.remove.Goals as goal

pub invariant_of-self : goal.invariant_of-self
invariant_of-self c =
    let e = c.remove.ensures.items in
    record { sound = rw e (remove_sound (vec_items c.args.self.now.rows) c.args.file c.args.block c.in-Ok.i _ _ _ (omega arith) (omega arith) c.args.self.now.sound c.in-Ok.ensures (omega (arith, c.remove.ensures.capacity))) }

pub returns-in-Ok-clause-answer : goal.returns-in-Ok-clause-answer
returns-in-Ok-clause-answer c = sym (ap is_some (hit_found (vec_items c.args.self.now.rows) c.args.file c.args.block c.in-Ok.i c.args.self.now.sound.rising c.in-Ok.ensures))

pub returns-in-Ok-clause-after : goal.returns-in-Ok-clause-after
returns-in-Ok-clause-after c =
    ap lookup c.remove.ensures.items ∙ remove_after (vec_items c.args.self.now.rows) c.args.file c.args.block c.in-Ok.i c.args.self.now.sound.rising c.in-Ok.ensures

pub returns-in-Err-clause-answer : goal.returns-in-Err-clause-answer
returns-in-Err-clause-answer c = sym (ap is_some (miss_none (vec_items c.args.self.now.rows) c.args.file c.args.block c.in-Err.field-0 c.args.self.now.sound.rising c.in-Err.ensures))

pub returns-in-Err-clause-after : goal.returns-in-Err-clause-after
returns-in-Err-clause-after c = remove_none (vec_items c.args.self.now.rows) c.args.file c.args.block c.in-Err.field-0 c.args.self.now.sound.rising c.in-Err.ensures
