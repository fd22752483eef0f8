use Rattle.std.proofs.Common.{◌≡◌, Bool, cond, Some, vec_items, sym, ap, ◌∙◌, arith}
use Rattle.std.specs.List.{insert}
use Rattle.blocks.specs.Blocks.{changed, only}
use Rattle.tables.specs.declared.row.Row.{Row}
use Rattle.ordered.specs.Ordered.{lookup}
use Rattle.ordered.specs.OrderedLaws.{set_after, set_sound, insert_after, insert_sound, room_hit, full_miss}
use Rattle.ordered.proofs.OrderedTableTable.store.Goals as goal

pub invariant_of-self : goal.invariant_of-self
invariant_of-self c = record { sound = set_sound (vec_items c.args.self.now.rows) c.args.file c.args.block c.in-Ok.i c.args.entry _ _ (omega arith) (omega arith) c.args.self.now.sound c.in-Ok.ensures }

pub invariant_of-self-in-Err : goal.invariant_of-self-in-Err
invariant_of-self-in-Err c =
    let xs = vec_items c.args.self.now.rows in
    let s = c.args.self.now.sound in
    let y : Row = record { file = c.args.file; block = c.args.block; entry = c.args.entry } in
    let e : vec_items c.insert.new.self ≡ insert xs c.in-Err.i y
    = c.insert.ensures.items ∙ ap (λ (b : Bool). cond b (insert xs c.in-Err.i y) xs) (c.insert.ensures.succeeds (omega (arith, s.memory))) in
    record { sound = rw e (insert_sound xs c.args.file c.args.block c.in-Err.i c.args.entry _ _ _ (omega arith) (omega arith) s c.in-Err.ensures (omega arith) c.insert.ensures.capacity) }

pub returns-then-len-self-clause-answer : goal.returns-then-len-self-clause-answer
returns-then-len-self-clause-answer c = full_miss (vec_items c.args.self.now.rows) c.args.file c.args.block c.in-Err.i _ _ c.args.self.now.sound c.in-Err.ensures (omega arith)

pub returns-in-Ok-clause-answer : goal.returns-in-Ok-clause-answer
returns-in-Ok-clause-answer c = room_hit (vec_items c.args.self.now.rows) c.args.file c.args.block c.in-Ok.i _ _ c.args.self.now.sound c.in-Ok.ensures

pub returns-in-Ok-clause-after : goal.returns-in-Ok-clause-after
returns-in-Ok-clause-after c = set_after (vec_items c.args.self.now.rows) c.args.file c.args.block c.in-Ok.i c.args.entry c.args.self.now.sound.rising c.in-Ok.ensures

pub returns-else-len-self-clause-after : goal.returns-else-len-self-clause-after
returns-else-len-self-clause-after c =
    let xs = vec_items c.args.self.now.rows in
    let s = c.args.self.now.sound in
    let y : Row = record { file = c.args.file; block = c.args.block; entry = c.args.entry } in
    let done = c.is_ok.ensures.value ∙ c.insert.ensures.succeeds (omega (arith, s.memory)) in
    let e : vec_items c.insert.new.self ≡ insert xs c.in-Err.i y
    = c.insert.ensures.items ∙ ap (λ (b : Bool). cond b (insert xs c.in-Err.i y) xs) (c.insert.ensures.succeeds (omega (arith, s.memory))) in
    ap lookup e ∙ insert_after xs c.args.file c.args.block c.in-Err.i c.args.entry s.rising c.in-Err.ensures
    ∙ sym (ap (λ (b : Bool). cond b (changed (lookup xs) c.args.file (only c.args.block) (λ _. Some c.args.entry)) (lookup xs)) done)
