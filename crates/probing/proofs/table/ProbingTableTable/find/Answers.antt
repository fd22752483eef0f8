use Rattle.std.proofs.Common.{◌≡◌, vec_items, sym, ap, ◌∙◌, arith, rules}
use Rattle.std.specs.Option.{option_map}
use Rattle.tables.specs.declared.row.Row.{Row}
use Rattle.probing.specs.declared.slots.Slot.{Slot}
use Rattle.probing.specs.Probing.{home_in}
use Rattle.probing.specs.SlotLaws.{entry_found, look_none}
use Rattle.probing.proofs.TableLaws.{single_of, absent_free, absent_full}
use Rattle.probing.proofs.table.ProbingTableTable.find.Goals as goal

pub returns-in-Found : goal.returns-in-Found
returns-in-Found g c =
    let t = c.args.self.now in
    let xs = vec_items t.slots.slots in
    let p = c.in-Found.ensures in
    let read : c.map.result ≡ option_map (λ (r : Row). r.entry) c.slot.result.row = search rules in
    read ∙ ap (λ (s : Slot). option_map (λ (r : Row). r.entry) s.row) c.slot.ensures
    ∙ entry_found xs c.args.file c.args.block c.in-Found.i (single_of (home_in t) t.room xs t.sound.ages) p.1 p.2

pub returns-in-Free : goal.returns-in-Free
returns-in-Free g c =
    let t = c.args.self.now in
    let p = c.in-Free.ensures in
    let hh = g.met.S.Spread.below t.spread c.args.file c.args.block t.room (omega (arith, p.0)) in
    sym (look_none (vec_items t.slots.slots) c.args.file c.args.block
    (absent_free (home_in t) t.room (vec_items t.slots.slots) t.held c.args.file c.args.block c.in-Free.field-0 hh t.sound p))

pub returns-in-Full : goal.returns-in-Full
returns-in-Full g c =
    let t = c.args.self.now in
    sym (look_none (vec_items t.slots.slots) c.args.file c.args.block
    (absent_full t.room (vec_items t.slots.slots) c.args.file c.args.block (home_in t c.args.file c.args.block) t.sound.long c.in-Full.ensures))
