use Rattle.std.proofs.Common.{Some, vec_items, sym, ap, ◌∙◌}
use Rattle.std.proofs.lemmas.List.{get_or_read}
use Rattle.tables.specs.declared.row.Row.{Row}
use Rattle.tables.specs.Rows.{blank}
use Rattle.ordered.specs.OrderedLaws.{hit_found, miss_none}
use Rattle.ordered.proofs.OrderedTableTable.find.Goals as goal

pub returns-in-Ok : goal.returns-in-Ok
returns-in-Ok c =
    let xs = vec_items c.args.self.now.rows in
    let h = c.in-Ok.ensures in
    ap (λ (x : Row). Some x.entry) (get_or_read xs c.in-Ok.i c.index.result.now h.within c.index.ensures blank)
    ∙ sym (hit_found xs c.args.file c.args.block c.in-Ok.i c.args.self.now.sound.rising h)

pub returns-in-Err : goal.returns-in-Err
returns-in-Err c = sym (miss_none (vec_items c.args.self.now.rows) c.args.file c.args.block c.in-Err.field-0 c.args.self.now.sound.rising c.in-Err.ensures)
