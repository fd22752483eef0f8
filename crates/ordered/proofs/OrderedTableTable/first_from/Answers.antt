use Rattle.std.proofs.Common.{◌≡◌, vec_items, slice_get, rules, ◌∙◌}
use Rattle.std.proofs.lemmas.Option.{gets}
use Rattle.ordered.specs.OrderedLaws.{of_file, low_here}
use Rattle.ordered.proofs.OrderedTableTable.first_from.Goals as goal

pub returns : goal.returns
returns c =
    let xs = vec_items c.args.self.now.rows in
    let kept : c.filter.result ≡ of_file c.args.file (slice_get xs c.place_in-place.result) = search (rules, gets) in
    kept ∙ low_here xs c.args.file c.args.block c.place_in-place.result _ _ c.args.self.now.sound c.place_in-place.ensures
