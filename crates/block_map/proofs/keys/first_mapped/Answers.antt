use Rattle.std.proofs.Common.{◌≡◌, ◌+◌, is_some, true, None, rules}
use borrow.Author.Tests.{tests}
use Rattle.std.proofs.lemmas.Iterator.{first_from_Range}
use Rattle.block_map.specs.Lowest.{lowest_found}
use Rattle.block_map.proofs.keys.first_mapped.Goals as goal

pub returns : goal.returns
returns g c =
    let h = g.T.Table.holding c.args.table.now in
    let extent = c.args.extent in
    let ran = rw c.blocks_of.ensures at c.find.ensures.ran in
    lowest_found h extent.file extent.first extent.n c.find.result
    (first_from_Range (record { start = extent.first; end = extent.first + extent.n }) _ _ c.find.result
    (λ b. is_some (h extent.file b) ≡ true) (λ b. h extent.file b ≡ None) ran
    (λ b q k. search (rules, tests)) (λ b q k. search (rules, tests)))
