use Rattle.std.proofs.Common.{Ok, ◌∙◌}
use Rattle.std.proofs.lemmas.Iterator.{items_from_collect}
use Rattle.std.specs.declared.alloc.AllocError.{AllocError}
use Rattle.run_keys.proofs.Walking.{to_come_first, walk_yields, planned}
use Rattle.run_keys.proofs.run.keys_of_run.Goals as goal

pub returns : goal.returns
returns c =
    let w = c.in_ok-over.field-0 in
    let b = c.in_ok-over.ensures in
    let keys = c.in_ok-collect.field-0 in
    planned c.args.first c.args.n c.args.board keys.items b.0
    (items_from_collect {E = AllocError} (Ok keys) c.in_ok-collect.ensures.ran (walk_yields w) ∙ to_come_first w c.args.first c.args.n c.args.board b.1 b.2 b.3)
