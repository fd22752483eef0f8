use Rattle.std.proofs.Common.{subst}
use Rattle.std.proofs.lemmas.Iterator.Consumers.{count_from_yields_List}
use Rattle.key_rule.specs.Mends.{Counted}
use Rattle.run_keys.proofs.Walking.{walk_yields}
use Rattle.run_keys.specs.declared.walk.Run.{Run}
use Rattle.extent_map.proofs.Walks.{walk_counted}
use Rattle.extent_map.proofs.runs.key_count.Goals as goal

pub returns-clause-count : goal.returns-clause-count
returns-clause-count c =
    let w = c.walk.result in
    subst (λ (run : Run). Counted run.first run.end c.count.result) c.walk.ensures
    (walk_counted w c.count.result (count_from_yields_List w c.count.result c.count.ensures.ran (walk_yields w)))
