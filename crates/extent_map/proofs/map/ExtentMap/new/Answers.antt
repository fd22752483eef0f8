use Rattle.std.proofs.Common.{sym, ap, ◌∙◌, subst}
use Rattle.key_rule.specs.Keyed.{Held, placing}
use Rattle.key_rule.proofs.Changes.{held_nothing, placing_nothing}
use Rattle.extent_map.proofs.map.ExtentMap.new.Goals as goal

pub invariant_of-result : goal.invariant_of-result
invariant_of-result g c = record { held = subst Held (sym c.empty.ensures.after) held_nothing }

pub returns-clause-placed : goal.returns-clause-placed
returns-clause-placed g c = ap placing c.empty.ensures.after ∙ placing_nothing
