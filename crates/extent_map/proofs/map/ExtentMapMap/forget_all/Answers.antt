use Rattle.std.proofs.Common.{sym, ap, ◌∙◌, subst}
use Rattle.key_rule.specs.Keyed.{Held, placing}
use Rattle.key_rule.proofs.Changes.{held_nothing, placing_nothing}
use Rattle.extent_map.proofs.map.ExtentMapMap.forget_all.Goals as goal

pub invariant_of-self : goal.invariant_of-self
invariant_of-self g c = record { held = subst Held (sym c.empty.ensures.after) held_nothing }

pub returns-clause-after : goal.returns-clause-after
returns-clause-after g c = ap placing c.empty.ensures.after ∙ placing_nothing
