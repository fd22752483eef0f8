use Rattle.std.proofs.Common.{◌≡◌, ◌-◌, ◌≤◌}
use Rattle.key_rule.specs.Mends.{blend, none}
use Rattle.extent_map.proofs.runs.drop_keys.Given as goal

abbrev pub invariant-loop-key : goal.invariant-loop-key
invariant-loop-key g l = (g.T.Table.places l.table ≡ g.T.Table.places l.initial.table) × (l.l ≤ l.x) × (l.x ≤ l.r)
    × (g.T.Table.holding l.table ≡ blend l.file l.l l.x none (g.T.Table.holding l.initial.table))

abbrev pub decreases-loop-key : goal.decreases-loop-key
decreases-loop-key g l = l.r - l.x
