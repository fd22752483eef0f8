use Rattle.std.proofs.Common.{◌≡◌, ◌+◌, ◌-◌, ◌≤◌}
use Rattle.blocks.specs.Blocks.{tally}
use Rattle.key_rule.specs.Mends.{blend, none}
use Rattle.extent_map.proofs.keys.FileKeys.count_keys.Given as goal

abbrev pub invariant-loop-key : goal.invariant-loop-key
invariant-loop-key g l = (l.l + l.count ≤ l.x) × (l.x ≤ l.r)
    × (l.count + tally (blend l.self.file l.l l.x none (g.T.Table.holding l.self.table.now)) ≡ tally (g.T.Table.holding l.self.table.now))

abbrev pub decreases-loop-key : goal.decreases-loop-key
decreases-loop-key g l = l.r - l.x
