use Rattle.std.proofs.Common.{◌≡◌, ◌+◌, ◌≤◌}
use Rattle.key_rule.specs.Keyed.{placing}
use Rattle.key_rule.proofs.Edges.{Lefting}
use Rattle.extent_map.proofs.keys.FileKeys.leftward.Given as goal

abbrev pub invariant-loop-left : goal.invariant-loop-left
invariant-loop-left g l = (l.left.block ≤ l.first) × (l.left.board + l.first ≡ l.board + l.left.block)
    × Lefting (placing (g.T.Table.holding l.self.table.now) l.self.file) l.first l.left.block l.left.board

abbrev pub decreases-loop-left : goal.decreases-loop-left
decreases-loop-left g l = l.left.block
