use Rattle.std.proofs.Common.{◌≡◌, ◌+◌, ◌-◌, ◌≤◌}
use Rattle.key_rule.specs.Keyed.{placing}
use Rattle.key_rule.proofs.Edges.{Righting}
use Rattle.extent_map.proofs.keys.FileKeys.rightward.Given as goal

abbrev pub invariant-loop-right : goal.invariant-loop-right
invariant-loop-right g l = (l.end ≤ l.right.block) × (l.right.block ≤ 65536) × (l.right.board ≤ 4096) × (l.right.board + l.end ≡ l.board + l.right.block)
    × Righting (placing (g.T.Table.holding l.self.table.now) l.self.file) l.end l.board l.right.block l.right.board

abbrev pub decreases-loop-right : goal.decreases-loop-right
decreases-loop-right g l = 65536 - l.right.block
