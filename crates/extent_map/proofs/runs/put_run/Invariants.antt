use Rattle.std.proofs.Common.{◌≡◌, ◌+◌, ◌<◌, ◌≤◌}
use Rattle.blocks.specs.Blocks.{tally}
use Rattle.extents.specs.Extents.{FileMap, Barrier, key_at}
use Rattle.key_rule.specs.Mends.{blend, Lay, Empty}
use Rattle.extent_map.proofs.runs.put_run.Given as goal

abbrev pub invariant-loop-key : goal.invariant-loop-key
invariant-loop-key g l =
    let w = l.key-iterator.left in
    (g.T.Table.places l.table ≡ g.T.Table.places l.initial.table)
    × (l.fn.run.first ≤ w.first) × (w.first ≤ l.fn.run.end) × (w.end ≡ l.fn.run.end) × (w.board + l.fn.run.first ≡ l.fn.run.board + w.first)
    × ((m : FileMap) → Lay m l.fn.run.first l.fn.run.end l.fn.run.board
    → l.file < 65536
    → Empty (g.T.Table.holding l.initial.table) l.file l.fn.run.first l.fn.run.end
    → tally (blend l.file l.fn.run.first l.fn.run.end (key_at m) (g.T.Table.holding l.initial.table)) ≤ g.T.Table.places l.initial.table
    → Barrier m w.first × (g.T.Table.holding l.table ≡ blend l.file l.fn.run.first w.first (key_at m) (g.T.Table.holding l.initial.table)))
