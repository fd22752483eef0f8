use Rattle.std.proofs.Common.{◌≡◌, ◌+◌, ◌-◌, ◌≤◌}
use Rattle.blocks.specs.Blocks.{tally, inside, changed}
use Rattle.block_map.specs.BlockKeys.{Free, single}
use Rattle.block_map.proofs.keys.put_keys.Given as goal

-- The blocks before this have their keys, and all else is as it was.
abbrev pub invariant-loop-block : goal.invariant-loop-block
invariant-loop-block g l = record {
  from : l.extent.first ≤ l.block-iterator.start;
  to : l.block-iterator.start ≤ l.extent.first + l.extent.n;
  end : l.block-iterator.end ≡ l.extent.first + l.extent.n;
  room : g.T.Table.places l.table ≡ g.T.Table.places l.initial.table;
  after : Free (g.T.Table.holding l.initial.table l.extent.file) l.extent.first l.extent.n
      → tally (g.T.Table.holding l.initial.table) + l.extent.n ≤ g.T.Table.places l.initial.table
      → g.T.Table.holding l.table
      ≡ changed (g.T.Table.holding l.initial.table) l.extent.file (inside l.extent.first (l.block-iterator.start - l.extent.first)) (single l.extent.first l.board);
}
