use Rattle.std.proofs.Common.{◌≡◌, ◌+◌, ◌-◌, ◌≤◌, None}
use Rattle.blocks.specs.Blocks.{inside, changed}
use Rattle.block_map.proofs.keys.drop_keys.Given as goal

-- The blocks before this have no key, and all else is as it was.
abbrev pub invariant-loop-block : goal.invariant-loop-block
invariant-loop-block g l = record {
  from : l.extent.first ≤ l.block-iterator.start;
  to : l.block-iterator.start ≤ l.extent.first + l.extent.n;
  end : l.block-iterator.end ≡ l.extent.first + l.extent.n;
  room : g.T.Table.places l.table ≡ g.T.Table.places l.initial.table;
  after : g.T.Table.holding l.table
      ≡ changed (g.T.Table.holding l.initial.table) l.extent.file (inside l.extent.first (l.block-iterator.start - l.extent.first)) (λ _. None);
}
