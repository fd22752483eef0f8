use Rattle.std.proofs.Common.{◌≡◌, ◌-◌, ◌<◌, None}
use Rattle.blocks.specs.Blocks.{inside, changed}
use Rattle.block_map.proofs.keys.drop_file.Given as goal

-- The blocks below `from` have no key, and all else is as it was.
abbrev pub invariant-loop-row : goal.invariant-loop-row
invariant-loop-row g l = record {
  from : l.from < 65536;
  room : g.T.Table.places l.table ≡ g.T.Table.places l.initial.table;
  after : g.T.Table.holding l.table ≡ changed (g.T.Table.holding l.initial.table) l.file (inside 0 l.from) (λ _. None);
}

abbrev pub decreases-loop-row : goal.decreases-loop-row
decreases-loop-row g l = 65536 - l.from
