use Rattle.std.proofs.Common.{◌≡◌, ℕ, ◌<◌, ◌≤◌, None}
use Rattle.extent_map.proofs.runs.next_key.Given as goal

abbrev pub invariant-loop-block : goal.invariant-loop-block
invariant-loop-block g l = (b : ℕ) → l.from ≤ b → b < l.block → g.T.Table.holding l.table l.file b ≡ None
