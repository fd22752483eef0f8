use Rattle.std.proofs.Common.{◌≡◌, ℕ, ◌<◌, ◌≤◌, None}
use Rattle.tables.proofs.table.Table.first_from.Given as goal

-- Nothing stands under the blocks that were asked for.
abbrev pub invariant-loop-b : goal.invariant-loop-b
invariant-loop-b g l = (x : ℕ) → l.block ≤ x → x < l.b → g.Self.Table.holding l.self l.file x ≡ None
