use Rattle.std.proofs.Common.{◌-◌, ◌<◌, ◌≤◌, vec_items, vec_len}
use Rattle.ordered.specs.Ordered.{rank, rank_at}
use Rattle.ordered.proofs.place_in.Given as goal

abbrev pub invariant-loop-low : goal.invariant-loop-low
invariant-loop-low l = (l.low ≤ l.high) × (l.high ≤ vec_len l.rows)
    × (0 < l.low → rank_at (vec_items l.rows) (l.low - 1) < rank l.file l.block)
    × (l.high < vec_len l.rows → rank l.file l.block ≤ rank_at (vec_items l.rows) l.high)

abbrev pub decreases-loop-low : goal.decreases-loop-low
decreases-loop-low l = l.high - l.low
