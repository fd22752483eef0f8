use Rattle.std.proofs.Common.{◌+◌, ◌-◌, ◌≤◌}
use Rattle.blocks.specs.Blocks.{inside}
use Rattle.block_set.specs.Members.{member}
use Rattle.walks.specs.Steps.{GoesOn}
use Rattle.walks.proofs.Places.{SoFar}
use Rattle.walks.proofs.gather.Given as goal

-- The mapped blocks below where the walk goes on are gathered.
abbrev pub invariant-loop-at : goal.invariant-loop-at
invariant-loop-at g l =
    let map = l.fn.map in
    let walk = l.at-iterator in
    (goal.iterator-loop-at g).can_next walk
    × (goal.iterator-loop-at g).is_finite walk
    × GoesOn l.initial.at-iterator.map.ghost_name (g.M.Map.room map) (g.M.Map.placed map) l.fn.file l.fn.to
    walk.map.ghost_name (g.M.Map.room walk.map.now) (g.M.Map.placed walk.map.now) walk.file walk.to
    × (l.count + l.fn.from ≤ walk.from)
    × SoFar (g.M.Map.placed map l.fn.file) (inside l.fn.from (l.fn.to - l.fn.from)) walk.from (member l.blocks) l.count
