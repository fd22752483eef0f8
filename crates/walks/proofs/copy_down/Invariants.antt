use Rattle.std.proofs.Common.{◌<◌}
use Rattle.lowers.specs.Lowers.{Holds}
use Rattle.walks.specs.Steps.{GoesOn}
use Rattle.walks.specs.Walks.{BoardStays, Reaches}
use Rattle.walks.proofs.Copies.{copied_below}
use Rattle.walks.proofs.copy_down.Given as goal

-- The mapped blocks below where the walk goes on are copied, and all else is as it was.
abbrev pub invariant-loop-at : goal.invariant-loop-at
invariant-loop-at g l =
    let map = l.fn.map in
    let walk = l.at-iterator in
    (goal.iterator-loop-at g).can_next walk
    × (goal.iterator-loop-at g).is_finite walk
    × GoesOn l.initial.at-iterator.map.ghost_name (g.M.Map.room map) (g.M.Map.placed map) l.file (g.L.Reading.width l.initial.lower)
    walk.map.ghost_name (g.M.Map.room walk.map.now) (g.M.Map.placed walk.map.now) walk.file walk.to
    × BoardStays (g.B.Board.size l.initial.board) (g.B.Board.block l.initial.board) (g.B.Board.size l.board) (g.B.Board.block l.board)
    × (l.file < g.L.Reading.files l.initial.lower
    → Reaches (g.M.Map.placed map l.file) (g.L.Reading.width l.initial.lower) (g.B.Board.size l.initial.board)
    → Holds (g.L.Reading.files l.initial.lower) (g.L.Reading.width l.initial.lower)
    (copied_below (g.B.Board.block l.initial.board) (g.M.Map.placed map l.file) l.file (g.L.Reading.bytes l.initial.lower) walk.from)
    (g.L.Reading.files l.lower) (g.L.Reading.width l.lower) (g.L.Reading.bytes l.lower))
