use Rattle.std.proofs.Common.{◌<◌, min}
use Rattle.blocks.specs.Blocks.{changed, inside, zero_block}
use Rattle.lowers.specs.Lowers.{Holds}
use Rattle.walks.proofs.clear_file.Given as goal

-- The blocks below `first` are zero bytes, and all else is as it was.
abbrev pub invariant-loop-first : goal.invariant-loop-first
invariant-loop-first g l =
    l.file < g.L.Reading.files l.initial.lower
    → Holds (g.L.Reading.files l.initial.lower) (g.L.Reading.width l.initial.lower)
    (changed (g.L.Reading.bytes l.initial.lower) l.file (inside 0 (min l.first l.width)) (λ _. zero_block))
    (g.L.Reading.files l.lower) (g.L.Reading.width l.lower) (g.L.Reading.bytes l.lower)
