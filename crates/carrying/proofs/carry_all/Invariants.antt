use Rattle.std.proofs.Common.{◌*◌, ◌≤◌}
use Rattle.carrying.proofs.Steps.{AllGoing}
use Rattle.carrying.proofs.carry_all.Given as goal

abbrev pub invariant-loop-file : goal.invariant-loop-file
invariant-loop-file g l = (l.carried ≤ l.file * 4294967295) × (l.refused ≤ l.file * 4294967295)
    × AllGoing (g.S.Reading.files l.initial.source) (g.S.Reading.width l.initial.source) (g.S.Reading.bytes l.initial.source)
    (g.T.Reading.files l.initial.target) (g.T.Reading.width l.initial.target) (g.T.Reading.bytes l.initial.target)
    (g.S.Reading.files l.source) (g.S.Reading.width l.source) (g.S.Reading.bytes l.source)
    (g.T.Reading.files l.target) (g.T.Reading.width l.target) (g.T.Reading.bytes l.target)
    l.file l.carried l.refused
