use Rattle.std.proofs.Common.{◌≤◌}
use Rattle.carrying.proofs.Steps.{FileGoing}
use Rattle.carrying.proofs.carry_file.Given as goal

abbrev pub invariant-loop-block : goal.invariant-loop-block
invariant-loop-block g l = (l.carried ≤ l.block) × FileGoing (g.S.Reading.files l.initial.source) (g.S.Reading.width l.initial.source) (g.S.Reading.bytes l.initial.source)
    (g.T.Reading.files l.initial.target) (g.T.Reading.width l.initial.target) (g.T.Reading.bytes l.initial.target)
    (g.S.Reading.files l.source) (g.S.Reading.width l.source) (g.S.Reading.bytes l.source)
    (g.T.Reading.files l.target) (g.T.Reading.width l.target) (g.T.Reading.bytes l.target)
    l.file l.block l.carried
