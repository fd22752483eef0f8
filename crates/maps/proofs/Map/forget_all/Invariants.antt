use Rattle.std.proofs.Common.{◌≡◌}
use Rattle.maps.proofs.Forgets.{EmptyBelow}
use Rattle.maps.proofs.Map.forget_all.Given as goal

abbrev pub invariant-loop-file : goal.invariant-loop-file
invariant-loop-file g l =
    (g.Self.Map.room l.self ≡ g.Self.Map.room l.initial.self)
    × EmptyBelow (g.Self.Map.placed l.self) l.file
