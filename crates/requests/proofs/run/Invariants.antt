use Rattle.std.proofs.Common.{◌≡◌}
use Rattle.requests.specs.Requests.{calls_of}
use Rattle.requests.proofs.Going.{Going}
use Rattle.requests.proofs.run.Given as goal

abbrev pub invariant-loop-request : goal.invariant-loop-request
invariant-loop-request g l =
    Going (g.S.BlockStore.shape l.initial.store) (g.S.BlockStore.state l.initial.store) l.initial.requests l.request-index l.requests
    (g.S.BlockStore.shape l.store) (g.S.BlockStore.state l.store)
    × (calls_of l.requests ≡ calls_of l.initial.requests)
