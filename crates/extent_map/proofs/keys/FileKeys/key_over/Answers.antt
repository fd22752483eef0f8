use Rattle.std.proofs.Common.{ap}
use Rattle.look_ups.specs.declared.Held.{Held as Tried}
use Rattle.extent_map.proofs.Covers.{over_kept}
use Rattle.extent_map.proofs.keys.FileKeys.key_over.Goals as goal

pub returns-clause-sane : goal.returns-clause-sane
returns-clause-sane g c =
    rw c.covering.ensures (over_kept _ c.args.self.now.held c.args.self.now.file c.args.block c.first_held.result.key (ap (λ (t : Tried). t.key) c.first_held.ensures)).0

pub returns-clause-found : goal.returns-clause-found
returns-clause-found g c =
    rw c.covering.ensures (over_kept _ c.args.self.now.held c.args.self.now.file c.args.block c.first_held.result.key (ap (λ (t : Tried). t.key) c.first_held.ensures)).1
