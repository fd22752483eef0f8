use Rattle.cached_map.proofs.Truth.{true_more}
use Rattle.cached_map.proofs.Keeps.{assign_keeps}
use Rattle.cached_map.proofs.cached.CachedMapMap.assign.Goals as goal

pub invariant_of-self : goal.invariant_of-self
invariant_of-self g c =
    let map = c.args.self.now.map in
    record {
      sound = true_more (g.M.Map.placed map) (g.M.Map.placed c.assign.new.self) c.args.self.now.memory.lines
          (assign_keeps _ _ c.assign.result g.M.Map.rule (g.M.Map.room map) c.args.file c.args.first c.args.n c.args.board c.assign.ensures.step)
          c.args.self.now.sound;
    }
