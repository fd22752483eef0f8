use Rattle.std.proofs.Common.{Ok, sym, subst}
use Rattle.cached_map.specs.declared.memory.Memory.{Memory}
use Rattle.cached_map.specs.Remembering.{AllTrue}
use Rattle.cached_map.proofs.Truth.{all_struck}
use Rattle.cached_map.proofs.Keeps.{clear_keeps}
use Rattle.cached_map.proofs.cached.CachedMapMap.clear.Goals as goal

pub invariant_of-self-2 : goal.invariant_of-self-2
invariant_of-self-2 g c =
    let self = c.args.self.now in
    let p = g.M.Map.placed self.map in
    let q = g.M.Map.placed c.clear.new.self in
    record {
      sound = subst (λ (m : Memory). AllTrue q m.lines) (sym c.forget.ensures)
          (all_struck p q c.args.file c.args.first c.args.n self.memory.lines
          (clear_keeps p q (Ok tt) g.M.Map.rule (g.M.Map.room self.map) c.args.file c.args.first c.args.n c.in_ok-clear.ensures.step) self.sound);
    }
