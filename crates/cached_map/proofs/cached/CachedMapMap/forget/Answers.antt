use Rattle.std.proofs.Common.{Ok, sym, subst}
use Rattle.cached_map.specs.declared.memory.Memory.{Memory}
use Rattle.cached_map.specs.Remembering.{AllTrue}
use Rattle.cached_map.proofs.Truth.{all_struck}
use Rattle.cached_map.proofs.Keeps.{forget_keeps}
use Rattle.cached_map.proofs.cached.CachedMapMap.forget.Goals as goal

pub invariant_of-self-2 : goal.invariant_of-self-2
invariant_of-self-2 g c =
    let self = c.args.self.now in
    let p = g.M.Map.placed self.map in
    let q = g.M.Map.placed c.forget.new.self in
    record {
      sound = subst (λ (m : Memory). AllTrue q m.lines) (sym c.forget-2.ensures)
          (all_struck p q c.args.file 0 65536 self.memory.lines
          (forget_keeps p q (Ok tt) c.args.file (g.met.M.Map.within self.map) c.in_ok-forget.ensures.step) self.sound);
    }
