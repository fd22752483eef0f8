use Rattle.std.proofs.Common.{◌≡◌, ℕ, ◌%◌, Some, Ok, Option, Result, sym, ap, ◌∙◌, subst}
use Rattle.faults.specs.declared.Fault.{Fault}
use Rattle.cached_map.specs.declared.memory.Memory.{Memory}
use Rattle.cached_map.specs.Remembering.{AllTrue}
use Rattle.cached_map.proofs.Truth.{true_recalled, true_set, true_same}
use Rattle.cached_map.proofs.Keeps.{found_answer, answered}
use Rattle.cached_map.proofs.cached.CachedMapMap.find.Goals as goal

pub returns-in-Some-clause-answer : goal.returns-in-Some-clause-answer
returns-in-Some-clause-answer g c =
    let self = c.args.self.now in
    let file = c.args.file in
    let block = c.args.block in
    found_answer (g.M.Map.placed self.map) file block c.in-Some.board (g.met.M.Map.within self.map)
    (true_recalled (g.M.Map.placed self.map) self.memory.lines file block c.in-Some.board self.sound (sym c.in-Some.ensures))

pub invariant_of-self-in-Some-found : goal.invariant_of-self-in-Some-found
invariant_of-self-in-Some-found g c =
    let self = c.args.self.now in
    let m : Memory = self.memory in
    let file = c.args.file in
    let block = c.args.block in
    let board = c.in-Some-found.board in
    let e = c.in_ok-found.ensures in
    let p = g.M.Map.placed self.map in
    let q = g.M.Map.placed c.find.new.self in
    let said : ◌≡◌ {A = Result (Option ℕ) Fault} (Ok (Some board)) (Ok c.in_ok-found.found) = ap (λ (o : Option ℕ). Ok o) (sym c.in-Some-found.is) in
    record {
      sound = subst (λ (m : Memory). AllTrue q m.lines) (sym c.remember.ensures)
          (true_same p q _ e.same (true_set p m.lines (m.turn % 8) file block board (answered p file block board (said ∙ e.answer)) self.sound));
    }
