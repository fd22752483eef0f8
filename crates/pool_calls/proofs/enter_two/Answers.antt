use Rattle.std.proofs.Common.{◌≡◌, ℕ, Option, ap, ◌∙◌}
use Rattle.maps.specs.Steps.{assign_step}
use Rattle.pool.specs.Pool.{taken_in}
use Rattle.pool_calls.specs.Two.{Told, enter_one}
use Rattle.pool_calls.proofs.Entering.{entered_one, stops, goes_on}
use Rattle.pool_calls.proofs.enter_two.Given as given
use Rattle.pool_calls.proofs.enter_two.Goals as goal
use Rattle.pool_calls.proofs.enter_two.Goals.{After-ok}

-- the first block, entered as far as that goes
first : (g : given.Over) (c : After-ok g)
    → ◌≡◌ {A = Told} (c.ok.result, taken_in c.settle.new.self, g.M.Map.placed c.enter.new.map)
    (enter_one g.M.Map.rule (g.M.Map.room c.args.map.now) c.args.size c.args.file c.args.block (taken_in c.args.pool.now) (g.M.Map.placed c.args.map.now))
first g c = entered_one g.M.Map.rule (g.M.Map.room c.args.map.now) c.args.size c.args.file c.args.block
    (taken_in c.args.pool.now) (taken_in c.take.new.self) (taken_in c.settle.new.self)
    (g.M.Map.placed c.args.map.now) (g.M.Map.placed c.enter.new.map)
    c.take.result c.in_ok-first.first c.enter.result c.settle.result c.ok.result
    c.take.ensures.found c.in_ok-first.was c.take.ensures.after c.enter.ensures.token
    c.enter.ensures.step c.settle.ensures.answer c.settle.ensures.after c.ok.ensures.value

pub returns-in_err-ok-clause-step : goal.returns-in_err-ok-clause-step
returns-in_err-ok-clause-step g c =
    let q = g.M.Map.placed c.enter.new.map in
    let t2 = taken_in c.settle.new.self in
    ap (λ (x : Option ℕ). let w : Told = (x, t2, q) in w) c.from_residual-in_err-ok.ensures
    ∙ stops g.M.Map.rule (g.M.Map.room c.args.map.now) c.args.size c.args.file c.args.block c.args.other
    (taken_in c.args.pool.now) t2 (g.M.Map.placed c.args.map.now) q c.ok.result (first g (goal.at.returns-in_err-ok-clause-step g c).After-ok) c.in_err-ok.was

pub returns-clause-step : goal.returns-clause-step
returns-clause-step g c =
    let rule = g.M.Map.rule in
    let room = g.M.Map.room c.args.map.now in
    let q = g.M.Map.placed c.enter.new.map in
    let q2 = g.M.Map.placed c.enter-2.new.map in
    let t2 = taken_in c.settle.new.self in
    let t4 = taken_in c.settle-2.new.self in
    let two = entered_one rule room c.args.size c.args.file c.args.other t2 (taken_in c.take-2.new.self) t4 q q2
    c.take-2.result c.in_ok-second.second c.enter-2.result c.settle-2.result c.ok-2.result
    c.take-2.ensures.found c.in_ok-second.was c.take-2.ensures.after c.enter-2.ensures.token
    (c.enter-2.ensures.step ∙ ap (λ (k : ℕ). assign_step rule k q c.args.file c.args.other 1 c.in_ok-second.second.number) c.enter.ensures.room)
    c.settle-2.ensures.answer c.settle-2.ensures.after c.ok-2.ensures.value in
    goes_on rule room c.args.size c.args.file c.args.block c.args.other (taken_in c.args.pool.now) t2 (g.M.Map.placed c.args.map.now) q
    c.ok.result c.in_ok-ok.field-0 (c.ok-2.result, t4, q2) (first g (goal.at.returns-clause-step g c).After-ok) c.in_ok-ok.was two
