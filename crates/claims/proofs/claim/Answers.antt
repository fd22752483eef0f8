use Rattle.std.proofs.Common.{◌≡◌, ℕ, Some, Err, Result, sym, ap, ◌∙◌, rules}
use Rattle.std.proofs.lemmas.Result.{err_from_is_err_and}
use Rattle.calls.specs.declared.StoreFault.{StoreFault}
use Rattle.ledger.specs.Free.{goal as goal'}
use Rattle.pool.specs.Pool.{taken_in}
use Rattle.claims.specs.Claims.{Claimed, claim_step}
use Rattle.claims.proofs.Entering.{lifted, entered_claim}
use Rattle.claims.proofs.claim.Given as given
use Rattle.claims.proofs.claim.Goals as goal
use Rattle.claims.proofs.claim.Goals.{After-settle}

-- what came of the token that was taken, whether the map has refused it or not
settled : (g : given.Over) (c : After-settle g)
    → ◌≡◌ {A = Claimed} (lifted c.settle.result, taken_in c.settle.new.self, g.M.Map.placed c.enter.new.map)
    (claim_step g.M.Map.rule (g.M.Map.room c.args.map.now) c.args.size (taken_in c.args.pool.now) (g.M.Map.placed c.args.map.now) c.args.file c.args.block)
settled g c =
    let is : c.take.result ≡ Some c.in_ok-token.token = search rules in
    let asked = c.goal_of-goal.ensures in
    entered_claim g.M.Map.rule (g.M.Map.room c.args.map.now) c.args.size c.args.file c.args.block c.goal_of-goal.result
    (goal' c.args.size (g.M.Map.placed c.args.map.now c.args.file) c.args.block)
    (taken_in c.args.pool.now) (taken_in c.take.new.self) (taken_in c.settle.new.self)
    (g.M.Map.placed c.args.map.now) (g.M.Map.placed c.goal_of-goal.new.map) (g.M.Map.placed c.enter.new.map)
    (g.M.Map.room c.goal_of-goal.new.map) c.take.result c.in_ok-token.token c.enter.result c.settle.result
    asked.map.same_room asked.map.same_place asked.answer
    c.take.ensures.found is c.take.ensures.after c.enter.ensures.token c.enter.ensures.step c.settle.ensures.answer c.settle.ensures.after

-- the map has refused
pub returns-in_err-number-clause-step : goal.returns-in_err-number-clause-step
returns-in_err-number-clause-step g c =
    let p = err_from_is_err_and c.from_residual-in_err-number.result c.from_residual-in_err-number.ensures.1 in
    ap (λ (r : Result ℕ StoreFault). let w : Claimed = (r, taken_in c.settle.new.self, g.M.Map.placed c.enter.new.map) in w)
    (p.1 ∙ ap Err p.2 ∙ sym (ap lifted c.in_err-number.was))
    ∙ settled g (goal.at.returns-in_err-number-clause-step g c).After-settle

pub returns-clause-step : goal.returns-clause-step
returns-clause-step g c =
    ap (λ (r : Result ℕ StoreFault). let w : Claimed = (r, taken_in c.settle.new.self, g.M.Map.placed c.enter.new.map) in w) (sym (ap lifted c.in_ok-number.was))
    ∙ settled g (goal.at.returns-clause-step g c).After-settle
