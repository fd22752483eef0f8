use Rattle.std.proofs.Common.{inl}
use Rattle.pool.specs.Pool.{taken_in}
use Rattle.claims.proofs.Giving.{leaves_file}
use Rattle.claims.proofs.vacate_file.Goals as goal

pub returns-clause-step : goal.returns-clause-step
returns-clause-step g c =
    let gathered = c.gather-leaving.ensures in
    leaves_file (taken_in c.args.pool.now) (taken_in c.give_back.new.self) _
    (g.M.Map.placed c.args.map.now) (g.M.Map.placed c.gather-leaving.new.map) (g.M.Map.placed c.forget.new.self)
    c.args.file c.args.width c.gather-leaving.result.count c.forget.result
    gathered.map.same_place (λ b l. g.met.M.Map.within c.args.map.now c.args.file b (inl l)) gathered.answer c.forget.ensures.step c.give_back.ensures
