use Rattle.std.proofs.Common.{◌≡◌, ◌+◌, arith}
use Rattle.pool.specs.Pool.{taken_in}
use Rattle.claims.proofs.Giving.{within, leaves}
use Rattle.claims.proofs.vacate.Goals as goal

pub returns-clause-step : goal.returns-clause-step
returns-clause-step g c =
    let gathered = c.gather-leaving.ensures in
    let le = within g.M.Map.rule (g.M.Map.room c.args.map.now) (taken_in c.args.pool.now) (g.M.Map.placed c.args.map.now)
    (g.M.Map.placed c.gather-leaving.new.map) (g.M.Map.placed c.clear.new.self) (g.M.Map.room c.gather-leaving.new.map)
    c.args.file c.args.first c.args.n c.clear.result gathered.map.same_room gathered.map.same_place c.clear.ensures.step
    c.in_ok-clear.field-0 c.in_ok-clear.was in
    let end : c.saturating_add.result ≡ c.args.first + c.args.n = omega (arith, c.saturating_add.ensures) in
    leaves g.M.Map.rule (g.M.Map.room c.args.map.now) (taken_in c.args.pool.now) (g.M.Map.placed c.args.map.now)
    (g.M.Map.placed c.gather-leaving.new.map) (g.M.Map.placed c.clear.new.self) (g.M.Map.room c.gather-leaving.new.map)
    c.args.file c.args.first c.args.n c.clear.result gathered.map.same_room gathered.map.same_place c.clear.ensures.step
    c.in_ok-clear.field-0 c.in_ok-clear.was _ c.saturating_add.result c.gather-leaving.result.count
    end gathered.answer (taken_in c.give_back.new.self) c.give_back.ensures
