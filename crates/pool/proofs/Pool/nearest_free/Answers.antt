use Rattle.std.proofs.Common.{◌≡◌, ◌-◌, min, arith, rules}
use Rattle.pool.specs.Pool.{taken_in, board_size}
use Rattle.pool.proofs.Round.{halves}
use Rattle.pool.proofs.Pool.nearest_free.Goals as goal

pub returns : goal.returns
returns c =
    let h = halves (taken_in c.args.self.now) (board_size c.args.size) c.args.goal in
    let e : min (min c.args.goal c.args.size) 4096 - 0 ≡ min c.args.goal (board_size c.args.size) - 0 = omega arith in
    search rules
