use Rattle.std.proofs.Common.{◌≡◌, Some, sym, ap, ◌∙◌}
use Rattle.ledger.specs.Free.{free_from}
use Rattle.pool.specs.Pool.{taken_in, board_size, number_in}
use Rattle.pool.proofs.Tokens.{handed_back}
use Rattle.pool_calls.proofs.next_free.Goals as goal

pub returns : goal.returns
returns c =
    let t = taken_in c.args.pool.now in
    let e : free_from t (board_size c.args.size) c.args.goal ≡ Some c.in_ok-token.token.number =
    sym c.take.ensures.found ∙ ap number_in c.in_ok-token.was in
    record {
      answer = ap Some c.number-number.ensures ∙ sym e;
      same = handed_back t (taken_in c.take.new.self) (taken_in c.hand_back.new.self) (board_size c.args.size) c.args.goal
          c.in_ok-token.token.number e c.take.ensures.after c.hand_back.ensures;
    }
