use Rattle.std.proofs.Common.{◌≡◌, Some, sym, ap, ◌∙◌, arith}
use Rattle.std.proofs.lemmas.Bool.{lt-ltb, cond-true}
use Rattle.ledger.specs.Free.{free_from}
use Rattle.ledger.proofs.Search.{found_free}
use Rattle.pool.specs.Pool.{taken_in, board_size, taken_also}
use Rattle.pool.proofs.Pool.take.Goals as goal

pub returns : goal.returns
returns c =
    let t = taken_in c.args.self.now in
    let p = c.in_ok-number.number in
    let e : free_from t (board_size c.args.size) c.args.goal ≡ Some p = sym c.nearest_free.ensures ∙ c.in_ok-number.was in
    let f = found_free t (board_size c.args.size) c.args.goal p e in
    record {
      found = sym e;
      after = c.insert.ensures ∙ cond-true _ _ _ (lt-ltb p 4096 (omega (arith, f.0))) ∙ sym (ap (taken_also t) e);
    }
