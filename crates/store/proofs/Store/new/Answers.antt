use Rattle.std.proofs.Common.{refl}
use Rattle.ledger.proofs.Steps.{sound_new}
use Rattle.store.proofs.Parts.{fresh}
use Rattle.store.specs.Whole.{shaped}
use Rattle.store.proofs.Store.new.Goals as goal

pub invariant_of-result : goal.invariant_of-result
invariant_of-result g c = record { in_step = sound_new _ _ (fresh c.forget_all.ensures.after c.new.ensures) }

pub returns : goal.returns
returns g c = record {
  shape = λ i. shaped g.M.Map.rule (c.forget_all.ensures.room i) (g.B.Board.size c.args.board) (g.L.Reading.files c.args.lower) (g.L.Reading.width c.args.lower);
  board_bytes = refl;
  lower_bytes = refl;
  new = fresh c.forget_all.ensures.after c.new.ensures;
}
