use Rattle.std.proofs.Common.{◌≡◌, ◌≢◌, arith}
use Rattle.std.proofs.lemmas.Result.{err_from_is_err_and}
use Rattle.store.proofs.Parts.{clauses}
use Rattle.store.proofs.Writing.{not_admitted, replaces, goes_down, not_claimed, is_claimed}
use Rattle.store.proofs.StoreBlockStore.write.Goals as goal

pub returns-in_err-admit_write : goal.returns-in_err-admit_write
returns-in_err-admit_write g c =
    let p = err_from_is_err_and c.from_residual.result c.from_residual.ensures.1 in
    rw (p.1, p.2) (clauses (
    not_admitted c.args.file c.args.block c.args.mark c.args.from.now c.args.self.now.in_step c.admit_write.ensures c.in_err-admit_write.field-0.0
    c.in_err-admit_write.was))

pub returns-in-Some : goal.returns-in-Some
returns-in-Some g c = clauses (
    replaces c.args.file c.args.block c.args.mark c.args.from.now c.args.self.now.in_step c.admit_write.ensures c.in_ok-admit_write.was
    c.board_of.ensures.map.same_room c.board_of.ensures.map.same_place c.in-Some.ensures.answer c.write.ensures)

pub returns-in-None : goal.returns-in-None
returns-in-None g c =
    let loose : c.args.mark ≡ 0 = omega arith in
    clauses (
    goes_down c.args.file c.args.block c.args.mark c.args.from.now c.args.self.now.in_step c.admit_write.ensures c.in_ok-admit_write.was
    c.board_of.ensures.map.same_room c.board_of.ensures.map.same_place c.in-None.ensures.answer loose c.write-in-None.ensures)

pub returns-in_err-number-in-None-2 : goal.returns-in_err-number-in-None-2
returns-in_err-number-in-None-2 g c =
    let p = err_from_is_err_and c.from_residual-in_err-number-in-None-2.result c.from_residual-in_err-number-in-None-2.ensures.1 in
    let kept : c.args.mark ≢ 0 = omega arith in
    rw (p.1, p.2) (clauses (
    not_claimed c.args.file c.args.block c.args.mark c.args.from.now c.args.self.now.in_step c.admit_write.ensures c.in_ok-admit_write.was
    c.board_of.ensures.map.same_room c.claim.ensures.room c.board_of.ensures.map.same_place c.in-None.ensures.answer kept
    c.blocks-size.ensures.answer (g.met.L.Reading.few c.args.self.now.lower) (g.met.L.Reading.narrow c.args.self.now.lower) (g.met.B.Board.bounded c.args.self.now.board)
    c.claim.ensures.step c.in_err-number-in-None-2.field-0.0 c.in_err-number-in-None-2.was))

pub returns-in_ok-number-in-None-2 : goal.returns-in_ok-number-in-None-2
returns-in_ok-number-in-None-2 g c =
    let kept : c.args.mark ≢ 0 = omega arith in
    clauses (
    is_claimed c.args.file c.args.block c.args.mark c.args.from.now c.args.self.now.in_step c.admit_write.ensures c.in_ok-admit_write.was
    c.board_of.ensures.map.same_room c.claim.ensures.room c.board_of.ensures.map.same_place c.in-None.ensures.answer kept
    c.blocks-size.ensures.answer (g.met.L.Reading.few c.args.self.now.lower) (g.met.L.Reading.narrow c.args.self.now.lower) (g.met.B.Board.bounded c.args.self.now.board)
    c.claim.ensures.step c.in_ok-number-in-None-2.was c.write-in-None-2.ensures)

-- map, pool and sizes are in step again, however the write went
pub invariant_of-self : goal.invariant_of-self
invariant_of-self g c = record {
  in_step = (
      replaces c.args.file c.args.block c.args.mark c.args.from.now c.args.self.now.in_step c.admit_write.ensures c.in_ok-admit_write.was
      c.board_of.ensures.map.same_room c.board_of.ensures.map.same_place c.in-Some.ensures.answer c.write.ensures).in_step;
}

pub invariant_of-self-in-None : goal.invariant_of-self-in-None
invariant_of-self-in-None g c =
    let loose : c.args.mark ≡ 0 = omega arith in record {
      in_step = (
          goes_down c.args.file c.args.block c.args.mark c.args.from.now c.args.self.now.in_step c.admit_write.ensures c.in_ok-admit_write.was
          c.board_of.ensures.map.same_room c.board_of.ensures.map.same_place c.in-None.ensures.answer loose c.write-in-None.ensures).in_step;
    }

pub invariant_of-self-in-Break-branch-2 : goal.invariant_of-self-in-Break-branch-2
invariant_of-self-in-Break-branch-2 g c =
    let kept : c.args.mark ≢ 0 = omega arith in record {
      in_step = (
          not_claimed c.args.file c.args.block c.args.mark c.args.from.now c.args.self.now.in_step c.admit_write.ensures c.in_ok-admit_write.was
          c.board_of.ensures.map.same_room c.claim.ensures.room c.board_of.ensures.map.same_place c.in-None.ensures.answer kept
          c.blocks-size.ensures.answer (g.met.L.Reading.few c.args.self.now.lower) (g.met.L.Reading.narrow c.args.self.now.lower) (g.met.B.Board.bounded c.args.self.now.board)
          c.claim.ensures.step c.in_err-number-in-None-2.field-0.0 c.in_err-number-in-None-2.was).in_step;
    }

pub invariant_of-self-in-None-2 : goal.invariant_of-self-in-None-2
invariant_of-self-in-None-2 g c =
    let kept : c.args.mark ≢ 0 = omega arith in record {
      in_step = (
          is_claimed c.args.file c.args.block c.args.mark c.args.from.now c.args.self.now.in_step c.admit_write.ensures c.in_ok-admit_write.was
          c.board_of.ensures.map.same_room c.claim.ensures.room c.board_of.ensures.map.same_place c.in-None.ensures.answer kept
          c.blocks-size.ensures.answer (g.met.L.Reading.few c.args.self.now.lower) (g.met.L.Reading.narrow c.args.self.now.lower) (g.met.B.Board.bounded c.args.self.now.board)
          c.claim.ensures.step c.in_ok-number-in-None-2.was c.write-in-None-2.ensures).in_step;
    }
