use Rattle.std.proofs.lemmas.Result.{err_from_is_err_and}
use Rattle.store.proofs.Parts.{clauses}
use Rattle.store.proofs.Leaving.{not_admitted, keeps_all, clears_all}
use Rattle.store.proofs.StoreBlockStore.clear.Goals as goal

pub returns-in_err-admit_clear : goal.returns-in_err-admit_clear
returns-in_err-admit_clear g c =
    let p = err_from_is_err_and c.from_residual.result c.from_residual.ensures.1 in
    rw (p.1, p.2) (clauses (
    not_admitted c.args.file c.args.first c.args.n c.args.self.now.in_step c.admit_clear.ensures c.in_err-admit_clear.field-0.0
    c.in_err-admit_clear.was))

-- the map has refused
pub returns-in_err-count : goal.returns-in_err-count
returns-in_err-count g c =
    let p = err_from_is_err_and c.from_residual-in_err-count.result c.from_residual-in_err-count.ensures.1 in
    rw (p.1, p.2) (clauses (
    keeps_all c.args.file c.args.first c.args.n c.args.self.now.in_step c.admit_clear.ensures c.in_ok-admit_clear.was
    (g.met.L.Reading.few c.args.self.now.lower) (g.met.L.Reading.narrow c.args.self.now.lower)
    c.vacate.ensures.room c.vacate.ensures.step c.in_err-count.field-0.0 c.in_err-count.was))

pub returns : goal.returns
returns g c = clauses (
    clears_all c.args.file c.args.first c.args.n c.args.self.now.in_step c.admit_clear.ensures c.in_ok-admit_clear.was
    (g.met.L.Reading.few c.args.self.now.lower) (g.met.L.Reading.narrow c.args.self.now.lower)
    c.vacate.ensures.room c.vacate.ensures.step c.in_ok-count.count c.in_ok-count.was c.clear.ensures)

pub invariant_of-self-2 : goal.invariant_of-self-2
invariant_of-self-2 g c = record {
  in_step = (
      clears_all c.args.file c.args.first c.args.n c.args.self.now.in_step c.admit_clear.ensures c.in_ok-admit_clear.was
      (g.met.L.Reading.few c.args.self.now.lower) (g.met.L.Reading.narrow c.args.self.now.lower)
      c.vacate.ensures.room c.vacate.ensures.step c.in_ok-count.count c.in_ok-count.was c.clear.ensures).in_step;
}
