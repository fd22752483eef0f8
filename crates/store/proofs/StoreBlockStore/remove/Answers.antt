use Rattle.std.proofs.Common.{refl}
use Rattle.store.proofs.Parts.{clauses}
use Rattle.store.proofs.Leaving.{in_files, removes}
use Rattle.store.proofs.StoreBlockStore.remove.Goals as goal

pub returns : goal.returns
returns g c =
    let v = c.args.self.now.in_step in
    clauses (
    removes c.args.file v c.admit_file.ensures c.in_ok-admit_file.was
    c.vacate_file-count.ensures.room refl c.width.ensures.answer c.vacate_file-count.ensures.step
    (c.clear_file.ensures (in_files c.args.file v c.admit_file.ensures c.in_ok-admit_file.was)))

pub invariant_of-self-2 : goal.invariant_of-self-2
invariant_of-self-2 g c =
    let v = c.args.self.now.in_step in record {
      in_step = (
          removes c.args.file v c.admit_file.ensures c.in_ok-admit_file.was
          c.vacate_file-count.ensures.room refl c.width.ensures.answer c.vacate_file-count.ensures.step
          (c.clear_file.ensures (in_files c.args.file v c.admit_file.ensures c.in_ok-admit_file.was))).in_step;
    }
