use Rattle.std.proofs.Common.{◌∙◌}
use Rattle.store.proofs.Parts.{clauses}
use Rattle.store.proofs.Leaving.{in_files, in_reach, demotes}
use Rattle.store.proofs.StoreBlockStore.demote.Goals as goal

pub returns : goal.returns
returns g c =
    let v = c.args.self.now.in_step in
    let there = in_files c.args.file v c.admit_file.ensures c.in_ok-admit_file.was in
    let reach = in_reach c.args.file v c.admit_file.ensures c.in_ok-admit_file.was in
    let low = c.copy_down.ensures.lower there reach in
    let map = c.copy_down.ensures.map in
    clauses (
    demotes c.args.file v c.admit_file.ensures c.in_ok-admit_file.was
    (c.vacate_file.ensures.room ∙ map.same_room) map.same_place (c.width.ensures.answer ∙ low.same_width)
    c.vacate_file.ensures.step c.copy_down.ensures.board low)

pub invariant_of-self-2 : goal.invariant_of-self-2
invariant_of-self-2 g c =
    let v = c.args.self.now.in_step in
    let there = in_files c.args.file v c.admit_file.ensures c.in_ok-admit_file.was in
    let reach = in_reach c.args.file v c.admit_file.ensures c.in_ok-admit_file.was in
    let low = c.copy_down.ensures.lower there reach in
    let map = c.copy_down.ensures.map in record {
      in_step = (
          demotes c.args.file v c.admit_file.ensures c.in_ok-admit_file.was
          (c.vacate_file.ensures.room ∙ map.same_room) map.same_place (c.width.ensures.answer ∙ low.same_width)
          c.vacate_file.ensures.step c.copy_down.ensures.board low).in_step;
    }
