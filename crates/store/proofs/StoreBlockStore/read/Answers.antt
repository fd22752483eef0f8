use Rattle.store.proofs.Showing.{clauses, from_board, from_lower}
use Rattle.store.proofs.StoreBlockStore.read.Goals as goal

pub returns-in-Some : goal.returns-in-Some
returns-in-Some g c = clauses (
    from_board c.args.file c.args.block c.args.to.now c.args.self.now.in_step c.admit_read.ensures c.in_ok-admit_read.was
    c.board_of.ensures.map.same_room c.board_of.ensures.map.same_place c.in-Some.ensures.answer c.read.ensures)

pub returns-in-None : goal.returns-in-None
returns-in-None g c = clauses (
    from_lower c.args.file c.args.block c.args.to.now c.args.self.now.in_step c.admit_read.ensures c.in_ok-admit_read.was
    c.board_of.ensures.map.same_room c.board_of.ensures.map.same_place c.in-None.ensures.answer c.read-in-None.ensures)
