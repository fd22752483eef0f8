use Rattle.store.specs.Full.{shown_full}
use Rattle.store.proofs.below.StoreReading.width.Goals as goal

pub returns-clause-full : goal.returns-clause-full
returns-clause-full g c =
    let self = c.args.self.now in shown_full self.in_step (g.met.B.Board.full self.board) c.width.ensures.full
