use Rattle.boards.specs.Full.{full_in}
use Rattle.boards.proofs.MemoryBoardBoard.blocks.Goals as goal

pub returns-clause-full : goal.returns-clause-full
returns-clause-full c = full_in c.args.self.now.bytes.now
