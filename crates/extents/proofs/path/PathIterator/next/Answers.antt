use Rattle.std.proofs.Common.{rules}
use Rattle.extents.proofs.Calls.{path_done, path_more}
use Rattle.extents.proofs.path.PathIterator.next.Goals as goal

pub returns-clause-steps : goal.returns-clause-steps
returns-clause-steps c = search (rules, path_done, path_more)

pub returns-clause-goes : goal.returns-clause-goes
returns-clause-goes c = search (rules, path_done, path_more)
