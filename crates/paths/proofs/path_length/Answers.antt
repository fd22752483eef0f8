use Rattle.std.proofs.Common.{rules}
use Rattle.extents.proofs.Calls.{low_ones, length_past, length_here}
use Rattle.paths.proofs.path_length.Goals as goal

pub returns-in_default : goal.returns-in_default
returns-in_default c = search (rules, length_past)

pub overflow_add-result : goal.overflow_add-result
overflow_add-result c = search (rules, low_ones)

pub returns : goal.returns
returns c = search (rules, length_here)
