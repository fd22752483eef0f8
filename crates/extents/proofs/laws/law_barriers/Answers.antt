use Rattle.extents.proofs.Barriers.{barrier_multiple, barrier_start, barrier_end, barrier_hole, barrier_after, barrier_break}
use Rattle.extents.proofs.laws.law_barriers.Goals as goal

pub returns : goal.returns
returns c = record {
  multiple = barrier_multiple;
  key_start = barrier_start;
  key_end = barrier_end;
  before_hole = barrier_hole;
  after_hole = barrier_after;
  break = barrier_break;
}
