use Rattle.extents.proofs.OneRun.{run_keys}
use Rattle.extents.proofs.laws.law_run_keys.Goals as goal

pub returns : goal.returns
returns c = run_keys
