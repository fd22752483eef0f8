use Rattle.key_rule.proofs.Worked.{cut_in_two}
use Rattle.key_rule.proofs.case_cut_in_two.Goals as goal

pub returns : goal.returns
returns c = cut_in_two
