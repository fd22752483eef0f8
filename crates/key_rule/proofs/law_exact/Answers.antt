use Rattle.key_rule.proofs.Changes.{exact}
use Rattle.key_rule.proofs.law_exact.Goals as goal

pub returns : goal.returns
returns c = exact
