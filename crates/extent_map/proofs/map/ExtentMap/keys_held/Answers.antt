use Rattle.std.proofs.Common.{sym, ◌∙◌}
use Rattle.key_rule.proofs.Changes.{exact}
use Rattle.extent_map.proofs.map.ExtentMap.keys_held.Goals as goal

pub returns-clause-number : goal.returns-clause-number
returns-clause-number g c = c.held.ensures ∙ sym (exact.number _ c.args.self.now.held)

pub returns-clause-keys : goal.returns-clause-keys
returns-clause-keys g c = exact.keys _ c.args.self.now.held
