use Rattle.std.proofs.Common.{◌∙◌, rules}
use Rattle.extent_map.proofs.Counted.{counted_same}
use Rattle.extent_map.proofs.map.ExtentMap.find_counted.Goals as goal

pub returns-clause-answer : goal.returns-clause-answer
returns-clause-answer g c = search rules ∙ counted_same _ c.args.self.now.held c.args.file c.args.block
