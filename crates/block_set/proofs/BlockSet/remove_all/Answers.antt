use Rattle.std.proofs.Common.{◌≡◌, length, get_or, ap, ◌∙◌, arith}
use Rattle.block_set.specs.Members.{member}
use Rattle.block_set.proofs.Fewer.{fewer, partly, partly_none, partly_more, partly_all}
use Rattle.block_set.proofs.BlockSet.remove_all.Goals as goal

pub loop-i-init : goal.loop-i-init
loop-i-init c = partly_none (member c.args.self.now) (member c.args.others.now)

pub loop-i-preserved : goal.loop-i-preserved
loop-i-preserved c =
    let i = c.loop-i.i in
    partly_more c.loop-i.self.words c.args.others.now.words (member c.args.self.now) i _ (omega arith) c.loop-i.invariant
    (fewer 64 (get_or c.loop-i.self.words i 0) (get_or c.args.others.now.words i 0) (omega arith) (omega arith))

pub returns : goal.returns
returns c =
    let e : c.loop-i.i ≡ length c.args.self.now.words = omega arith in
    c.loop-i.invariant ∙ ap (partly (member c.args.self.now) (member c.args.others.now)) e
    ∙ partly_all c.args.self.now.words (member c.args.others.now)
