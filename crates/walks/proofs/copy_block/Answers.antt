use Rattle.std.proofs.Common.{◌≡◌, length, refl, rules}
use Rattle.walks.proofs.Grants.{copies_one}
use Rattle.walks.proofs.copy_block.Goals as goal

pub returns-clause-lower : goal.returns-clause-lower
returns-clause-lower g c = λ lf lb ln.
    let kept : length c.read.new.to ≡ 4096 = search rules in
    copies_one _ _ c.args.number _ c.read.new.to _ _ _ _ _ _ c.args.file c.args.block _ _ _ _ c.read.ensures c.write.ensures refl kept ln lf lb
