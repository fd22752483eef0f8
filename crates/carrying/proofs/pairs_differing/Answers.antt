use Rattle.std.proofs.Common.{cond, not, eqb, ◌^◌, ◌-◌, rules, tests, arith}
use Rattle.std.proofs.lemmas.Iterator.{YieldsList-from_slice, YieldsList-from_zip, YieldsList-from_map}
use Rattle.std.proofs.lemmas.Iterator.Adapters.{at_most_from_yields_List, fits_from_length}
use Rattle.std.proofs.lemmas.Iterator.Consumers.{YieldsList-at, sum_by_from_yields_List}
use Rattle.carrying.proofs.Steps.{few_pairs}
use Rattle.carrying.proofs.pairs_differing.Goals as goal

pub sum-requires-clause-fits : goal.sum-requires-clause-fits
sum-requires-clause-fits c =
    fits_from_length _ _ (2 ^ 64 - 1) (2 ^ 64)
    (at_most_from_yields_List
    (YieldsList-at c.map.ensures.source (YieldsList-from_zip
    (YieldsList-at c.zip.ensures.first (YieldsList-from_slice c.args.left.now cc))
    (YieldsList-at c.zip.ensures.second (YieldsList-from_slice c.args.right.now cc))))
    (few_pairs c.args.left.now c.args.right.now (search (rules))))
    c.map.ensures.closure (omega arith) (λ x r q k. search (rules, tests))

pub returns : goal.returns
returns c =
    sum_by_from_yields_List _ _ c.map.result _ c.sum.ensures.ran
    (YieldsList-from_map _ (λ p. cond (not (eqb p.0 p.1)) 1 0)
    (YieldsList-at c.map.ensures.source (YieldsList-from_zip
    (YieldsList-at c.zip.ensures.first (YieldsList-from_slice c.args.left.now cc))
    (YieldsList-at c.zip.ensures.second (YieldsList-from_slice c.args.right.now cc))))
    c.map.ensures.closure (λ x r q k. search (rules, tests)))
