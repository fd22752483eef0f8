use Rattle.std.proofs.Common.{inl, inr, ◌∙◌, arith}
use Rattle.std.proofs.lemmas.Bool.{cases_lt, lt-ltb, le-ltb, cond-true, cond-false}
use Rattle.block_set.proofs.Rows.{clear_past}
use Rattle.block_set.proofs.BlockSet.remove.Goals as goal

pub returns : goal.returns
returns c = elim (cases_lt c.args.number 4096) [
  | inl l ↦ c.put.ensures ∙ cond-true _ _ _ (lt-ltb c.args.number 4096 l)
  | inr l ↦ c.put.ensures ∙ cond-false _ _ _ (le-ltb c.args.number 4096 l) ∙ clear_past c.args.self.now.words c.args.number (omega arith)
]
