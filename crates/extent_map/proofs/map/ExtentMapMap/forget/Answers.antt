use Rattle.std.proofs.Common.{◌≡◌, ℕ, sym, ap, ◌∙◌, subst, arith}
use Rattle.key_rule.specs.Keyed.{Held, keyed, placing}
use Rattle.maps.specs.Steps.{forgotten, ground_of_block}
use Rattle.key_rule.proofs.Changes.{forgotten_keys, held_forgotten}
use Rattle.key_rule.proofs.Outcomes.{forgotten_by}
use Rattle.extent_map.proofs.Numbers.{granted, below}
use Rattle.extent_map.proofs.map.ExtentMapMap.forget.Goals as goal

pub invariant_of-self : goal.invariant_of-self
invariant_of-self g c = record {
  held = subst Held (sym (c.drop_keys.ensures.after ∙ forgotten_keys _ c.args.self.now.held c.in_ok-file.file)) (held_forgotten _ c.args.self.now.held c.in_ok-file.file);
}

pub returns-clause-step : goal.returns-clause-step
returns-clause-step g c =
    let n = granted {X = ℕ × ℕ} c.args.file 0 (ground_of_block c.args.file 0) (c.args.file, 0) (c.in_ok-file.file, c.in_ok-file.field-0-1) c.in_ok-file.ensures in
    forgotten_by _ _ c.args.file (omega (arith, below c.args.file _ n.0))
    (subst (λ f. g.T.Table.holding c.drop_keys.new.table ≡ keyed (forgotten (placing (g.T.Table.holding c.args.self.now.table)) f)) (ap (λ (p : ℕ × ℕ). p.0) n.1)
    (c.drop_keys.ensures.after ∙ forgotten_keys _ c.args.self.now.held c.in_ok-file.file))
