-- The search from the goal on, and then below it.
use Rattle.std.proofs.Common.{◌≡◌, ℕ, ◌+◌, ◌-◌, ◌<◌, ◌≤◌, min, Bool, true, Some, None, Option, sym, refl, ap, ◌∙◌, subst, inl, inr, arith}
use Rattle.std.proofs.lemmas.Bool.{cases_lt}
use Rattle.ledger.specs.Free.{first_free, or_else, free_from}
use Rattle.ledger.proofs.Search.{Lowest, lowest, lowest_only}

-- Where none is free from the goal on, the first free one is below the goal.
pub below_goal : (t : ℕ → Bool) (size goal : ℕ) → first_free t goal (size - goal) ≡ None → first_free t 0 (min goal size - 0) ≡ free_from t size goal
below_goal t size goal e =
    elim (cases_lt goal size) [
      | inl l ↦ lowest_only t 0 size (first_free t 0 (min goal size - 0)) (widen l (first_free t 0 (min goal size - 0)) (lowest t 0 (min goal size - 0)))
      | inr l ↦ ap (first_free t 0) (let z : min goal size - 0 ≡ size = omega arith in z)
    ]
    ∙ sym (ap (λ (o : Option ℕ). or_else o (first_free t 0 size)) e)
  where
    taken : (q : ℕ) → goal ≤ q → q < goal + (size - goal) → t q ≡ true
    taken = subst (Lowest t goal (goal + (size - goal))) e (lowest t goal (size - goal))

    widen : goal < size → (o : Option ℕ) → Lowest t 0 (0 + (min goal size - 0)) o → Lowest t 0 (0 + size) o
    widen l None f = λ q a b. elim (cases_lt q goal) [ inl m ↦ f q a (omega arith) | inr m ↦ taken q m (omega arith) ]
    widen l (Some p) f = (f.0, omega (arith, f.1), f.2, f.3)

-- The first free one from the goal on, or else the first below the goal.
pub halves : (t : ℕ → Bool) (size goal : ℕ) → or_else (first_free t goal (size - goal)) (first_free t 0 (min goal size - 0)) ≡ free_from t size goal
halves t size goal = go (first_free t goal (size - goal)) refl
  where
    go : (o : Option ℕ) → first_free t goal (size - goal) ≡ o → or_else o (first_free t 0 (min goal size - 0)) ≡ free_from t size goal
    go None e = below_goal t size goal e
    go (Some p) e = sym (ap (λ (o : Option ℕ). or_else o (first_free t 0 size)) e)
