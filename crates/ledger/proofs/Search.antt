-- What the search for a free board block finds.
use Rattle.std.proofs.Common.{◌≡◌, ℕ, zero, suc, ◌+◌, ◌-◌, ◌<◌, ◌≤◌, Bool, true, false, cond, leb, Some, None, Option, refl, ap, ◌∙◌, subst, ap₂, inl, inr, arith}
use Rattle.std.proofs.lemmas.Bool.{cases_eq, cases_lt, cases_order, cond-true, cond-false, le-leb, lt-leb, both_ways}
use Rattle.ledger.specs.Free.{first_free, or_else, free_from, steps, NearestFree, FindsNearest}

-- ---- upwards

-- What is found in the numbers from one up to another: none if all are taken, else the lowest that is not.
abbrev pub Lowest : (ℕ → Bool) → ℕ → ℕ → Option ℕ → Type 0
Lowest t from to None = (q : ℕ) → from ≤ q → q < to → t q ≡ true
Lowest t from to (Some p) = (from ≤ p) × (p < to) × (t p ≡ false) × ((q : ℕ) → from ≤ q → q < p → t q ≡ true)

pub lowest : (t : ℕ → Bool) (from n : ℕ) → Lowest t from (from + n) (first_free t from n)
lowest t from zero = λ q a b. absurd (omega arith)
lowest t from (suc n) = go (t from) refl (first_free t (suc from) n) (lowest t (suc from) n)
  where
    go : (v : Bool) → t from ≡ v → (o : Option ℕ) → Lowest t (suc from) (suc from + n) o → Lowest t from (from + suc n) (cond v o (Some from))
    go false e o f = (omega arith, omega arith, e, λ q a b. absurd (omega arith))
    go true e None f = λ q a b. elim (cases_eq q from) [ inl s ↦ ap t s ∙ e | inr d ↦ f q (omega arith) (omega arith) ]
    go true e (Some p) f = (
      omega (arith, f.0),
      omega (arith, f.1),
      f.2,
      λ q a b. elim (cases_eq q from) [ inl s ↦ ap t s ∙ e | inr d ↦ f.3 q (omega arith) (omega arith) ],
    )

-- ---- going round

steps_up : (size from q : ℕ) → from ≤ q → steps size from q ≡ q - from
steps_up size from q l = cond-true (leb from q) (q - from) (size - from + q) (le-leb from q l)

steps_round : (size from q : ℕ) → q < from → steps size from q ≡ size - from + q
steps_round size from q l = cond-false (leb from q) (q - from) (size - from + q) (lt-leb from q l)

pub nearest : FindsNearest
nearest t size from l = go (first_free t from (size - from)) (lowest t from (size - from)) (first_free t 0 size) (lowest t 0 size)
  where
    go : (o : Option ℕ) → Lowest t from (from + (size - from)) o → (u : Option ℕ) → Lowest t 0 (0 + size) u → NearestFree t size from (or_else o u)
    go (Some p) f u g = (
      omega (arith, f.1),
      f.2,
      λ q a b. elim (cases_lt q from) [
        | inl m ↦ absurd (omega (arith, f.0, f.1, steps_round size from q m, steps_up size from p f.0))
        | inr m ↦ f.3 q m (omega (arith, f.0, steps_up size from q m, steps_up size from p f.0))
      ],
    )
    go None f None g = λ q a. g q (omega arith) (omega arith)
    go None f (Some p) g = (
      omega (arith, g.1),
      g.2,
      λ q a b. elim (cases_lt p from) [
        | inl m ↦ elim (cases_lt q from) [
          | inl k ↦ g.3 q (omega arith) (omega (arith, steps_round size from q k, steps_round size from p m))
          | inr k ↦ f q k (omega arith)
        ]
        | inr m ↦ absurd (both_ways (t p) g.2 (f p m (omega (arith, g.1))))
      ],
    )

-- ---- found or not, wherever the search begins

abbrev pub Found : (ℕ → Bool) → ℕ → Option ℕ → Type 0
Found t size None = (q : ℕ) → q < size → t q ≡ true
Found t size (Some p) = (p < size) × (t p ≡ false)

pub finds : (t : ℕ → Bool) (size from : ℕ) → Found t size (free_from t size from)
finds t size from = go (first_free t from (size - from)) (lowest t from (size - from)) (first_free t 0 size) (lowest t 0 size)
  where
    go : (o : Option ℕ) → Lowest t from (from + (size - from)) o → (u : Option ℕ) → Lowest t 0 (0 + size) u → Found t size (or_else o u)
    go (Some p) f u g = (omega (arith, f.0, f.1), f.2)
    go None f None g = λ q a. g q (omega arith) (omega arith)
    go None f (Some p) g = (omega (arith, g.1), g.2)

pub found_free : (t : ℕ → Bool) (size from p : ℕ) → free_from t size from ≡ Some p → (p < size) × (t p ≡ false)
found_free t size from p e = subst (Found t size) e (finds t size from)

pub found_none : (t : ℕ → Bool) (size from : ℕ) → free_from t size from ≡ None → (q : ℕ) → q < size → t q ≡ true
found_none t size from e = subst (Found t size) e (finds t size from)

-- Only what is taken below the size counts.
first_same : (t u : ℕ → Bool) (from n : ℕ) → ((q : ℕ) → from ≤ q → q < from + n → t q ≡ u q) → first_free t from n ≡ first_free u from n
first_same t u from zero e = refl
first_same t u from (suc n) e =
    ap₂ (λ (v : Bool) (o : Option ℕ). cond v o (Some from)) (e from (omega arith) (omega arith))
    (first_same t u (suc from) n (λ q a b. e q (omega arith) (omega arith)))

pub free_same : (t u : ℕ → Bool) (size from : ℕ) → ((q : ℕ) → q < size → t q ≡ u q) → free_from t size from ≡ free_from u size from
free_same t u size from e =
    ap₂ or_else (first_same t u from (size - from) (λ q a b. e q (omega arith))) (first_same t u 0 size (λ q a b. e q (omega arith)))

-- ---- whoever finds so finds the same

-- two lowest are one
lowest_same : (t : ℕ → Bool) (from to : ℕ) (o u : Option ℕ) → Lowest t from to o → Lowest t from to u → o ≡ u
lowest_same t from to None None f g = refl
lowest_same t from to None (Some p) f g = absurd (both_ways (t p) g.2 (f p g.0 g.1))
lowest_same t from to (Some p) None f g = absurd (both_ways (t p) f.2 (g p f.0 f.1))
lowest_same t from to (Some p) (Some q) f g =
    elim (cases_order p q) [
      | inl e ↦ ap Some e
      | inr d ↦ elim d [
        | inl l ↦ absurd (both_ways (t p) f.2 (g.3 p f.0 l))
        | inr l ↦ absurd (both_ways (t q) g.2 (f.3 q g.0 l))
      ]
    ]

pub lowest_only : (t : ℕ → Bool) (from n : ℕ) (o : Option ℕ) → Lowest t from (from + n) o → o ≡ first_free t from n
lowest_only t from n o f = lowest_same t from (from + n) o (first_free t from n) f (lowest t from n)

steps_apart : (size from p q : ℕ) → from < size → p < size → q < size → steps size from p ≡ steps size from q → p ≡ q
steps_apart size from p q l lp lq e =
    elim (cases_lt p from) [
      | inl a ↦ elim (cases_lt q from) [
        | inl b ↦ omega (arith, steps_round size from p a, steps_round size from q b)
        | inr b ↦ absurd (omega (arith, steps_round size from p a, steps_up size from q b))
      ]
      | inr a ↦ elim (cases_lt q from) [
        | inl b ↦ absurd (omega (arith, steps_up size from p a, steps_round size from q b))
        | inr b ↦ omega (arith, steps_up size from p a, steps_up size from q b)
      ]
    ]

-- two nearest are one
nearest_same : (t : ℕ → Bool) (size from : ℕ) → from < size → (o u : Option ℕ) → NearestFree t size from o → NearestFree t size from u → o ≡ u
nearest_same t size from l None None f g = refl
nearest_same t size from l None (Some p) f g = absurd (both_ways (t p) g.1 (f p g.0))
nearest_same t size from l (Some p) None f g = absurd (both_ways (t p) f.1 (g p f.0))
nearest_same t size from l (Some p) (Some q) f g =
    elim (cases_order (steps size from p) (steps size from q)) [
      | inl e ↦ ap Some (steps_apart size from p q l f.0 g.0 e)
      | inr d ↦ elim d [
        | inl m ↦ absurd (both_ways (t p) f.1 (g.2 p f.0 m))
        | inr m ↦ absurd (both_ways (t q) g.1 (f.2 q g.0 m))
      ]
    ]

pub nearest_only : (t : ℕ → Bool) (size from : ℕ) → from < size → (o : Option ℕ) → NearestFree t size from o → o ≡ free_from t size from
nearest_only t size from l o f = nearest_same t size from l o (free_from t size from) f (nearest t size from l)

-- On a board of no blocks none is found.
pub none_of_none : (t : ℕ → Bool) (from : ℕ) → free_from t 0 from ≡ None
none_of_none t from = go (free_from t 0 from) (finds t 0 from)
  where
    go : (o : Option ℕ) → Found t 0 o → o ≡ None
    go None f = refl
    go (Some p) f = absurd (omega (arith, f.0))
