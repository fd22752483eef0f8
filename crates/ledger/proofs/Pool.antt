-- What the pool holds once the blocks of a row have handed their board blocks back.
use Rattle.std.proofs.Common.{◌≡◌, ℕ, zero, suc, ◌+◌, ◌-◌, ◌<◌, ◌≤◌, Bool, true, false, ◌&&◌, eqb, ◌≢◌, ◌⊎◌, is_some, Some, None, Option, sym, refl, ap, ◌∙◌, ap₂, inl, inr, add-one, arith}
use Rattle.std.proofs.lemmas.Bool.{cases_eq, cond-true, cond-false, eq-eqb, ne_eqb, both_ways}
use Rattle.blocks.specs.Blocks.{one, count}
use Rattle.blocks.proofs.Sums.{sum_change}
use Rattle.ledger.specs.Store.{put, placed, hand_back, freed}

-- ---- put

pub put_here : {X : Type 0} (g : ℕ → X) (k : ℕ) (v : X) (i : ℕ) → i ≡ k → put g k v i ≡ v
put_here g k v i e = cond-true (eqb i k) v (g i) (eq-eqb i k e)

pub put_other : {X : Type 0} (g : ℕ → X) (k : ℕ) (v : X) (i : ℕ) → i ≢ k → put g k v i ≡ g i
put_other g k v i d = cond-false (eqb i k) v (g i) (ne_eqb i k d)

pub none_some : {X A : Type 0} {o : Option A} {a : A} → o ≡ None → o ≡ Some a → X
none_some {X} {A} {o} {a} e h = let z : ◌≡◌ {A = ℕ} 0 1 = cc in absurd (omega arith)

pub some_same : {p q : ℕ} → ◌≡◌ {A = Option ℕ} (Some p) (Some q) → p ≡ q
some_same {p} {q} e = cc

-- ---- one block

abbrev Handed : Bool → Option ℕ → (ℕ → Bool) → ℕ → Type 0
Handed v o t q = ((v ≡ true) × (o ≡ Some q) × (hand_back v o t q ≡ false)) ⊎ ((v ≡ true → o ≡ Some q → ⊥) × (hand_back v o t q ≡ t q))

handed : (v : Bool) (o : Option ℕ) (t : ℕ → Bool) (q : ℕ) → Handed v o t q
handed false o t q = inr (λ e _. both_ways false refl e, refl)
handed true None t q = inr (λ _ e. none_some refl e, refl)
handed true (Some p) t q =
    elim (cases_eq q p) [
      | inl e ↦ inl (refl, ap Some (sym e), put_here t p false q e)
      | inr d ↦ inr (λ _ e. d (sym (some_same e)), put_other t p false q d)
    ]

-- ---- the chosen blocks of a row

module _ (t : ℕ → Bool) (row : ℕ → Option ℕ) (chosen : ℕ → Bool) where
  -- the board block of a chosen block is free
  pub freed_chosen : (n b q : ℕ) → b < n → chosen b ≡ true → row b ≡ Some q → freed t row chosen n q ≡ false
  freed_chosen zero b q l e r = absurd (omega arith)
  freed_chosen (suc n) b q l e r =
      elim (handed (chosen n) (row n) (freed t row chosen n) q) [
        | inl h ↦ h.2
        | inr h ↦ h.1 ∙ freed_chosen n b q (elim (cases_eq b n) [ inl k ↦ absurd (h.0 (ap chosen (sym k) ∙ e) (ap row (sym k) ∙ r)) | inr k ↦ omega arith ]) e r
      ]

  -- nothing is taken that was free
  pub freed_taken : (n q : ℕ) → freed t row chosen n q ≡ true → t q ≡ true
  freed_taken zero q e = e
  freed_taken (suc n) q e =
      elim (handed (chosen n) (row n) (freed t row chosen n) q) [
        | inl h ↦ absurd (both_ways _ h.2 e)
        | inr h ↦ freed_taken n q (sym h.1 ∙ e)
      ]

  -- a board block that no chosen block has stays as it is
  pub freed_other : (n q : ℕ) → ((b : ℕ) → b < n → chosen b ≡ true → row b ≡ Some q → ⊥) → freed t row chosen n q ≡ t q
  freed_other zero q k = refl
  freed_other (suc n) q k =
      elim (handed (chosen n) (row n) (freed t row chosen n) q) [
        | inl h ↦ absurd (k n (omega arith) h.0 h.1)
        | inr h ↦ h.1 ∙ freed_other n q (λ b l. k b (omega arith))
      ]

  -- As many fewer are taken as chosen blocks have a place.
  pub freed_count : (n size : ℕ) → ((b p : ℕ) → row b ≡ Some p → (p < size) × (t p ≡ true)) → ((b c p : ℕ) → row b ≡ Some p → row c ≡ Some p → b ≡ c)
      → count size (freed t row chosen n) + placed row chosen n ≡ count size t
  freed_count zero size low apart = omega arith
  freed_count (suc n) size low apart = go (freed_count n size low apart) (chosen n) (row n) refl
    where
      go : count size (freed t row chosen n) + placed row chosen n ≡ count size t → (v : Bool) (o : Option ℕ) → row n ≡ o
          → count size (hand_back v o (freed t row chosen n)) + (one (v && is_some o) + placed row chosen n) ≡ count size t
      go ih false o e = omega arith
      go ih true None e = omega arith
      go ih true (Some p) e =
          let u = freed t row chosen n in
          let was : u p ≡ true = freed_other n p (λ b l _ r. let k = apart b n p r e in omega arith) ∙ (low n p e).1 in
          let step = sum_change size (λ i. one (u i)) (λ i. one (put u p false i)) p (low n p e).0 (λ i d. ap one (put_other u p false i d)) in
          let x = ap one was in
          let y = ap one (put_here u p false p refl) in
          omega arith

-- ---- going up a row, from one block with a place to the next

idle : (v : Bool) (o : Option ℕ) (u : ℕ → Bool) → (v ≡ true → o ≡ None) → (hand_back v o u ≡ u) × (one (v && is_some o) ≡ 0)
idle false o u e = (refl, refl)
idle true None u e = (refl, refl)
idle true (Some p) u e = none_some (e refl) refl

module _ (t : ℕ → Bool) (row : ℕ → Option ℕ) (chosen : ℕ → Bool) where
  pub freed_next : (b p : ℕ) → chosen b ≡ true → row b ≡ Some p
      → (freed t row chosen (b + 1) ≡ put (freed t row chosen b) p false) × (placed row chosen (b + 1) ≡ placed row chosen b + 1)
  freed_next b p e r = (
    ap (freed t row chosen) (add-one b) ∙ ap₂ (λ (v : Bool) (o : Option ℕ). hand_back v o (freed t row chosen b)) e r,
    (let more = ap₂ (λ (v : Bool) (o : Option ℕ). one (v && is_some o)) e r in
        let step = ap (placed row chosen) (add-one b) in
        omega arith),
  )

  skip_by : (b k : ℕ) → ((c : ℕ) → b ≤ c → c < b + k → chosen c ≡ true → row c ≡ None)
      → (freed t row chosen (b + k) ≡ freed t row chosen b) × (placed row chosen (b + k) ≡ placed row chosen b)
  skip_by b zero e = let z : b + 0 ≡ b = omega arith in (ap (freed t row chosen) z, ap (placed row chosen) z)
  skip_by b (suc k) e =
      let z : b + suc k ≡ suc (b + k) = omega arith in
      let h = skip_by b k (λ c l m. e c l (omega arith)) in
      let i = idle (chosen (b + k)) (row (b + k)) (freed t row chosen (b + k)) (e (b + k) (omega arith) (omega arith)) in
      let last : placed row chosen (suc (b + k)) ≡ placed row chosen b = omega (arith, h.1, i.1) in
      (ap (freed t row chosen) z ∙ (i.0 ∙ h.0), ap (placed row chosen) z ∙ last)

  -- where no chosen block has a place
  pub freed_skip : (b c : ℕ) → b ≤ c → ((d : ℕ) → b ≤ d → d < c → chosen d ≡ true → row d ≡ None)
      → (freed t row chosen c ≡ freed t row chosen b) × (placed row chosen c ≡ placed row chosen b)
  freed_skip b c l e =
      let z : b + (c - b) ≡ c = omega arith in
      let h = skip_by b (c - b) (λ d m n. e d m (omega arith)) in
      (ap (freed t row chosen) (sym z) ∙ h.0, ap (placed row chosen) (sym z) ∙ h.1)

  -- only which blocks are chosen below n counts
  pub freed_same : (also : ℕ → Bool) (n : ℕ) → ((b : ℕ) → b < n → chosen b ≡ also b)
      → (freed t row chosen n ≡ freed t row also n) × (placed row chosen n ≡ placed row also n)
  freed_same also zero e = (refl, refl)
  freed_same also (suc n) e =
      let h = freed_same also n (λ b l. e b (omega arith)) in
      let v = e n (omega arith) in
      let last = ap (λ (w : Bool). one (w && is_some (row n))) v in
      (ap₂ (λ (w : Bool) (u : ℕ → Bool). hand_back w (row n) u) v h.0, omega (arith, h.1))
