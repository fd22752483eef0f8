-- How many slots a search looks at.
use Rattle.std.proofs.Common.{◌≡◌, ℕ, zero, suc, ◌+◌, ◌<◌, ◌≤◌, Bool, true, false, not, ◌&&◌, eqb, List, sym, refl, ap, ◌∙◌, inl, inr, arith}
use Rattle.std.proofs.lemmas.Bool.{cases_eq, cond-true, cond-false, not_from_true, not_from_false, or_from, or_left, or_right, and_from, and_left, and_right, eq-eqb, ne_eqb}
use Rattle.probing.specs.declared.slots.Slot.{Slot}
use Rattle.probing.specs.declared.slots.Probe.TheVariants.{Found, Free, Full}
use Rattle.probing.specs.Slots.{used, row_in, slot_at, Has, dist, Passed, Probed, tried, onto, ends, looked}
use Rattle.probing.proofs.Distances.{onto_in, dist_onto, onto_dist, dist_lt}

tried_at : (t : ℕ → Bool) (m j : ℕ) → j < m → ((i : ℕ) → i < j → t i ≡ false) → t j ≡ true → tried t m ≡ j + 1
tried_at t zero j l none at = absurd (omega arith)
tried_at t (suc m) zero l none at = let e = cond-true (t 0) 0 (tried (λ i. t (i + 1)) m) at in omega arith
tried_at t (suc m) (suc j) l none at =
    let e = cond-false (t 0) 0 (tried (λ i. t (i + 1)) m) (none 0 (omega arith)) in
    let r = tried_at (λ i. t (i + 1)) m j (omega arith) (λ i k. none (i + 1) (omega arith)) (ap t (let z : j + 1 ≡ suc j = omega arith in z) ∙ at) in
    omega arith

tried_all : (t : ℕ → Bool) (m : ℕ) → ((i : ℕ) → i < m → t i ≡ false) → tried t m ≡ m
tried_all t zero none = refl
tried_all t (suc m) none =
    let e = cond-false (t 0) 0 (tried (λ i. t (i + 1)) m) (none 0 (omega arith)) in
    let r = tried_all (λ i. t (i + 1)) m (λ i k. none (i + 1) (omega arith)) in
    omega arith

ends_not : (f b : ℕ) (s : Slot) → used s ≡ true → (Has f b s → ⊥) → ends f b s ≡ false
ends_not f b s u n = or_from (not (used s)) (eqb (row_in s).file f && eqb (row_in s).block b) (not_from_true (used s) u) (elim (cases_eq (row_in s).file f) [
  | inl p ↦ and_right (eqb (row_in s).file f) (eqb (row_in s).block b) (ne_eqb (row_in s).block b (λ q. n (p, q)))
  | inr p ↦ and_left (eqb (row_in s).file f) (eqb (row_in s).block b) (ne_eqb (row_in s).file f p)
])

ends_free : (f b : ℕ) (s : Slot) → used s ≡ false → ends f b s ≡ true
ends_free f b s u = or_left (not (used s)) (eqb (row_in s).file f && eqb (row_in s).block b) (not_from_false (used s) u)

ends_key : (f b : ℕ) (s : Slot) → Has f b s → ends f b s ≡ true
ends_key f b s h = or_right (not (used s)) (eqb (row_in s).file f && eqb (row_in s).block b)
    (and_from (eqb (row_in s).file f) (eqb (row_in s).block b) (eq-eqb (row_in s).file f h.0) (eq-eqb (row_in s).block b h.1))

module _ (n : ℕ) (xs : List Slot) (from f b : ℕ) (l : from < n) where
  abbrev t : ℕ → Bool
  t k = ends f b (slot_at xs (onto n from k))

  passed_by : (m : ℕ) → m ≤ n → ((x : ℕ) → x < n → dist n from x < m → Passed xs f b x) → (k : ℕ) → k < m → t k ≡ false
  passed_by m h none k q =
      let p = none (onto n from k) (onto_in n from k l (omega arith)) (omega (arith, dist_onto n from k l (omega arith))) in
      ends_not f b (slot_at xs (onto n from k)) p.0 p.1

  ended : (i : ℕ) → i < n → ((x : ℕ) → x < n → dist n from x < dist n from i → Passed xs f b x) → ends f b (slot_at xs i) ≡ true
      → dist n from i + 1 ≡ looked n xs from f b
  ended i h none at =
      let d = dist_lt n from i l h in
      sym (tried_at t n (dist n from i) d (passed_by (dist n from i) (omega arith) none) (ap (λ (x : ℕ). ends f b (slot_at xs x)) (onto_dist n from i l h) ∙ at))

  pub looked_found : (i : ℕ) → Probed n xs from f b (Found i) → dist n from i + 1 ≡ looked n xs from f b
  looked_found i pr = ended i pr.0 pr.3 (ends_key f b (slot_at xs i) pr.2)

  pub looked_free : (i : ℕ) → Probed n xs from f b (Free i) → dist n from i + 1 ≡ looked n xs from f b
  looked_free i pr = ended i pr.0 pr.2 (ends_free f b (slot_at xs i) pr.1)

  pub looked_full : Probed n xs from f b Full → n ≡ looked n xs from f b
  looked_full pr = sym (tried_all t n (passed_by n (omega arith) (λ x h _. pr x h)))

pub looked_none : (n : ℕ) (xs : List Slot) (from f b : ℕ) → n ≡ 0 → n ≡ looked n xs from f b
looked_none n xs from f b e = e ∙ sym (ap (λ (m : ℕ). tried (λ k. ends f b (slot_at xs (onto n from k))) m) e)
