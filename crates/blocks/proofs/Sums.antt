-- How sums and counts follow a change.
use Rattle.std.proofs.Common.{◌≡◌, ℕ, zero, suc, ◌+◌, ◌<◌, ◌≤◌, Bool, true, false, ◌≢◌, is_some, None, Option, refl, ap, ◌∙◌, inl, inr, arith}
use Rattle.std.proofs.lemmas.Bool.{cases_eq}
use Rattle.blocks.specs.Blocks.{only, changed, one, sum, count, tally_below, tally}
use Rattle.blocks.proofs.Changes.{changed_here, changed_beside, changed_elsewhere, only_here, only_other}

-- ---- sums

pub sum_same : (n : ℕ) (g h : ℕ → ℕ) → ((i : ℕ) → i < n → g i ≡ h i) → sum n g ≡ sum n h
sum_same zero g h e = refl
sum_same (suc n) g h e = let a = sum_same n g h (λ i l. e i (omega arith)) in omega (arith, e n (omega arith))

pub sum_le : (n : ℕ) (g h : ℕ → ℕ) → ((i : ℕ) → i < n → g i ≤ h i) → sum n g ≤ sum n h
sum_le zero g h e = omega arith
sum_le (suc n) g h e = let a = sum_le n g h (λ i l. e i (omega arith)) in omega (arith, e n (omega arith))

pub sum_zero : (n : ℕ) (g : ℕ → ℕ) → ((i : ℕ) → i < n → g i ≡ 0) → sum n g ≡ 0
sum_zero zero g e = refl
sum_zero (suc n) g e = let a = sum_zero n g (λ i l. e i (omega arith)) in omega (arith, e n (omega arith))

pub sum_add : (n : ℕ) (g h k : ℕ → ℕ) → ((i : ℕ) → i < n → g i ≡ h i + k i) → sum n g ≡ sum n h + sum n k
sum_add zero g h k e = refl
sum_add (suc n) g h k e = let a = sum_add n g h k (λ i l. e i (omega arith)) in omega (arith, e n (omega arith))

-- two functions that differ at k alone
pub sum_change : (n : ℕ) (g h : ℕ → ℕ) (k : ℕ) → k < n → ((i : ℕ) → i ≢ k → h i ≡ g i) → sum n h + g k ≡ sum n g + h k
sum_change zero g h k l e = absurd (omega arith)
sum_change (suc n) g h k l e =
    elim (cases_eq n k) [
      | inl s ↦ let a = sum_same n h g (λ i m. e i (omega arith)) in omega (arith, ap g s, ap h s)
      | inr d ↦ let a = sum_change n g h k (omega arith) e in omega (arith, e n d)
    ]

-- ---- counts

pub one_le : (b : Bool) → one b ≤ 1
one_le true = omega arith
one_le false = omega arith

pub one_true : (b : Bool) → one b ≡ 1 → b ≡ true
one_true true e = refl
one_true false e = absurd (omega arith)

pub count_le : (n : ℕ) (t : ℕ → Bool) → count n t ≤ n
count_le zero t = omega arith
count_le (suc n) t = omega (arith, count_le n t, one_le (t n))

pub count_full : (n : ℕ) (t : ℕ → Bool) → ((i : ℕ) → i < n → t i ≡ true) → count n t ≡ n
count_full zero t e = refl
count_full (suc n) t e = omega (arith, count_full n t (λ i l. e i (omega arith)), ap one (e n (omega arith)))

pub full_count : (n : ℕ) (t : ℕ → Bool) → count n t ≡ n → (i : ℕ) → i < n → t i ≡ true
full_count zero t e i l = absurd (omega arith)
full_count (suc n) t e i l =
    elim (cases_eq i n) [
      | inl q ↦ ap t q ∙ one_true (t n) (omega (arith, count_le n t, one_le (t n)))
      | inr q ↦ full_count n t (omega (arith, count_le n t, one_le (t n))) i (omega arith)
    ]

-- ---- blocks that have something

module _ {X : Type 0} (files blocks : ℕ) where
  pub below_same : (g h : ℕ → ℕ → Option X) → ((f b : ℕ) → f < files → b < blocks → g f b ≡ h f b)
      → tally_below files blocks g ≡ tally_below files blocks h
  below_same g h e = sum_same files (λ f. count blocks (λ b. is_some (g f b))) (λ f. count blocks (λ b. is_some (h f b)))
      (λ f l. sum_same blocks (λ b. one (is_some (g f b))) (λ b. one (is_some (h f b))) (λ b m. ap (λ o. one (is_some o)) (e f b l m)))

  pub below_none : (h : ℕ → ℕ → Option X) → ((f b : ℕ) → h f b ≡ None) → tally_below files blocks h ≡ 0
  below_none h e = sum_zero files (λ f. count blocks (λ b. is_some (h f b)))
      (λ f _. sum_zero blocks (λ b. one (is_some (h f b))) (λ b _. ap (λ o. one (is_some o)) (e f b)))

  pub below_change : (h : ℕ → ℕ → Option X) (file block : ℕ) (o : Option X) → file < files → block < blocks
      → tally_below files blocks (changed h file (only block) (λ _. o)) + one (is_some (h file block))
      ≡ tally_below files blocks h + one (is_some o)
  below_change h file block o hf hb =
      let q : ℕ → ℕ → Option X = changed h file (only block) (λ _. o) in
      let inner = sum_change blocks (λ b. one (is_some (h file b))) (λ b. one (is_some (q file b))) block hb
      (λ b d. ap (λ v. one (is_some v)) (changed_beside h file (only block) (λ _. o) b (only_other block b d))) in
      let outer = sum_change files (λ f. count blocks (λ b. is_some (h f b))) (λ f. count blocks (λ b. is_some (q f b))) file hf
      (λ f d. sum_same blocks (λ b. one (is_some (q f b))) (λ b. one (is_some (h f b)))
      (λ b _. ap (λ v. one (is_some v)) (changed_elsewhere h file (only block) (λ _. o) f b d))) in
      let new : one (is_some (q file block)) ≡ one (is_some o) =
      ap (λ v. one (is_some v)) (changed_here h file (only block) (λ _. o) block (only_here block)) in
      omega arith

pub below_fewer : {X Y : Type 0} (files blocks : ℕ) (g : ℕ → ℕ → Option X) (h : ℕ → ℕ → Option Y)
    → ((f b : ℕ) → one (is_some (g f b)) ≤ one (is_some (h f b))) → tally_below files blocks g ≤ tally_below files blocks h
below_fewer files blocks g h e = sum_le files (λ f. count blocks (λ b. is_some (g f b))) (λ f. count blocks (λ b. is_some (h f b)))
    (λ f _. sum_le blocks (λ b. one (is_some (g f b))) (λ b. one (is_some (h f b))) (λ b _. e f b))

pub tally_none : {X : Type 0} (h : ℕ → ℕ → Option X) → ((f b : ℕ) → h f b ≡ None) → tally h ≡ 0
unfolding tally
tally_none h = below_none 65536 65536 h

pub tally_same : {X : Type 0} (g h : ℕ → ℕ → Option X) → ((f b : ℕ) → f < 65536 → b < 65536 → g f b ≡ h f b) → tally g ≡ tally h
unfolding tally
tally_same g h = below_same 65536 65536 g h

pub tally_fewer : {X Y : Type 0} (g : ℕ → ℕ → Option X) (h : ℕ → ℕ → Option Y)
    → ((f b : ℕ) → one (is_some (g f b)) ≤ one (is_some (h f b))) → tally g ≤ tally h
unfolding tally
tally_fewer g h = below_fewer 65536 65536 g h

pub tally_change : {X : Type 0} (h : ℕ → ℕ → Option X) (file block : ℕ) (o : Option X) → file < 65536 → block < 65536
    → tally (changed h file (only block) (λ _. o)) + one (is_some (h file block)) ≡ tally h + one (is_some o)
unfolding tally
tally_change h = below_change 65536 65536 h
