-- Laws of the single bits of a word, over the index.
use Rattle.std.proofs.Common.{◌≡◌, ℕ, zero, suc, ◌+◌, ◌-◌, ◌*◌, ◌/◌, ◌%◌, ◌^◌, ◌<◌, ◌≤◌, true, false, not, ◌&&◌, ◌||◌, eqb, ltb, leb, min, max, ◌⊎◌, ap, ◌∙◌, sym, refl, inl, inr, pow-suc, pow_pos, arith}
use Rattle.std.specs.Int.{bit_at}
use lib.Bits.{bit_and, bit_or}
use lib.Count.{count_trailing_zeros, under}
use Rattle.std.proofs.lemmas.Bool.{cases_lt, cases_eq, eq-eqb, ne_eqb, lt-ltb, le-ltb, le-leb, lt-leb}
use Rattle.std.proofs.lemmas.Nat.Bits.{bit_at_lowest, bit_at-suc, bit_at-zero, bit_at_above, bit_at_and, bit_at_or, bit_at-lt, bit_at-pow_same, bit_at-pow_other, bit_at_ones, bit_at_ones_above, ones_shl, bit_at_mask_inside, bit_at_mask_below}
use Rattle.bits.specs.Bits.{bit}

-- a bit by its digit
pub bit_from : (w i d : ℕ) → bit_at w i ≡ d → bit w i ≡ eqb d 1
unfolding bit
bit_from w i d e = ap (λ (x : ℕ). eqb x 1) e

-- ---- the lowest bit, and the others

pub bit_low : (w : ℕ) → bit w 0 ≡ eqb (w % 2) 1
bit_low w = bit_from w 0 (w % 2) (bit_at_lowest w)

pub bit_next : (w i : ℕ) → bit w (suc i) ≡ bit (w / 2) i
unfolding bit
bit_next w i = bit_from w (suc i) _ (bit_at-suc w i)

-- no bit of 0 is one
pub bit_zero : (i : ℕ) → bit 0 i ≡ false
bit_zero i = bit_from 0 i 0 (bit_at-zero i)

-- nor any bit past the length of a word
pub bit_past : (k w i : ℕ) → w < 2 ^ k → k ≤ i → bit w i ≡ false
bit_past k w i l m = bit_from w i 0 (bit_at_above w k i l m)

-- ---- two words

pub bit_of_and : (a b i : ℕ) → bit (bit_and a b) i ≡ bit a i && bit b i
unfolding bit
bit_of_and a b i = bit_from (bit_and a b) i _ (bit_at_and a b i) ∙ both (bit_at a i) (bit_at b i) (bit_at-lt a i) (bit_at-lt b i)
  where
    both : (x y : ℕ) → x < 2 → y < 2 → eqb (min x y) 1 ≡ eqb x 1 && eqb y 1
    both zero zero l m = refl
    both zero (suc zero) l m = refl
    both (suc zero) zero l m = refl
    both (suc zero) (suc zero) l m = refl
    both (suc (suc x)) y l m = absurd (omega arith)
    both x (suc (suc y)) l m = absurd (omega arith)

pub bit_of_or : (a b i : ℕ) → bit (bit_or a b) i ≡ bit a i || bit b i
unfolding bit
bit_of_or a b i = bit_from (bit_or a b) i _ (bit_at_or a b i) ∙ either (bit_at a i) (bit_at b i) (bit_at-lt a i) (bit_at-lt b i)
  where
    either : (x y : ℕ) → x < 2 → y < 2 → eqb (max x y) 1 ≡ eqb x 1 || eqb y 1
    either zero zero l m = refl
    either zero (suc zero) l m = refl
    either (suc zero) zero l m = refl
    either (suc zero) (suc zero) l m = refl
    either (suc (suc x)) y l m = absurd (omega arith)
    either x (suc (suc y)) l m = absurd (omega arith)

-- ---- all bits turned round

digit : (x : ℕ) → x < 2 → (x ≡ 0) ⊎ (x ≡ 1)
digit zero l = inl refl
digit (suc zero) l = inr refl
digit (suc (suc x)) l = absurd (omega arith)

not_one : (x y : ℕ) → (x ≡ 0) ⊎ (x ≡ 1) → x + y ≡ 1 → eqb y 1 ≡ not (eqb x 1)
not_one x y (inl e) s = eq-eqb y 1 (omega arith) ∙ sym (ap (λ (z : ℕ). not (eqb z 1)) e)
not_one x y (inr e) s = ne_eqb y 1 (λ h. omega arith) ∙ sym (ap (λ (z : ℕ). not (eqb z 1)) e)

pub bit_not : (k w i : ℕ) → w < 2 ^ k → i < k → bit (2 ^ k - 1 - w) i ≡ not (bit w i)
bit_not zero w i l m = absurd (omega arith)
bit_not (suc k) w zero l m =
    let p = pow-suc 2 k in
    bit_low (2 ^ suc k - 1 - w) ∙ not_one (w % 2) ((2 ^ suc k - 1 - w) % 2) (digit (w % 2) (omega arith)) (omega arith)
    ∙ sym (ap not (bit_low w))
bit_not (suc k) w (suc i) l m =
    let p = pow-suc 2 k in
    let h : (2 ^ suc k - 1 - w) / 2 ≡ 2 ^ k - 1 - w / 2 = omega arith in
    bit_next (2 ^ suc k - 1 - w) i ∙ ap (λ (x : ℕ). bit x i) h ∙ bit_not k (w / 2) i (omega arith) (omega arith)
    ∙ sym (ap not (bit_next w i))

-- ---- masks

-- one bit
pub bit_power : (j i : ℕ) → bit (2 ^ j) i ≡ eqb i j
bit_power j i = elim (cases_eq i j) [
  | inl e ↦ ap (bit (2 ^ j)) e ∙ bit_from (2 ^ j) j 1 (bit_at-pow_same j) ∙ sym (eq-eqb i j e)
  | inr d ↦ bit_from (2 ^ j) i 0 (bit_at-pow_other j i d) ∙ sym (ne_eqb i j d)
]

-- the bits below k
pub bit_ones : (k i : ℕ) → bit (2 ^ k - 1) i ≡ ltb i k
bit_ones k i = elim (cases_lt i k) [
  | inl l ↦ bit_from (2 ^ k - 1) i 1 (bit_at_ones k i l) ∙ sym (lt-ltb i k l)
  | inr l ↦ bit_from (2 ^ k - 1) i 0 (bit_at_ones_above k i l) ∙ sym (le-ltb i k l)
]

-- all ones of n bits, moved up by k: the bits from k on
pub up_mask : (n k : ℕ) → k ≤ n → ((2 ^ n - 1) * 2 ^ k) % 2 ^ n ≡ 2 ^ n - 1 - (2 ^ k - 1)
up_mask n k l = ones_shl n k l ∙ (let p = pow_pos k in omega arith)

pub bit_up : (n k i : ℕ) → k ≤ n → i < n → bit (((2 ^ n - 1) * 2 ^ k) % 2 ^ n) i ≡ leb k i
bit_up n k i l m =
    ap (λ (x : ℕ). bit x i) (ones_shl n k l) ∙ elim (cases_lt i k) [
      | inl h ↦ bit_from (2 ^ n - 2 ^ k) i 0 (bit_at_mask_below k n i h) ∙ sym (lt-leb k i h)
      | inr h ↦ bit_from (2 ^ n - 2 ^ k) i 1 (bit_at_mask_inside k n i h m) ∙ sym (le-leb k i h)
    ]

-- ---- the lowest one

-- below the lowest one all bits are zero
pub below_lowest : (k w i : ℕ) → i < count_trailing_zeros k w → bit w i ≡ false
unfolding count_trailing_zeros
below_lowest zero w i l = absurd (omega arith)
below_lowest (suc k) w i l = go (w % 2) refl (below_lowest k (w / 2)) i l
  where
    go : (d : ℕ) → w % 2 ≡ d → ((i : ℕ) → i < count_trailing_zeros k (w / 2) → bit (w / 2) i ≡ false)
        → (i : ℕ) → i < under d (count_trailing_zeros k (w / 2)) → bit w i ≡ false
    go zero e rest zero m = bit_low w ∙ ne_eqb (w % 2) 1 (λ h. omega arith)
    go zero e rest (suc j) m = bit_next w j ∙ rest j (omega arith)
    go (suc d) e rest j m = absurd (omega arith)

-- which is one, if any is
pub at_lowest : (k w : ℕ) → 0 < w → w < 2 ^ k → (count_trailing_zeros k w < k) × (bit w (count_trailing_zeros k w) ≡ true)
unfolding count_trailing_zeros
at_lowest zero w p l = absurd (omega arith)
at_lowest (suc k) w p l = go (w % 2) refl (at_lowest k (w / 2))
  where
    go : (d : ℕ) → w % 2 ≡ d
        → (0 < w / 2 → w / 2 < 2 ^ k → (count_trailing_zeros k (w / 2) < k) × (bit (w / 2) (count_trailing_zeros k (w / 2)) ≡ true))
        → (under d (count_trailing_zeros k (w / 2)) < suc k) × (bit w (under d (count_trailing_zeros k (w / 2))) ≡ true)
    go zero e rest =
        let q = pow-suc 2 k in
        let h = rest (omega arith) (omega arith) in
        (omega (arith, h.0), bit_next w (count_trailing_zeros k (w / 2)) ∙ h.1)
    go (suc d) e rest = (omega arith, bit_low w ∙ eq-eqb (w % 2) 1 (omega arith))
