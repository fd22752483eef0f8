-- A word with one bit changed, and the lowest zero from a bit on.
use Rattle.std.proofs.Common.{◌≡◌, ℕ, ◌-◌, ◌*◌, ◌%◌, ◌^◌, ◌<◌, ◌≤◌, Bool, true, false, cond, not, ◌&&◌, ◌||◌, eqb, leb, Some, None, sym, refl, ap, ◌∙◌, ap₂, inl, inr, arith}
use mathlib.Core.Path.{fun_ext}
use lib.Bits.{bit_and, bit_or, and_le_l}
use lib.Pow.{pow-lt}
use lib.Count.{count_trailing_zeros}
use Rattle.std.proofs.lemmas.Nat.{one_shl}
use Rattle.std.proofs.lemmas.Bool.{cases_lt, ne_eqb, le-leb, leb-true, and_parts, and_cases, not-true, not-false, cond-false, both_ways}
use Rattle.ledger.specs.Free.{first_free}
use Rattle.ledger.specs.Store.{put}
use Rattle.ledger.proofs.Search.{lowest_only}
use Rattle.bits.specs.Bits.{bit}
use Rattle.bits.proofs.Single.{bit_zero, bit_past, bit_of_and, bit_of_or, bit_not, bit_power, bit_up, below_lowest, at_lowest}

-- ---- one bit changed

pub set_one : (w k : ℕ) → bit (bit_or w (2 ^ k)) ≡ put (bit w) k true
set_one w k = fun_ext (λ i. bit_of_or w (2 ^ k) i ∙ ap (λ (v : Bool). bit w i || v) (bit_power k i) ∙ go (bit w i) (eqb i k))
  where
    go : (v e : Bool) → v || e ≡ cond e true v
    go true true = refl
    go true false = refl
    go false true = refl
    go false false = refl

pub clear_one : (n w k : ℕ) → w < 2 ^ n → k < n → bit (bit_and w (2 ^ n - 1 - 2 ^ k)) ≡ put (bit w) k false
clear_one n w k l m =
    fun_ext (λ i. elim (cases_lt i n) [
      | inl h ↦ bit_of_and w (2 ^ n - 1 - 2 ^ k) i
          ∙ ap (λ (v : Bool). bit w i && v) (bit_not n (2 ^ k) i (pow-lt m) h ∙ ap not (bit_power k i)) ∙ go (bit w i) (eqb i k)
      | inr h ↦ bit_past n (bit_and w (2 ^ n - 1 - 2 ^ k)) i (let a = and_le_l w (2 ^ n - 1 - 2 ^ k) in omega arith) h
          ∙ sym (cond-false (eqb i k) false (bit w i) (ne_eqb i k (λ e. omega arith)) ∙ bit_past n w i l h)
    ])
  where
    go : (v e : Bool) → v && not e ≡ cond e false v
    go true true = refl
    go true false = refl
    go false true = refl
    go false false = refl

-- the same with the bit moved up within a word of 64 bits
pub set_mask : (w k : ℕ) → k < 64 → bit (bit_or w (1 * 2 ^ k % 2 ^ 64)) ≡ put (bit w) k true
set_mask w k m = ap (λ (x : ℕ). bit (bit_or w x)) (one_shl k 64 m) ∙ set_one w k

pub clear_mask : (w k : ℕ) → w < 2 ^ 64 → k < 64 → bit (bit_and w (2 ^ 64 - 1 - 1 * 2 ^ k % 2 ^ 64)) ≡ put (bit w) k false
clear_mask w k l m = ap (λ (x : ℕ). bit (bit_and w (2 ^ 64 - 1 - x))) (one_shl k 64 m) ∙ clear_one 64 w k l m

-- ---- the zeros of a word from a bit on

module _ (n w k : ℕ) (l : w < 2 ^ n) (m : k < n) (f : ℕ) (is : f ≡ bit_and (2 ^ n - 1 - w) (((2 ^ n - 1) * 2 ^ k) % 2 ^ n)) where
  zeros : (i : ℕ) → i < n → bit f i ≡ not (bit w i) && leb k i
  zeros i h =
      ap (λ (x : ℕ). bit x i) is ∙ bit_of_and (2 ^ n - 1 - w) (((2 ^ n - 1) * 2 ^ k) % 2 ^ n) i
      ∙ ap₂ (λ (u v : Bool). u && v) (bit_not n w i l h) (bit_up n k i (omega arith) h)

  -- where none of them is one in f, the word's bit is one
  one_here : (i : ℕ) → k ≤ i → i < n → bit f i ≡ false → bit w i ≡ true
  one_here i a h e =
      elim (and_cases (not (bit w i)) (leb k i) (sym (zeros i h) ∙ e)) [
        | inl u ↦ not-false (bit w i) u
        | inr u ↦ absurd (both_ways (leb k i) u (le-leb k i a))
      ]

  pub no_zero : f ≡ 0 → None ≡ first_free (bit w) k (n - k)
  no_zero e = lowest_only (bit w) k (n - k) None (λ q a b. one_here q a (omega arith) (ap (λ (x : ℕ). bit x q) e ∙ bit_zero q))

  pub at_first_zero : 0 < f → Some (count_trailing_zeros n f) ≡ first_free (bit w) k (n - k)
  at_first_zero p =
      let small : f < 2 ^ n = let a = and_le_l (2 ^ n - 1 - w) (((2 ^ n - 1) * 2 ^ k) % 2 ^ n) in omega arith in
      let t = at_lowest n f p small in
      let z = and_parts (not (bit w (count_trailing_zeros n f))) (leb k (count_trailing_zeros n f)) (sym (zeros (count_trailing_zeros n f) t.0) ∙ t.1) in
      lowest_only (bit w) k (n - k) (Some (count_trailing_zeros n f)) (
        leb-true k (count_trailing_zeros n f) z.1,
        omega (arith, t.0),
        not-true (bit w (count_trailing_zeros n f)) z.0,
        λ q a b. one_here q a (omega (arith, t.0)) (below_lowest n f q b),
      )
