-- One bit of a row of words changed, and the first zero of a row from a bit on.
use Rattle.std.proofs.Common.{◌≡◌, ℕ, zero, suc, ◌+◌, ◌-◌, ◌*◌, ◌/◌, ◌%◌, ◌<◌, ◌≤◌, Bool, true, false, cond, eqb, ltb, max, List, length, get_or, set, replicate, Some, None, Option, sym, refl, ap, ◌∙◌, subst, ap₂, inl, inr, arith, get_or-set_other, get_or-set_same}
use mathlib.Core.Path.{fun_ext}
use Rattle.std.specs.Bool.{then_some}
use Rattle.std.proofs.lemmas.Bool.{cases_lt, cases_eq, eq-eqb, ne_eqb, lt-ltb, le-ltb}
use Rattle.std.proofs.lemmas.List.{get_or_past}
use Rattle.bits.specs.Bits.{bit}
use Rattle.bits.proofs.Single.{bit_zero}
use Rattle.ledger.specs.Free.{first_free}
use Rattle.ledger.specs.Store.{put}
use Rattle.ledger.proofs.Search.{Lowest, lowest, lowest_only}
use Rattle.ledger.proofs.Pool.{put_here, put_other}
use Rattle.block_set.specs.Members.{bit_of, none}

-- ---- no bit

nothing : (n i : ℕ) → ◌≡◌ {A = ℕ} (get_or (replicate n 0) i 0) 0
nothing zero i = refl
nothing (suc n) zero = refl
nothing (suc n) (suc i) = nothing n i

pub none_of_zeros : (n : ℕ) → bit_of (replicate n 0) ≡ none
unfolding bit_of
none_of_zeros n = fun_ext (λ i. ap (λ (w : ℕ). bit w (i % 64)) (nothing n (i / 64)) ∙ bit_zero (i % 64))

past : (words : List ℕ) (i : ℕ) → length words ≤ i → get_or words i 0 ≡ 0
past words i = get_or_past words i 0

-- past the last word no bit is one,
pub none_past : (words : List ℕ) (i : ℕ) → length words ≤ i / 64 → bit_of words i ≡ false
unfolding bit_of
none_past words i l = ap (λ (w : ℕ). bit w (i % 64)) (past words (i / 64) l) ∙ bit_zero (i % 64)

-- so that none there can be cleared
pub clear_past : (words : List ℕ) (p : ℕ) → length words ≤ p / 64 → bit_of words ≡ put (bit_of words) p false
clear_past words p l =
    fun_ext (λ i. elim (cases_eq i p) [
      | inl e ↦ ap (bit_of words) e ∙ none_past words p l ∙ sym (put_here (bit_of words) p false i e)
      | inr d ↦ sym (put_other (bit_of words) p false i d)
    ])

-- ---- one bit

-- If a word is changed at one bit, so is the row.
pub change_one : (words : List ℕ) (p w : ℕ) (v : Bool) → p / 64 < length words → bit w ≡ put (bit (get_or words (p / 64) 0)) (p % 64) v
    → bit_of (set words (p / 64) w) ≡ put (bit_of words) p v
unfolding bit_of
change_one words p w v l e =
    fun_ext (λ i. elim (cases_eq (i / 64) (p / 64)) [
      | inl s ↦ ap (λ (x : ℕ). bit x (i % 64)) (ap (λ (j : ℕ). get_or (set words (p / 64) w) j 0) s ∙ get_or-set_same words (p / 64) w 0 l)
          ∙ ap (λ (f : ℕ → Bool). f (i % 64)) e
          ∙ ap₂ (λ (t : Bool) (x : ℕ). cond t v (bit (get_or words x 0) (i % 64))) (same i s) (sym s)
      | inr d ↦ ap (λ (x : ℕ). bit x (i % 64)) (get_or-set_other words (p / 64) (i / 64) w 0 d)
          ∙ sym (put_other (λ i. bit (get_or words (i / 64) 0) (i % 64)) p v i (λ s. d (ap (λ (x : ℕ). x / 64) s)))
    ])
  where
    same : (i : ℕ) → i / 64 ≡ p / 64 → eqb (i % 64) (p % 64) ≡ eqb i p
    same i s = elim (cases_eq i p) [
      | inl e ↦ eq-eqb (i % 64) (p % 64) (ap (λ (x : ℕ). x % 64) e) ∙ sym (eq-eqb i p e)
      | inr d ↦ ne_eqb (i % 64) (p % 64) (λ e. d (omega arith)) ∙ sym (ne_eqb i p d)
    ]

-- ---- the search

-- what word w shows of its numbers from `next` on
abbrev pub Word : List ℕ → ℕ → ℕ → Option ℕ → Type 0
Word words w next None = (q : ℕ) → next ≤ q → q < (w + 1) * 64 → bit_of words q ≡ true
Word words w next (Some b) = (b < 64) × (next ≤ w * 64 + b) × (bit_of words (w * 64 + b) ≡ false)
    × ((q : ℕ) → next ≤ q → q < w * 64 + b → bit_of words q ≡ true)

here : (words : List ℕ) (w q : ℕ) → w * 64 ≤ q → q < (w + 1) * 64 → bit_of words q ≡ bit (get_or words w 0) (q - w * 64)
unfolding bit_of
here words w q a b =
    let d : q / 64 ≡ w = omega arith in
    let m : q % 64 ≡ q - w * 64 = omega arith in
    ap₂ (λ (x y : ℕ). bit (get_or words x 0) y) d m

pub in_word : (words : List ℕ) (w next : ℕ) (o : Option ℕ) → next / 64 ≡ w → o ≡ first_free (bit (get_or words w 0)) (next % 64) (64 - next % 64)
    → Word words w next o
in_word words w next o is e = go o (subst (Lowest t (next % 64) (next % 64 + (64 - next % 64))) (sym e) (lowest t (next % 64) (64 - next % 64)))
  where
    t : ℕ → Bool
    t = bit (get_or words w 0)

    go : (o : Option ℕ) → Lowest (bit (get_or words w 0)) (next % 64) (next % 64 + (64 - next % 64)) o → Word words w next o
    go None f = λ q a b. here words w q (omega arith) (omega arith) ∙ f (q - w * 64) (omega arith) (omega arith)
    go (Some b) f =
        let small : b < 64 = omega (arith, f.1) in
        let low : next ≤ w * 64 + b = omega (arith, f.0) in
        let back : w * 64 + b - w * 64 ≡ b = omega arith in (
          small,
          low,
          here words w (w * 64 + b) (omega arith) (omega arith) ∙ ap (bit (get_or words w 0)) back ∙ f.2,
          λ q a l. here words w q (omega arith) (omega arith) ∙ f.3 (q - w * 64) (omega arith) (omega arith),
        )

-- all from one number up to another are ones
abbrev pub AllIn : (ℕ → Bool) → ℕ → ℕ → Type 0
AllIn t from to = (q : ℕ) → from ≤ q → q < to → t q ≡ true

pub found_at : (t : ℕ → Bool) (from to p : ℕ) → from ≤ p → p < to → t p ≡ false → AllIn t from p → Some p ≡ first_free t from (to - from)
found_at t from to p a b e f = lowest_only t from (to - from) (Some p) (a, omega arith, e, f)

pub found_none : (t : ℕ → Bool) (from to : ℕ) → AllIn t from to → None ≡ first_free t from (to - from)
found_none t from to f = lowest_only t from (to - from) None (λ q a b. f q a (omega arith))

-- what was seen before, and what is seen now
pub joined : (t : ℕ → Bool) (from mid to : ℕ) → AllIn t from mid → ((q : ℕ) → from ≤ q → mid ≤ q → q < to → t q ≡ true) → AllIn t from to
joined t from mid to f g q a b = elim (cases_lt q mid) [ inl l ↦ f q a l | inr l ↦ g q a l b ]

-- what is told of the lowest zero of word w, where all before the word were seen
pub told : (words : List ℕ) (from to w next b : ℕ) → next ≡ max from (w * 64) → AllIn (bit_of words) from (w * 64) → Word words w next (Some b)
    → then_some (ltb (w * 64 + b) to) (w * 64 + b) ≡ first_free (bit_of words) from (to - from)
told words from to w next b e f h = elim (cases_lt (w * 64 + b) to) [
  | inl l ↦ ap (λ v. then_some v (w * 64 + b)) (lt-ltb (w * 64 + b) to l)
      ∙ found_at t from to (w * 64 + b) (omega (arith, h.1)) l h.2 (joined t from (w * 64) (w * 64 + b) f (λ q a m u. h.3 q (omega arith) u))
  | inr l ↦ ap (λ v. then_some v (w * 64 + b)) (le-ltb (w * 64 + b) to l)
      ∙ found_none t from to (joined t from (w * 64) to f (λ q a m u. h.3 q (omega arith) (omega arith)))
]
  where
    t : ℕ → Bool
    t = bit_of words
