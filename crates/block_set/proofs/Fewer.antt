-- A row of words less the ones of another, word by word.
use Rattle.std.proofs.Common.{◌≡◌, ℕ, ◌+◌, ◌-◌, ◌/◌, ◌%◌, ◌^◌, ◌<◌, ◌≤◌, Bool, cond, not, ◌&&◌, ltb, List, length, get_or, set, sym, ap, ◌∙◌, inl, inr, arith, get_or-set_other, get_or-set_same}
use mathlib.Core.Path.{fun_ext}
use lib.Bits.{bit_and, and_le_l}
use Rattle.std.proofs.lemmas.Bool.{cases_lt, cases_eq, lt-ltb, le-ltb, cond-true, cond-false}
use Rattle.bits.specs.Bits.{bit}
use Rattle.bits.proofs.Single.{bit_past, bit_of_and, bit_not}
use Rattle.block_set.specs.Members.{bit_of, without}
use Rattle.block_set.proofs.Rows.{none_past}

-- ---- one word

pub fewer : (n w x : ℕ) → w < 2 ^ n → x < 2 ^ n → bit (bit_and w (2 ^ n - 1 - x)) ≡ without (bit w) (bit x)
fewer n w x l m =
    fun_ext (λ i. elim (cases_lt i n) [
      | inl h ↦ bit_of_and w (2 ^ n - 1 - x) i ∙ ap (λ (v : Bool). bit w i && v) (bit_not n x i m h)
      | inr h ↦ bit_past n (bit_and w (2 ^ n - 1 - x)) i (let a = and_le_l w (2 ^ n - 1 - x) in omega arith) h
          ∙ sym (ap (λ (v : Bool). v && not (bit x i)) (bit_past n w i l h))
    ])

-- ---- the first words of a row

-- the bits of the first n words are less those of another row, and the others as they were
unfoldable pub partly : (ℕ → Bool) → (ℕ → Bool) → ℕ → ℕ → Bool
partly t u n i = cond (ltb (i / 64) n) (without t u i) (t i)

done : (t u : ℕ → Bool) (n i : ℕ) → i / 64 < n → partly t u n i ≡ without t u i
unfolding partly
done t u n i l = cond-true (ltb (i / 64) n) (without t u i) (t i) (lt-ltb (i / 64) n l)

left : (t u : ℕ → Bool) (n i : ℕ) → n ≤ i / 64 → partly t u n i ≡ t i
unfolding partly
left t u n i l = cond-false (ltb (i / 64) n) (without t u i) (t i) (le-ltb (i / 64) n l)

pub partly_none : (t u : ℕ → Bool) → t ≡ partly t u 0
partly_none t u = fun_ext (λ i. sym (left t u 0 i (omega arith)))

pub partly_more : (words others : List ℕ) (t : ℕ → Bool) (n w : ℕ) → n < length words → bit_of words ≡ partly t (bit_of others) n
    → bit w ≡ without (bit (get_or words n 0)) (bit (get_or others n 0)) → bit_of (set words n w) ≡ partly t (bit_of others) (n + 1)
unfolding bit_of
partly_more words others t n w l e f =
    fun_ext (λ i. elim (cases_eq (i / 64) n) [
      | inl s ↦ ap (λ (x : ℕ). bit x (i % 64)) (ap (λ (j : ℕ). get_or (set words n w) j 0) s ∙ get_or-set_same words n w 0 l)
          ∙ ap (λ (g : ℕ → Bool). g (i % 64)) f
          ∙ ap (λ (j : ℕ). bit (get_or words j 0) (i % 64) && not (bit (get_or others j 0) (i % 64))) (sym s)
          ∙ ap (λ (v : Bool). v && not (bit_of others i)) (ap (λ (g : ℕ → Bool). g i) e ∙ left t (bit_of others) n i (omega arith))
          ∙ sym (done t (bit_of others) (n + 1) i (omega arith))
      | inr d ↦ ap (λ (x : ℕ). bit x (i % 64)) (get_or-set_other words n (i / 64) w 0 d)
          ∙ ap (λ (g : ℕ → Bool). g i) e
          ∙ elim (cases_lt (i / 64) n) [
            | inl m ↦ done t (bit_of others) n i m ∙ sym (done t (bit_of others) (n + 1) i (omega arith))
            | inr m ↦ left t (bit_of others) n i m ∙ sym (left t (bit_of others) (n + 1) i (omega arith))
          ]
    ])

-- past the last word there is nothing to take out
pub partly_all : (words : List ℕ) (u : ℕ → Bool) → partly (bit_of words) u (length words) ≡ without (bit_of words) u
partly_all words u =
    fun_ext (λ i. elim (cases_lt (i / 64) (length words)) [
      | inl l ↦ done (bit_of words) u (length words) i l
      | inr l ↦ left (bit_of words) u (length words) i l ∙ none_past words i l
          ∙ sym (ap (λ (v : Bool). v && not (u i)) (none_past words i l))
    ])
