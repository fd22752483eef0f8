-- The number of a field, digit by digit.
use Rattle.std.proofs.Common.{◌≡◌, ℕ, suc, ◌+◌, ◌-◌, ◌*◌, ◌^◌, ◌<◌, ◌≤◌, Bool, true, false, cond, List, [], ◌∷◌, ◌++◌, length, get_or, take, drop, set, Some, None, Option, sym, refl, ap, ◌∙◌, append_assoc, pow-suc, add-one, arith, length-set}
use Rattle.std.proofs.lemmas.List.{drop_more, drop_all, take_more_set}
use Rattle.std.proofs.lemmas.Bool.{cond-true, cond-false}
use Rattle.std.proofs.lemmas.Bool.Decides.{nat_tests}
use Rattle.lines.specs.Lines.{before, behind, is_digit, value_from, shaped, number, both, fields}

-- the first i bytes are digits, and stand for v
pub record Valued (bs : List ℕ) (i v : ℕ) : Type 0 where
  pub rest : value_from 0 bs ≡ value_from v (drop i bs)
  pub small : v < 10 ^ i

pub valued_next : (bs : List ℕ) (i v : ℕ) → i < length bs → Valued bs i v → is_digit (get_or bs i 0) ≡ true
    → Valued bs (i + 1) (10 * v + (get_or bs i 0 - 48))
unfolding value_from
valued_next bs i v l h d = record {
  rest =
      h.rest ∙ ap (value_from v) (drop_more bs i 0 l)
      ∙ cond-true (is_digit (get_or bs i 0)) (value_from (10 * v + (get_or bs i 0 - 48)) (drop (i + 1) bs)) None d;
  small = let z = h.small in let t : get_or bs i 0 ≤ 57 = grind (arith, nat_tests) in rw (add-one i, pow-suc) (omega arith);
}

-- a byte that is no digit
pub no_digit : (bs : List ℕ) (i v : ℕ) → i < length bs → Valued bs i v → is_digit (get_or bs i 0) ≡ false → None ≡ number bs
unfolding value_from
no_digit bs i v l h f =
    let e : value_from 0 bs ≡ None =
    h.rest ∙ ap (value_from v) (drop_more bs i 0 l) ∙ cond-false (is_digit (get_or bs i 0)) (value_from (10 * v + (get_or bs i 0 - 48)) (drop (i + 1) bs)) None f in
    sym (ap (λ o. cond (shaped bs) o None) e ∙ either (shaped bs))
  where
    either : (b : Bool) → cond {A = Option ℕ} b None None ≡ None
    either true = refl
    either false = refl

-- all digits
pub valued : (bs : List ℕ) (i v : ℕ) → length bs ≤ i → Valued bs i v → shaped bs ≡ true → Some v ≡ number bs
unfolding value_from
valued bs i v l h s = sym (cond-true (shaped bs) (value_from 0 bs) None s ∙ h.rest ∙ ap (value_from v) (drop_all i bs l))

-- ---- fields

abbrev pub onto : List ℕ → Option (List ℕ) → Option (List ℕ)
onto ns None = None
onto ns (Some ms) = Some (ns ++ ms)

onto_onto : (xs ys : List ℕ) (o : Option (List ℕ)) → onto xs (onto ys o) ≡ onto (xs ++ ys) o
onto_onto xs ys None = refl
onto_onto xs ys (Some zs) = ap Some (sym (append_assoc xs ys zs))

both_onto : (o : Option ℕ) (v : ℕ) (ns : Option (List ℕ)) → o ≡ Some v → both o ns ≡ onto (v ∷ []) ns
both_onto o v None e = ap (λ z. both z None) e
both_onto o v (Some ns) e = ap (λ z. both z (Some ns)) e

-- i of k fields are read, as the first of the numbers, and what is left gives the others
pub record Reading (k : ℕ) (line : Option (List ℕ)) (numbers : List ℕ) (i : ℕ) (rest : Option (List ℕ)) : Type 0 where
  pub room : length numbers ≡ k
  pub gives : fields k line ≡ onto (take i numbers) (fields (k - i) rest)

module _ (k : ℕ) (line : Option (List ℕ)) (numbers : List ℕ) (i : ℕ) (rest : Option (List ℕ)) (h : Reading k line numbers i rest) where
  -- a field is no number
  pub reading_bad : (bs : List ℕ) → i < k → rest ≡ Some bs → number (before 32 bs) ≡ None → None ≡ fields k line
  reading_bad bs l e f =
      let n : k - i ≡ suc (k - (i + 1)) = omega arith in
      sym (h.gives ∙ ap (λ o. onto (take i numbers) (fields (k - i) o)) e ∙ ap (λ n. onto (take i numbers) (fields n (Some bs))) n
      ∙ ap (λ o. onto (take i numbers) (both o (fields (k - (i + 1)) (behind 32 bs)))) f)

  pub reading_next : (bs : List ℕ) (v : ℕ) → i < k → rest ≡ Some bs → number (before 32 bs) ≡ Some v
      → Reading k line (set numbers i v) (i + 1) (behind 32 bs)
  reading_next bs v l e f =
      let r = h.room in
      let n : k - i ≡ suc (k - (i + 1)) = omega arith in
      let more : Option (List ℕ) = fields (k - (i + 1)) (behind 32 bs) in
      record {
        room = length-set numbers i v ∙ h.room;
        gives =
            h.gives ∙ ap (λ o. onto (take i numbers) (fields (k - i) o)) e ∙ ap (λ n. onto (take i numbers) (fields n (Some bs))) n
            ∙ ap (onto (take i numbers)) (both_onto (number (before 32 bs)) v more f) ∙ onto_onto (take i numbers) (v ∷ []) more
            ∙ ap (λ t. onto t more) (sym (take_more_set numbers i v (omega arith)));
      }
