-- A text cut at a byte.
use Rattle.std.proofs.Common.{◌≡◌, ℕ, suc, ◌+◌, ◌<◌, ◌≤◌, Bool, true, false, not, cond, eqb, ◌⊎◌, List, [], ◌∷◌, length, take, drop, Some, None, unwrap_or, sym, refl, ap, ◌∙◌, subst, inl, inr, add-one, arith, length-take}
use Rattle.std.specs.List.{position, position_or_len}
use Rattle.std.proofs.lemmas.List.{take_all}
use Rattle.std.proofs.lemmas.List.Quantifiers.{position-Some}
use Rattle.std.proofs.lemmas.Bool.{cases_Bool, cond-true, cond-false}
use Rattle.std.proofs.lemmas.Bool.Decides.{nat_tests}
use Rattle.lines.specs.Lines.{before, behind}

-- the text is cut behind its first n bytes
record Cut (at : ℕ) (bs : List ℕ) (n : ℕ) : Type 0 where
  front : before at bs ≡ take n bs
  rest : n < length bs → behind at bs ≡ Some (drop (suc n) bs)
  none : length bs ≤ n → behind at bs ≡ None

cut_at : (at : ℕ) (bs : List ℕ) → Cut at bs (position_or_len (λ c. eqb c at) bs)
unfolding before behind
cut_at at [] = record { front = refl; rest = λ l. absurd (omega arith); none = λ l. refl }
cut_at at (c ∷ cs) = go (cases_Bool (eqb c at)) (position_or_len (λ c. eqb c at) cs) (position_or_len (λ c. eqb c at) (c ∷ cs)) refl (cut_at at cs)
  where
    go : (eqb c at ≡ true) ⊎ (eqb c at ≡ false) → (k n : ℕ) → n ≡ cond (not (eqb c at)) (1 + k) 0 → Cut at cs k → Cut at (c ∷ cs) n
    go (inl t) k n e h =
        subst (Cut at (c ∷ cs)) (sym (e ∙ ap (λ b. cond (not b) (1 + k) 0) t))
        (record { front = cond-true (eqb c at) [] (c ∷ before at cs) t; rest = λ l. cond-true (eqb c at) (Some cs) (behind at cs) t; none = λ l. absurd (omega arith) })
    go (inr f) k n e h =
        let m : n ≡ suc k = e ∙ ap (λ b. cond (not b) (1 + k) 0) f ∙ omega arith in
        subst (Cut at (c ∷ cs)) (sym m)
        (record {
          front = cond-false (eqb c at) [] (c ∷ before at cs) f ∙ ap (λ t. c ∷ t) h.front;
          rest = λ l. cond-false (eqb c at) (Some cs) (behind at cs) f ∙ h.rest (omega arith);
          none = λ l. cond-false (eqb c at) (Some cs) (behind at cs) f ∙ h.none (omega arith);
        })

pub cut_some : (at : ℕ) (bs : List ℕ) (i : ℕ) → position (λ c. eqb c at) bs ≡ Some i → (take i bs ≡ before at bs) × (Some (drop (i + 1) bs) ≡ behind at bs)
cut_some at bs i e =
    let h = cut_at at bs in
    let l = (position-Some (λ c. eqb c at) bs i 0 e).0 in
    let n : position_or_len (λ c. eqb c at) bs ≡ i = grind (arith, nat_tests) in
    let k = subst (Cut at bs) n h in
    (sym k.front, rw add-one (sym (k.rest l)))

pub cut_none : (at : ℕ) (bs : List ℕ) → position (λ c. eqb c at) bs ≡ None → (bs ≡ before at bs) × (None ≡ behind at bs)
cut_none at bs e =
    let h = cut_at at bs in
    let n : length bs ≤ position_or_len (λ c. eqb c at) bs = grind (arith, nat_tests) in
    (sym (take_all (position_or_len (λ c. eqb c at) bs) bs n) ∙ sym h.front, sym (h.none n))

-- what is behind a text's first byte at which it is cut
pub cut_behind : (at : ℕ) (bs : List ℕ) → drop (length (before at bs) + 1) bs ≡ unwrap_or (behind at bs) []
unfolding before behind
cut_behind at [] = refl
cut_behind at (c ∷ cs) = go (eqb c at) (rw add-one at (cut_behind at cs))
  where
    go : (b : Bool) → drop (suc (length (before at cs))) cs ≡ unwrap_or (behind at cs) []
        → drop (length (cond b [] (c ∷ before at cs)) + 1) (c ∷ cs) ≡ unwrap_or (cond b (Some cs) (behind at cs)) []
    go true h = refl
    go false h = rw add-one h

pub before_le : (at : ℕ) (bs : List ℕ) → length (before at bs) ≤ length bs
before_le at bs = let n = position_or_len (λ c. eqb c at) bs in omega (arith, ap length (cut_at at bs).front, length-take n bs)
