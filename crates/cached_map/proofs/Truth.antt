-- How what is remembered stays true.
use Rattle.std.proofs.Common.{◌≡◌, ℕ, zero, suc, ◌<◌, Bool, true, false, cond, ◌&&◌, eqb, ◌⊎◌, List, [], ◌∷◌, map, set, length, is_some, Some, None, Option, Bor, sym, refl, ap, ◌∙◌, subst, inl, inr, arith}
use Rattle.std.specs.Option.{option_or, MatchOption}
use Rattle.std.specs.List.{AllWithin, HoldsAt}
use Rattle.std.proofs.lemmas.Bool.{false≢true, cases_Bool, and_parts, eqb-true, cond-true, cond-false}
use Rattle.blocks.specs.Blocks.{Placement, inside}
use Rattle.cached_map.specs.declared.memory.Line.{Line}
use Rattle.cached_map.specs.Remembering.{says, True, struck, recalled, AllTrue}

pub none_some : (v : ℕ) → ◌≡◌ {A = Option ℕ} None (Some v) → ⊥
none_some v e = let z : ◌≡◌ {A = ℕ} 0 1 = cc in omega arith

-- ---- one line

true_says : (p : Placement) (l : Option Line) (file block v : ℕ) → True p l → says file block l ≡ Some v → p file block ≡ Some v
true_says p None file block v t e = absurd (none_some v e)
true_says p (Some l) file block v t e = at (cases_Bool (eqb l.file file && eqb l.block block))
  where
    at : ((eqb l.file file && eqb l.block block) ≡ true) ⊎ ((eqb l.file file && eqb l.block block) ≡ false) → p file block ≡ Some v
    at (inl y) =
        let q = and_parts (eqb l.file file) (eqb l.block block) y in
        ap (λ f. p f block) (sym (eqb-true l.file file q.0)) ∙ ap (p l.file) (sym (eqb-true l.block block q.1))
        ∙ t ∙ sym (cond-true (eqb l.file file && eqb l.block block) (Some l.board) None y) ∙ e
    at (inr n) = absurd (none_some v (sym (cond-false (eqb l.file file && eqb l.block block) (Some l.board) None n) ∙ e))

-- A line stays true, or is struck out.
true_struck : (p q : Placement) (file first n : ℕ) (l : Option Line)
    → ((f b v : ℕ) → p f b ≡ Some v → (eqb f file && inside first n b) ≡ false → q f b ≡ Some v)
    → True p l → True q (struck file first n l)
true_struck p q file first n None more t = tt
true_struck p q file first n (Some l) more t = at (eqb l.file file && inside first n l.block) (more l.file l.block l.board t)
  where
    at : (o : Bool) → (o ≡ false → q l.file l.block ≡ Some l.board) → True q (cond o None (Some l))
    at true k = tt
    at false k = k refl

-- ---- all lines

or_some : (a b : Option ℕ) → is_some a ≡ true → option_or a b ≡ a
or_some None b e = absurd (false≢true e)
or_some (Some x) b e = refl

or_none : (a b : Option ℕ) → a ≡ None → option_or a b ≡ b
or_none a b e = ap (λ (o : Option ℕ). option_or o b) e

module _ (file block : ℕ) where
  abbrev Quiet : Option Line → Type 0
  Quiet l = says file block l ≡ None

  none_recalled : (ls : List (Option Line)) → AllWithin Quiet ls 0 (length ls) → None ≡ recalled ls file block
  none_recalled [] q = refl
  none_recalled (l ∷ ls) q =
      none_recalled ls (λ k d a b. q (suc k) d (omega arith) (omega arith))
      ∙ sym (or_none (says file block l) (recalled ls file block) (q 0 l (omega arith) (omega arith)))

  line_recalled : (ls : List (Option Line)) (x : Option Line) (i : ℕ) → is_some (says file block x) ≡ true → i < length ls → HoldsAt (λ y. y ≡ x) ls i
      → AllWithin Quiet ls 0 i → says file block x ≡ recalled ls file block
  line_recalled [] x i s l h q = absurd (omega arith)
  line_recalled (y ∷ ls) x zero s l h q =
      let e : x ≡ y = sym (h y) in
      sym (or_some (says file block x) (recalled ls file block) s)
      ∙ ap (λ (z : Option Line). recalled (z ∷ ls) file block) e
  line_recalled (y ∷ ls) x (suc i) s l h q =
      line_recalled ls x i s (omega arith) h (λ k d a b. q (suc k) d (omega arith) (omega arith))
      ∙ sym (or_none (says file block y) (recalled ls file block) (q 0 y (omega arith) (omega arith)))

  abbrev pub board_of : Option (Bor (Option Line)) → Option ℕ
  board_of None = None
  board_of (Some x) = says file block x.now

  -- The first line that says something of the block is recalled.
  pub first_recalled : (ls : List (Option Line)) (o : Option (Bor (Option Line)))
      → MatchOption o (AllWithin Quiet ls 0 (length ls))
      (λ x. (is_some (says file block x.now) ≡ true) × (i : ℕ) × (i < length ls) × HoldsAt (λ y. y ≡ x.now) ls i × AllWithin Quiet ls 0 i)
      → board_of o ≡ recalled ls file block
  first_recalled ls None q = none_recalled ls q
  first_recalled ls (Some x) q = line_recalled ls x.now q.1 q.0 q.2 q.3 q.4

or_cases : (a b : Option ℕ) (v : ℕ) → option_or a b ≡ Some v → (a ≡ Some v) ⊎ (b ≡ Some v)
or_cases None b v e = inr e
or_cases (Some x) b v e = inl e

pub true_recalled : (p : Placement) (ls : List (Option Line)) (file block v : ℕ) → AllTrue p ls → recalled ls file block ≡ Some v → p file block ≡ Some v
true_recalled p [] file block v t e = absurd (none_some v e)
true_recalled p (l ∷ ls) file block v t e = elim (or_cases (says file block l) (recalled ls file block) v e) [
  | inl x ↦ true_says p l file block v t.0 x
  | inr x ↦ true_recalled p ls file block v t.1 x
]

pub true_set : (p : Placement) (ls : List (Option Line)) (i file block v : ℕ) → p file block ≡ Some v
    → AllTrue p ls → AllTrue p (set ls i (Some (record { file = file; block = block; board = v })))
true_set p [] i file block v e t = tt
true_set p (l ∷ ls) zero file block v e t = (e, t.1)
true_set p (l ∷ ls) (suc i) file block v e t = (t.0, true_set p ls i file block v e t.1)

-- What stays placed stays true.
pub true_more : (p q : Placement) (ls : List (Option Line)) → ((f b v : ℕ) → p f b ≡ Some v → q f b ≡ Some v) → AllTrue p ls → AllTrue q ls
true_more p q [] more t = tt
true_more p q (None ∷ ls) more t = (tt, true_more p q ls more t.1)
true_more p q (Some l ∷ ls) more t = (more l.file l.block l.board t.0, true_more p q ls more t.1)

pub true_same : (p q : Placement) (ls : List (Option Line)) → q ≡ p → AllTrue p ls → AllTrue q ls
true_same p q ls e t = subst (λ (u : Placement). AllTrue u ls) (sym e) t

pub all_struck : (p q : Placement) (file first n : ℕ) (ls : List (Option Line))
    → ((f b v : ℕ) → p f b ≡ Some v → (eqb f file && inside first n b) ≡ false → q f b ≡ Some v)
    → AllTrue p ls → AllTrue q (map (struck file first n) ls)
all_struck p q file first n [] more t = tt
all_struck p q file first n (l ∷ ls) more t = (true_struck p q file first n l more t.0, all_struck p q file first n ls more t.1)
