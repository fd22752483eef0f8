-- What rows say of a key after each change of the rows.
use Rattle.std.proofs.Common.{◌≡◌, ℕ, zero, suc, ◌+◌, ◌<◌, ◌≤◌, Bool, true, false, cond, not, ◌&&◌, eqb, leb, ◌≢◌, ◌⊎◌, List, [], ◌∷◌, length, get_or, set, is_some, Some, None, Option, sym, refl, ap, ◌∙◌, inl, inr, arith}
use mathlib.Core.Path.{fun_ext}
use Rattle.std.specs.List.{insert, remove}
use Rattle.std.proofs.lemmas.Bool.{cases_eq, cond-true, cond-false, and_from, and_left, and_right, eq-eqb, ne_eqb, not_from_true, not_from_false, le-leb, lt-leb}
use Rattle.blocks.specs.declared.Entry.{Entry}
use Rattle.blocks.specs.Blocks.{changed, only, one, tally}
use Rattle.blocks.proofs.Changes.{changed_here, changed_beside, changed_elsewhere, only_here, only_other}
use Rattle.blocks.proofs.Sums.{tally_change}
use Rattle.tables.specs.declared.row.Row.{Row}
use Rattle.tables.specs.Holding.{Holding, Numbered, full}
use Rattle.tables.specs.Rows.{says, or_else, first}

or_none : {X : Type 0} (a b : Option X) → a ≡ None → or_else a b ≡ b
or_none a b e = rw e

or_left : {X : Type 0} (a b : Option X) → or_else a b ≡ None → a ≡ None
or_left None b e = refl
or_left (Some x) b e = e

or_right : {X : Type 0} (a b : Option X) → b ≡ None → or_else a b ≡ a
or_right None b e = e
or_right (Some x) b e = refl

known : {X : Type 0} (o : Option X) → (o ≡ None) ⊎ (is_some o ≡ true)
known None = inl refl
known (Some x) = inr refl

module _ {X Y : Type 0} (g : X → Option Y) (d : X) where
  pub first_none : (xs : List X) → ((i : ℕ) → i < length xs → g (get_or xs i d) ≡ None) → first g xs ≡ None
  first_none [] h = refl
  first_none (x ∷ xs) h = or_none (g x) (first g xs) (h 0 (omega arith)) ∙ first_none xs (λ i l. h (suc i) (omega arith))

  pub first_past : (xs : List X) (i : ℕ) → first g xs ≡ None → i < length xs → g (get_or xs i d) ≡ None
  first_past [] i e l = absurd (omega arith)
  first_past (x ∷ xs) zero e l = or_left (g x) (first g xs) e
  first_past (x ∷ xs) (suc i) e l = first_past xs i (sym (or_none (g x) (first g xs) (or_left (g x) (first g xs) e)) ∙ e) (omega arith)

  pub first_only : (xs : List X) (i : ℕ) → i < length xs → ((j : ℕ) → j < length xs → j ≢ i → g (get_or xs j d) ≡ None) → first g xs ≡ g (get_or xs i d)
  first_only [] i l h = absurd (omega arith)
  first_only (x ∷ xs) zero l h = or_right (g x) (first g xs) (first_none xs (λ i m. h (suc i) (omega arith) (λ e. omega arith)))
  first_only (x ∷ xs) (suc i) l h =
      or_none (g x) (first g xs) (h 0 (omega arith) (λ e. omega arith)) ∙ first_only xs i (omega arith) (λ j m n. h (suc j) (omega arith) (λ e. n (omega arith)))

  pub first_set : (xs : List X) (i : ℕ) (y : X) → g (get_or xs i d) ≡ g y → first g (set xs i y) ≡ first g xs
  first_set [] i y e = refl
  first_set (x ∷ xs) zero y e = ap (λ (o : Option Y). or_else o (first g xs)) (sym e)
  first_set (x ∷ xs) (suc i) y e = ap (or_else (g x)) (first_set xs i y e)

  pub first_inserted : (xs : List X) (i : ℕ) (y : X) → g y ≡ None → first g (insert xs i y) ≡ first g xs
  first_inserted xs zero y e = or_none (g y) (first g xs) e
  first_inserted [] (suc i) y e = or_none (g y) None e
  first_inserted (x ∷ xs) (suc i) y e = ap (or_else (g x)) (first_inserted xs i y e)

  pub first_removed : (xs : List X) (i : ℕ) → g (get_or xs i d) ≡ None → first g (remove xs i) ≡ first g xs
  first_removed [] zero e = refl
  first_removed [] (suc i) e = refl
  first_removed (x ∷ xs) zero e = sym (or_none (g x) (first g xs) e)
  first_removed (x ∷ xs) (suc i) e = ap (or_else (g x)) (first_removed xs i e)

  -- What the first says, one of them says.
  pub first_some : (xs : List X) → is_some (first g xs) ≡ true → (i : ℕ) × (i < length xs) × (is_some (g (get_or xs i d)) ≡ true)
  first_some [] e = absurd (let z : ◌≡◌ {A = ℕ} 0 1 = ap (λ (b : Bool). cond b 1 0) e in omega arith)
  first_some (x ∷ xs) e = elim (known (g x)) [
    | inl q ↦
        let r = first_some xs (sym (ap is_some (or_none (g x) (first g xs) q)) ∙ e) in
        (suc r.0, omega (arith, r.1), r.2)
    | inr q ↦ (0, omega arith, q)
  ]

-- ---- one row

pub says_here : (f b : ℕ) (x : Row) → x.file ≡ f → x.block ≡ b → says f b x ≡ Some x.entry
says_here f b x p q = cond-true (eqb f x.file && eqb b x.block) (Some x.entry) None
    (and_from (eqb f x.file) (eqb b x.block) (eq-eqb f x.file (sym p)) (eq-eqb b x.block (sym q)))

pub says_none : (f b : ℕ) (x : Row) → (x.file ≡ f → x.block ≡ b → ⊥) → says f b x ≡ None
says_none f b x n = cond-false (eqb f x.file && eqb b x.block) (Some x.entry) None (elim (cases_eq x.file f) [
  | inl p ↦ and_right (eqb f x.file) (eqb b x.block) (ne_eqb b x.block (λ q. n p (sym q)))
  | inr p ↦ and_left (eqb f x.file) (eqb b x.block) (ne_eqb f x.file (λ q. p (sym q)))
])

-- A row that says something is the key's.
pub says_key : (f b : ℕ) (x : Row) → is_some (says f b x) ≡ true → (x.file ≡ f) × (x.block ≡ b)
says_key f b x e = elim (cases_eq x.file f) [
  | inl p ↦ elim (cases_eq x.block b) [
    | inl q ↦ (p, q)
    | inr q ↦ absurd (never (says_none f b x (λ _ z. q z)))
  ]
  | inr p ↦ absurd (never (says_none f b x (λ z _. p z)))
]
  where
    never : says f b x ≡ None → ⊥
    never z = let y : ◌≡◌ {A = ℕ} 1 0 = sym (ap (λ (b : Bool). cond b 1 0) e) ∙ ap (λ (o : Option Entry). cond (is_some o) 1 0) z in omega arith

-- ---- one key

-- What gives the new at a key, and the old at the others, is the old changed there.
pub changed_by : (p q : Holding) (file block : ℕ) (o : Option Entry) → q file block ≡ o
    → ((f b : ℕ) → (file ≡ f → block ≡ b → ⊥) → q f b ≡ p f b) → q ≡ changed p file (only block) (λ _. o)
changed_by p q file block o here there = fun_ext (λ f. fun_ext (λ b. at f b (cases_eq f file) (cases_eq b block)))
  where
    at : (f b : ℕ) → (f ≡ file) ⊎ (f ≢ file) → (b ≡ block) ⊎ (b ≢ block) → q f b ≡ changed p file (only block) (λ _. o) f b
    at f b (inl e) (inl k) =
        ap (λ (n : ℕ). q n b) e ∙ ap (q file) k ∙ here
        ∙ sym (ap (λ (n : ℕ). changed p file (only block) (λ _. o) n b) e ∙ ap (changed p file (only block) (λ _. o) file) k
        ∙ changed_here p file (only block) (λ _. o) block (only_here block))
    at f b (inl e) (inr k) =
        there f b (λ _ z. k (sym z)) ∙ ap (λ (n : ℕ). p n b) e
        ∙ sym (ap (λ (n : ℕ). changed p file (only block) (λ _. o) n b) e ∙ changed_beside p file (only block) (λ _. o) b (only_other block b k))
    at f b (inr e) k = there f b (λ z _. e (sym z)) ∙ sym (changed_elsewhere p file (only block) (λ _. o) f b e)

-- Keys are still file and block numbers.
pub numbered_by : (p q : Holding) (file block : ℕ) (o : Option Entry) → file < 65536 → block < 65536 → q ≡ changed p file (only block) (λ _. o)
    → Numbered p → Numbered q
numbered_by p q file block o hf hb e num f b y =
    elim (cases_eq f file) [
      | inl u ↦ elim (cases_eq b block) [
        | inl v ↦ (omega arith, omega arith)
        | inr v ↦ num f b (sym (ap is_some (at ∙ ap (λ (n : ℕ). changed p file (only block) (λ _. o) n b) u ∙ changed_beside p file (only block) (λ _. o) b (only_other block b v)
            ∙ sym (ap (λ (n : ℕ). p n b) u))) ∙ y)
      ]
      | inr u ↦ num f b (sym (ap is_some (at ∙ changed_elsewhere p file (only block) (λ _. o) f b u)) ∙ y)
    ]
  where
    at : q f b ≡ changed p file (only block) (λ _. o) f b
    at = ap (λ (h : Holding). h f b) e

-- How many keys are held after a change at one.
pub tally_by : (p q : Holding) (file block : ℕ) (o : Option Entry) → file < 65536 → block < 65536 → q ≡ changed p file (only block) (λ _. o)
    → tally q + one (is_some (p file block)) ≡ tally p + one (is_some o)
tally_by p q file block o hf hb e = ap (λ (h : Holding). tally h + one (is_some (p file block))) e ∙ tally_change p file block o hf hb

-- ---- whether a put is refused

pub room_old : (h : Holding) (n file block : ℕ) → is_some (h file block) ≡ true → full h n file block ≡ false
room_old h n file block e = and_left (not (is_some (h file block))) (leb n (tally h)) (not_from_true (is_some (h file block)) e)

pub room_new : (h : Holding) (n file block : ℕ) → tally h < n → full h n file block ≡ false
room_new h n file block l = and_right (not (is_some (h file block))) (leb n (tally h)) (lt-leb n (tally h) l)

pub no_room : (h : Holding) (n file block : ℕ) → is_some (h file block) ≡ false → n ≤ tally h → full h n file block ≡ true
no_room h n file block e l =
    and_from (not (is_some (h file block))) (leb n (tally h)) (not_from_false (is_some (h file block)) e) (le-leb n (tally h) l)
