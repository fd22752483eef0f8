-- The lowest of the rows that a walk over the slots keeps.
use Rattle.std.proofs.Common.{◌≡◌, ℕ, zero, suc, ◌<◌, ◌≤◌, Bool, false, ◌&&◌, ◌==◌, ◌⊎◌, nat_le, List, [], ◌∷◌, length, get_or, Some, None, Option, option_map, map, IfSome, MatchOption, is_some, unwrap_or, Bor, sym, refl, ap, ◌∙◌, subst, inl, inr, arith}
use Rattle.std.specs.List.{filter, filter_map, cons_option}
use Rattle.std.specs.Option.{IsSomeAnd}
use Rattle.std.proofs.lemmas.Bool.{cases_eq, cases_lt, both_ways, cond-true, cond-false, and_from, and_left, and_right, eq-eqb, ne_eqb, le-leb, lt-leb}
use Rattle.std.specs.Iterator.Runs.{Run, AnyItem, AllItems, CallKeepsClosure, NoKeyBeyond}
use Rattle.std.specs.Fn.{CalledAt}
use Rattle.std.specs.Ordering.{is_lt, nat_cmp}
use Rattle.std.proofs.lemmas.Map.Keys.{ge_from_not_lt}
use Rattle.std.proofs.lemmas.Option.{IfSome_then}
use denote.Param.Members.{Mut}
use Rattle.tables.specs.declared.row.Row.{Row}
use Rattle.tables.specs.Rows.{blank}
use Rattle.probing.specs.declared.slots.Slot.{Slot}
use Rattle.probing.specs.Slots.{row_in, slot_at, Wanted, Best}

-- whether a row has a key of the file from the block on
abbrev pub wants : ℕ → ℕ → Row → Bool
wants f b r = r.file == f && nat_le b r.block

-- the rows that the walk keeps
abbrev pub kept : ℕ → ℕ → List Slot → List Row
kept f b xs = filter (wants f b) (filter_map (λ (s : Slot). s.row) xs)

cons_row : (f b : ℕ) (o : Option Row) (ss : List Slot)
    → ((kept f b (record { row = o } ∷ ss) ≡ kept f b ss) × (Wanted f b (record { row = o }) → ⊥))
    ⊎ ((kept f b (record { row = o } ∷ ss) ≡ row_in (record { row = o }) ∷ kept f b ss) × Wanted f b (record { row = o }))
cons_row f b None ss = inl (refl, λ w. both_ways false refl w.0)
cons_row f b (Some r) ss = elim (cases_eq r.file f) [
  | inl p ↦ elim (cases_lt r.block b) [
    | inl q ↦ inl (cond-false _ _ _ (and_right _ _ (lt-leb _ _ q)), λ w. omega (arith, w.2))
    | inr q ↦ inr (cond-true _ _ _ (and_from _ _ (eq-eqb _ _ p) (le-leb _ _ q)), (refl, p, q))
  ]
  | inr p ↦ inl (cond-false _ _ _ (and_left _ _ (ne_eqb _ _ p)), λ w. p w.1)
]

-- Each row that is kept stands in a slot.
kept_from : (f b : ℕ) (xs : List Slot) (k : ℕ) → k < length (kept f b xs)
    → (i : ℕ) × (i < length xs) × Wanted f b (slot_at xs i) × (row_in (slot_at xs i) ≡ get_or (kept f b xs) k blank)
kept_from f b [] k l = absurd (omega arith)
kept_from f b (s ∷ ss) k l = elim (cons_row f b s.row ss) [
  | inl w ↦
      let r = kept_from f b ss k (subst (λ (ys : List Row). k < length ys) w.0 l) in
      (suc r.0, omega (arith, r.1), r.2, r.3 ∙ sym (ap (λ (ys : List Row). get_or ys k blank) w.0))
  | inr w ↦ first (kept_from f b ss) w k l
]
  where
    first : ((k : ℕ) → k < length (kept f b ss) → (i : ℕ) × (i < length ss) × Wanted f b (slot_at ss i) × (row_in (slot_at ss i) ≡ get_or (kept f b ss) k blank))
        → (kept f b (s ∷ ss) ≡ row_in s ∷ kept f b ss) × Wanted f b s → (k : ℕ) → k < length (kept f b (s ∷ ss))
        → (i : ℕ) × (i < length (s ∷ ss)) × Wanted f b (slot_at (s ∷ ss) i) × (row_in (slot_at (s ∷ ss) i) ≡ get_or (kept f b (s ∷ ss)) k blank)
    first rest w zero l = (zero, omega arith, w.1, sym (ap (λ (ys : List Row). get_or ys 0 blank) w.0))
    first rest w (suc j) l =
        let r = rest j (let z : suc j < length (row_in s ∷ kept f b ss) = subst (λ (ys : List Row). suc j < length ys) w.0 l in omega (arith, z)) in
        (suc r.0, omega (arith, r.1), r.2, r.3 ∙ sym (ap (λ (ys : List Row). get_or ys (suc j) blank) w.0))

-- Each row that is wanted is kept.
kept_has : (f b : ℕ) (xs : List Slot) (x : ℕ) → x < length xs → Wanted f b (slot_at xs x)
    → (k : ℕ) × (k < length (kept f b xs)) × (get_or (kept f b xs) k blank ≡ row_in (slot_at xs x))
kept_has f b [] x l u = absurd (omega arith)
kept_has f b (s ∷ ss) zero l u = elim (cons_row f b s.row ss) [
  | inl w ↦ absurd (w.1 u)
  | inr w ↦ (zero, omega (arith, ap length w.0), ap (λ (ys : List Row). get_or ys 0 blank) w.0)
]
kept_has f b (s ∷ ss) (suc x) l u =
    let r = kept_has f b ss x (omega arith) u in
    elim (cons_row f b s.row ss) [
      | inl w ↦ (r.0, omega (arith, r.1, ap length w.0), ap (λ (ys : List Row). get_or ys r.0 blank) w.0 ∙ r.2)
      | inr w ↦ (suc r.0, omega (arith, r.1, ap length w.0), ap (λ (ys : List Row). get_or ys (suc r.0) blank) w.0 ∙ r.2)
    ]

-- r is the row with the least block, if there is one.
abbrev Least : List Row → Option Row → Type 0
Least ys None = length ys ≡ 0
Least ys (Some m) = ((k : ℕ) × (k < length ys) × (get_or ys k blank ≡ m)) × ((k : ℕ) → k < length ys → m.block ≤ (get_or ys k blank).block)

best_kept : (f b : ℕ) (xs : List Slot) (r : Option Row) → Least (kept f b xs) r → Best xs f b (length xs) r
best_kept f b xs None e = λ x l u. (let k = kept_has f b xs x l u in omega (arith, k.1))
best_kept f b xs (Some m) h =
    let i = kept_from f b xs h.0.0 h.0.1 in
    ((i.0, i.1, i.2, i.3 ∙ h.0.2), λ x l u. (let k = kept_has f b xs x l u in omega (arith, h.1 k.0 k.1, ap (λ (r : Row). r.block) k.2)))

-- ---- by a run of an iterator

item_is : (o : Option Row) (y m : Row) → option_map (λ (y : Row). y) o ≡ Some y → IsSomeAnd o (λ x. x ≡ m) → y ≡ m
item_is None y m e h = absurd h
item_is (Some x) y m e h = ap (λ (o : Option Row). unwrap_or o blank) (sym e) ∙ h

item_over : (o : Option Row) (y : Row) (n : ℕ) → option_map (λ (y : Row). y) o ≡ Some y → IfSome o (λ x. n ≤ x.block) → n ≤ y.block
item_over None y n e h = absurd (both_ways false refl (ap (λ (o : Option Row). is_some o) e))
item_over (Some x) y n e h = subst (λ (y : Row). n ≤ y.block) (ap (λ (o : Option Row). unwrap_or o blank) e) h

least_run : {S : Type 0} {steps : S → Option Row → S → Type 0} (p : Run steps) (r : Option Row)
    → MatchOption r (p.len ≡ 0) (λ m. AnyItem p (λ x. x ≡ m) × AllItems p (λ x. m.block ≤ x.block)) → Least p.items r
least_run p None e = sym p.long ∙ e
least_run p (Some m) h = (
  (h.0.0, omega (arith, h.0.1, p.long), item_is (p.at h.0.0) _ m (p.reads h.0.0 blank h.0.1) h.0.2),
  λ k l. item_over (p.at k) _ m.block (p.reads k blank (omega (arith, l, p.long))) (h.1 k),
)

-- Keys that a closure reads off the blocks are as the blocks.
pub least_keys : {S F : Type 0} {steps : S → Option Row → S → Type 0} (p : Run steps) (g : Mut F (Bor Row × Unit {0}) ℕ) (f : F) (r : Option Row)
    → CallKeepsClosure g f → ((x : Row) (j : ℕ) (f' : F) → CalledAt g f x j f' → j ≡ x.block)
    → MatchOption r (p.len ≡ 0) (λ m. AnyItem p (λ x. x ≡ m) × NoKeyBeyond p g f is_lt nat_cmp m)
    → MatchOption r (p.len ≡ 0) (λ m. AnyItem p (λ x. x ≡ m) × AllItems p (λ x. m.block ≤ x.block))
least_keys p g f None keeps key e = e
least_keys p g f (Some m) keeps key h =
    let n = h.1 keeps in
    (h.0, λ k. IfSome_then (p.at k) (n.2 k) (λ x j. (let l = ge_from_not_lt j.0 n.0 j.2 in omega (arith, l, key x j.0 f j.1, key m n.0 f n.1))))

rows_of : (us : List (Bor Slot)) → filter_map (λ (s : Bor Slot). s.now.row) us ≡ filter_map (λ (s : Slot). s.row) (map (λ (s : Bor Slot). s.now) us)
rows_of [] = refl
rows_of (u ∷ us) = ap (λ (ys : List Row). cons_option u.now.row ys) (rows_of us)

-- The walk over all slots keeps the rows that are wanted, and the least of them is the best.
pub best_run : {S : Type 0} {steps : S → Option Row → S → Type 0} (p : Run steps) (f b n : ℕ) (xs : List Slot) (us : List (Bor Slot)) (r : Option Row)
    → p.items ≡ filter (wants f b) (filter_map (λ (s : Bor Slot). s.now.row) us) → map (λ (s : Bor Slot). s.now) us ≡ xs
    → length xs ≡ n → MatchOption r (p.len ≡ 0) (λ m. AnyItem p (λ x. x ≡ m) × AllItems p (λ x. m.block ≤ x.block)) → Best xs f b n r
best_run p f b n xs us r e z l h =
    subst (λ (n : ℕ). Best xs f b n r) l (best_kept f b xs r (subst (λ (ys : List Row). Least ys r) (e ∙ ap (filter (wants f b)) (rows_of us ∙ ap (filter_map (λ (s : Slot). s.row)) z)) (least_run p r h)))
