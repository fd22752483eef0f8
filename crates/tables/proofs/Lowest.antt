-- The lowest key of a file from a block on.
use Rattle.std.proofs.Common.{◌≡◌, ℕ, zero, suc, ◌+◌, ◌-◌, ◌<◌, ◌≤◌, ◌⊎◌, Some, None, Option, sym, refl, ap, ◌∙◌, subst, inl, inr, arith}
use Rattle.std.proofs.lemmas.Bool.{cases_eq}
use Rattle.blocks.specs.declared.Entry.{Entry}
use Rattle.tables.specs.declared.row.Row.{Row}
use Rattle.tables.specs.Holding.{Holding, first_row, lowest_row}

first_past : (h : ℕ → Option Entry) (file block n : ℕ) → h block ≡ None → first_row h file block (suc n) ≡ first_row h file (block + 1) n
first_past h file block n e = rw e

first_here : (h : ℕ → Option Entry) (file block n : ℕ) (e : Entry) → h block ≡ Some e
    → first_row h file block (suc n) ≡ Some (record { file = file; block = block; entry = e })
first_here h file block n x e = rw e

first_none : (h : ℕ → Option Entry) (file block n : ℕ) → ((b : ℕ) → block ≤ b → b < block + n → h b ≡ None) → first_row h file block n ≡ None
first_none h file block zero z = refl
first_none h file block (suc n) z =
    first_past h file block n (z block (omega arith) (omega arith))
    ∙ first_none h file (block + 1) n (λ b l m. z b (omega arith) (omega arith))

first_some : (h : ℕ → Option Entry) (file block n b : ℕ) (e : Entry) → block ≤ b → b < block + n → h b ≡ Some e
    → ((x : ℕ) → block ≤ x → x < b → h x ≡ None) → first_row h file block n ≡ Some (record { file = file; block = b; entry = e })
first_some h file block zero b e l m s z = absurd (omega arith)
first_some h file block (suc n) b e l m s z = elim (cases_eq block b) [
  | inl q ↦ first_here h file block n e (ap h q ∙ s) ∙ ap (λ (x : ℕ). Some (record { file = file; block = x; entry = e })) q
  | inr q ↦ first_past h file block n (z block (omega arith) (omega arith))
      ∙ first_some h file (block + 1) n b e (omega arith) (omega arith) s (λ x k k'. z x (omega arith) k')
]

-- Nothing stands there.
pub lowest_none : (h : Holding) (file block : ℕ) → ((b : ℕ) → block ≤ b → b < 65536 → h file b ≡ None) → lowest_row h file block ≡ None
unfolding lowest_row
lowest_none h file block z = first_none (h file) file block (65536 - block) (λ b l m. z b l (omega arith))

-- The first that stands there.
pub lowest_some : (h : Holding) (file block b : ℕ) (e : Entry) → block ≤ b → b < 65536 → h file b ≡ Some e
    → ((x : ℕ) → block ≤ x → x < b → h file x ≡ None) → lowest_row h file block ≡ Some (record { file = file; block = b; entry = e })
unfolding lowest_row
lowest_some h file block b e l m s z = first_some (h file) file block (65536 - block) b e l (omega arith) s z

-- ---- what the lowest row tells

-- The row is of a key of the file among those from the block on, and no key of the file comes before it there.
pub record Lowest (h : ℕ → Option Entry) (file from end : ℕ) (r : Row) : Type 0 where
  pub named : r.file ≡ file
  pub least : from ≤ r.block
  pub within : r.block < end
  pub there : h r.block ≡ Some r.entry
  pub before : (x : ℕ) → from ≤ x → x < r.block → h x ≡ None

known : (o : Option Entry) → (o ≡ None) ⊎ ((e : Entry) × (o ≡ Some e))
known None = inl refl
known (Some e) = inr (e, refl)

some_row : (r s : Row) → ◌≡◌ {A = Option Row} (Some r) (Some s) → s ≡ r
some_row r s e = cc

none_some : (r : Row) → ◌≡◌ {A = Option Row} None (Some r) → ⊥
none_some r e = let z : ◌≡◌ {A = ℕ} 0 1 = cc in omega arith

first_when_none : (h : ℕ → Option Entry) (file from n : ℕ) → first_row h file from n ≡ None → (b : ℕ) → from ≤ b → b < from + n → h b ≡ None
first_when_none h file from zero e b l m = absurd (omega arith)
first_when_none h file from (suc n) e b l m = elim (known (h from)) [
  | inl z ↦ elim (cases_eq from b) [
    | inl q ↦ sym (ap h q) ∙ z
    | inr q ↦ first_when_none h file (from + 1) n (sym (first_past h file from n z) ∙ e) b (omega arith) (omega arith)
  ]
  | inr s ↦ absurd (none_some (record { file = file; block = from; entry = s.0 }) (sym e ∙ first_here h file from n s.0 s.1))
]

first_when_some : (h : ℕ → Option Entry) (file from n : ℕ) (r : Row) → first_row h file from n ≡ Some r → Lowest h file from (from + n) r
first_when_some h file from zero r e = absurd (none_some r e)
first_when_some h file from (suc n) r e = elim (known (h from)) [
  | inl z ↦
      let low = first_when_some h file (from + 1) n r (sym (first_past h file from n z) ∙ e) in
      record {
        named = low.named;
        least = omega (arith, low.least);
        within = omega (arith, low.within);
        there = low.there;
        before = λ x l m. elim (cases_eq from x) [ inl q ↦ sym (ap h q) ∙ z | inr q ↦ low.before x (omega arith) m ];
      }
  | inr s ↦
      let q : r ≡ record { file = file; block = from; entry = s.0 } =
      some_row (record { file = file; block = from; entry = s.0 }) r (sym (first_here h file from n s.0 s.1) ∙ e) in
      subst (λ (r : Row). Lowest h file from (from + suc n) r) (sym q)
      (record { named = refl; least = omega arith; within = omega arith; there = s.1; before = λ x l m. absurd (omega arith) })
]

pub lowest_when_none : (h : Holding) (file block : ℕ) → lowest_row h file block ≡ None → (b : ℕ) → block ≤ b → b < 65536 → h file b ≡ None
unfolding lowest_row
lowest_when_none h file block e b l m = first_when_none (h file) file block (65536 - block) e b l (omega arith)

pub lowest_when_some : (h : Holding) (file block : ℕ) (r : Row) → block ≤ 65536 → lowest_row h file block ≡ Some r → Lowest (h file) file block 65536 r
unfolding lowest_row
lowest_when_some h file block r l e =
    subst (λ (end : ℕ). Lowest (h file) file block end r) (let z : block + (65536 - block) ≡ 65536 = omega arith in z)
    (first_when_some (h file) file block (65536 - block) r e)
