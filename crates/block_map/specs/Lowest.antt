-- The lowest mapped block of an extent.
use Rattle.std.specs.Prelude.{◌≡◌, ℕ, zero, suc, ◌+◌, ◌-◌, ◌<◌, ◌≤◌, true, is_some, MatchOption, Some, None, Option, refl}
use Rattle.std.proofs.Common.{sym, ap, ◌∙◌, inl, inr, arith}
use Rattle.std.specs.Option.{option_map}
use Rattle.std.proofs.lemmas.Bool.{cases_eq, false≢true}
use Rattle.blocks.specs.declared.Entry.{Entry}
use Rattle.tables.specs.declared.row.Row.{Row}
use Rattle.tables.specs.Holding.{Holding, lowest_row}
use Rattle.tables.proofs.Lowest.{lowest_when_none, lowest_when_some}
use Rattle.maps.specs.Steps.{lowest_mapped_block, here_or}
use Rattle.block_map.specs.BlockKeys.{placed_by, Free}

pub none_some : {X : Type 0} (x : X) → ◌≡◌ {A = Option X} None (Some x) → ⊥
none_some x e = let z : ◌≡◌ {A = ℕ} 0 1 = cc in omega arith

here_none : (o : Option ℕ) (b : ℕ) (r : Option ℕ) → o ≡ None → here_or o b r ≡ r
here_none o b r e = ap (λ (x : Option ℕ). here_or x b r) e

here_some : (o : Option ℕ) (b : ℕ) (r : Option ℕ) → is_some o ≡ true → here_or o b r ≡ Some b
here_some None b r e = absurd (false≢true e)
here_some (Some x) b r e = refl

none_both : (o : Option ℕ) (b : ℕ) (r : Option ℕ) → here_or o b r ≡ None → (o ≡ None) × (r ≡ None)
none_both None b r e = (refl, e)
none_both (Some x) b r e = absurd (none_some b (sym e))

-- No block of the extent is mapped.
pub lowest_none : (m : ℕ → Option ℕ) (b n : ℕ) → ((x : ℕ) → b ≤ x → x < b + n → m x ≡ None) → lowest_mapped_block m b n ≡ None
unfolding lowest_mapped_block
lowest_none m b zero h = refl
lowest_none m b (suc n) h =
    here_none (m b) b (lowest_mapped_block m (suc b) n) (h b (omega arith) (omega arith)) ∙ lowest_none m (suc b) n (λ x l k. h x (omega arith) (omega arith))

-- One is mapped, and none before it.
pub lowest_some : (m : ℕ → Option ℕ) (b n x : ℕ) → b ≤ x → x < b + n → is_some (m x) ≡ true → ((y : ℕ) → b ≤ y → y < x → m y ≡ None)
    → lowest_mapped_block m b n ≡ Some x
unfolding lowest_mapped_block
lowest_some m b zero x l k s h = absurd (omega arith)
lowest_some m b (suc n) x l k s h = elim (cases_eq b x) [
  | inl e ↦ here_some (m b) b (lowest_mapped_block m (suc b) n) (ap (λ y. is_some (m y)) e ∙ s) ∙ ap (λ (y : ℕ). Some y) e
  | inr e ↦ here_none (m b) b (lowest_mapped_block m (suc b) n) (h b (omega arith) (omega arith))
      ∙ lowest_some m (suc b) n x (omega arith) (omega arith) s (λ y i j. h y (omega arith) j)
]

when_none : (m : ℕ → Option ℕ) (b n : ℕ) → lowest_mapped_block m b n ≡ None → (x : ℕ) → b ≤ x → x < b + n → m x ≡ None
unfolding lowest_mapped_block
when_none m b zero e x l k = absurd (omega arith)
when_none m b (suc n) e x l k =
    let s = none_both (m b) b (lowest_mapped_block m (suc b) n) e in
    elim (cases_eq x b) [
      | inl q ↦ ap m q ∙ s.0
      | inr q ↦ when_none m (suc b) n s.1 x (omega arith) (omega arith)
    ]

-- ---- of a table with one key for each block

unmapped : (o : Option Entry) → option_map (λ (e : Entry). e.board) o ≡ None → o ≡ None
unmapped None e = refl
unmapped (Some x) e = absurd (none_some x.board (sym e))

keyless : (h : Holding) (f b : ℕ) → h f b ≡ None → placed_by h f b ≡ None
keyless h f b e = ap (option_map (λ (e : Entry). e.board)) e

keyed : (o : Option Entry) → is_some o ≡ true → is_some (option_map (λ (e : Entry). e.board) o) ≡ true
keyed None e = e
keyed (Some x) e = refl

pub free_when_none : (h : Holding) (file first n : ℕ) → None ≡ lowest_mapped_block (placed_by h file) first n → Free (h file) first n
free_when_none h file first n e x l k = unmapped (h file x) (when_none (placed_by h file) first n (sym e) x l k)

-- The first block of an extent with a key is its lowest mapped one.
pub lowest_found : (h : Holding) (file first n : ℕ) (o : Option ℕ)
    → MatchOption o ((b : ℕ) → first ≤ b → b < first + n → h file b ≡ None)
    (λ b. (first ≤ b) × (b < first + n) × (is_some (h file b) ≡ true) × ((x : ℕ) → first ≤ x → x < b → h file x ≡ None))
    → o ≡ lowest_mapped_block (placed_by h file) first n
lowest_found h file first n None free = sym (lowest_none (placed_by h file) first n (λ b l m. keyless h file b (free b l m)))
lowest_found h file first n (Some b) s =
    sym (lowest_some (placed_by h file) first n b s.0 s.1 (keyed (h file b) s.2) (λ x l m. keyless h file x (s.3 x l m)))

-- The lowest key is the lowest mapped block's.
pub next_is : (h : Holding) (file block : ℕ) → block < 65536
    → option_map (λ (r : Row). r.block) (lowest_row h file block) ≡ lowest_mapped_block (placed_by h file) block (65536 - block)
next_is h file block l = at (lowest_row h file block) refl
  where
    at : (o : Option Row) → lowest_row h file block ≡ o → option_map (λ (r : Row). r.block) o ≡ lowest_mapped_block (placed_by h file) block (65536 - block)
    at None e = sym (lowest_none (placed_by h file) block (65536 - block) (λ x k j. keyless h file x (lowest_when_none h file block e x k (omega arith))))
    at (Some row) e =
        let low = lowest_when_some h file block row (omega arith) e in
        let least : block ≤ row.block = low.least in
        let within : row.block < 65536 = low.within in
        sym (lowest_some (placed_by h file) block (65536 - block) row.block least (omega arith)
        (keyed (h file row.block) (ap is_some low.there))
        (λ y k j. keyless h file y (low.before y k j)))
