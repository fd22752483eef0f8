-- What the lower store holds as the mapped blocks of a file are copied, going up.
use Rattle.std.proofs.Common.{◌≡◌, ℕ, ◌+◌, ◌<◌, ◌≤◌, Bool, true, false, cond, ◌&&◌, eqb, ltb, ◌≢◌, ◌⊎◌, List, is_some, Some, None, Option, sym, refl, ap, ◌∙◌, ap₂, inl, inr, arith}
use mathlib.Core.Path.{fun_ext}
use Rattle.std.proofs.lemmas.Bool.{cases_eq, cases_lt, lt-ltb, le-ltb, and_left, and_right, and_from, cond-false}
use Rattle.blocks.specs.Blocks.{Contents, only, changed}
use Rattle.blocks.proofs.Changes.{changed_here, changed_beside, changed_elsewhere, only_here, only_other}
use Rattle.ledger.specs.Store.{bytes_at}
use Rattle.lowers.specs.Lowers.{Holds}
use Rattle.walks.specs.Walks.{copied, Reaches}
use Rattle.walks.specs.Steps.{Hole}

-- the mapped blocks below n are copied
abbrev pub copied_below : (ℕ → List ℕ) → (ℕ → Option ℕ) → ℕ → Contents → ℕ → Contents
copied_below board row file low n = changed low file (λ b. ltb b n && is_some (row b)) (λ b. bytes_at board (low file b) (row b))

same_chosen : {X : Type 0} (h : ℕ → ℕ → X) (file : ℕ) (c d : ℕ → Bool) (g : ℕ → X) → ((b : ℕ) → c b ≡ d b) → changed h file c g ≡ changed h file d g
same_chosen h file c d g e = ap (λ (z : ℕ → Bool). changed h file z g) (fun_ext e)

-- a block above all mapped ones, or within a hole
unmapped : (row : ℕ → Option ℕ) (n width size : ℕ) → Hole row n width → Reaches row width size → (b : ℕ) → n ≤ b → row b ≡ None
unmapped row n width size hole reach b l = go (row b) refl (cases_lt b width)
  where
    go : (o : Option ℕ) → row b ≡ o → (b < width) ⊎ (width ≤ b) → row b ≡ None
    go None e w = e
    go (Some p) e (inl w) = hole b l w
    go (Some p) e (inr w) = absurd (omega (arith, (reach b p e).0))

module _ (board : ℕ → List ℕ) (row : ℕ → Option ℕ) (file : ℕ) (low : Contents) where
  -- whether a block is chosen, where the bound does not matter
  either_bound : (m n b : ℕ) → (row b ≡ None) ⊎ (ltb b m ≡ ltb b n) → (ltb b m && is_some (row b)) ≡ (ltb b n && is_some (row b))
  either_bound m n b (inl e) = and_right (ltb b m) (is_some (row b)) (ap is_some e) ∙ sym (and_right (ltb b n) (is_some (row b)) (ap is_some e))
  either_bound m n b (inr e) = ap (λ v. v && is_some (row b)) e

  pub copied_none : low ≡ copied_below board row file low 0
  copied_none = sym (fun_ext (λ f. fun_ext (λ b.
      cond-false (eqb f file && (ltb b 0 && is_some (row b))) (bytes_at board (low file b) (row b)) (low f b)
      (and_right (eqb f file) (ltb b 0 && is_some (row b)) (and_left (ltb b 0) (is_some (row b)) (le-ltb b 0 (omega arith)))))))

  -- the next mapped block
  pub copied_next : (n b p : ℕ) → n ≤ b → row b ≡ Some p → Hole row n b
      → changed (copied_below board row file low n) file (only b) (λ _. board p) ≡ copied_below board row file low (b + 1)
  copied_next n b p l e hole = fun_ext (λ f. fun_ext (λ c. at f c (cases_eq f file)))
    where
      bound : (c : ℕ) → c ≢ b → (c < n) ⊎ (n ≤ c) → (c < b) ⊎ (b ≤ c) → (row c ≡ None) ⊎ (ltb c n ≡ ltb c (b + 1))
      bound c d (inl x) y = inr (lt-ltb c n x ∙ sym (lt-ltb c (b + 1) (omega arith)))
      bound c d (inr x) (inl y) = inl (hole c x y)
      bound c d (inr x) (inr y) = inr (le-ltb c n x ∙ sym (le-ltb c (b + 1) (omega arith)))

      here : (c : ℕ) → (c ≡ b) ⊎ (c ≢ b)
          → changed (copied_below board row file low n) file (only b) (λ _. board p) file c ≡ copied_below board row file low (b + 1) file c
      here c (inl s) =
          let chosen : (ltb c (b + 1) && is_some (row c)) ≡ true =
          and_from (ltb c (b + 1)) (is_some (row c)) (lt-ltb c (b + 1) (omega arith)) (ap (λ x. is_some (row x)) s ∙ ap is_some e) in
          changed_here (copied_below board row file low n) file (only b) (λ _. board p) c (ap (only b) s ∙ only_here b)
          ∙ sym (changed_here low file (λ x. ltb x (b + 1) && is_some (row x)) (λ x. bytes_at board (low file x) (row x)) c chosen
          ∙ ap (bytes_at board (low file c)) (ap row s ∙ e))
      here c (inr d) =
          changed_beside (copied_below board row file low n) file (only b) (λ _. board p) c (only_other b c d)
          ∙ ap (λ v. cond (eqb file file && v) (bytes_at board (low file c) (row c)) (low file c))
          (either_bound n (b + 1) c (bound c d (cases_lt c n) (cases_lt c b)))

      at : (f c : ℕ) → (f ≡ file) ⊎ (f ≢ file)
          → changed (copied_below board row file low n) file (only b) (λ _. board p) f c ≡ copied_below board row file low (b + 1) f c
      at f c (inl s) =
          ap (λ x. changed (copied_below board row file low n) file (only b) (λ _. board p) x c) s
          ∙ here c (cases_eq c b)
          ∙ ap (λ x. copied_below board row file low (b + 1) x c) (sym s)
      at f c (inr d) =
          changed_elsewhere (copied_below board row file low n) file (only b) (λ _. board p) f c d
          ∙ changed_elsewhere low file (λ x. ltb x n && is_some (row x)) (λ x. bytes_at board (low file x) (row x)) f c d
          ∙ sym (changed_elsewhere low file (λ x. ltb x (b + 1) && is_some (row x)) (λ x. bytes_at board (low file x) (row x)) f c d)

  -- no mapped block is left
  pub copied_all : (n width size : ℕ) → Hole row n width → Reaches row width size → copied_below board row file low n ≡ copied board row file low
  copied_all n width size hole reach =
      same_chosen low file (λ b. ltb b n && is_some (row b)) (λ b. is_some (row b)) (λ b. bytes_at board (low file b) (row b)) (λ b. at b (cases_lt b n))
    where
      at : (b : ℕ) → (b < n) ⊎ (n ≤ b) → (ltb b n && is_some (row b)) ≡ is_some (row b)
      at b (inl l) = ap (λ v. v && is_some (row b)) (lt-ltb b n l)
      at b (inr l) =
          let e : is_some (row b) ≡ false = ap is_some (unmapped row n width size hole reach b l) in
          and_right (ltb b n) (is_some (row b)) e ∙ sym e

-- ---- the walk

-- Below, row, size, held, files, width and low are what map, board and lower store meant at the start, and those with 1 what they mean
-- before a turn.
module _ (row row1 : ℕ → Option ℕ) (size size1 : ℕ) (held held1 : ℕ → List ℕ) (files width : ℕ) (low : Contents) (files1 width1 : ℕ) (bytes1 : Contents)
    (file n : ℕ) (same_row : row1 ≡ row) (same_s : size1 ≡ size) (same_h : held1 ≡ held)
    (going : Holds files width (copied_below held row file low n) files1 width1 bytes1) (reach : Reaches row width size) where
  -- the copy of the next mapped block is granted
  pub turn_grants : (b p : ℕ) → file < files → row1 b ≡ Some p → (file < files1) × (b < width1) × (p < size1)
  turn_grants b p lf e =
      let r = reach b p (sym (ap (λ (z : ℕ → Option ℕ). z b) same_row) ∙ e) in
      let f = going.same_files in
      let w = going.same_width in
      (omega arith, omega (arith, r.0), omega (arith, r.1))

  pub turn_copies : (b p n' files2 width2 : ℕ) (bytes2 : Contents) → n ≤ b → (row1 b ≡ Some p) × Hole row1 n b → n' ≡ b + 1
      → Holds files1 width1 (changed bytes1 file (only b) (λ _. held1 p)) files2 width2 bytes2
      → Holds files width (copied_below held row file low n') files2 width2 bytes2
  turn_copies b p n' files2 width2 bytes2 l found behind copy = record {
    same_files = copy.same_files ∙ going.same_files;
    same_width = copy.same_width ∙ going.same_width;
    same_bytes = copy.same_bytes
        ∙ ap₂ (λ (z : Contents) (h : ℕ → List ℕ). changed z file (only b) (λ _. h p)) going.same_bytes same_h
        ∙ copied_next held row file low n b p l (sym (ap (λ (z : ℕ → Option ℕ). z b) same_row) ∙ found.0)
        (λ c x y. sym (ap (λ (z : ℕ → Option ℕ). z c) same_row) ∙ found.1 c x y)
        ∙ ap (copied_below held row file low) (sym behind);
  }

  -- no mapped block is left
  pub end_copies : Hole row1 n width → Holds files width (copied held row file low) files1 width1 bytes1
  end_copies hole = record {
    same_files = going.same_files;
    same_width = going.same_width;
    same_bytes = going.same_bytes
        ∙ copied_all held row file low n width size (λ c x y. sym (ap (λ (z : ℕ → Option ℕ). z c) same_row) ∙ hole c x y) reach;
  }
