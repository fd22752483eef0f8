-- The map that holds just one run, and the table of a list of keys.
use Rattle.std.proofs.Common.{◌≡◌, ℕ, ◌+◌, ◌-◌, ◌<◌, ◌≤◌, true, false, eqb, ◌⊎◌, Bool, cond, List, [], ◌∷◌, Some, None, sym, refl, ap, ◌∙◌, inl, inr, arith, pow_pos}
use Rattle.std.specs.List.{find}
use Rattle.std.specs.Option.{option_map}
use Rattle.std.proofs.lemmas.Bool.{cases_lt, cases_Bool, eqb-true, eq-eqb, cond-true, cond-false}
use Rattle.blocks.specs.Blocks.{inside}
use Rattle.blocks.specs.declared.Entry.{Entry}
use Rattle.blocks.proofs.Changes.{inside_yes, inside_before, inside_after}
use Rattle.extents.specs.declared.key.Key.{Key}
use Rattle.extents.specs.Extents.{FileMap, entry, IsKey, KeysOf, Barrier, lookup}
use Rattle.extents.specs.Runs.{Run, run_map, Holds, ListsKeys, or_at, table_of}
use Rattle.extents.specs.Laws.{RunKeys}
use Rattle.extents.proofs.Straights.{some-none, at_block, key_same}
use Rattle.extents.proofs.Greed.{walk_keys}
use Rattle.extents.proofs.Paths.{reads_back}

-- ---- one run

module _ (first n p : ℕ) where
  pub run_here : (b : ℕ) → first ≤ b → b < first + n → run_map first n p b ≡ Some (p + (b - first))
  run_here b l h = cond-true (inside first n b) (Some (p + (b - first))) None (inside_yes first n b l h)

  run_before : (b : ℕ) → b < first → run_map first n p b ≡ None
  run_before b l = cond-false (inside first n b) (Some (p + (b - first))) None (inside_before first n b l)

  run_after : (b : ℕ) → first + n ≤ b → run_map first n p b ≡ None
  run_after b l = cond-false (inside first n b) (Some (p + (b - first))) None (inside_after first n b l)

  run_runs : Run (run_map first n p) first (first + n) p
  run_runs i h =
      let e : p + ((first + i) - first) ≡ p + i = omega arith in
      run_here (first + i) (omega arith) h ∙ ap Some e

  -- no straight extent goes past either end
  run_left : Barrier (run_map first n p) first
  run_left k a q h l r =
      some-none (run_map first n p a) _ (at_block (run_map first n p) k a q a h (omega arith) (omega (arith, pow_pos k))) (run_before a l)

  run_right : Barrier (run_map first n p) (first + n)
  run_right k a q h l r =
      some-none (run_map first n p (first + n)) _ (at_block (run_map first n p) k a q (first + n) h (omega arith) r) (run_after (first + n) (omega arith))

  -- a key of the run starts in it
  key_inside : (a s q : ℕ) → IsKey (run_map first n p) a s q → (first ≤ a) × (a < first + n)
  key_inside a s q k = (low (cases_lt a first), high (cases_lt a (first + n)))
    where
      here : run_map first n p a ≡ Some (q + (a - a))
      here = at_block (run_map first n p) k.k a q a k.straight (omega arith) (omega (arith, pow_pos k.k))

      low : (a < first) ⊎ (first ≤ a) → first ≤ a
      low (inl l) = some-none (run_map first n p a) _ here (run_before a l)
      low (inr l) = l

      high : (a < first + n) ⊎ (first + n ≤ a) → a < first + n
      high (inl l) = l
      high (inr l) = some-none (run_map first n p a) _ here (run_after a l)

pub run_keys : RunKeys
run_keys first n p a s q =
    let w = walk_keys (run_map first n p) first (first + n) p n (run_runs first n p) (run_left first n p) (run_right first n p) (omega arith) a s q in (
      (λ k. w.0 (k, (key_inside first n p a s q k).0, (key_inside first n p a s q k).1)),
      (λ h. (w.1 h).0),
    )

-- ---- the table of a list of keys

-- what the table holds is in the list
table_holds : (ks : List Key) (a s p : ℕ) → table_of ks a ≡ Some (entry s p) → Holds a s p ks
unfolding table_of
table_holds [] a s p e = some-none None (entry s p) e refl
table_holds (k ∷ ks) a s p e = at (cases_Bool (eqb k.start a)) (table_holds ks a s p)
  where
    at : (eqb k.start a ≡ true) ⊎ (eqb k.start a ≡ false) → (table_of ks a ≡ Some (entry s p) → Holds a s p ks) → Holds a s p (k ∷ ks)
    at (inl t) more =
        let f : Some (entry k.length k.board) ≡ Some (entry s p) = ap (λ b. or_at b k (table_of ks a)) (sym t) ∙ e in
        let g : entry k.length k.board ≡ entry s p = cc in
        inl (sym (eqb-true k.start a t), sym (ap (λ z. z.length) g), sym (ap (λ z. z.board) g))
    at (inr t) more = inr (more (ap (λ b. or_at b k (table_of ks a)) (sym t) ∙ e))

-- and where something is in the list, the table holds something there
holds_table : (ks : List Key) (a s p : ℕ) → Holds a s p ks → (e : Entry) × (table_of ks a ≡ Some e)
unfolding table_of
holds_table [] a s p h = absurd h
holds_table (k ∷ ks) a s p h = at (cases_Bool (eqb k.start a)) h (holds_table ks a s p)
  where
    at : (eqb k.start a ≡ true) ⊎ (eqb k.start a ≡ false) → Holds a s p (k ∷ ks)
        → (Holds a s p ks → (e : Entry) × (table_of ks a ≡ Some e)) → (e : Entry) × (table_of (k ∷ ks) a ≡ Some e)
    at (inl t) h more = (entry k.length k.board, ap (λ b. or_at b k (table_of ks a)) t)
    at (inr t) (inl (ea, es, ep)) more =
        let x : eqb k.start a ≡ true = eq-eqb k.start a (sym ea) in
        let z : ◌≡◌ {A = ℕ} 0 1 = cc in
        absurd (omega arith)
    at (inr t) (inr g) more = let r = more g in (r.0, ap (λ b. or_at b k (table_of ks a)) t ∙ r.1)

-- a list of a map's keys is, as a table, the table of its keys
pub listed : (m : FileMap) (ks : List Key) → ListsKeys m ks → KeysOf m (table_of ks)
listed m ks h a s p = ((λ e. (h a s p).1 (table_holds ks a s p e)), back)
  where
    back : IsKey m a s p → table_of ks a ≡ Some (entry s p)
    back k =
        let r = holds_table ks a s p ((h a s p).0 k) in
        let e : Entry = r.0 in
        let k' : IsKey m a e.length e.board = (h a e.length e.board).1 (table_holds ks a e.length e.board r.1) in
        let same = key_same m a e.length e.board a s p a k' k (omega arith) (omega (arith, k'.size, pow_pos k'.k)) (omega arith) (omega (arith, k.size, pow_pos k.k)) in
        r.1 ∙ (λ i. Some (entry (same.1 i) (same.2 i)))

-- the look-up over the keys of a run reads the run back
pub run_reads : (first n p : ℕ) (ks : List Key) → ListsKeys (run_map first n p) ks → (b : ℕ) → lookup (table_of ks) b ≡ run_map first n p b
run_reads first n p ks h b = reads_back (run_map first n p) (table_of ks) (listed (run_map first n p) ks h) b

-- the table holds at a start what the first key of the list that starts there says
pub table_found : (ks : List Key) (x : ℕ) → table_of ks x ≡ option_map (λ k. entry k.length k.board) (find (λ k. eqb k.start x) ks)
unfolding table_of
table_found [] x = refl
table_found (k ∷ ks) x = at (cases_Bool (eqb k.start x)) (table_found ks x)
  where
    f : Key → Entry
    f k = entry k.length k.board

    p : Key → Bool
    p k = eqb k.start x

    at : (eqb k.start x ≡ true) ⊎ (eqb k.start x ≡ false) → table_of ks x ≡ option_map f (find p ks)
        → or_at (eqb k.start x) k (table_of ks x) ≡ option_map f (cond (p k) (Some k) (find p ks))
    at (inl t) more = ap (λ b. or_at b k (table_of ks x)) t ∙ sym (ap (λ b. option_map f (cond b (Some k) (find p ks))) t)
    at (inr t) more = ap (λ b. or_at b k (table_of ks x)) t ∙ more ∙ sym (ap (λ b. option_map f (cond b (Some k) (find p ks))) t)
