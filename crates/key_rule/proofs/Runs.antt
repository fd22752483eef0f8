-- Putting the keys of a run one by one.

use Rattle.std.proofs.Common.{◌≡◌, ℕ, ◌+◌, ◌-◌, ◌<◌, ◌≤◌, Bool, cond, not, ◌⊎◌, is_some, Some, None, Option, sym, ap, ◌∙◌, subst, inl, inr, arith}
use Rattle.std.proofs.lemmas.Bool.{cond-true}
use Rattle.extents.specs.Extents.{FileMap, entry, IsKey, Barrier, key_at}
use Rattle.extents.specs.Runs.{Run, piece}
use Rattle.extents.proofs.Found.{key_at_keys, inner}
use Rattle.extents.proofs.Straights.{known}
use Rattle.extents.proofs.Barriers.{barrier_end}
use Rattle.extents.proofs.Greed.{run_further, piece_key, piece_pos, piece_fits}
use Rattle.blocks.specs.Blocks.{one, tally}
use Rattle.blocks.specs.declared.Entry.{Entry}
use Rattle.tables.specs.Holding.{Holding, full}
use Rattle.tables.proofs.Looks.{room_new}
use Rattle.blocks.proofs.Sums.{tally_change}
use Rattle.key_rule.specs.Mends.{update, blend, Lay, Empty}
use Rattle.key_rule.proofs.Tallies.{blend_out, blend_step, blend_more}

-- inside a key no other starts
pub no_key : (m : FileMap) (a s p b : ℕ) → IsKey m a s p → a < b → b < a + s → key_at m b ≡ None
no_key m a s p b k l r = at (known (key_at m b))
  where
    at : (key_at m b ≡ None) ⊎ ((e : Entry) × (key_at m b ≡ Some e)) → key_at m b ≡ None
    at (inl e) = e
    at (inr (e, q)) = absurd (inner m k.k a p b e.length e.board k.straight l (omega (arith, k.size)) ((key_at_keys m b e.length e.board).0 q))

-- one step of the walk: the key at x, and what changes by it
pub record Step (m : FileMap) (l r p x s : ℕ) : Type 0 where
  pub key : IsKey m x s (p + (x - l))
  pub long : 0 < s
  pub end : x + s ≤ r
  pub next : Barrier m (x + s)
  pub change : (file : ℕ) (h : Holding) → Empty h file l r
      → blend file l (x + s) (key_at m) h ≡ update (blend file l x (key_at m) h) file x (Some (entry s (p + (x - l))))
  pub count : (file : ℕ) → file < 65536 → r ≤ 65536 → (h : Holding) → Empty h file l r
      → tally (blend file l x (key_at m) h) + 1 ≡ tally (blend file l (x + s) (key_at m) h)

pub step : (m : FileMap) (l r p x s : ℕ) → Lay m l r p → Barrier m x → l ≤ x → x < r → r ≤ 65536 → s ≡ piece x r → Step m l r p x s
step m l r p x s lay bx lx xr top is = record {
  key = key;
  long = long;
  end = end;
  next = barrier_end m x s (p + (x - l)) key;
  change = change;
  count = λ file lf _ h em.
      let c = tally_change (blend file l x (key_at m) h) file x (Some (entry s (p + (x - l)))) lf (omega arith) in
      let e = ap tally (change file h em) in
      let o : one (is_some (blend file l x (key_at m) h file x)) ≡ 0 = ap (λ (v : Option Entry). one (is_some v)) (blend_out file l x (key_at m) h file x (inr (inr (omega arith))) ∙ em x lx xr) in
      sum _ _ _ _ c e o;
}
  where
    sum : (u a o v : ℕ) → u + o ≡ a + 1 → v ≡ u → o ≡ 0 → a + 1 ≡ v
    sum u a o v c e z = omega arith

    run : Run m x r (p + (x - l))
    run = let e : l + (x - l) ≡ x = omega arith in subst (λ y. Run m y r (p + (x - l))) e (run_further m l r p (x - l) lay.run)

    key : IsKey m x s (p + (x - l))
    key = subst (λ y. IsKey m x y (p + (x - l))) (sym is) (piece_key m x r (p + (x - l)) xr run bx lay.right)

    long : 0 < s
    long = omega (arith, is, piece_pos x r)

    end : x + s ≤ r
    end = omega (arith, is, piece_fits x r xr)

    change : (file : ℕ) (h : Holding) → Empty h file l r
        → blend file l (x + s) (key_at m) h ≡ update (blend file l x (key_at m) h) file x (Some (entry s (p + (x - l))))
    change file h em =
        blend_step file l x (x + s) x (key_at m) h lx (omega arith) (omega (arith, long))
        (λ b xb bs ne. no_key m x s (p + (x - l)) b key (omega arith) bs ∙ sym (em b (omega arith) (omega (arith, end))))
        ∙ ap (update (blend file l x (key_at m) h) file x) ((key_at_keys m x s (p + (x - l))).1 key)

-- ---- for the loops

module _ (m : FileMap) (l r p x s : ℕ) (st : Step m l r p x s) (file : ℕ) (h g : Holding) (em : Empty h file l r) (e : g ≡ blend file l x (key_at m) h) where
  pub put_next : (q : ℕ) → q + l ≡ p + x → l ≤ x → update g file x (Some (entry s q)) ≡ blend file l (x + s) (key_at m) h
  put_next q qe lx =
      let f : q ≡ p + (x - l) = omega arith in
      ap (λ (u : Holding). update u file x (Some (entry s q))) e ∙ ap (λ n. update (blend file l x (key_at m) h) file x (Some (entry s n))) f ∙ sym (st.change file h em)

  pub put_room : (n : ℕ) → file < 65536 → r ≤ 65536 → tally (blend file l r (key_at m) h) ≤ n → tally g < n
  put_room n lf top fits =
      sum _ _ _ _ _ (ap tally e) (st.count file lf top h em) (blend_more file l (x + s) r (key_at m) h st.end em) fits
    where
      sum : (k a b c n : ℕ) → k ≡ a → a + 1 ≡ b → b ≤ c → c ≤ n → k < n
      sum k a b c n i j o q = omega arith

-- what a table holds after a put for which there was room
pub stored : (h g : Holding) (n file block : ℕ) (e : Entry) (done : Bool) → done ≡ not (full h n file block)
    → g ≡ cond done (update h file block (Some e)) h → tally h < n → g ≡ update h file block (Some e)
stored h g n file block e done is after room =
    after ∙ cond-true done (update h file block (Some e)) h (is ∙ ap not (room_new h n file block room))
