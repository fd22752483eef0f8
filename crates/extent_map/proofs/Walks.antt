-- The walk over a run: how many keys it has, and the table into which they are put.
use Rattle.std.proofs.Common.{◌≡◌, ℕ, zero, suc, ◌+◌, ◌-◌, ◌<◌, ◌≤◌, ◌⊎◌, length, refl, sym, ap, ◌∙◌, subst, inl, inr, Bool, cond, not, Some, arith}
use Rattle.std.proofs.lemmas.Bool.{cases_lt}
use Rattle.blocks.specs.Blocks.{tally}
use Rattle.extents.specs.Extents.{FileMap, Barrier, entry, key_at}
use Rattle.extents.specs.Runs.{piece, walk}
use Rattle.extents.proofs.Greed.{walk_done, walk_more}
use Rattle.extents.specs.declared.key.Key.{Key}
use Rattle.run_keys.specs.declared.walk.Walk.{Walk}
use Rattle.run_keys.specs.Walks.{Stepped, to_come}
use Rattle.tables.specs.Holding.{Holding, full}
use Rattle.key_rule.specs.Mends.{update, blend, Lay, Empty, Counted}
use Rattle.key_rule.proofs.Runs.{step, put_next, put_room, stored}
use Rattle.key_rule.proofs.Tallies.{blend_empty}

-- The keys that are to come, put one by one, lead from a table with those before to one with all.
module _ (m : FileMap) (l r p : ℕ) (lay : Lay m l r p) (top : r ≤ 65536) (file : ℕ) (lf : file < 65536) (h : Holding) (em : Empty h file l r) where
  none_more : (n x q : ℕ) → x ≡ r → length (walk n x r q) + tally (blend file l x (key_at m) h) ≡ tally (blend file l r (key_at m) h)
  none_more n x q e =
      let w = ap length (walk_done n x r q (omega arith)) in
      let b = ap (λ y. tally (blend file l y (key_at m) h)) e in
      omega (arith, w, b)

  rest : (n x q : ℕ) → l ≤ x → x ≤ r → r ≤ n + x → Barrier m x
      → length (walk n x r q) + tally (blend file l x (key_at m) h) ≡ tally (blend file l r (key_at m) h)
  rest zero x q lx xr enough bx = none_more zero x q (omega arith)
  rest (suc n) x q lx xr enough bx = at (cases_lt x r) (rest n (x + piece x r) (q + piece x r))
    where
      at : (x < r) ⊎ (r ≤ x)
          → (l ≤ x + piece x r → x + piece x r ≤ r → r ≤ n + (x + piece x r) → Barrier m (x + piece x r)
          → length (walk n (x + piece x r) r (q + piece x r)) + tally (blend file l (x + piece x r) (key_at m) h) ≡ tally (blend file l r (key_at m) h))
          → length (walk (suc n) x r q) + tally (blend file l x (key_at m) h) ≡ tally (blend file l r (key_at m) h)
      at (inr o) more = none_more (suc n) x q (omega arith)
      at (inl o) more =
          let st = step m l r p x (piece x r) lay bx lx o top refl in
          let w = ap length (walk_more n x r q o) in
          let c = st.count file lf top h em in
          let i = more (omega arith) st.end (omega (arith, st.long)) st.next in
          sum _ _ _ _ _ w c i
        where
          sum : (u v a b t : ℕ) → u ≡ suc v → a + 1 ≡ b → v + b ≡ t → u + a ≡ t
          sum u v a b t e f g = omega arith

pub walk_counted : (w : Walk) (c : ℕ) → c ≡ length (to_come w) → Counted w.left.first w.left.end c
walk_counted w c e m p lay file lf h em =
    let l = w.left.first in
    let r = w.left.end in
    let i = rest m l r p lay w.left.inside file lf h em (r - l) l w.left.board (omega arith) w.left.order (omega arith) lay.left in
    sum _ _ _ _ _ e (ap tally (blend_empty file l (key_at m) h)) i
  where
    sum : (c n a b t : ℕ) → c ≡ n → a ≡ b → n + a ≡ t → c + b ≡ t
    sum c n a b t e f g = omega arith

-- a step of the walk, whose key is put into a table with those before
module _ (m : FileMap) (l r p : ℕ) (lay : Lay m l r p) (top : r ≤ 65536) (file : ℕ) (lf : file < 65536) (h : Holding) (em : Empty h file l r)
    (room : ℕ) (fits : tally (blend file l r (key_at m) h) ≤ room) where
  pub put_step : (g g′ : Holding) (done : Bool) (w v : Walk) (k : Key) → Stepped w (Some k) v → w.left.end ≡ r → l ≤ w.left.first → w.left.board + l ≡ p + w.left.first
      → Barrier m w.left.first → g ≡ blend file l w.left.first (key_at m) h
      → done ≡ not (full g room file k.start) → g′ ≡ cond done (update g file k.start (Some (entry k.length k.board))) g
      → Barrier m v.left.first × (g′ ≡ blend file l v.left.first (key_at m) h)
  put_step g g′ done w v k s end lx level bar e is after =
      let st = step m l r p w.left.first (piece w.left.first w.left.end) lay bar lx (omega arith) top (ap (piece w.left.first) end) in
      let free = put_room m l r p w.left.first (piece w.left.first w.left.end) st file h g em e room lf top fits in (
        subst (Barrier m) (sym s.2) st.next,
        subst (λ (k : Key). done ≡ not (full g room file k.start) → g′ ≡ cond done (update g file k.start (Some (entry k.length k.board))) g → g′ ≡ blend file l (w.left.first + piece w.left.first w.left.end) (key_at m) h)
            (sym s.1) (λ is after. stored g g′ room file w.left.first (entry (piece w.left.first w.left.end) w.left.board) done is after free
            ∙ put_next m l r p w.left.first (piece w.left.first w.left.end) st file h g em e w.left.board level lx) is after
            ∙ ap (λ x. blend file l x (key_at m) h) (sym s.2),
      )
