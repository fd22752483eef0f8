-- Runs, their joins and their barriers.

use Rattle.std.proofs.Common.{◌≡◌, ℕ, zero, suc, ◌+◌, ◌-◌, ◌%◌, ◌^◌, ◌<◌, ◌≤◌, ◌⊎◌, Some, None, Option, sym, refl, ap, ◌∙◌, subst, inl, inr, arith}
use Rattle.std.proofs.lemmas.Bool.{cases_lt}
use Rattle.extents.specs.Extents.{FileMap, IsKey, Barrier, key_at, trunc}
use Rattle.extents.specs.Runs.{Run}
use Rattle.extents.proofs.Grid.{trunc_le, trunc_lt}
use Rattle.extents.proofs.Straights.{some-none, known}
use Rattle.extents.proofs.Reading.{climb, single, Top}
use Rattle.extents.proofs.Barriers.{barrier_multiple, barrier_start, barrier_end, barrier_hole, barrier_after, barrier_break}
use Rattle.extents.proofs.Greed.{run_further, mod_multiple}
use Rattle.extents.proofs.Found.{key_at_keys}
use Rattle.tables.specs.Holding.{Holding, lowest_row}
use Rattle.tables.specs.declared.row.Row.{Row}
use Rattle.tables.proofs.Lowest.{lowest_when_none, lowest_when_some}
use Rattle.maps.specs.Steps.{lowest_mapped_block, here_or}
use Rattle.key_rule.specs.Keyed.{Held, placing}
use Rattle.key_rule.specs.Mends.{Leftward, Rightward, LeftEdge, RightEdge}
use Rattle.key_rule.proofs.Looks.{held_key, held_is_key, key_block, key_long}

pub run_none : (m : FileMap) (l p : ℕ) → Run m l l p
run_none m l p i o = absurd (omega arith)

pub run_key : (m : FileMap) (a s p x : ℕ) → IsKey m a s p → x ≤ a + s → Run m a x p
run_key m a s p x k o i l =
    let e : p + (a + i - a) ≡ p + i = omega arith in
    key_block m a s p (a + i) k (omega arith) (omega arith) ∙ ap Some e

pub run_join : (m : FileMap) (a x r p q : ℕ) → Run m a x p → Run m x r q → q + a ≡ p + x → a ≤ x → Run m a r p
run_join m a x r p q f g e o i l = at (cases_lt (a + i) x)
  where
    at : (a + i < x) ⊎ (x ≤ a + i) → m (a + i) ≡ Some (p + i)
    at (inl b) = f i b
    at (inr b) =
        let y : x + (a + i - x) ≡ a + i = omega arith in
        let z : q + (a + i - x) ≡ p + i = omega arith in
        sym (ap m y) ∙ g (a + i - x) (omega arith) ∙ ap Some z

-- ---- edges of keys

pub left_some : (m : FileMap) (first a s p : ℕ) → IsKey m a s p → first < a + s → LeftEdge m first a p
left_some m first a s p k o = record { run = run_key m a s p first k (omega arith); barrier = barrier_start m a s p k }

pub left_none : (m : FileMap) (first : ℕ) → m first ≡ None → LeftEdge m first first 0
left_none m first e = record { run = run_none m first 0; barrier = barrier_hole m first e }

pub right_some : (m : FileMap) (end a s p : ℕ) → IsKey m a s p → a ≤ end → RightEdge m end (a + s) (p + (end - a))
right_some m end a s p k o = record {
  run =
      let e : a + (end - a) ≡ end = omega arith in
      subst (λ y. Run m y (a + s) (p + (end - a))) e (run_further m a (a + s) p (end - a) (run_key m a s p (a + s) k (omega arith)));
  barrier = barrier_end m a s p k;
}

pub right_none : (m : FileMap) (end : ℕ) → 0 < end → m (end - 1) ≡ None → RightEdge m end end 0
right_none m end o e = record {
  run = run_none m end 0;
  barrier = let z : end - 1 + 1 ≡ end = omega arith in subst (Barrier m) z (barrier_after m (end - 1) e);
}

-- a mapped block at a barrier has a key
pub key_at_barrier : (m : FileMap) (x v : ℕ) → m x ≡ Some v → Barrier m x → key_at m x ≡ None → ⊥
key_at_barrier m x v e b none =
    let top = climb m x 12 0 v refl (single m x v e) in
    at top (cases_lt (trunc top.j x) x)
  where
    at : (top : Top m x) → (trunc top.j x < x) ⊎ (x ≤ trunc top.j x) → ⊥
    at top (inl o) = b top.key.k (trunc top.j x) top.p top.key.straight o (omega (arith, top.key.size, trunc_lt top.j x))
    at top (inr o) =
        let z : trunc top.j x ≡ x = omega (arith, trunc_le top.j x) in
        some-none (key_at m x) _ ((key_at_keys m x (2 ^ top.j) top.p).1 (subst (λ y. IsKey m y (2 ^ top.j) top.p) z top.key)) none

-- ---- going left and right

pub record Lefting (m : FileMap) (first l p : ℕ) : Type 0 where
  pub run : Run m l first p
  pub barrier : Barrier m first → Barrier m l

pub lefting_start : (m : FileMap) (first p : ℕ) → Lefting m first first p
lefting_start m first p = record { run = run_none m first p; barrier = λ b. b }

pub lefting_next : (m : FileMap) (first x b a s p : ℕ) → Lefting m first x b → IsKey m a s p → a < x → x ≤ a + s → p + (x - a) ≡ b → Lefting m first a p
lefting_next m first x b a s p g k ax xs e = record {
  run = run_join m a x first p b (run_key m a s p x k xs) g.run (omega arith) (omega arith);
  barrier = λ _. barrier_start m a s p k;
}

pub left_window : (m : FileMap) (first x b : ℕ) → Lefting m first x b → x % 4096 ≡ 0 → Leftward m first x b
left_window m first x b g e = record { run = g.run; barrier = g.barrier; edge = inl e }

pub left_hole : (m : FileMap) (first x b : ℕ) → Lefting m first x b → m (x - 1) ≡ None → Leftward m first x b
left_hole m first x b g e = record { run = g.run; barrier = g.barrier; edge = inr (λ v s _. some-none (m (x - 1)) v s e) }

pub some_same : (o : Option ℕ) (x y : ℕ) → o ≡ Some x → o ≡ Some y → x ≡ y
some_same o x y p q = cc

pub left_break : (m : FileMap) (first x b a s p : ℕ) → Lefting m first x b → IsKey m a s p → a < x → x ≤ a + s → (p + (x - a) ≡ b → ⊥) → Leftward m first x b
left_break m first x b a s p g k ax xs ne = record {
  run = g.run;
  barrier = g.barrier;
  edge = inr (λ v e w.
      let z = some_same (m (x - 1)) v (p + (x - 1 - a)) e (key_block m a s p (x - 1) k (omega arith) (omega arith)) in
      ne (omega arith));
}

pub record Righting (m : FileMap) (end q r p : ℕ) : Type 0 where
  pub run : Run m end r q
  pub barrier : Barrier m r
  pub level : p + end ≡ q + r
  pub order : end ≤ r

pub righting_start : (m : FileMap) (end q : ℕ) → Barrier m end → Righting m end q end q
righting_start m end q b = record { run = run_none m end q; barrier = b; level = refl; order = omega arith }

pub righting_next : (m : FileMap) (end q r p s : ℕ) → Righting m end q r p → IsKey m r s p → Righting m end q (r + s) (p + s)
righting_next m end q r p s g k = record {
  run = run_join m end r (r + s) q p g.run (run_key m r s p (r + s) k (omega arith)) g.level g.order;
  barrier = barrier_end m r s p k;
  level = let z = g.level in omega arith;
  order = let z = g.order in omega arith;
}

pub right_window : (m : FileMap) (end q r p : ℕ) → Righting m end q r p → r % 4096 ≡ 0 → Rightward m end q r
right_window m end q r p g e = record { run = g.run; barrier = g.barrier; edge = inl e }

pub right_hole : (m : FileMap) (end q r p : ℕ) → Righting m end q r p → key_at m r ≡ None → Rightward m end q r
right_hole m end q r p g e = record { run = g.run; barrier = g.barrier; edge = inr (λ s. key_at_barrier m r _ s g.barrier e) }

pub right_break : (m : FileMap) (end q r p s v : ℕ) → Righting m end q r p → IsKey m r s v → (v ≡ p → ⊥) → Rightward m end q r
right_break m end q r p s v g k ne = record {
  run = g.run;
  barrier = g.barrier;
  edge = inr (λ w.
      let z = some_same (m r) _ _ w (key_block m r s v r k (omega arith) (omega (arith, key_long m r s v k))) in
      let y = g.level in
      let x = g.order in
      ne (omega arith));
}

-- ---- barriers of the new map

pub barrier_left : (n : FileMap) (x b : ℕ) → n x ≡ Some b → (x % 4096 ≡ 0) ⊎ ((v : ℕ) → n (x - 1) ≡ Some v → v + 1 ≡ b → ⊥) → Barrier n x
barrier_left n x b e (inl w) = barrier_multiple n x (mod_multiple 12 x w)
barrier_left n zero b e (inr w) = λ k a p st ax xk. absurd (omega arith)
barrier_left n (suc y) b e (inr w) = subst (Barrier n) step (at (known (n y)))
  where
    step : y + 1 ≡ suc y
    step = omega arith

    before : suc y - 1 ≡ y
    before = omega arith

    at : (n y ≡ None) ⊎ ((v : ℕ) × (n y ≡ Some v)) → Barrier n (y + 1)
    at (inl none) = barrier_after n y none
    at (inr (v, some)) = barrier_break n y v some (λ s. w v (ap n before ∙ some) (some_same (n (suc y)) (v + 1) b (sym (ap n step) ∙ s) e))

pub barrier_right : (n : FileMap) (x v : ℕ) → 0 < x → n (x - 1) ≡ Some v → (x % 4096 ≡ 0) ⊎ (n x ≡ Some (v + 1) → ⊥) → Barrier n x
barrier_right n x v o e (inl w) = barrier_multiple n x (mod_multiple 12 x w)
barrier_right n x v o e (inr w) =
    let step : x - 1 + 1 ≡ x = omega arith in
    subst (Barrier n) step (barrier_break n (x - 1) v e (λ s. w (sym (ap n step) ∙ s)))

-- ---- the lowest mapped block

pub unmapped_from : (m : FileMap) (first y : ℕ) → m first ≡ None → ((c : ℕ) → first < c → c < y → key_at m c ≡ None) → (d : ℕ) → first + d < y → m (first + d) ≡ None
unmapped_from m first y e free zero o = let z : first + 0 ≡ first = omega arith in ap m z ∙ e
unmapped_from m first y e free (suc d) o = at (known (m (first + suc d))) (unmapped_from m first y e free d (omega arith))
  where
    at : (m (first + suc d) ≡ None) ⊎ ((v : ℕ) × (m (first + suc d) ≡ Some v)) → m (first + d) ≡ None → m (first + suc d) ≡ None
    at (inl none) before = none
    at (inr (v, some)) before =
        let z : first + d + 1 ≡ first + suc d = omega arith in
        absurd (key_at_barrier m (first + suc d) v some (subst (Barrier m) z (barrier_after m (first + d) before)) (free (first + suc d) (omega arith) o))

pub lowest_here : (m : FileMap) (first n v : ℕ) → 0 < n → m first ≡ Some v → Some first ≡ lowest_mapped_block m first n
unfolding lowest_mapped_block
lowest_here m first zero v o e = absurd (omega arith)
lowest_here m first (suc n) v o e = rw e refl

pub lowest_none : (m : FileMap) (first n : ℕ) → ((d : ℕ) → d < n → m (first + d) ≡ None) → None ≡ lowest_mapped_block m first n
unfolding lowest_mapped_block
lowest_none m first zero e = refl
lowest_none m first (suc n) e =
    let z : first + 0 ≡ first = omega arith in
    let none = sym (ap m z) ∙ e 0 (omega arith) in
    let more = lowest_none m (suc first) n (λ d o. let y : suc first + d ≡ first + suc d = omega arith in ap m y ∙ e (suc d) (omega arith)) in
    more ∙ sym (ap (λ (x : Option ℕ). here_or x first (lowest_mapped_block m (suc first) n)) none)

pub lowest_at : (m : FileMap) (first n k v : ℕ) → k < n → ((d : ℕ) → d < k → m (first + d) ≡ None) → m (first + k) ≡ Some v → Some (first + k) ≡ lowest_mapped_block m first n
unfolding lowest_mapped_block
lowest_at m first zero k v o e s = absurd (omega arith)
lowest_at m first (suc n) zero v o e s = let z : first + 0 ≡ first = omega arith in ap Some z ∙ lowest_here m first (suc n) v (omega arith) (sym (ap m z) ∙ s)
lowest_at m first (suc n) (suc k) v o e s =
    let z : first + 0 ≡ first = omega arith in
    let none = sym (ap m z) ∙ e 0 (omega arith) in
    let y : suc first + k ≡ first + suc k = omega arith in
    let more = lowest_at m (suc first) n k v (omega arith) (λ d o. let y : suc first + d ≡ first + suc d = omega arith in ap m y ∙ e (suc d) (omega arith)) (ap m y ∙ s) in
    ap Some (sym y) ∙ more ∙ sym (ap (λ (x : Option ℕ). here_or x first (lowest_mapped_block m (suc first) n)) none)

-- what is known of an unmapped extent
pub lowest_free : (m : FileMap) (first n : ℕ) → None ≡ lowest_mapped_block m first n → (d : ℕ) → d < n → m (first + d) ≡ None
unfolding lowest_mapped_block
lowest_free m first zero e d o = absurd (omega arith)
lowest_free m first (suc n) e d o = at (known (m first)) (λ z d o. lowest_free m (suc first) n z d o) d o
  where
    at : (m first ≡ None) ⊎ ((v : ℕ) × (m first ≡ Some v)) → (None ≡ lowest_mapped_block m (suc first) n → (d : ℕ) → d < n → m (suc first + d) ≡ None)
        → (d : ℕ) → d < suc n → m (first + d) ≡ None
    at (inr (v, some)) more d o = some-none (Some first) first refl (sym (e ∙ ap (λ (x : Option ℕ). here_or x first (lowest_mapped_block m (suc first) n)) some))
    at (inl none) more zero o = let z : first + 0 ≡ first = omega arith in ap m z ∙ none
    at (inl none) more (suc d) o =
        let y : suc first + d ≡ first + suc d = omega arith in
        sym (ap m y) ∙ more (e ∙ ap (λ (x : Option ℕ). here_or x first (lowest_mapped_block m (suc first) n)) none) d (omega arith)

-- ---- by the question for the lowest key

module _ (h : Holding) (v : Held h) (f first n : ℕ) (hole : placing h f first ≡ None) where
  pub lowest_key : (r : Row) → Some r ≡ lowest_row h f (first + 1) → first + 1 ≤ 65536 → r.block < first + n → Some r.block ≡ lowest_mapped_block (placing h f) first n
  lowest_key r q top o =
      let low = lowest_when_some h f (first + 1) r top (sym q) in
      let z = low.least in
      let e : first + (r.block - first) ≡ r.block = omega arith in
      let key = held_key h v f r.block r.entry.length r.entry.board low.there in
      let long = key_long (placing h f) r.block r.entry.length r.entry.board key in
      ap Some (sym e) ∙ lowest_at (placing h f) first n (r.block - first) _ (omega arith)
      (λ d l. unmapped_from (placing h f) first r.block hole (λ c fc cb. sym (held_is_key h v f c) ∙ low.before c (omega arith) cb) d (omega arith))
      (ap (placing h f) e ∙ key_block (placing h f) r.block r.entry.length r.entry.board r.block key (omega arith) (omega arith))

  pub lowest_past : (r : Row) → Some r ≡ lowest_row h f (first + 1) → first + 1 ≤ 65536 → first + n ≤ r.block → None ≡ lowest_mapped_block (placing h f) first n
  lowest_past r q top o =
      let low = lowest_when_some h f (first + 1) r top (sym q) in
      lowest_none (placing h f) first n
      (λ d l. unmapped_from (placing h f) first r.block hole (λ c fc cb. sym (held_is_key h v f c) ∙ low.before c (omega arith) cb) d (omega arith))

  pub lowest_end : None ≡ lowest_row h f (first + 1) → first + n ≤ 65536 → None ≡ lowest_mapped_block (placing h f) first n
  lowest_end q top =
      lowest_none (placing h f) first n
      (λ d l. unmapped_from (placing h f) first (first + n) hole (λ c fc cb. sym (held_is_key h v f c) ∙ lowest_when_none h f (first + 1) (sym q) c (omega arith) (omega arith)) d (omega arith))

  pub lowest_one : n ≤ 1 → None ≡ lowest_mapped_block (placing h f) first n
  lowest_one o = lowest_none (placing h f) first n (λ d l. let e : first + d ≡ first = omega arith in ap (placing h f) e ∙ hole)
