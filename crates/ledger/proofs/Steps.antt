-- What a step leaves in step: map, pool and counts.
use Rattle.std.proofs.Common.{◌≡◌, ℕ, zero, suc, ◌+◌, ◌<◌, ◌≤◌, Bool, true, false, cond, ◌&&◌, eqb, ◌⊎◌, List, is_some, Some, None, Option, sym, refl, ap, ◌∙◌, ap₂, inl, inr, arith}
use Rattle.std.proofs.lemmas.Bool.{cases_eq, cases_Bool, cond-true, cond-false, eq-eqb, eqb-true, and_parts, and_from, both_ways}
use Rattle.blocks.specs.Blocks.{Placement, Contents, only, changed, one, count, tally_below}
use Rattle.blocks.proofs.Sums.{sum_same, sum_add, sum_change, below_change, below_none}
use Rattle.blocks.proofs.Changes.{changed_here, changed_elsewhere, only_here}
use Rattle.calls.specs.declared.Written.TheVariants.{Board}
use Rattle.ledger.specs.Sound.{Sound, New}
use Rattle.ledger.specs.Store.{Shape, State, put, placed, freed, wrote, vacated}
use Rattle.ledger.proofs.Pool.{put_here, put_other, none_some, some_same, freed_chosen, freed_taken, freed_other, freed_count}

-- ---- changed, by cases

module _ {X : Type 0} (h : ℕ → ℕ → X) (file : ℕ) (chosen : ℕ → Bool) (v : ℕ → X) (f b : ℕ) where
  pub changed_cases : ((f ≡ file) × (chosen b ≡ true) × (changed h file chosen v f b ≡ v b))
      ⊎ ((f ≡ file → chosen b ≡ true → ⊥) × (changed h file chosen v f b ≡ h f b))
  changed_cases =
      elim (cases_Bool (eqb f file && chosen b)) [
        | inl e ↦ let p = and_parts (eqb f file) (chosen b) e in inl (eqb-true f file p.0, p.1, cond-true _ _ _ e)
        | inr e ↦ inr (λ x y. both_ways _ e (and_from (eqb f file) (chosen b) (eq-eqb f file x) y), cond-false _ _ _ e)
      ]

module _ {X : Type 0} (h : ℕ → ℕ → X) (file block : ℕ) (v : X) (f b : ℕ) where
  pub only_cases : ((f ≡ file) × (b ≡ block) × (changed h file (only block) (λ _. v) f b ≡ v))
      ⊎ ((f ≡ file → b ≡ block → ⊥) × (changed h file (only block) (λ _. v) f b ≡ h f b))
  only_cases =
      elim (changed_cases h file (only block) (λ _. v) f b) [
        | inl k ↦ inl (k.0, eqb-true b block k.1, k.2)
        | inr k ↦ inr (λ x y. k.0 x (eq-eqb b block y), k.1)
      ]

-- A block that already has what it is given.
pub changed_same : {X : Type 0} (h : ℕ → ℕ → X) (file block : ℕ) (v : X) → h file block ≡ v → (f b : ℕ) → changed h file (only block) (λ _. v) f b ≡ h f b
changed_same h file block v e f b =
    elim (only_cases h file block v f b) [
      | inl k ↦ k.2 ∙ (sym e ∙ ap₂ h (sym k.0) (sym k.1))
      | inr k ↦ k.1
    ]

-- The blocks that lose their place are those chosen that had one.
pub vacated_count : (files width : ℕ) (pl : Placement) (file : ℕ) (chosen : ℕ → Bool) → file < files
    → tally_below files width (changed pl file chosen (λ _. None)) + placed (pl file) chosen width ≡ tally_below files width pl
vacated_count files width pl file chosen l =
    let ql : Placement = changed pl file chosen (λ _. None) in
    let outer = sum_change files (λ f. count width (λ b. is_some (pl f b))) (λ f. count width (λ b. is_some (ql f b))) file l
    (λ f d. sum_same width (λ b. one (is_some (ql f b))) (λ b. one (is_some (pl f b)))
    (λ b _. ap (λ (o : Option ℕ). one (is_some o)) (changed_elsewhere pl file chosen (λ _. None) f b d))) in
    let inner = sum_add width (λ b. one (is_some (pl file b))) (λ b. one (is_some (ql file b))) (λ b. one (chosen b && is_some (pl file b)))
    (λ b _. each (eqb file file) (chosen b) (pl file b) (eq-eqb file file refl)) in
    omega arith
  where
    each : (v w : Bool) (o : Option ℕ) → v ≡ true → one (is_some o) ≡ one (is_some (cond (v && w) None o)) + one (w && is_some o)
    each false w o e = absurd (both_ways false refl e)
    each true false o e = omega arith
    each true true None e = refl
    each true true (Some p) e = refl

-- ---- a new store

pub sound_new : (sh : Shape) (s : State) → New sh s → Sound sh s
sound_new sh s new = record {
  within = λ f b p e. none_some (new.unplaced f b) e;
  owned = λ p l e. absurd (both_ways _ (new.untaken p l) e);
  apart = λ f b g c p e _. none_some (new.unplaced f b) e;
  counted = none_taken sh.size new.untaken ∙ sym (below_none sh.files sh.width s.place new.unplaced);
}
  where
    none_taken : (n : ℕ) → ((p : ℕ) → p < n → s.taken p ≡ false) → count n s.taken ≡ 0
    none_taken zero e = refl
    none_taken (suc n) e = let a = none_taken n (λ p l. e p (omega arith)) in omega (arith, ap one (e n (omega arith)))

module _ (sh : Shape) (s : State) (ok : Sound sh s) where
  -- no block past the width has a place
  pub beyond : (f b : ℕ) → sh.width ≤ b → s.place f b ≡ None
  beyond f b l = go (s.place f b) refl
    where
      go : (o : Option ℕ) → s.place f b ≡ o → o ≡ None
      go None e = refl
      go (Some p) e = absurd (let w = (ok.within f b p e).1 in omega arith)

  -- a free board block is no block's place
  pub unowned : (p : ℕ) → s.taken p ≡ false → (f b q : ℕ) → s.place f b ≡ Some q → q ≡ p → ⊥
  unowned p free f b q e h = both_ways (s.taken p) free (ap s.taken (sym h) ∙ (ok.within f b q e).3)

  -- ---- a board block is taken

  pub sound_take : (file block p : ℕ) (bytes : List ℕ) → file < sh.files → block < sh.width → p < sh.size → s.taken p ≡ false → s.place file block ≡ None
      → Sound sh (wrote s file block bytes (Board p true))
  sound_take file block p bytes lf lb lp free un = record { within = within'; owned = owned'; apart = apart'; counted = counted' }
    where
      by : (f b : ℕ) → ((f ≡ file) × (b ≡ block) × (changed s.place file (only block) (λ _. Some p) f b ≡ Some p))
          ⊎ ((f ≡ file → b ≡ block → ⊥) × (changed s.place file (only block) (λ _. Some p) f b ≡ s.place f b))
      by f b = only_cases s.place file block (Some p) f b

      stays : (q : ℕ) → s.taken q ≡ true → put s.taken p true q ≡ true
      stays q e = elim (cases_eq q p) [ inl h ↦ put_here s.taken p true q h | inr h ↦ put_other s.taken p true q h ∙ e ]

      within' : (f b q : ℕ) → changed s.place file (only block) (λ _. Some p) f b ≡ Some q
          → (f < sh.files) × (b < sh.width) × (q < sh.size) × (put s.taken p true q ≡ true)
      within' f b q e = elim (by f b) [
        | inl h ↦ let w = some_same (sym e ∙ h.2) in (omega (arith, h.0), omega (arith, h.1), omega arith, put_here s.taken p true q w)
        | inr h ↦ let w = ok.within f b q (sym h.1 ∙ e) in (w.0, w.1, w.2, stays q w.3)
      ]

      owned' : (q : ℕ) → q < sh.size → put s.taken p true q ≡ true → (f : ℕ) × (b : ℕ) × (changed s.place file (only block) (λ _. Some p) f b ≡ Some q)
      owned' q l e = elim (cases_eq q p) [
        | inl h ↦ (file, block, changed_here s.place file (only block) (λ _. Some p) block (only_here block) ∙ ap Some (sym h))
        | inr h ↦
            let w = ok.owned q l (sym (put_other s.taken p true q h) ∙ e) in (
              w.0,
              w.1,
              elim (by w.0 w.1) [
                | inl i ↦ none_some un (ap₂ s.place (sym i.0) (sym i.1) ∙ w.2)
                | inr i ↦ i.1 ∙ w.2
              ],
            )
      ]

      apart' : (f b g c q : ℕ) → changed s.place file (only block) (λ _. Some p) f b ≡ Some q → changed s.place file (only block) (λ _. Some p) g c ≡ Some q
          → (f ≡ g) × (b ≡ c)
      apart' f b g c q e e' = elim (by f b) [
        | inl h ↦ elim (by g c) [
          | inl h' ↦ (h.0 ∙ sym h'.0, h.1 ∙ sym h'.1)
          | inr h' ↦ absurd (unowned p free g c q (sym h'.1 ∙ e') (some_same (sym e ∙ h.2)))
        ]
        | inr h ↦ elim (by g c) [
          | inl h' ↦ absurd (unowned p free f b q (sym h.1 ∙ e) (some_same (sym e' ∙ h'.2)))
          | inr h' ↦ ok.apart f b g c q (sym h.1 ∙ e) (sym h'.1 ∙ e')
        ]
      ]

      counted' : count sh.size (put s.taken p true) ≡ tally_below sh.files sh.width (changed s.place file (only block) (λ _. Some p))
      counted' =
          let bits = sum_change sh.size (λ i. one (s.taken i)) (λ i. one (put s.taken p true i)) p lp (λ i d. ap one (put_other s.taken p true i d)) in
          let spots = below_change sh.files sh.width s.place file block (Some p) lf lb in
          let x = ap one free in
          let y = ap one (put_here s.taken p true p refl) in
          let z = ap (λ (o : Option ℕ). one (is_some o)) un in
          let old = ok.counted in
          omega arith

  -- ---- blocks of a file lose their places

  pub sound_vacate : (file : ℕ) (chosen : ℕ → Bool) (low : Contents) → file < sh.files → Sound sh (vacated sh s file chosen low)
  sound_vacate file chosen low lf = record { within = within'; owned = owned'; apart = apart'; counted = counted' }
    where
      old : (f b q : ℕ) → changed s.place file chosen (λ _. None) f b ≡ Some q → ((f ≡ file → chosen b ≡ true → ⊥) × (s.place f b ≡ Some q))
      old f b q e = elim (changed_cases s.place file chosen (λ _. None) f b) [
        | inl h ↦ none_some h.2 e
        | inr h ↦ (h.0, sym h.1 ∙ e)
      ]

      within' : (f b q : ℕ) → changed s.place file chosen (λ _. None) f b ≡ Some q
          → (f < sh.files) × (b < sh.width) × (q < sh.size) × (freed s.taken (s.place file) chosen sh.width q ≡ true)
      within' f b q e =
          let h = old f b q e in
          let w = ok.within f b q h.1 in (
            w.0,
            w.1,
            w.2,
            freed_other s.taken (s.place file) chosen sh.width q (λ c l dc r. let k = ok.apart f b file c q h.1 r in h.0 k.0 (ap chosen k.1 ∙ dc)) ∙ w.3,
          )

      owned' : (q : ℕ) → q < sh.size → freed s.taken (s.place file) chosen sh.width q ≡ true
          → (f : ℕ) × (b : ℕ) × (changed s.place file chosen (λ _. None) f b ≡ Some q)
      owned' q l e =
          let w = ok.owned q l (freed_taken s.taken (s.place file) chosen sh.width q e) in (
            w.0,
            w.1,
            elim (changed_cases s.place file chosen (λ _. None) w.0 w.1) [
              | inl h ↦ absurd (both_ways _ (freed_chosen s.taken (s.place file) chosen sh.width w.1 q (ok.within w.0 w.1 q w.2).1 h.1
                  (ap (λ (x : ℕ). s.place x w.1) (sym h.0) ∙ w.2)) e)
              | inr h ↦ h.1 ∙ w.2
            ],
          )

      apart' : (f b g c q : ℕ) → changed s.place file chosen (λ _. None) f b ≡ Some q → changed s.place file chosen (λ _. None) g c ≡ Some q
          → (f ≡ g) × (b ≡ c)
      apart' f b g c q e e' = ok.apart f b g c q (old f b q e).1 (old g c q e').1

      counted' : count sh.size (freed s.taken (s.place file) chosen sh.width) ≡ tally_below sh.files sh.width (changed s.place file chosen (λ _. None))
      counted' =
          let a = freed_count s.taken (s.place file) chosen sh.width sh.size (λ b p e. let w = ok.within file b p e in (w.2, w.3)) (λ b c p e e'. (ok.apart file b file c p e e').1) in
          let b = vacated_count sh.files sh.width s.place file chosen lf in
          let c = ok.counted in
          omega arith
