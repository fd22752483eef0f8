-- The places of the chosen blocks of a row, and what the pool holds once they are given back.
use Rattle.std.proofs.Common.{◌≡◌, ℕ, zero, suc, ◌+◌, ◌-◌, ◌<◌, ◌≤◌, Bool, true, false, cond, not, ◌&&◌, eqb, ltb, ◌⊎◌, Some, None, Option, sym, refl, ap, ◌∙◌, subst, ap₂, inl, inr, add-one, arith}
use mathlib.Core.Path.{fun_ext}
use Rattle.std.proofs.lemmas.Bool.{cases_lt, both_ways, and_right, lt-ltb, cond-true}
use Rattle.blocks.specs.Blocks.{inside, every}
use Rattle.blocks.proofs.Changes.{inside_yes, inside_before, inside_after}
use Rattle.block_set.specs.Members.{none, inserted, without}
use Rattle.ledger.specs.Store.{put, placed, hand_back, freed}
use Rattle.ledger.proofs.Pool.{none_some, freed_next, freed_skip, freed_same}
use Rattle.walks.specs.Steps.{Hole}
use Rattle.walks.specs.Walks.{noted, places, Gathers}

-- ---- a set of places, given back

kept : (x : Bool) → x ≡ (x && true)
kept true = refl
kept false = refl

module _ (t : ℕ → Bool) (row : ℕ → Option ℕ) (chosen : ℕ → Bool) where
  pub freed_places : (n : ℕ) → freed t row chosen n ≡ without t (places row chosen n)
  freed_places zero = fun_ext (λ i. kept (t i))
  freed_places (suc n) = go (chosen n) (row n) (freed_places n)
    where
      put_false : (s : ℕ → Bool) (i : ℕ) (v : Bool) → cond v false (t i && not (s i)) ≡ (t i && not (cond v true (s i)))
      put_false s i true = sym (and_right (t i) false refl)
      put_false s i false = refl

      go : (v : Bool) (o : Option ℕ) → freed t row chosen n ≡ without t (places row chosen n)
          → hand_back v o (freed t row chosen n) ≡ without t (noted v o (places row chosen n))
      go true (Some p) ih = ap (λ (u : ℕ → Bool). put u p false) ih ∙ fun_ext (λ i. put_false (places row chosen n) i (eqb i p))
      go true None ih = ih
      go false o ih = ih

-- Past an extent nothing is chosen.
past : (t : ℕ → Bool) (row : ℕ → Option ℕ) (first n w : ℕ) → first + n ≤ w
    → (freed t row (inside first n) w ≡ freed t row (inside first n) (first + n)) × (placed row (inside first n) w ≡ placed row (inside first n) (first + n))
past t row first n w l =
    freed_skip t row (inside first n) (first + n) w l (λ d m k e. absurd (both_ways (inside first n d) (inside_after first n d m) e))

pub freed_extent : (t : ℕ → Bool) (row : ℕ → Option ℕ) (first n w : ℕ) → first + n ≤ w
    → freed t row (inside first n) w ≡ without t (places row (inside first n) (first + n))
freed_extent t row first n w l = (past t row first n w l).0 ∙ freed_places t row (inside first n) (first + n)

pub placed_extent : (row : ℕ → Option ℕ) (first n w : ℕ) → first + n ≤ w → placed row (inside first n) w ≡ placed row (inside first n) (first + n)
placed_extent row first n w l = (past none row first n w l).1

-- A whole file is the extent of all its blocks.
whole : (t : ℕ → Bool) (row : ℕ → Option ℕ) (w : ℕ) → (freed t row every w ≡ freed t row (inside 0 w) w) × (placed row every w ≡ placed row (inside 0 w) w)
whole t row w = freed_same t row every (inside 0 w) w (λ b l. sym (inside_yes 0 w b (omega arith) (omega arith)))

pub freed_file : (t : ℕ → Bool) (row : ℕ → Option ℕ) (w : ℕ) → freed t row every w ≡ without t (places row (inside 0 w) w)
freed_file t row w = (whole t row w).0 ∙ freed_places t row (inside 0 w) w

pub placed_file : (row : ℕ → Option ℕ) (w : ℕ) → placed row every w ≡ placed row (inside 0 w) w
placed_file row w = (whole none row w).1

-- What was gathered of an extent, or of a whole file, is what is given back of it.
pub gathered_extent : (t : ℕ → Bool) (row : ℕ → Option ℕ) (first n w : ℕ) (set : ℕ → Bool) (number : ℕ) → first + n ≤ w → Gathers row first (first + n) set number
    → (freed t row (inside first n) w ≡ without t set) × (placed row (inside first n) w ≡ number)
gathered_extent t row first n w set number l h =
    let z : (first + n) - first ≡ n = omega arith in (
      freed_extent t row first n w l ∙ sym (ap (without t) (h.collects ∙ ap (λ (k : ℕ). places row (inside first k) (first + n)) z)),
      placed_extent row first n w l ∙ sym (h.counts ∙ ap (λ (k : ℕ). placed row (inside first k) (first + n)) z),
    )

pub gathered_file : (t : ℕ → Bool) (row : ℕ → Option ℕ) (w : ℕ) (set : ℕ → Bool) (number : ℕ) → Gathers row 0 w set number
    → (freed t row every w ≡ without t set) × (placed row every w ≡ number)
gathered_file t row w set number h =
    let z : w - 0 ≡ w = omega arith in (
      freed_file t row w ∙ sym (ap (without t) (h.collects ∙ ap (λ (k : ℕ). places row (inside 0 k) w) z)),
      placed_file row w ∙ sym (h.counts ∙ ap (λ (k : ℕ). placed row (inside 0 k) w) z),
    )

-- ---- gathered going up a row, from one block with a place to the next

idle : (v : Bool) (o : Option ℕ) (s : ℕ → Bool) → (v ≡ true → o ≡ None) → noted v o s ≡ s
idle false o s e = refl
idle true None s e = refl
idle true (Some p) s e = none_some (e refl) refl

module _ (row : ℕ → Option ℕ) (chosen : ℕ → Bool) where
  -- the places of the chosen blocks below n, and how many of them have one
  abbrev pub SoFar : ℕ → (ℕ → Bool) → ℕ → Type 0
  SoFar n set number = (number ≡ placed row chosen n) × (set ≡ places row chosen n)

  skip_by : (b k : ℕ) → ((d : ℕ) → b ≤ d → d < b + k → chosen d ≡ true → row d ≡ None) → places row chosen (b + k) ≡ places row chosen b
  skip_by b zero e = let z : b + 0 ≡ b = omega arith in ap (places row chosen) z
  skip_by b (suc k) e =
      let z : b + suc k ≡ suc (b + k) = omega arith in
      ap (places row chosen) z
      ∙ (idle (chosen (b + k)) (row (b + k)) (places row chosen (b + k)) (e (b + k) (omega arith) (omega arith)) ∙ skip_by b k (λ d l m. e d l (omega arith)))

  -- where no chosen block has a place
  alike : (b c : ℕ) → b ≤ c → ((d : ℕ) → b ≤ d → d < c → chosen d ≡ true → row d ≡ None)
      → (placed row chosen c ≡ placed row chosen b) × (places row chosen c ≡ places row chosen b)
  alike b c l e =
      let z : b + (c - b) ≡ c = omega arith in
      ((freed_skip none row chosen b c l e).1, ap (places row chosen) (sym z) ∙ skip_by b (c - b) (λ d m k. e d m (omega arith)))

  found : (b p : ℕ) (set : ℕ → Bool) (number : ℕ) → chosen b ≡ true → row b ≡ Some p → p < 4096 → SoFar b set number → SoFar (b + 1) (inserted set p) (number + 1)
  found b p set number v e l h = (
    (let more = (freed_next none row chosen b p v e).1 in omega (arith, h.0)),
    cond-true (ltb p 4096) (put set p true) set (lt-ltb p 4096 l)
        ∙ ap (λ (s : ℕ → Bool). put s p true) h.1
        ∙ sym (ap (places row chosen) (add-one b) ∙ ap₂ (λ (w : Bool) (o : Option ℕ). noted w o (places row chosen b)) v e),
  )

module _ (row : ℕ → Option ℕ) (from to : ℕ) where
  -- at the start nothing is gathered
  pub gather_none : SoFar row (inside from (to - from)) from none 0
  gather_none =
      let a = alike row (inside from (to - from)) 0 from (omega arith) (λ d l m v. absurd (both_ways (inside from (to - from) d) (inside_before from (to - from) d m) v)) in
      (sym a.0, sym a.1)

  -- the next block with a place
  pub gather_more : (n b p n' : ℕ) (set : ℕ → Bool) (number : ℕ) → from ≤ n → n ≤ b → b < to → p < 4096 → (row b ≡ Some p) × Hole row n b → n' ≡ b + 1
      → SoFar row (inside from (to - from)) n set number → SoFar row (inside from (to - from)) n' (inserted set p) (number + 1)
  gather_more n b p n' set number lf ln lb lp at behind h =
      let a = alike row (inside from (to - from)) n b ln (λ d l m _. at.1 d l m) in
      subst (λ k. SoFar row (inside from (to - from)) k (inserted set p) (number + 1)) (sym behind)
      (found row (inside from (to - from)) b p set number (inside_yes from (to - from) b (omega arith) (omega arith)) at.0 lp (h.0 ∙ sym a.0, h.1 ∙ sym a.1))

  -- no block with a place is left
  pub gather_all : (n : ℕ) (set : ℕ → Bool) (number : ℕ) → Hole row n to → SoFar row (inside from (to - from)) n set number → Gathers row from to set number
  gather_all n set number hole h = go (cases_lt n to)
    where
      outside : (d : ℕ) → to ≤ d → (d < from) ⊎ (from ≤ d) → inside from (to - from) d ≡ false
      outside d l (inl m) = inside_before from (to - from) d m
      outside d l (inr m) = inside_after from (to - from) d (omega arith)

      go : (n < to) ⊎ (to ≤ n) → Gathers row from to set number
      go (inl l) =
          let a = alike row (inside from (to - from)) n to (omega arith) (λ d i j _. hole d i j) in
          record { counts = h.0 ∙ sym a.0; collects = h.1 ∙ sym a.1 }
      go (inr l) =
          let a = alike row (inside from (to - from)) to n l (λ d i j v. absurd (both_ways (inside from (to - from) d) (outside d i (cases_lt d from)) v)) in
          record { counts = h.0 ∙ a.0; collects = h.1 ∙ a.1 }
