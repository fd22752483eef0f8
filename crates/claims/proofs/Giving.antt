-- Blocks that leave the map, and their board blocks that are given back.
use Rattle.std.proofs.Common.{◌≡◌, ℕ, ◌+◌, ◌<◌, ◌≤◌, Bool, true, false, cond, ltb, Some, None, Ok, Err, Option, Result, sym, refl, ap, ◌∙◌, subst, ap₂, ◌⊎◌, inl, inr, arith}
use mathlib.Core.Path.{fun_ext}
use Rattle.std.proofs.lemmas.Bool.{cases_lt, cases_eq}
use Rattle.std.proofs.lemmas.Bool.Decides.{nat_tests}
use Rattle.faults.specs.declared.Fault.{Fault}
use Rattle.faults.specs.declared.Ground.{Ground}
use Rattle.faults.specs.declared.Ground.TheVariants.{File, TooManyKeys}
use Rattle.blocks.specs.Blocks.{Placement, inside, every, changed}
use Rattle.blocks.proofs.Changes.{changed_here, changed_elsewhere}
use Rattle.block_set.specs.Members.{without}
use Rattle.ledger.specs.Store.{placed, freed}
use Rattle.maps.specs.Steps.{Outcome, fault_of, clear_step, ground_of_extent, forget_step, ground_of_file, forgotten, if_room, unless_ground}
use Rattle.walks.specs.Walks.{Gathers}
use Rattle.walks.proofs.Places.{gathered_extent, gathered_file}
use Rattle.claims.specs.Leaves.{Vacated, vacate_step, leaving, unless_refused, LeftFile, leave_file}

module _ (rule : Placement → ℕ) (room : ℕ) (t : ℕ → Bool) (pl pl₁ q : Placement) (room₁ file first n : ℕ) (told : Result (Unit {0}) Fault)
    (er : room₁ ≡ room) (es : pl₁ ≡ pl) (step : ◌≡◌ {A = Outcome} (told, q) (clear_step rule room₁ pl₁ file first n)) where
  abbrev left : Placement
  left = changed pl file (inside first n) (λ _. None)

  -- what the map did, from what it held before it was asked anything
  stepped : ◌≡◌ {A = Outcome} (told, q) (unless_ground (ground_of_extent file first n) pl file first (if_room rule room pl left file first))
  stepped = step ∙ ap₂ (λ (k : ℕ) (w : Placement). clear_step rule k w file first n) er es

  module _ (u : Unit {0}) (granted : told ≡ Ok u) where
    -- it had no ground to refuse it
    pub admitted : ground_of_extent file first n ≡ None
    admitted = go (ground_of_extent file first n) stepped
      where
        go : (o : Option Ground) → ◌≡◌ {A = Outcome} (told, q) (unless_ground o pl file first (if_room rule room pl left file first)) → o ≡ None
        go None k = refl
        go (Some x) k =
            let d : ◌≡◌ {A = Result (Unit {0}) Fault} (Ok u) (Err (fault_of x file first)) = sym granted ∙ ap (λ (x : Outcome). x.0) k in
            let z : ◌≡◌ {A = ℕ} 0 1 = cc in absurd (omega arith)

    pub within : first + n ≤ 65536
    within = let e = admitted in grind (arith, nat_tests)

    module _ (set : ℕ → Bool) (to number : ℕ) (et : to ≡ first + n) (found : Gathers (pl file) first to set number) where
      gathered : (freed t (pl file) (inside first n) (first + n) ≡ without t set) × (placed (pl file) (inside first n) (first + n) ≡ number)
      gathered = gathered_extent t (pl file) first n (first + n) set number (omega arith) (subst (λ k. Gathers (pl file) first k set number) et found)

      -- the map has granted it
      pub leaves : (t' : ℕ → Bool) → t' ≡ without t set → ◌≡◌ {A = Vacated} (Ok number, t', q) (vacate_step rule room t pl file first n)
      leaves t' h =
          go (ltb room (rule left)) (stepped ∙ ap (λ (o : Option Ground). unless_ground o pl file first (if_room rule room pl left file first)) admitted)
          ∙ sym (ap (λ (o : Option Ground). unless_refused o t pl file first (leaving rule room t pl left file first n)) admitted)
        where
          go : (v : Bool) → ◌≡◌ {A = Outcome} (told, q) (cond v (Err (fault_of TooManyKeys file first), pl) (Ok tt, left))
              → ◌≡◌ {A = Vacated} (Ok number, t', q)
              (cond v (Err (fault_of TooManyKeys file first), t, pl) (Ok (placed (pl file) (inside first n) (first + n)), freed t (pl file) (inside first n) (first + n), left))
          go true k =
              let d : ◌≡◌ {A = Result (Unit {0}) Fault} (Ok u) (Err (fault_of TooManyKeys file first)) = sym granted ∙ ap (λ (x : Outcome). x.0) k in
              let z : ◌≡◌ {A = ℕ} 0 1 = cc in absurd (omega arith)
          go false k = λ i. (Ok (sym gathered.1 i), (h ∙ sym gathered.0) i, ap (λ (x : Outcome). x.1) k i)

-- within the numbers no ground refuses it
pub vacates_within : (rule : Placement → ℕ) (room : ℕ) (t : ℕ → Bool) (pl : Placement) (file first n : ℕ) → file < 65536 → first + n ≤ 65536 → 0 < n → n ≤ 4096
    → vacate_step rule room t pl file first n ≡ leaving rule room t pl (changed pl file (inside first n) (λ _. None)) file first n
vacates_within rule room t pl file first n lf le ln lm =
    let g : ground_of_extent file first n ≡ None = grind (arith, nat_tests) in
    ap (λ (o : Option Ground). unless_refused o t pl file first (leaving rule room t pl (changed pl file (inside first n) (λ _. None)) file first n)) g

-- ---- a whole file

-- of a file that has no place, nothing is taken out
none_there : (pl : Placement) (file : ℕ) → ((b : ℕ) → pl file b ≡ None) → pl ≡ changed pl file every (λ _. None)
none_there pl file free = fun_ext (λ f. fun_ext (λ b. at f b (cases_eq f file)))
  where
    at : (f b : ℕ) → (f ≡ file) ⊎ (f ≡ file → ⊥) → pl f b ≡ changed pl file every (λ _. None) f b
    at f b (inl e) = ap (λ (x : ℕ). pl x b) e ∙ free b ∙ sym (ap (λ (x : ℕ). changed pl file every (λ _. None) x b) e ∙ changed_here pl file every (λ _. None) b refl)
    at f b (inr d) = sym (changed_elsewhere pl file every (λ _. None) f b d)

pub leaves_file : (t t' set : ℕ → Bool) (pl pl₁ q : Placement) (file width number : ℕ) (told : Result (Unit {0}) Fault) → pl₁ ≡ pl
    → ((b : ℕ) → 65536 ≤ file → pl file b ≡ None)
    → Gathers (pl file) 0 width set number → ◌≡◌ {A = Outcome} (told, q) (forget_step pl₁ file) → t' ≡ without t set
    → ◌≡◌ {A = LeftFile} (number, t', q) (leave_file t pl file width)
leaves_file t t' set pl pl₁ q file width number told es free found step h =
    let gathered = gathered_file t (pl file) width set number found in
    λ i. (sym gathered.1 i, (h ∙ sym gathered.0) i, gone (cases_lt file 65536) i)
  where
    stepped : (o : Option Ground) → ground_of_file file ≡ o → ◌≡◌ {A = Outcome} (told, q) (unless_ground o pl file 0 (Ok tt, forgotten pl file))
    stepped o e = step ∙ ap (λ (w : Placement). forget_step w file) es ∙ ap (λ (o : Option Ground). unless_ground o pl file 0 (Ok tt, forgotten pl file)) e

    gone : (file < 65536) ⊎ (65536 ≤ file) → q ≡ changed pl file every (λ _. None)
    gone (inl l) = ap (λ (x : Outcome). x.1) (stepped None (grind (arith, nat_tests)))
    gone (inr l) = ap (λ (x : Outcome). x.1) (stepped (Some File) (grind (arith, nat_tests))) ∙ none_there pl file (λ b. free b l)
