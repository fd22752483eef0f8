-- The worked cases of paths and keys.
use Rattle.std.proofs.Common.{◌≡◌, ℕ, ◌+◌, ◌-◌, ◌<◌, ◌≤◌, ◌⊎◌, [], ◌∷◌, Some, None, sym, refl, ap, ◌∙◌, subst, inl, inr, arith}
use mathlib.Core.Path.{fun_ext}
use Rattle.std.proofs.lemmas.Bool.{cases_lt, cond-true, cond-false}
use Rattle.blocks.specs.Blocks.{inside}
use Rattle.blocks.proofs.Changes.{inside_yes, inside_before, inside_after}
use Rattle.extents.specs.Extents.{FileMap, key, path}
use Rattle.extents.specs.Runs.{run_map, size_from, walk, ListsKeys}
use Rattle.extents.proofs.OneRun.{run_keys}
use Rattle.cases.specs.Cases.{and_run, Paths, Joining}

pub paths : Paths
unfolding path
paths = record { of_7 = refl; of_4095 = refl; of_4096 = refl; of_4103 = refl }

-- ---- what a map with one run more holds

pub and_here : (m : FileMap) (first n p b : ℕ) → first ≤ b → b < first + n → and_run m first n p b ≡ Some (p + (b - first))
and_here m first n p b l h = cond-true (inside first n b) (Some (p + (b - first))) (m b) (inside_yes first n b l h)

pub and_before : (m : FileMap) (first n p b : ℕ) → b < first → and_run m first n p b ≡ m b
and_before m first n p b l = cond-false (inside first n b) (Some (p + (b - first))) (m b) (inside_before first n b l)

pub and_after : (m : FileMap) (first n p b : ℕ) → first + n ≤ b → and_run m first n p b ≡ m b
and_after m first n p b l = cond-false (inside first n b) (Some (p + (b - first))) (m b) (inside_after first n b l)

abbrev none : FileMap
none b = None

-- two runs that touch, and whose board numbers run on, are one run, whichever came first
module _ (first n k p : ℕ) where
  right_then_left : and_run (run_map (first + n) k (p + n)) first n p ≡ run_map first (n + k) p
  right_then_left = fun_ext (λ b. at b (cases_lt b first) (cases_lt b (first + n)) (cases_lt b (first + (n + k))))
    where
      at : (b : ℕ) → (b < first) ⊎ (first ≤ b) → (b < first + n) ⊎ (first + n ≤ b) → (b < first + (n + k)) ⊎ (first + (n + k) ≤ b)
          → and_run (run_map (first + n) k (p + n)) first n p b ≡ run_map first (n + k) p b
      at b (inl l) m r =
          and_before (run_map (first + n) k (p + n)) first n p b l ∙ and_before none (first + n) k (p + n) b (omega arith) ∙ sym (and_before none first (n + k) p b l)
      at b (inr l) (inl m) r =
          and_here (run_map (first + n) k (p + n)) first n p b l m ∙ sym (and_here none first (n + k) p b l (omega arith))
      at b (inr l) (inr m) (inl r) =
          let e : (p + n) + (b - (first + n)) ≡ p + (b - first) = omega arith in
          and_after (run_map (first + n) k (p + n)) first n p b m ∙ and_here none (first + n) k (p + n) b m (omega arith) ∙ ap Some e
          ∙ sym (and_here none first (n + k) p b l r)
      at b (inr l) (inr m) (inr r) =
          and_after (run_map (first + n) k (p + n)) first n p b m ∙ and_after none (first + n) k (p + n) b (omega arith) ∙ sym (and_after none first (n + k) p b r)

  left_then_right : and_run (run_map first n p) (first + n) k (p + n) ≡ run_map first (n + k) p
  left_then_right = fun_ext (λ b. at b (cases_lt b first) (cases_lt b (first + n)) (cases_lt b (first + (n + k))))
    where
      at : (b : ℕ) → (b < first) ⊎ (first ≤ b) → (b < first + n) ⊎ (first + n ≤ b) → (b < first + (n + k)) ⊎ (first + (n + k) ≤ b)
          → and_run (run_map first n p) (first + n) k (p + n) b ≡ run_map first (n + k) p b
      at b (inl l) m r =
          and_before (run_map first n p) (first + n) k (p + n) b (omega arith) ∙ and_before none first n p b l ∙ sym (and_before none first (n + k) p b l)
      at b (inr l) (inl m) r =
          and_before (run_map first n p) (first + n) k (p + n) b m ∙ and_here none first n p b l m ∙ sym (and_here none first (n + k) p b l (omega arith))
      at b (inr l) (inr m) (inl r) =
          let e : (p + n) + (b - (first + n)) ≡ p + (b - first) = omega arith in
          and_here (run_map first n p) (first + n) k (p + n) b m (omega arith) ∙ ap Some e ∙ sym (and_here none first (n + k) p b l r)
      at b (inr l) (inr m) (inr r) =
          and_after (run_map first n p) (first + n) k (p + n) b (omega arith) ∙ and_after none first n p b m ∙ sym (and_after none first (n + k) p b r)

eight : walk 8 3 11 103 ≡ key 3 1 103 ∷ key 4 4 104 ∷ key 8 2 108 ∷ key 10 1 110 ∷ []
unfolding walk size_from
eight = refl

eleven : walk 11 0 11 100 ≡ key 0 8 100 ∷ key 8 2 108 ∷ key 10 1 110 ∷ []
unfolding walk size_from
eleven = refl

whole : ListsKeys (run_map 0 11 100) (key 0 8 100 ∷ key 8 2 108 ∷ key 10 1 110 ∷ [])
whole = subst (ListsKeys (run_map 0 11 100)) eleven (run_keys 0 11 100)

pub joining : Joining
joining = record {
  right_part = subst (ListsKeys (run_map 3 8 103)) eight (run_keys 3 8 103);
  left_later = subst (λ m. ListsKeys m (key 0 8 100 ∷ key 8 2 108 ∷ key 10 1 110 ∷ [])) (sym (right_then_left 0 3 8 100)) whole;
  left_first = subst (λ m. ListsKeys m (key 0 8 100 ∷ key 8 2 108 ∷ key 10 1 110 ∷ [])) (sym (left_then_right 0 3 8 100)) whole;
}
