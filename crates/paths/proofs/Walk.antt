-- The walk along a block's path, by what is left of it.
use Rattle.std.proofs.Common.{◌≡◌, ℕ, suc, ◌+◌, ◌-◌, ◌<◌, ◌≤◌, List, [], ◌∷◌, Option, Some, None, sym, refl, ap, ◌∙◌, arith}
use Rattle.std.specs.Iterator.{YieldsFirst}
use Rattle.std.specs.List.{slice_get}
use Rattle.extents.specs.declared.path.Path.{Path}
use Rattle.extents.specs.Extents.{path, clearing, key_on_path}
use Rattle.extents.specs.OnPath.{starts}
use Rattle.extents.proofs.Calls.{key_here}

-- the first i keys of the path of b have been passed, and the others are still to come
pub record At (b i : ℕ) (p : Path) : Type 0 where
  pub rest : (j : ℕ) → slice_get (path b) (i + j) ≡ slice_get (starts p) j

pub at_start : {b : ℕ} {s : Path} → starts s ≡ path b → At b 0 s
at_start {b} e = record {
  rest = λ j. let z : 0 + j ≡ j = omega arith in ap (λ n. slice_get (path b) n) z ∙ ap (λ l. slice_get l j) (sym e);
}

pub at_next : {b i : ℕ} {s t : Path} (r : Option ℕ) → At b i s → YieldsFirst starts s r t → At b (i + 1) t
at_next {b} {i} {s} {t} r a h = record {
  rest = λ j.
      let z : (i + 1) + j ≡ i + suc j = omega arith in
      ap (λ n. slice_get (path b) n) z ∙ a.rest (suc j) ∙ step r h j;
}
  where
    step : (r : Option ℕ) → YieldsFirst starts s r t → (j : ℕ) → slice_get (starts s) (suc j) ≡ slice_get (starts t) j
    step None h j = ap (λ l. slice_get l (suc j)) h.0 ∙ ap (λ l. slice_get l j) (sym h.1)
    step (Some x) h j = ap (λ l. slice_get l (suc j)) h

-- the first key starts at the block itself
pub first_key : (b : ℕ) → b < 65536 → b ≡ key_on_path b 0
unfolding path clearing
first_key b l = sym (key_here b 0 (Some b) l refl)

pub found_key : {b i k x : ℕ} {s : Path} {xs : List ℕ} → b < 65536 → At b i s → starts s ≡ x ∷ xs → i ≡ k → x ≡ key_on_path b k
found_key {b} {i} {k} {x} l a e is =
    let z : k ≡ i + 0 = omega arith in
    sym (key_here b k (Some x) l (sym (ap (λ n. slice_get (path b) n) z ∙ a.rest 0 ∙ ap (λ l. slice_get l 0) e)))

pub no_key : {b i k : ℕ} {s : Path} → b < 65536 → At b i s → starts s ≡ [] → i ≤ k → 65536 ≡ key_on_path b k
no_key {b} {i} {k} l a e le =
    let z : k ≡ i + (k - i) = omega arith in
    sym (key_here b k None l (sym (ap (λ n. slice_get (path b) n) z ∙ a.rest (k - i) ∙ ap (λ l. slice_get l (k - i)) e)))
