-- Files that are forgotten one after another.
use Rattle.std.proofs.Common.{◌≡◌, ℕ, ◌+◌, ◌<◌, ◌≤◌, ltb, ◌⊎◌, Some, None, Ok, Result, refl, ap, ◌∙◌, inl, inr, arith}
use mathlib.Core.Path.{fun_ext}
use Rattle.std.proofs.lemmas.Bool.{cases_lt, cases_eq, le-ltb, cond-false}
use Rattle.faults.specs.declared.Fault.{Fault}
use Rattle.faults.specs.declared.Ground.TheVariants.{File}
use Rattle.blocks.specs.Blocks.{Placement, every}
use Rattle.blocks.proofs.Changes.{changed_here, changed_elsewhere}
use Rattle.maps.specs.Steps.{nowhere, forgotten, Outcome, ground_of_file, unless_ground, forget_step}

pub forgotten_here : (p : Placement) (file b : ℕ) → forgotten p file file b ≡ None
forgotten_here p file b = changed_here p file every (λ _. None) b refl

pub forgotten_other : (p : Placement) (file f b : ℕ) → (f ≡ file → ⊥) → forgotten p file f b ≡ p f b
forgotten_other p file f b ne = changed_elsewhere p file every (λ _. None) f b ne

pub file_good : (file : ℕ) → file < 65536 → ground_of_file file ≡ None
file_good file l = cond-false (ltb 65535 file) (Some File) None (le-ltb 65535 file (omega arith))

-- what a granted forget leaves
pub forget_leaves : (p q : Placement) (file : ℕ) (r : Result (Unit {0}) Fault) → file < 65536 → ◌≡◌ {A = Outcome} (r, q) (forget_step p file) → q ≡ forgotten p file
forget_leaves p q file r l e = ap (λ o. o.1) e ∙ ap (λ g. (unless_ground g p file 0 (Ok tt, forgotten p file)).1) (file_good file l)

-- no file below n is placed
abbrev pub EmptyBelow : Placement → ℕ → Type 0
EmptyBelow p n = (f b : ℕ) → f < n → p f b ≡ None

pub empty_next : (p q : Placement) (n : ℕ) → q ≡ forgotten p n → EmptyBelow p n → EmptyBelow q (n + 1)
empty_next p q n e h f b l = ap (λ z. z f b) e ∙ at (cases_eq f n)
  where
    at : (f ≡ n) ⊎ (f ≡ n → ⊥) → forgotten p n f b ≡ None
    at (inl i) = ap (λ z. forgotten p n z b) i ∙ forgotten_here p n b
    at (inr ne) = forgotten_other p n f b ne ∙ h f b (omega arith)

pub empty_all : (p : Placement) → ((f b : ℕ) → (65536 ≤ f) ⊎ (65536 ≤ b) → p f b ≡ None) → (n : ℕ) → 65536 ≤ n → EmptyBelow p n → p ≡ nowhere
empty_all p within n l h = fun_ext (λ f. fun_ext (λ b. at f b (cases_lt f 65536)))
  where
    at : (f b : ℕ) → (f < 65536) ⊎ (65536 ≤ f) → p f b ≡ None
    at f b (inl x) = h f b (omega arith)
    at f b (inr x) = within f b (inl x)
