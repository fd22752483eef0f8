-- The look-up, step by step.
use Rattle.std.proofs.Common.{◌≡◌, ℕ, ◌+◌, ◌≤◌, List, [], ◌∷◌, length, Some, None, Option, sym, refl, ap, ◌∙◌, subst, arith}
use Rattle.blocks.specs.declared.Entry.{Entry}
use Rattle.extents.specs.Extents.{KeyTable, key, path, held_at, first_held_key, only_here, tried_of, tried}
use Rattle.extents.proofs.Calls.{path_few}

-- n keys were tried and none was held, and the starts xs are still to come
pub record Looking (t : KeyTable) (b n : ℕ) (xs : List ℕ) : Type 0 where
  pub finds : first_held_key t (path b) ≡ first_held_key t xs
  pub tries : tried t b ≡ n + tried_of t xs
  pub few : n + length xs ≤ 13

pub looking_start : {t : KeyTable} {b : ℕ} {xs : List ℕ} → xs ≡ path b → Looking t b 0 xs
unfolding tried
looking_start {t} {b} e =
    subst (Looking t b 0) (sym e) record { finds = refl; tries = omega arith; few = omega (arith, path_few b) }

find_at : (t : KeyTable) (x : ℕ) (xs : List ℕ) (o : Option Entry) → t x ≡ o → first_held_key t (x ∷ xs) ≡ held_at o x (first_held_key t xs)
unfolding first_held_key
find_at t x xs o e = ap (λ v. held_at v x (first_held_key t xs)) e

tried_at : (t : KeyTable) (x : ℕ) (xs : List ℕ) (o : Option Entry) → t x ≡ o → tried_of t (x ∷ xs) ≡ only_here o (tried_of t xs)
unfolding tried_of
tried_at t x xs o e = ap (λ v. only_here v (tried_of t xs)) e

module _ {t : KeyTable} {b n x : ℕ} {xs ys : List ℕ} (h : Looking t b n ys) (front : ys ≡ x ∷ xs) where
  pub looking_hit : {e : Entry} → t x ≡ Some e → (first_held_key t (path b) ≡ Some (key x e.length e.board)) × (tried t b ≡ n + 1)
  looking_hit {e} at = (
    h.finds ∙ ap (first_held_key t) front ∙ find_at t x xs (Some e) at,
    h.tries ∙ ap (λ l. n + tried_of t l) front ∙ ap (λ k. n + k) (tried_at t x xs (Some e) at),
  )

  pub looking_next : t x ≡ None → Looking t b (n + 1) xs
  looking_next at = record {
    finds = h.finds ∙ ap (first_held_key t) front ∙ find_at t x xs None at;
    tries = h.tries ∙ ap (λ l. n + tried_of t l) front ∙ ap (λ k. n + k) (tried_at t x xs None at) ∙ omega arith;
    few = let f = h.few in let l = ap length front in omega arith;
  }

pub looking_end : {t : KeyTable} {b n : ℕ} {ys : List ℕ} → Looking t b n ys → ys ≡ [] → (first_held_key t (path b) ≡ None) × (tried t b ≡ n)
unfolding first_held_key tried_of
looking_end {t} {b} {n} h none = (h.finds ∙ ap (first_held_key t) none, h.tries ∙ ap (λ l. n + tried_of t l) none ∙ omega arith)
