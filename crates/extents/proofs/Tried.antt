-- How many keys a look-up tries.
use Rattle.std.proofs.Common.{◌≡◌, ℕ, zero, suc, ◌+◌, ◌<◌, true, List, [], ◌∷◌, length, get_or, is_some, Some, None, Option, refl, ap, ◌∙◌, arith}
use Rattle.blocks.specs.declared.Entry.{Entry}
use Rattle.extents.specs.Extents.{KeyTable, path, only_here, tried_of, tried}
use Rattle.extents.specs.Laws.{Tries}

here : (o : Option Entry) (n : ℕ) → is_some o ≡ true → only_here o n ≡ 1
here None n e = let z : ◌≡◌ {A = ℕ} 0 1 = cc in absurd (omega arith)
here (Some x) n e = refl

up_to : (t : KeyTable) (xs : List ℕ) (k : ℕ) → k < length xs → is_some (t (get_or xs k 0)) ≡ true
    → ((j : ℕ) → j < k → t (get_or xs j 0) ≡ None) → tried_of t xs ≡ k + 1
unfolding tried_of
up_to t [] k l held before = absurd (omega arith)
up_to t (x ∷ xs) zero l held before = here (t x) (tried_of t xs) held
up_to t (x ∷ xs) (suc k) l held before =
    let more = up_to t xs k (omega arith) held (λ j h. before (suc j) (omega arith)) in
    ap (λ o. only_here o (tried_of t xs)) (before 0 (omega arith)) ∙ omega arith

none : (t : KeyTable) (xs : List ℕ) → ((j : ℕ) → j < length xs → t (get_or xs j 0) ≡ None) → tried_of t xs ≡ length xs
unfolding tried_of
none t [] e = refl
none t (x ∷ xs) e =
    let more = none t xs (λ j h. e (suc j) (omega arith)) in
    ap (λ o. only_here o (tried_of t xs)) (e 0 (omega arith)) ∙ ap suc more

pub tries : Tries
unfolding tried
tries = record { up_to_held = λ t b. up_to t (path b); all = λ t b. none t (path b) }
