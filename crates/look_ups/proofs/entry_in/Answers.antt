use Rattle.std.proofs.Common.{rules, ◌≡◌, ℕ, ◌<◌, ◌≤◌, ltb, ◌⊎◌, List, length, get_or, Bool, eqb, Some, None, sym, ap, ◌∙◌, inl, inr}
use Rattle.std.specs.List.{find, position, position_or_len, slice_get}
use Rattle.std.specs.Option.{option_map}
use Rattle.std.proofs.lemmas.List.Folds.{find_at}
use Rattle.std.proofs.lemmas.Option.{slice_get_past, slice_get-get_or}
use Rattle.std.proofs.lemmas.Bool.{cases_lt, lt-ltb, le-ltb, cond-true, cond-false}
use Rattle.extents.specs.declared.key.Key.{Key}
use Rattle.look_ups.proofs.entry_in.Goals as goal

abbrev none : Key
none = record { start = 0; length = 0; board = 0 }

-- the first element that passes is the one at the first place that passes
found : (p : Key → Bool) (ks : List Key) → find p ks ≡ option_map (λ i. get_or ks i none) (position p ks)
found p ks = find_at p ks ∙ at (cases_lt n (length ks))
  where
    n : ℕ
    n = position_or_len p ks

    at : (n < length ks) ⊎ (length ks ≤ n) → slice_get ks n ≡ option_map (λ i. get_or ks i none) (position p ks)
    at (inl l) = slice_get-get_or ks n none l ∙ sym (ap (option_map (λ i. get_or ks i none)) (cond-true (ltb n (length ks)) (Some n) None (lt-ltb n (length ks) l)))
    at (inr g) = slice_get_past ks n g ∙ sym (ap (option_map (λ i. get_or ks i none)) (cond-false (ltb n (length ks)) (Some n) None (le-ltb n (length ks) g)))

pub returns-in_err-at : goal.returns-in_err-at
returns-in_err-at c = let h = found (λ k. eqb k.start c.args.start) c.args.keys.now in search rules

pub returns : goal.returns
returns c = let h = found (λ k. eqb k.start c.args.start) c.args.keys.now in search rules
