-- Texts that grow line by line.
use Rattle.std.proofs.Common.{◌≡◌, ℕ, ◌+◌, ◌<◌, ◌≤◌, List, [], ◌∷◌, ◌++◌, length, get_or, drop, sym, ap, ◌∙◌, append_assoc, append-nil}
use Rattle.std.proofs.lemmas.List.{drop_more, drop_all}
use Rattle.extents.specs.declared.key.Key.{Key}
use Rattle.planning.specs.Plans.{key_text, keys_text, line_text, lines_text, outcome}

-- a key's line is added, and those of the keys behind it are still to come
pub keys_next : (ks : List Key) (i : ℕ) (d : Key) (text text' all : List ℕ) → i < length ks → text' ≡ text ++ key_text (get_or ks i d)
    → text ++ keys_text (drop i ks) ≡ all → text' ++ keys_text (drop (i + 1) ks) ≡ all
unfolding keys_text
keys_next ks i d text text' all l e h =
    ap (λ t. t ++ keys_text (drop (i + 1) ks)) e ∙ append_assoc text (key_text (get_or ks i d)) (keys_text (drop (i + 1) ks))
    ∙ sym (ap (λ t. text ++ keys_text t) (drop_more ks i d l)) ∙ h

pub keys_done : (ks : List Key) (i : ℕ) (text all : List ℕ) → length ks ≤ i → text ++ keys_text (drop i ks) ≡ all → text ≡ all
unfolding keys_text
keys_done ks i text all l h = sym (append-nil text) ∙ sym (ap (λ t. text ++ keys_text t) (drop_all i ks l)) ∙ h

-- the same of the lines of a plan
pub lines_next : (line : List ℕ) (ls : List (List ℕ)) (text text' all : List ℕ) → text' ≡ text ++ line_text (outcome line)
    → text ++ lines_text (line ∷ ls) ≡ all → text' ++ lines_text ls ≡ all
unfolding lines_text
lines_next line ls text text' all e h =
    ap (λ t. t ++ lines_text ls) e ∙ append_assoc text (line_text (outcome line)) (lines_text ls) ∙ h

pub lines_done : (text all : List ℕ) → text ++ lines_text [] ≡ all → text ≡ all
unfolding lines_text
lines_done text all h = sym (append-nil text) ∙ h
