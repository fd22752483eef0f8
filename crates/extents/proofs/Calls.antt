-- What the calls on a path rest on.
use Rattle.std.proofs.Common.{◌≡◌, ℕ, ◌+◌, ◌-◌, ◌/◌, ◌%◌, ◌^◌, ◌<◌, ◌≤◌, ltb, ◌⊎◌, [], ◌∷◌, length, get_or, Option, Some, None, sym, refl, ap, ◌∙◌, ap₂, min, subst, inl, inr, mod-lt, arith, pow_pos}
use lib.Bits.{bit_and, and_mask}
use Rattle.std.proofs.lemmas.Nat.Bits.{bit_at_lowest, bit_at_and}
use lib.Count.{ones, ones-le}
use Rattle.std.specs.Option.{option_map, unwrap_or}
use Rattle.std.specs.List.{slice_get}
use Rattle.std.proofs.lemmas.Option.{unwrap_or-slice_get}
use Rattle.std.proofs.lemmas.Bool.{cases_lt, lt-ltb, le-ltb, cond-true, cond-false}
use Rattle.extents.specs.Extents.{trunc, path, clearing, length_of_path, key_on_path}
use Rattle.extents.proofs.Grid.{trunc_self}
use Rattle.extents.proofs.Paths.{clearing_done, clearing_more, chain, path_length}

pub low_ones : (b : ℕ) → ones (bit_and b 4095) ≤ 12
low_ones b = rw (and_mask b 12) (ones-le 12 (b % 2 ^ 12) (mod-lt b (pow_pos 12)))

pub length_past : (b : ℕ) → 65536 ≤ b → 0 ≡ length_of_path b
unfolding length_of_path
length_past b h = sym (cond-false (ltb b 65536) (length (path b)) 0 (le-ltb b 65536 h))

pub length_here : (b : ℕ) → b < 65536 → 1 + ones (bit_and b 4095) ≡ length_of_path b
unfolding length_of_path
length_here b h =
    ap (λ n. 1 + ones n) (and_mask b 12) ∙ sym (path_length b) ∙ sym (cond-true (ltb b 65536) (length (path b)) 0 (lt-ltb b 65536 h))

-- ---- the path step by step: a block that a path comes to has the rest of it as its own path

pub path_done : (x : ℕ) → bit_and x 4095 ≡ 0 → path x ≡ x ∷ []
unfolding path
path_done x e = clearing_done 12 x (sym (and_mask x 12) ∙ e)

pub path_more : (x : ℕ) → (bit_and x 4095 ≡ 0 → ⊥) → path x ≡ x ∷ path (bit_and x (x - 1))
unfolding path
path_more x ne = clearing_more 11 x (λ z. ne (and_mask x 12 ∙ z)) ∙ ap (λ t. x ∷ t) same
  where
    y : ℕ
    y = bit_and x (x - 1)

    positive : (0 < x) ⊎ (x ≤ 0) → 0 < x
    positive (inl l) = l
    positive (inr l) = let e : x ≡ 0 = omega arith in absurd (ne (subst (λ n. bit_and n 4095 ≡ 0) (sym e) refl))

    -- the lowest bit of x and that of x - 1 are never both one
    low : y % 2 ≡ 0
    low =
        let p = positive (cases_lt 0 x) in
        let e = sym (bit_at_lowest y) ∙ bit_at_and x (x - 1) 0 ∙ ap₂ min (bit_at_lowest x) (bit_at_lowest (x - 1)) in
        omega arith

    even : trunc 1 y ≡ y
    even = trunc_self 1 y (y / 2, omega (arith, low))

    same : clearing 11 y ≡ clearing 12 y
    same = subst (λ z. clearing 11 z ≡ clearing 12 z) even (chain 11 1 11 y refl (omega arith) ∙ sym (chain 11 1 12 y refl (omega arith)))

pub path_few : (b : ℕ) → length (path b) ≤ 13
path_few b = omega (arith, path_length b, ones-le 12 (b % 2 ^ 12) (mod-lt b (pow_pos 12)))

-- ---- the k-th key

pub key_past : (b k : ℕ) → 65536 ≤ b → 65536 ≡ key_on_path b k
unfolding key_on_path
key_past b k h = sym (cond-false (ltb b 65536) (get_or (path b) k 65536) 65536 (le-ltb b 65536 h))

-- r is what the path has at k
pub key_here : (b k : ℕ) (r : Option ℕ) → b < 65536 → option_map (λ x. x) r ≡ slice_get (path b) k → key_on_path b k ≡ unwrap_or r 65536
unfolding key_on_path
key_here b k r h e =
    cond-true (ltb b 65536) (get_or (path b) k 65536) 65536 (lt-ltb b 65536 h)
    ∙ sym (unwrap_or-slice_get (path b) k 65536) ∙ ap (λ o. unwrap_or o 65536) (sym e) ∙ same r
  where
    same : (r : Option ℕ) → unwrap_or (option_map (λ x. x) r) 65536 ≡ unwrap_or r 65536
    same None = refl
    same (Some x) = refl
