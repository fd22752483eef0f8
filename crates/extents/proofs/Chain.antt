-- The truncations of a block, lowest first and each once: what the path is.
use Rattle.std.proofs.Common.{◌≡◌, ℕ, zero, suc, ◌+◌, ◌*◌, ◌/◌, ◌%◌, ◌^◌, ◌≤◌, Bool, true, false, cond, eqb, List, [], ◌∷◌, sym, refl, ap, ◌∙◌, pow-suc, arith}
use Rattle.extents.specs.Extents.{trunc}
use Rattle.extents.proofs.Grid.{nested, trunc_multiple, trunc_le, trunc_lt, trunc_only}

-- the truncations past the bit k, one for each one bit among the next n
unfoldable pub rest : ℕ → ℕ → ℕ → List ℕ
rest zero k b = []
rest (suc n) k b = cond (eqb (b / 2 ^ k % 2) 0) (rest n (suc k) b) (trunc (suc k) b ∷ rest n (suc k) b)

pub trunc_order : (k j b : ℕ) → k ≤ j → trunc j b ≤ trunc k b
trunc_order k j b h =
    (nested k (trunc k b) j (trunc j b) b h (trunc_multiple k b) (trunc_multiple j b) (trunc_le k b) (trunc_lt k b) (trunc_le j b) (trunc_lt j b)).0

pub trunc_trunc : (k j b : ℕ) → k ≤ j → trunc j (trunc k b) ≡ trunc j b
trunc_trunc k j b h =
    sym (trunc_only j (trunc j b) (trunc k b) (trunc_multiple j b) (trunc_order k j b h) (omega (arith, trunc_le k b, trunc_lt j b)))

half_even : (k b : ℕ) → b / 2 ^ k % 2 ≡ 0 → trunc k b ≡ b / 2 ^ k / 2 * 2 ^ suc k
unfolding trunc
half_even k b h =
    let e : b / 2 ^ k ≡ 2 * (b / 2 ^ k / 2) = omega arith in
    ap (λ n. n * 2 ^ k) e ∙ twice (b / 2 ^ k / 2)
  where
    twice : (q : ℕ) → 2 * q * 2 ^ k ≡ q * 2 ^ suc k
    twice q = rw pow-suc (omega arith)

half_odd : (k b : ℕ) → (b / 2 ^ k % 2 ≡ 0 → ⊥) → trunc k b ≡ b / 2 ^ k / 2 * 2 ^ suc k + 2 ^ k
unfolding trunc
half_odd k b h =
    let e : b / 2 ^ k ≡ 2 * (b / 2 ^ k / 2) + 1 = omega arith in
    ap (λ n. n * 2 ^ k) e ∙ twice (b / 2 ^ k / 2)
  where
    twice : (q : ℕ) → (2 * q + 1) * 2 ^ k ≡ q * 2 ^ suc k + 2 ^ k
    twice q = rw pow-suc (omega arith)

pub bit_zero : (k b : ℕ) → b / 2 ^ k % 2 ≡ 0 → trunc (suc k) b ≡ trunc k b
bit_zero k b h = sym (trunc_only (suc k) (trunc k b) b (b / 2 ^ k / 2, half_even k b h) (trunc_le k b) (omega (arith, trunc_lt k b)))

pub bit_one : (k b : ℕ) → (b / 2 ^ k % 2 ≡ 0 → ⊥) → trunc k b ≡ trunc (suc k) b + 2 ^ k
bit_one k b h =
    let low : ℕ = b / 2 ^ k / 2 * 2 ^ suc k in
    let odd : trunc k b ≡ low + 2 ^ k = half_odd k b h in
    odd ∙ ap (λ n. n + 2 ^ k) (trunc_only (suc k) low b (b / 2 ^ k / 2, refl) (omega (arith, odd, trunc_le k b)) (omega (arith, odd, trunc_lt k b)))

abbrev pub Below : ℕ → List ℕ → Type 0
Below b [] = Unit
Below b (x ∷ xs) = (x ≤ b) × Below b xs

pub rest_below : (n k b : ℕ) → Below b (rest n k b)
unfolding rest
rest_below zero k b = tt
rest_below (suc n) k b = at (eqb (b / 2 ^ k % 2) 0) (rest_below n (suc k) b)
  where
    at : (t : Bool) → Below b (rest n (suc k) b) → Below b (cond t (rest n (suc k) b) (trunc (suc k) b ∷ rest n (suc k) b))
    at true r = r
    at false r = (trunc_le (suc k) b, r)

pub rest_zero : (n k b : ℕ) → b / 2 ^ k % 2 ≡ 0 → rest (suc n) k b ≡ rest n (suc k) b
unfolding rest
rest_zero n k b h = rw h

pub rest_one : (n k b : ℕ) → (b / 2 ^ k % 2 ≡ 0 → ⊥) → rest (suc n) k b ≡ trunc (suc k) b ∷ rest n (suc k) b
unfolding rest
rest_one n k b h = let e : b / 2 ^ k % 2 ≡ 1 = omega arith in rw e
