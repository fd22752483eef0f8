-- Multiples of powers of two, and the truncations of a number.
use Rattle.std.proofs.Common.{◌≡◌, ℕ, ◌+◌, ◌-◌, ◌*◌, ◌/◌, ◌^◌, ◌<◌, ◌≤◌, ◌⊎◌, sym, refl, ap, ◌∙◌, inl, inr, mul-le-mul_right, mod-lt, mul_assoc, lt_of_mul-lt-mul_right, arith, pow_pos, pow-add}
use lib.Pow.{split}
use Rattle.std.proofs.lemmas.Bool.{cases_lt}
use Rattle.extents.specs.Extents.{Multiple, trunc}

-- two multiples of d, one below the other, are d apart
pub gap : (d x y : ℕ) → Multiple d x → Multiple d y → x < y → x + d ≤ y
gap d x y u w h =
    let e : u.0 * d < w.0 * d = omega arith in
    let l : u.0 < w.0 = lt_of_mul-lt-mul_right d e in
    omega (arith, mul-le-mul_right d l)

-- a multiple of 2 ^ j is one of 2 ^ k
pub finer : (j k x : ℕ) → k ≤ j → Multiple (2 ^ j) x → Multiple (2 ^ k) x
finer j k x h u = (u.0 * 2 ^ (j - k), u.1 ∙ cc (split_at, mul_assoc u.0 (2 ^ (j - k)) (2 ^ k)))
  where
    split_at : 2 ^ j ≡ 2 ^ (j - k) * 2 ^ k
    split_at = let e : j ≡ (j - k) + k = omega arith in ap (λ n. 2 ^ n) e ∙ pow-add 2 (j - k) k

pub sum : (d x y : ℕ) → Multiple d x → Multiple d y → Multiple d (x + y)
sum d x y u w = (u.0 + w.0, omega arith)

pub itself : (j k : ℕ) → k ≤ j → Multiple (2 ^ k) (2 ^ j)
itself j k h = finer j k (2 ^ j) h (1, omega arith)

-- Two aligned extentes that share a block: the shorter lies in the longer.
pub nested : (k a j c b : ℕ) → k ≤ j → Multiple (2 ^ k) a → Multiple (2 ^ j) c
    → a ≤ b → b < a + 2 ^ k → c ≤ b → b < c + 2 ^ j → (c ≤ a) × (a + 2 ^ k ≤ c + 2 ^ j)
nested k a j c b h u w ab ba cb bc = (lower, upper)
  where
    w' : Multiple (2 ^ k) c
    w' = finer j k c h w

    e' : Multiple (2 ^ k) (c + 2 ^ j)
    e' = sum (2 ^ k) c (2 ^ j) w' (itself j k h)

    upper : a + 2 ^ k ≤ c + 2 ^ j
    upper = gap (2 ^ k) a (c + 2 ^ j) u e' (omega arith)

    at : (a < c) ⊎ (c ≤ a) → c ≤ a
    at (inl l) = let z : a + 2 ^ k ≤ c = gap (2 ^ k) a c u w' l in omega arith
    at (inr l) = l

    lower : c ≤ a
    lower = at (cases_lt a c)

-- ---- truncations

pub trunc_multiple : (k b : ℕ) → Multiple (2 ^ k) (trunc k b)
unfolding trunc
trunc_multiple k b = (b / 2 ^ k, refl)

pub trunc_le : (k b : ℕ) → trunc k b ≤ b
unfolding trunc
trunc_le k b = omega (arith, split b k)

pub trunc_lt : (k b : ℕ) → b < trunc k b + 2 ^ k
unfolding trunc
trunc_lt k b = omega (arith, split b k, mod-lt b (pow_pos k))

-- the aligned extent that holds b starts at b's truncation
pub trunc_only : (k a b : ℕ) → Multiple (2 ^ k) a → a ≤ b → b < a + 2 ^ k → a ≡ trunc k b
trunc_only k a b u ab ba =
    let x = nested k a k (trunc k b) b (omega arith) u (trunc_multiple k b) ab ba (trunc_le k b) (trunc_lt k b) in
    omega arith

pub trunc_self : (k a : ℕ) → Multiple (2 ^ k) a → trunc k a ≡ a
trunc_self k a u = sym (trunc_only k a a u (omega arith) (omega (arith, pow_pos k)))
