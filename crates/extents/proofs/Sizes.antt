-- The greedy exponent from trailing and leading zeros, and a table mended between two barriers.
use Rattle.std.proofs.Common.{◌≡◌, ℕ, zero, suc, ◌+◌, ◌-◌, ◌*◌, ◌/◌, ◌%◌, ◌^◌, ◌<◌, ◌≤◌, min, cond, eqb, ◌⊎◌, ◌↔◌, Some, sym, refl, ap, ◌∙◌, subst, inl, inr, pow-suc, arith, pow_mono}
use lib.Count.{count_trailing_zeros, count_leading_zeros, under, leading_top}
use Rattle.std.proofs.lemmas.Bool.{cases_lt, ne_eqb, cond-false}
use Rattle.std.proofs.lemmas.Nat.{one_shl}
use Rattle.extents.specs.Extents.{entry, Multiple, IsKey}
use Rattle.extents.specs.Runs.{Greedy, size_from, piece}
use Rattle.extents.specs.Laws.{Mended, SizeByZeros, size_by_zeros}
use Rattle.extents.proofs.Greed.{size_greedy, piece_pos, piece_fits, piece_small}
use Rattle.extents.proofs.Barriers.{keys_beyond}

-- a multiple of 2 ^ (k + 1) is even, and its half is one of 2 ^ k
halved : (k x : ℕ) → Multiple (2 ^ suc k) x → (x % 2 ≡ 0) × Multiple (2 ^ k) (x / 2)
halved k x u =
    let e : x ≡ 2 * (u.0 * 2 ^ k) = u.1 ∙ twice u.0 in
    (omega arith, (u.0, omega arith))
  where
    twice : (q : ℕ) → q * 2 ^ suc k ≡ 2 * (q * 2 ^ k)
    twice q = rw pow-suc (omega arith)

doubled : (k x : ℕ) → x % 2 ≡ 0 → Multiple (2 ^ k) (x / 2) → Multiple (2 ^ suc k) x
doubled k x e u =
    let f : x ≡ 2 * (u.0 * 2 ^ k) = let g = u.1 in omega arith in
    (u.0, f ∙ twice u.0)
  where
    twice : (q : ℕ) → 2 * (q * 2 ^ k) ≡ q * 2 ^ suc k
    twice q = rw pow-suc (omega arith)

-- the powers of two that divide x are those up to its trailing zeros
pub trailing_multiple : (w k x : ℕ) → k ≤ w → Multiple (2 ^ k) x ↔ k ≤ count_trailing_zeros w x
unfolding count_trailing_zeros
trailing_multiple w zero x h = ((λ _. omega arith), (λ _. (x, omega arith)))
trailing_multiple zero (suc k) x h = absurd (omega arith)
trailing_multiple (suc w) (suc k) x h = at (x % 2) refl (trailing_multiple w k (x / 2) (omega arith))
  where
    at : (d : ℕ) → x % 2 ≡ d → Multiple (2 ^ k) (x / 2) ↔ k ≤ count_trailing_zeros w (x / 2)
        → Multiple (2 ^ suc k) x ↔ suc k ≤ under d (count_trailing_zeros w (x / 2))
    at zero e ih = ((λ u. let l = ih.0 (halved k x u).1 in omega arith), (λ l. doubled k x e (ih.1 (omega arith))))
    at (suc d) e ih = ((λ u. let z = (halved k x u).0 in absurd (omega arith)), (λ l. absurd (omega arith)))

pub greedy_one : (x r k j : ℕ) → Greedy x r k → Greedy x r j → k ≡ j
greedy_one x r k j g h =
    let a = g.largest j h.aligned h.fits in
    let b = h.largest k g.aligned g.fits in
    omega arith

pub size_by_zeros_greedy : SizeByZeros
size_by_zeros_greedy x r h l = greedy (leading_top 32 (r - x) (omega arith) (omega arith))
  where
    z : ℕ
    z = count_trailing_zeros 32 x

    greedy : (j : ℕ) × (count_leading_zeros 32 (r - x) + suc j ≡ 32) × (2 ^ j ≤ r - x) × (r - x < 2 ^ suc j) → Greedy x r (size_by_zeros x (r - x))
    greedy (j, e, f, g) =
        let is : 31 - count_leading_zeros 32 (r - x) ≡ j = omega arith in
        let m : size_by_zeros x (r - x) ≤ j = omega arith in
        record {
          aligned = record { small = omega arith; multiple = (trailing_multiple 32 (size_by_zeros x (r - x)) x (omega arith)).1 (omega arith) };
          fits = let p : 2 ^ size_by_zeros x (r - x) ≤ 2 ^ j = pow_mono m in omega arith;
          largest = λ i u v.
              let s = u.small in
              let a : i ≤ count_trailing_zeros 32 x = (trailing_multiple 32 i x (omega arith)).0 u.multiple in
              let b : i ≤ j = below i j (omega arith) g (cases_lt j i) in
              omega arith;
        }
      where
        below : (i j : ℕ) → 2 ^ i ≤ r - x → r - x < 2 ^ suc j → (j < i) ⊎ (i ≤ j) → i ≤ j
        below i j s g (inl o) = let p : 2 ^ suc j ≤ 2 ^ i = pow_mono o in absurd (omega arith)
        below i j s g (inr o) = o

-- what the code computes from zeros is the length of the walk's next extent
pub piece_by_zeros : (x left k : ℕ) → (left ≡ 0 → ⊥) → left < 2 ^ 32
    → k ≡ min (min (count_trailing_zeros 32 x) (31 - count_leading_zeros 32 left)) 12 → (1 * 2 ^ k) % 2 ^ 32 ≡ cond (eqb left 0) 0 (piece x (x + left))
unfolding piece
piece_by_zeros x left k ne small e =
    let whole : (x + left) - x ≡ left = omega arith in
    let g : Greedy x (x + left) (size_by_zeros x left) =
    subst (λ n. Greedy x (x + left) (size_by_zeros x n)) whole (size_by_zeros_greedy x (x + left) (omega arith) (omega arith)) in
    let f : k ≡ size_by_zeros x left = omega arith in
    let s : size_by_zeros x left ≡ size_from 12 x (x + left) = greedy_one x (x + left) (size_by_zeros x left) (size_from 12 x (x + left)) g (size_greedy x (x + left) (omega arith)) in
    let h : k < 32 = omega arith in
    one_shl k 32 h ∙ ap (λ n. 2 ^ n) (f ∙ s) ∙ sym (cond-false (eqb left 0) 0 (2 ^ size_from 12 x (x + left)) (ne_eqb left 0 ne))

-- the same where what is left is told by the end, with what the walk needs of it
pub next_piece : (x r n : ℕ) → x < r → n ≡ cond (eqb (r - x) 0) 0 (piece x (x + (r - x)))
    → (n ≡ piece x r) × (0 < n) × (x + n ≤ r) × (n ≤ 4096)
next_piece x r n l e = (is, omega (arith, is, piece_pos x r), omega (arith, is, piece_fits x r l), omega (arith, is, piece_small x r l))
  where
    is : n ≡ piece x r
    is =
        let whole : x + (r - x) ≡ r = omega arith in
        let ne : r - x ≡ 0 → ⊥ = λ z. omega arith in
        e ∙ cond-false (eqb (r - x) 0) 0 (piece x (x + (r - x))) (ne_eqb (r - x) 0 ne) ∙ ap (piece x) whole

pub mended : Mended
mended m n l r same ml mr nl nr t u can out ins a s p = at (cases_lt a l) (cases_lt a r)
  where
    beyond : (a < l) ⊎ (r ≤ a) → (u a ≡ Some (entry s p)) ↔ IsKey n a s p
    beyond o =
        let k = keys_beyond m n l r same ml mr nl nr a s p o in
        ((λ e. k.0 ((can a s p).0 (sym (out a o) ∙ e))), (λ key. out a o ∙ (can a s p).1 (k.1 key)))

    at : (a < l) ⊎ (l ≤ a) → (a < r) ⊎ (r ≤ a) → (u a ≡ Some (entry s p)) ↔ IsKey n a s p
    at (inl x) y = beyond (inl x)
    at (inr x) (inl y) = ins a s p x y
    at (inr x) (inr y) = beyond (inr y)
