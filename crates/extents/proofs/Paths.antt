-- The path is the chain of truncations; its length; and the look-up along it.
use Rattle.std.proofs.Common.{◌≡◌, ℕ, zero, suc, ◌+◌, ◌-◌, ◌*◌, ◌/◌, ◌%◌, ◌^◌, ◌<◌, ◌≤◌, eqb, ◌⊎◌, [], ◌∷◌, length, sym, refl, ap, ◌∙◌, subst, inl, inr, div-one, add-one, arith, pow_pos, shr-shr}
use lib.Pow.{ones_lt, field, mod-mod-pow}
use lib.Bits.{bit_and, and_block, and_self, and_shifted}
use lib.Count.{ones, ones_step}
use Rattle.std.proofs.lemmas.Bool.{cases_eq, eq-eqb, ne_eqb, cond-true, cond-false}
use Rattle.extents.specs.Extents.{FileMap, KeyTable, KeysOf, Multiple, trunc, clearing, path, lookup}
use Rattle.extents.proofs.Grid.{finer, trunc_multiple, trunc_le, trunc_lt, trunc_self}
use Rattle.extents.proofs.Chain.{rest, rest_zero, rest_one, bit_zero, bit_one, trunc_trunc}
use Rattle.extents.proofs.Greed.{multiple_mod, mod_multiple}
use Rattle.extents.proofs.Reading.{look, look_first, reads}

-- to clear the lowest one bit
clear_sum : (q k : ℕ) → bit_and (q * 2 ^ suc k + 2 ^ k) (q * 2 ^ suc k + (2 ^ k - 1)) ≡ q * 2 ^ suc k
clear_sum q k =
    let z = pow_pos k in
    let low : bit_and (2 ^ k) (2 ^ k - 1) ≡ 0 = subst (λ n. bit_and n (2 ^ k - 1) ≡ 0) (omega arith) (and_shifted 1 k (2 ^ k - 1) (ones_lt k)) in
    and_block (suc k) q q (2 ^ k) (2 ^ k - 1) (omega arith) (omega arith)
    ∙ ap (λ n. n * 2 ^ suc k + bit_and (2 ^ k) (2 ^ k - 1)) (and_self q)
    ∙ ap (λ n. q * 2 ^ suc k + n) low
    ∙ omega arith

pub clear : (k b : ℕ) → (b / 2 ^ k % 2 ≡ 0 → ⊥) → bit_and (trunc k b) (trunc k b - 1) ≡ trunc (suc k) b
clear k b h =
    let u = trunc_multiple (suc k) b in
    let z = pow_pos k in
    let e : trunc k b ≡ u.0 * 2 ^ suc k + 2 ^ k = bit_one k b h ∙ ap (λ n. n + 2 ^ k) u.1 in
    let f : trunc k b - 1 ≡ u.0 * 2 ^ suc k + (2 ^ k - 1) = omega arith in
    ap (λ n. bit_and n (trunc k b - 1)) e ∙ ap (bit_and (u.0 * 2 ^ suc k + 2 ^ k)) f ∙ clear_sum u.0 k ∙ sym u.1

-- a truncation with its next bit set has one of the low 12 bits set
not_done : (k b : ℕ) → k < 12 → (b / 2 ^ k % 2 ≡ 0 → ⊥) → trunc k b % 2 ^ 12 ≡ 0 → ⊥
not_done k b l h e =
    let u : Multiple (2 ^ suc k) (trunc k b) = finer 12 (suc k) (trunc k b) l (mod_multiple 12 (trunc k b) e) in
    let x : trunc (suc k) (trunc k b) ≡ trunc k b = trunc_self (suc k) (trunc k b) u in
    let y : trunc (suc k) (trunc k b) ≡ trunc (suc k) b = trunc_trunc k (suc k) b (omega arith) in
    omega (arith, bit_one k b h, pow_pos k)

pub clearing_done : (f x : ℕ) → x % 2 ^ 12 ≡ 0 → clearing f x ≡ x ∷ []
unfolding clearing
clearing_done zero x e = refl
clearing_done (suc f) x e = ap (λ t. x ∷ t) (cond-true (eqb (x % 2 ^ 12) 0) [] (clearing f (bit_and x (x - 1))) (eq-eqb (x % 2 ^ 12) 0 e))

pub clearing_more : (f x : ℕ) → (x % 2 ^ 12 ≡ 0 → ⊥) → clearing (suc f) x ≡ x ∷ clearing f (bit_and x (x - 1))
unfolding clearing
clearing_more f x e = ap (λ t. x ∷ t) (cond-false (eqb (x % 2 ^ 12) 0) [] (clearing f (bit_and x (x - 1))) (ne_eqb (x % 2 ^ 12) 0 e))

rest_none : (k b : ℕ) → rest 0 k b ≡ []
unfolding rest
rest_none k b = refl

pub chain : (n k f b : ℕ) → n + k ≡ 12 → n ≤ f → clearing f (trunc k b) ≡ trunc k b ∷ rest n k b
chain zero k f b e h =
    let i : 12 ≡ k = omega arith in
    clearing_done f (trunc k b) (multiple_mod 12 (trunc k b) (subst (λ n. Multiple (2 ^ 12) (trunc n b)) i (trunc_multiple 12 b)))
    ∙ ap (λ t. trunc k b ∷ t) (sym (rest_none k b))
chain (suc n) k zero b e h = absurd (omega arith)
chain (suc n) k (suc f) b e h =
    bit (chain n (suc k) (suc f) b (omega arith) (omega arith)) (chain n (suc k) f b (omega arith) (omega arith)) (cases_eq (b / 2 ^ k % 2) 0)
  where
    bit : clearing (suc f) (trunc (suc k) b) ≡ trunc (suc k) b ∷ rest n (suc k) b → clearing f (trunc (suc k) b) ≡ trunc (suc k) b ∷ rest n (suc k) b
        → (b / 2 ^ k % 2 ≡ 0) ⊎ (b / 2 ^ k % 2 ≡ 0 → ⊥) → clearing (suc f) (trunc k b) ≡ trunc k b ∷ rest (suc n) k b
    bit x y (inl o) = let p = bit_zero k b o in let q = rest_zero n k b o in cc
    bit x y (inr o) =
        clearing_more f (trunc k b) (not_done k b (omega arith) o)
        ∙ ap (λ t. trunc k b ∷ t) (ap (clearing f) (clear k b o) ∙ y ∙ sym (rest_one n k b o))

trunc_zero : (b : ℕ) → trunc 0 b ≡ b
trunc_zero b = omega (arith, trunc_le 0 b, trunc_lt 0 b)

pub path_chain : (b : ℕ) → path b ≡ trunc 0 b ∷ rest 12 0 b
unfolding path
path_chain b = ap (clearing 12) (sym (trunc_zero b)) ∙ chain 12 0 12 b refl (omega arith)

-- ---- its length

ones_zero : ones 0 ≡ 0
unfolding ones
ones_zero = refl

-- the lowest of n + 1 bits from the bit k, and those above it
ones_next : (n k b : ℕ) → ones (b / 2 ^ k % 2 ^ suc n) ≡ b / 2 ^ k % 2 + ones (b / 2 ^ suc k % 2 ^ n)
ones_next n k b =
    let low : b / 2 ^ k % 2 ^ suc n % 2 ≡ b / 2 ^ k % 2 = subst (λ z. b / 2 ^ k % 2 ^ z % 2 ≡ b / 2 ^ k % 2) (add-one n) (mod-mod-pow (b / 2 ^ k) n 1) in
    let high : b / 2 ^ k % 2 ^ suc n / 2 ≡ b / 2 ^ k / 2 % 2 ^ n = subst (λ z. b / 2 ^ k % 2 ^ z / 2 ≡ b / 2 ^ k / 2 % 2 ^ n) (add-one n) (field (b / 2 ^ k) n 1) in
    let up : b / 2 ^ k / 2 ≡ b / 2 ^ suc k = shr-shr b k 1 ∙ ap (λ z. b / 2 ^ z) (add-one k) in
    ones_step (b / 2 ^ k % 2 ^ suc n) ∙ ap (λ z. z + ones (b / 2 ^ k % 2 ^ suc n / 2)) low
    ∙ ap (λ z. b / 2 ^ k % 2 + ones z) (high ∙ ap (λ z. z % 2 ^ n) up)

rest_length : (n k b : ℕ) → length (rest n k b) ≡ ones (b / 2 ^ k % 2 ^ n)
rest_length zero k b =
    let e : 0 ≡ b / 2 ^ k % 1 = omega arith in
    ap length (rest_none k b) ∙ sym ones_zero ∙ ap ones e
rest_length (suc n) k b = bit (rest_length n (suc k) b) (cases_eq (b / 2 ^ k % 2) 0)
  where
    bit : length (rest n (suc k) b) ≡ ones (b / 2 ^ suc k % 2 ^ n) → (b / 2 ^ k % 2 ≡ 0) ⊎ (b / 2 ^ k % 2 ≡ 0 → ⊥)
        → length (rest (suc n) k b) ≡ ones (b / 2 ^ k % 2 ^ suc n)
    bit x (inl o) = ap length (rest_zero n k b o) ∙ omega (arith, x, o, ones_next n k b)
    bit x (inr o) = ap length (rest_one n k b o) ∙ omega (arith, x, ones_next n k b)

pub path_length : (b : ℕ) → length (path b) ≡ 1 + ones (b % 2 ^ 12)
path_length b =
    let e : ones (b / 1 % 4096) ≡ ones (b % 4096) = ap (λ z. ones (z % 4096)) (div-one b) in
    ap length (path_chain b) ∙ ap suc (rest_length 12 0 b) ∙ omega arith

-- ---- the look-up along it

pub reads_back : (m : FileMap) (t : KeyTable) → KeysOf m t → (b : ℕ) → lookup t b ≡ m b
unfolding lookup
reads_back m t can b = look_first t b (path b) ∙ ap (look t b) (path_chain b) ∙ reads m t can b
