-- The key that `key_at` computes, and that a canonical table has no choice.
use Rattle.std.proofs.Common.{◌≡◌, ℕ, zero, suc, ◌+◌, ◌-◌, ◌^◌, ◌<◌, ◌≤◌, Bool, true, false, eqb, ◌⊎◌, Some, None, Option, sym, refl, ap, ◌∙◌, subst, inl, inr, arith, pow_pos}
use mathlib.Core.Path.{fun_ext}
use Rattle.std.proofs.lemmas.Bool.{eqb-true, eqb-false}
use Rattle.blocks.specs.declared.Entry.{Entry}
use Rattle.extents.specs.Extents.{FileMap, KeyTable, entry, Straight, IsKey, KeysOf, trunc, rises, widen, if_mapped, key_from, key_at}
use Rattle.extents.proofs.Grid.{nested, trunc_multiple, trunc_le, trunc_lt}
use Rattle.extents.proofs.Straights.{some-none, known, at_block, key_same, meets, rises_sound, is_key}

-- what an answer for the start a has to say
abbrev Right : FileMap → ℕ → Option Entry → Type 0
Right m a None = (s p : ℕ) → IsKey m a s p → ⊥
Right m a (Some e) = IsKey m a e.length e.board

-- no key starts inside a straight extent
pub inner : (m : FileMap) (j c q a s p : ℕ) → Straight m j c q → c < a → a < c + 2 ^ j → IsKey m a s p → ⊥
inner m j c q a s p h ca ac key =
    let e : s ≡ 2 ^ key.k = key.size in
    let l : j ≤ key.k = meets m a s p j c q a key h (omega arith) (omega (arith, pow_pos key.k)) (omega arith) ac in
    let n = nested j c key.k a a l h.aligned.multiple key.straight.aligned.multiple (omega arith) ac (omega arith) (omega (arith, pow_pos key.k)) in
    omega arith

widen_right : (m : FileMap) (a : ℕ) (o : Option ℕ) (t : Bool) (here : Option Entry) (more : Unit {0} → Option Entry)
    → (o ≡ None → Right m a here) → ((q : ℕ) → o ≡ Some q → t ≡ true → Right m a (more tt)) → ((q : ℕ) → o ≡ Some q → t ≡ false → Right m a None)
    → Right m a (widen o t here more)
widen_right m a None t here more x y z = x refl
widen_right m a (Some q) true here more x y z = y q refl refl
widen_right m a (Some q) false here more x y z = z q refl refl

from_right : (m : FileMap) (a n k p : ℕ) → n + k ≡ 12 → Straight m k a p → Right m a (key_from m a n k p)
unfolding key_from
from_right m a zero k p e h = is_key m k a p h (λ l. absurd (omega arith))
from_right m a (suc n) k p e h =
    let c : ℕ = trunc (suc k) a in
    let there : (q : ℕ) → rises m (suc k) (trunc (suc k) a) ≡ Some q → Straight m (suc k) (trunc (suc k) a) q = λ q some. record
    { aligned = record { small = omega arith; multiple = trunc_multiple (suc k) a }; runs = rises_sound m (suc k) (trunc (suc k) a) q some } in
    widen_right m a (rises m (suc k) (trunc (suc k) a)) (eqb (trunc (suc k) a) a) (Some (entry (2 ^ k) p)) (λ _. key_from m a n (suc k) p)
    (λ none. is_key m k a p h (λ _. none))
    (λ q some t. from_right m a n (suc k) p (omega arith) (moved m k a p q h (there q some) (eqb-true (trunc (suc k) a) a t)))
    (λ q some f s v key. inner m (suc k) (trunc (suc k) a) q a s v (there q some)
    (apart (eqb-false (trunc (suc k) a) a f)) (trunc_lt (suc k) a) key)
  where
    apart : (trunc (suc k) a ≡ a → ⊥) → trunc (suc k) a < a
    apart ne = let l = trunc_le (suc k) a in omega arith

    moved : (m : FileMap) (k a p q : ℕ) → Straight m k a p → Straight m (suc k) (trunc (suc k) a) q → trunc (suc k) a ≡ a → Straight m (suc k) a p
    moved m k a p q h g i =
        let u = at_block m k a p a h (omega arith) (omega (arith, pow_pos k)) in
        let v = at_block m (suc k) (trunc (suc k) a) q a g (omega arith) (trunc_lt (suc k) a) in
        let w : p + (a - a) ≡ q + (a - trunc (suc k) a) = cc in
        let z : q ≡ p = omega arith in
        subst (λ n. Straight m (suc k) a n) z (subst (λ n. Straight m (suc k) n q) i g)

right : (m : FileMap) (a : ℕ) → Right m a (key_at m a)
unfolding key_at
right m a = at (m a) refl
  where
    at : (o : Option ℕ) → m a ≡ o → Right m a (if_mapped o (key_from m a 12 0))
    at None e = λ s p key.
        some-none (m a) _ (at_block m key.k a p a key.straight (omega arith) (omega (arith, pow_pos key.k))) e
    at (Some p) e = from_right m a 12 0 p refl (record {
      aligned = record { small = omega arith; multiple = (a, omega arith) };
      runs = λ i l.
          let z : a + i ≡ a = omega arith in
          let w : p ≡ p + i = omega arith in
          ap m z ∙ e ∙ ap Some w;
    })

pub key_at_keys : (m : FileMap) → KeysOf m (key_at m)
key_at_keys m a s p = (λ e. subst (Right m a) e (right m a), at (key_at m a) (right m a))
  where
    at : (o : Option Entry) → Right m a o → IsKey m a s p → o ≡ Some (entry s p)
    at None r key = absurd (r s p key)
    at (Some e) r key =
        let x : 0 < e.length = omega (arith, r.size, pow_pos r.k) in
        let y : 0 < s = omega (arith, key.size, pow_pos key.k) in
        let same = key_same m a e.length e.board a s p a r key (omega arith) (omega arith) (omega arith) (omega arith) in
        λ i. Some (entry (same.1 i) (same.2 i))

pub only : (m : FileMap) (t : KeyTable) → KeysOf m t → t ≡ key_at m
only m t can = fun_ext (λ a. at a (known (t a)) (known (key_at m a)))
  where
    at : (a : ℕ) → (t a ≡ None) ⊎ ((e : Entry) × (t a ≡ Some e)) → (key_at m a ≡ None) ⊎ ((e : Entry) × (key_at m a ≡ Some e)) → t a ≡ key_at m a
    at a (inl x) (inl y) = x ∙ sym y
    at a (inr (e, x)) y = x ∙ sym ((key_at_keys m a e.length e.board).1 ((can a e.length e.board).0 x))
    at a (inl x) (inr (e, y)) = (can a e.length e.board).1 ((key_at_keys m a e.length e.board).0 y) ∙ sym y
