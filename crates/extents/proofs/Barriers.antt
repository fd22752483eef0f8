-- What is a barrier, and that keys beyond two barriers do not see what changes between them.
use Rattle.std.proofs.Common.{◌≡◌, ℕ, ◌+◌, ◌-◌, ◌^◌, ◌<◌, ◌≤◌, ◌⊎◌, ◌↔◌, Some, None, sym, ap, ◌∙◌, inl, inr, arith, pow_pos}
use Rattle.std.proofs.lemmas.Bool.{cases_lt}
use Rattle.extents.specs.Extents.{FileMap, Multiple, Straight, IsKey, Barrier, Outside, Agree}
use Rattle.extents.proofs.Grid.{gap, finer, sum, itself}
use Rattle.extents.proofs.Straights.{some-none, at_block, meets}
use Rattle.extents.proofs.Found.{inner}

-- a multiple of 4096
pub barrier_multiple : (m : FileMap) (x : ℕ) → Multiple (2 ^ 12) x → Barrier m x
barrier_multiple m x u k a p h l r =
    let z : a + 2 ^ k ≤ x = gap (2 ^ k) a x h.aligned.multiple (finer 12 k x h.aligned.small u) l in omega arith

pub barrier_start : (m : FileMap) (a s p : ℕ) → IsKey m a s p → Barrier m a
barrier_start m a s p key k c q h l r = inner m k c q a s p h l r key

pub barrier_end : (m : FileMap) (a s p : ℕ) → IsKey m a s p → Barrier m (a + s)
barrier_end m a s p key k c q h l r =
    let e : s ≡ 2 ^ key.k = key.size in
    let z = pow_pos key.k in
    let b : ℕ = (a + s) - 1 in
    let o : k ≤ key.k = meets m a s p k c q b key h (omega arith) (omega arith) (omega arith) (omega arith) in
    let u : Multiple (2 ^ k) (a + s) = rw e (sum (2 ^ k) a (2 ^ key.k) (finer key.k k a o key.straight.aligned.multiple) (itself key.k k o)) in
    let g : c + 2 ^ k ≤ a + s = gap (2 ^ k) c (a + s) h.aligned.multiple u l in
    omega arith

-- x where x or x - 1 is a hole
pub barrier_hole : (m : FileMap) (x : ℕ) → m x ≡ None → Barrier m x
barrier_hole m x e k a p h l r = some-none (m x) _ (at_block m k a p x h (omega arith) r) e

pub barrier_after : (m : FileMap) (x : ℕ) → m x ≡ None → Barrier m (x + 1)
barrier_after m x e k a p h l r = some-none (m x) _ (at_block m k a p x h (omega arith) (omega arith)) e

-- x + 1 where the number of x + 1 is not the next after that of x
pub barrier_break : (m : FileMap) (x v : ℕ) → m x ≡ Some v → (m (x + 1) ≡ Some (v + 1) → ⊥) → Barrier m (x + 1)
barrier_break m x v e ne k a p h l r =
    let u = at_block m k a p x h (omega arith) (omega arith) in
    let w : v ≡ p + (x - a) = cc in
    let f : p + ((x + 1) - a) ≡ v + 1 = omega arith in
    ne (at_block m k a p (x + 1) h (omega arith) r ∙ ap Some f)

-- ---- beyond two barriers

carried : (m n : FileMap) (l r k a p : ℕ) → Agree m n l r → Barrier m l → Barrier m r → Outside l r a → Straight m k a p → Straight n k a p
carried m n l r k a p same ml mr (inl o) h = record {
  aligned = h.aligned;
  runs = λ i b.
      let z : a + 2 ^ k ≤ l = (at (cases_lt l (a + 2 ^ k))) in
      sym (same (a + i) (inl (omega arith))) ∙ h.runs i b;
}
  where
    at : (l < a + 2 ^ k) ⊎ (a + 2 ^ k ≤ l) → a + 2 ^ k ≤ l
    at (inl c) = absurd (ml k a p h o c)
    at (inr c) = c
carried m n l r k a p same ml mr (inr o) h = record {
  aligned = h.aligned;
  runs = λ i b. sym (same (a + i) (inr (omega arith))) ∙ h.runs i b;
}

-- a straight extent around a block outside starts outside
starts_outside : (m : FileMap) (l r k c q a : ℕ) → Barrier m r → Outside l r a → Straight m k c q → c ≤ a → a < c + 2 ^ k → Outside l r c
starts_outside m l r k c q a mr (inl o) h ca ac = inl (omega arith)
starts_outside m l r k c q a mr (inr o) h ca ac = at (cases_lt c r)
  where
    at : (c < r) ⊎ (r ≤ c) → Outside l r c
    at (inl x) = absurd (mr k c q h x (omega arith))
    at (inr x) = inr x

pub beyond : (m n : FileMap) (l r : ℕ) → Agree m n l r → Barrier m l → Barrier m r → Barrier n l → Barrier n r
    → (a s p : ℕ) → Outside l r a → IsKey m a s p → IsKey n a s p
beyond m n l r same ml mr nl nr a s p o key = record {
  k = key.k;
  size = key.size;
  straight = carried m n l r key.k a p same ml mr o key.straight;
  longest = λ j c q h kj ca ac.
      let w = starts_outside n l r j c q a nr o h ca (omega (arith, pow_pos key.k)) in
      key.longest j c q (carried n m l r j c q (λ x y. sym (same x y)) nl nr w h) kj ca ac;
}

pub keys_beyond : (m n : FileMap) (l r : ℕ) → Agree m n l r → Barrier m l → Barrier m r → Barrier n l → Barrier n r
    → (a s p : ℕ) → Outside l r a → IsKey m a s p ↔ IsKey n a s p
keys_beyond m n l r same ml mr nl nr a s p o =
    (beyond m n l r same ml mr nl nr a s p o, beyond n m l r (λ x y. sym (same x y)) nl nr ml mr a s p o)
