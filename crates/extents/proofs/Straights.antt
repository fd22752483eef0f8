-- Straight extents and keys: parts, meetings, and the run that decides them.
use Rattle.std.proofs.Common.{◌≡◌, ℕ, zero, suc, ◌+◌, ◌-◌, ◌^◌, ◌<◌, ◌≤◌, true, false, cond, eqb, ◌⊎◌, Some, None, Option, sym, refl, ap, ◌∙◌, subst, inl, inr, arith, pow_pos}
use Rattle.std.proofs.lemmas.Bool.{cases_lt, cases_Bool, eqb-true, eq-eqb, cond-true, cond-false}
use Rattle.std.proofs.lemmas.Option.{none-some}
use Rattle.extents.specs.Extents.{FileMap, Multiple, Straight, IsKey, trunc, rises, join}
use Rattle.extents.proofs.Grid.{nested, trunc_multiple, trunc_le, trunc_lt, trunc_only}

pub some-none {ℓ} : {X : Type 0} {Y : Type ℓ} (o : Option X) (x : X) → o ≡ Some x → o ≡ None → Y
some-none o x p q = absurd (none-some x (sym q ∙ p))

pub known : {X : Type 0} (o : Option X) → (o ≡ None) ⊎ ((x : X) × (o ≡ Some x))
known None = inl refl
known (Some x) = inr (x, refl)

-- the number of a block of a straight extent
pub at_block : (m : FileMap) (k a p b : ℕ) → Straight m k a p → a ≤ b → b < a + 2 ^ k → m b ≡ Some (p + (b - a))
at_block m k a p b h ab ba =
    let e : b ≡ a + (b - a) = omega arith in
    ap m e ∙ h.runs (b - a) (omega arith)

-- an aligned part of a straight extent is straight
pub within : (m : FileMap) (j c q k a : ℕ) → Straight m j c q → k ≤ j → Multiple (2 ^ k) a → c ≤ a → a + 2 ^ k ≤ c + 2 ^ j
    → Straight m k a (q + (a - c))
within m j c q k a h kj u ca ac = record {
  aligned = record { small = let z : j ≤ 12 = h.aligned.small in omega arith; multiple = u };
  runs = λ i l.
      let e : a + i ≡ c + ((a - c) + i) = omega arith in
      let r : (a - c) + i < 2 ^ j = omega arith in
      let f : q + ((a - c) + i) ≡ (q + (a - c)) + i = omega arith in
      ap m e ∙ h.runs ((a - c) + i) r ∙ ap Some f;
}

-- the part of exponent k around the block b
pub around : (m : FileMap) (j c q k b : ℕ) → Straight m j c q → k ≤ j → c ≤ b → b < c + 2 ^ j → Straight m k (trunc k b) (q + (trunc k b - c))
around m j c q k b h kj cb bc =
    let n = nested k (trunc k b) j c b kj (trunc_multiple k b) h.aligned.multiple (trunc_le k b) (trunc_lt k b) cb bc in
    within m j c q k (trunc k b) h kj (trunc_multiple k b) n.0 n.1

-- no straight extent that meets a key is longer
pub meets : (m : FileMap) (a s p j c q b : ℕ) (key : IsKey m a s p) → Straight m j c q → a ≤ b → b < a + s → c ≤ b → b < c + 2 ^ j → j ≤ key.k
meets m a s p j c q b key h ab ba cb bc = at (cases_lt key.k j)
  where
    at : (key.k < j) ⊎ (j ≤ key.k) → j ≤ key.k
    at (inl l) =
        let e : s ≡ 2 ^ key.k = key.size in
        let n = nested key.k a j c b (omega arith) key.straight.aligned.multiple h.aligned.multiple ab (omega arith) cb bc in
        absurd (key.longest j c q h l n.0 n.1)
    at (inr l) = l

-- two keys that share a block are one
pub key_same : (m : FileMap) (a s p c r q b : ℕ) → IsKey m a s p → IsKey m c r q → a ≤ b → b < a + s → c ≤ b → b < c + r
    → (a ≡ c) × (s ≡ r) × (p ≡ q)
key_same m a s p c r q b x y ab ba cb bc = (starts, sizes, first)
  where
    es : s ≡ 2 ^ x.k
    es = x.size

    er : r ≡ 2 ^ y.k
    er = y.size

    l : y.k ≤ x.k
    l = meets m a s p y.k c q b x y.straight ab ba cb (omega (arith, er))

    g : x.k ≤ y.k
    g = meets m c r q x.k a p b y x.straight cb bc ab (omega (arith, es))

    e : x.k ≡ y.k
    e = omega (arith, l, g)

    sizes : s ≡ r
    sizes = es ∙ ap (λ n. 2 ^ n) e ∙ sym er

    starts : a ≡ c
    starts =
        let u : Multiple (2 ^ y.k) a = subst (λ n. Multiple (2 ^ n) a) e x.straight.aligned.multiple in
        trunc_only y.k a b u ab (omega (arith, sizes, er))
        ∙ sym (trunc_only y.k c b y.straight.aligned.multiple cb (omega (arith, er)))

    first : p ≡ q
    first =
        let u = at_block m x.k a p b x.straight ab (omega (arith, es)) in
        let v = at_block m y.k c q b y.straight cb (omega (arith, er)) in
        let w : p + (b - a) ≡ q + (b - c) = cc in
        omega (arith, starts)

-- ---- what decides straightness

join_some : (d p : ℕ) (x y : Option ℕ) → join d x y ≡ Some p → (x ≡ Some p) × (y ≡ Some (p + d))
join_some d p None y e = some-none None p e refl
join_some d p (Some v) None e = some-none None p e refl
join_some d p (Some v) (Some w) e = at (cases_Bool (eqb w (v + d)))
  where
    at : ((eqb w (v + d)) ≡ true) ⊎ ((eqb w (v + d)) ≡ false) → (Some v ≡ Some p) × (Some w ≡ Some (p + d))
    at (inl t) =
        let i : w ≡ v + d = eqb-true w (v + d) t in
        let z : Some v ≡ Some p = sym (cond-true (eqb w (v + d)) (Some v) None t) ∙ e in
        let z' : v ≡ p = cc in
        (z, ap Some (i ∙ ap (λ n. n + d) z'))
    at (inr f) = some-none (cond (eqb w (v + d)) (Some v) None) p e (cond-false (eqb w (v + d)) (Some v) None f)

pub rises_sound : (m : FileMap) (k a p : ℕ) → rises m k a ≡ Some p → (i : ℕ) → i < 2 ^ k → m (a + i) ≡ Some (p + i)
unfolding rises
rises_sound m zero a p e i h =
    let z : a + i ≡ a = omega arith in
    let w : p ≡ p + i = omega arith in
    ap m z ∙ e ∙ ap Some w
rises_sound m (suc k) a p e i h =
    let parts = join_some (2 ^ k) p (rises m k a) (rises m k (a + 2 ^ k)) e in
    at (rises_sound m k a p parts.0) (rises_sound m k (a + 2 ^ k) (p + 2 ^ k) parts.1) (cases_lt i (2 ^ k))
  where
    at : ((n : ℕ) → n < 2 ^ k → m (a + n) ≡ Some (p + n)) → ((n : ℕ) → n < 2 ^ k → m ((a + 2 ^ k) + n) ≡ Some ((p + 2 ^ k) + n))
        → (i < 2 ^ k) ⊎ (2 ^ k ≤ i) → m (a + i) ≡ Some (p + i)
    at f g (inl l) = f i l
    at f g (inr l) =
        let z : a + i ≡ (a + 2 ^ k) + (i - 2 ^ k) = omega arith in
        let w : (p + 2 ^ k) + (i - 2 ^ k) ≡ p + i = omega arith in
        let b : i - 2 ^ k < 2 ^ k = omega arith in
        ap m z ∙ g (i - 2 ^ k) b ∙ ap Some w

pub rises_complete : (m : FileMap) (k a p : ℕ) → ((i : ℕ) → i < 2 ^ k → m (a + i) ≡ Some (p + i)) → rises m k a ≡ Some p
unfolding rises
rises_complete m zero a p f =
    let z : a ≡ a + 0 = omega arith in
    let w : p + 0 ≡ p = omega arith in
    ap m z ∙ f 0 (omega arith) ∙ ap Some w
rises_complete m (suc k) a p f =
    let left : rises m k a ≡ Some p = rises_complete m k a p (λ i l. f i (omega arith)) in
    let right : rises m k (a + 2 ^ k) ≡ Some (p + 2 ^ k) = rises_complete m k (a + 2 ^ k) (p + 2 ^ k) (λ i l.
    let z : (a + 2 ^ k) + i ≡ a + (2 ^ k + i) = omega arith in
    let w : p + (2 ^ k + i) ≡ (p + 2 ^ k) + i = omega arith in
    ap m z ∙ f (2 ^ k + i) (omega arith) ∙ ap Some w) in
    rw left (rw right (cond-true (eqb (p + 2 ^ k) (p + 2 ^ k)) (Some p) None (eq-eqb (p + 2 ^ k) (p + 2 ^ k) refl)))

-- a straight extent is a key unless the extent of twice its length around it is straight
pub is_key : (m : FileMap) (k a p : ℕ) → Straight m k a p → (k < 12 → rises m (suc k) (trunc (suc k) a) ≡ None) → IsKey m a (2 ^ k) p
is_key m k a p h up = record {
  k = k;
  size = refl;
  straight = h;
  longest = λ j c q g kj ca ac.
      let l : k < 12 = let z : j ≤ 12 = g.aligned.small in omega arith in
      let s = around m j c q (suc k) a g kj ca (omega (arith, pow_pos k)) in
      some-none (rises m (suc k) (trunc (suc k) a)) _ (rises_complete m (suc k) (trunc (suc k) a) _ s.runs) (up l);
}
