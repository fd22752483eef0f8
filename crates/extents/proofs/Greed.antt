-- The greedy walk over a straight run between two barriers gives the run's keys.
use Rattle.std.proofs.Common.{◌≡◌, ℕ, zero, suc, ◌+◌, ◌-◌, ◌*◌, ◌/◌, ◌%◌, ◌^◌, ◌<◌, ◌≤◌, Bool, true, false, cond, ◌&&◌, eqb, ltb, leb, ◌⊎◌, [], ◌∷◌, Some, sym, refl, ap, ◌∙◌, subst, inl, inr, arith, pow_pos, pow_mono}
use mathlib.Core.Path.{subst₃}
use lib.Pow.{split}
use Rattle.std.proofs.lemmas.Bool.{cases_lt, cases_eq, and_parts, and_from, eqb-true, leb-true, eq-eqb, le-leb, lt-ltb, le-ltb, cond-true, cond-false}
use Rattle.extents.specs.Extents.{FileMap, Aligned, Multiple, Straight, IsKey, Barrier, trunc, key}
use Rattle.extents.specs.Runs.{Greedy, Run, size_from, piece, walk, Holds}
use Rattle.extents.specs.Laws.{WalkKeys}
use Rattle.extents.proofs.Grid.{trunc_self}
use Rattle.extents.proofs.Straights.{key_same}
use Rattle.extents.proofs.Barriers.{barrier_end}

pub multiple_mod : (k x : ℕ) → Multiple (2 ^ k) x → x % 2 ^ k ≡ 0
unfolding trunc
multiple_mod k x u = let e : x / 2 ^ k * 2 ^ k ≡ x = trunc_self k x u in omega (arith, split x k)

pub mod_multiple : (k x : ℕ) → x % 2 ^ k ≡ 0 → Multiple (2 ^ k) x
mod_multiple k x e = (x / 2 ^ k, omega (arith, split x k))

-- ---- the size is the largest

record Best (n x r k : ℕ) : Type 0 where
  small : k ≤ n
  aligned : Multiple (2 ^ k) x
  inside : x + 2 ^ k ≤ r
  largest : (j : ℕ) → j ≤ n → Multiple (2 ^ j) x → x + 2 ^ j ≤ r → j ≤ k

best : (n x r : ℕ) → x < r → Best n x r (size_from n x r)
unfolding size_from
best zero x r h = record { small = omega arith; aligned = (x, omega arith); inside = omega arith; largest = λ j l _ _. l }
best (suc n) x r h = at (best n x r h) (eqb (x % 2 ^ suc n) 0 && leb (x + 2 ^ suc n) r) refl
  where
    at : Best n x r (size_from n x r) → (t : Bool) → (eqb (x % 2 ^ suc n) 0 && leb (x + 2 ^ suc n) r) ≡ t → Best (suc n) x r (cond t (suc n) (size_from n x r))
    at g true e =
        let parts = and_parts (eqb (x % 2 ^ suc n) 0) (leb (x + 2 ^ suc n) r) e in
        record {
          small = omega arith;
          aligned = mod_multiple (suc n) x (eqb-true (x % 2 ^ suc n) 0 parts.0);
          inside = leb-true (x + 2 ^ suc n) r parts.1;
          largest = λ j l _ _. l;
        }
    at g false e = record {
      small = let z = g.small in omega arith;
      aligned = g.aligned;
      inside = g.inside;
      largest = λ j l u i. up j l u i (cases_eq j (suc n));
    }
      where
        up : (j : ℕ) → j ≤ suc n → Multiple (2 ^ j) x → x + 2 ^ j ≤ r → (j ≡ suc n) ⊎ (j ≡ suc n → ⊥) → j ≤ size_from n x r
        up j l u i (inr ne) = g.largest j (omega arith) u i
        up j l u i (inl is) =
            let u' : Multiple (2 ^ suc n) x = subst (λ z. Multiple (2 ^ z) x) is u in
            let i' : x + 2 ^ suc n ≤ r = subst (λ z. x + 2 ^ z ≤ r) is i in
            let t = and_from (eqb (x % 2 ^ suc n) 0) (leb (x + 2 ^ suc n) r)
            (eq-eqb (x % 2 ^ suc n) 0 (multiple_mod (suc n) x u')) (le-leb (x + 2 ^ suc n) r i') in
            let w : ◌≡◌ {A = ℕ} 0 1 = cc in
            absurd (omega arith)

pub size_greedy : (x r : ℕ) → x < r → Greedy x r (size_from 12 x r)
size_greedy x r h =
    let g = best 12 x r h in
    record {
      aligned = record { small = g.small; multiple = g.aligned };
      fits = g.inside;
      largest = λ j u i. g.largest j u.small u.multiple i;
    }

-- ---- a step of the walk puts a key

pub run_further : (m : FileMap) (x r p d : ℕ) → Run m x r p → Run m (x + d) r (p + d)
run_further m x r p d run i h =
    let z : (x + d) + i ≡ x + (d + i) = omega arith in
    let w : p + (d + i) ≡ (p + d) + i = omega arith in
    ap m z ∙ run (d + i) (omega arith) ∙ ap Some w

pub greedy_key : (m : FileMap) (x r p k : ℕ) → Run m x r p → Barrier m x → Barrier m r → Greedy x r k → IsKey m x (2 ^ k) p
greedy_key m x r p k run bx br g = record {
  k = k;
  size = refl;
  straight = record {
    aligned = g.aligned;
    runs = λ i l. run i (let z = g.fits in omega arith);
  };
  longest = λ j c q h kj cx xc.
      let z = g.fits in
      let y = pow_pos k in
      let start : c ≡ x = begins j c q h cx (omega arith) (cases_lt c x) in
      let fits : c + 2 ^ j ≤ r = ends j c q h (omega arith) (cases_lt r (c + 2 ^ j)) in
      let l : j ≤ k = g.largest j (subst (Aligned j) start h.aligned) (omega arith) in
      omega arith;
}
  where
    begins : (j c q : ℕ) → Straight m j c q → c ≤ x → x < c + 2 ^ j → (c < x) ⊎ (x ≤ c) → c ≡ x
    begins j c q h cx xc (inl l) = absurd (bx j c q h l xc)
    begins j c q h cx xc (inr l) = omega arith

    ends : (j c q : ℕ) → Straight m j c q → c < r → (r < c + 2 ^ j) ⊎ (c + 2 ^ j ≤ r) → c + 2 ^ j ≤ r
    ends j c q h cr (inl l) = absurd (br j c q h cr l)
    ends j c q h cr (inr l) = l

-- the walk's next extent is a key
pub piece_key : (m : FileMap) (x r p : ℕ) → x < r → Run m x r p → Barrier m x → Barrier m r → IsKey m x (piece x r) p
unfolding piece
piece_key m x r p l run bx br = greedy_key m x r p (size_from 12 x r) run bx br (size_greedy x r l)

pub piece_pos : (x r : ℕ) → 0 < piece x r
unfolding piece
piece_pos x r = pow_pos (size_from 12 x r)

pub piece_fits : (x r : ℕ) → x < r → x + piece x r ≤ r
unfolding piece
piece_fits x r l = (size_greedy x r l).fits

pub piece_small : (x r : ℕ) → x < r → piece x r ≤ 4096
unfolding piece
piece_small x r l = let p : 2 ^ size_from 12 x r ≤ 2 ^ 12 = pow_mono (size_greedy x r l).aligned.small in omega arith

-- ---- the whole walk

pub walk_done : (n x r p : ℕ) → r ≤ x → walk n x r p ≡ []
unfolding walk
walk_done zero x r p h = refl
walk_done (suc n) x r p h = cond-false (ltb x r) _ [] (le-ltb x r h)

pub walk_more : (n x r p : ℕ) → x < r → walk (suc n) x r p ≡ key x (piece x r) p ∷ walk n (x + piece x r) r (p + piece x r)
unfolding walk
walk_more n x r p h = cond-true (ltb x r) _ [] (lt-ltb x r h)

-- steps that are enough are as good as more
pub walk_enough : (n k x r p : ℕ) → r ≤ n + x → r ≤ k + x → walk n x r p ≡ walk k x r p
walk_enough zero k x r p a b = walk_done zero x r p (omega arith) ∙ sym (walk_done k x r p (omega arith))
walk_enough (suc n) zero x r p a b = walk_done (suc n) x r p (omega arith) ∙ sym (walk_done zero x r p (omega arith))
walk_enough (suc n) (suc k) x r p a b = at (cases_lt x r) (walk_enough n k (x + piece x r) r (p + piece x r))
  where
    at : (x < r) ⊎ (r ≤ x) → (r ≤ n + (x + piece x r) → r ≤ k + (x + piece x r) → walk n (x + piece x r) r (p + piece x r) ≡ walk k (x + piece x r) r (p + piece x r))
        → walk (suc n) x r p ≡ walk (suc k) x r p
    at (inl l) more =
        walk_more n x r p l ∙ ap (λ t. key x (piece x r) p ∷ t) (more (omega (arith, piece_pos x r)) (omega (arith, piece_pos x r)))
        ∙ sym (walk_more k x r p l)
    at (inr l) more = walk_done (suc n) x r p l ∙ sym (walk_done (suc k) x r p l)

-- what is left of a walk, in as many steps as there are blocks
pub walk_step : (x r p : ℕ) → x < r
    → walk (r - x) x r p ≡ key x (piece x r) p ∷ walk (r - (x + piece x r)) (x + piece x r) r (p + piece x r)
walk_step x r p l =
    let e : r - x ≡ suc (r - (x + 1)) = omega arith in
    ap (λ n. walk n x r p) e ∙ walk_more (r - (x + 1)) x r p l
    ∙ ap (λ t. key x (piece x r) p ∷ t) (walk_enough (r - (x + 1)) (r - (x + piece x r)) (x + piece x r) r (p + piece x r) (omega (arith, piece_pos x r)) (omega arith))

module _ (m : FileMap) (r : ℕ) (br : Barrier m r) where
  pub walk_sound : (n x p : ℕ) → Run m x r p → Barrier m x → (a s q : ℕ) → Holds a s q (walk n x r p) → IsKey m a s q
  unfolding walk
  walk_sound zero x p run bx a s q h = absurd h
  walk_sound (suc n) x p run bx a s q h = at (cases_lt x r)
      (λ f. walk_sound n (x + piece x r) (p + piece x r) (run_further m x r p (piece x r) run) (barrier_end m x (piece x r) p f) a s q)
    where
      at : (x < r) ⊎ (r ≤ x) → (IsKey m x (piece x r) p → Holds a s q (walk n (x + piece x r) r (p + piece x r)) → IsKey m a s q) → IsKey m a s q
      at (inr l) more = absurd (subst (Holds a s q) (walk_done (suc n) x r p l) h)
      at (inl l) more = which (piece_key m x r p l run bx br) (subst (Holds a s q) (walk_more n x r p l) h)
        where
          which : IsKey m x (piece x r) p → Holds a s q (key x (piece x r) p ∷ walk n (x + piece x r) r (p + piece x r)) → IsKey m a s q
          which first (inl (ea, es, ep)) = subst₃ (IsKey m) (sym ea) (sym es) (sym ep) first
          which first (inr g) = more first g

  pub walk_complete : (n x p : ℕ) → r ≤ n + x → Run m x r p → Barrier m x
      → (a s q : ℕ) → x ≤ a → a < r → IsKey m a s q → Holds a s q (walk n x r p)
  walk_complete zero x p f run bx a s q xa ar k = absurd (omega arith)
  walk_complete (suc n) x p f run bx a s q xa ar k =
      let l : x < r = omega arith in
      let z = piece_pos x r in
      let first : IsKey m x (piece x r) p = piece_key m x r p l run bx br in
      subst (Holds a s q) (sym (walk_more n x r p l))
      (at first (λ g. walk_complete n (x + piece x r) (p + piece x r) (omega arith) (run_further m x r p (piece x r) run)
      (barrier_end m x (piece x r) p first) a s q g ar k) (cases_lt a (x + piece x r)))
    where
      at : IsKey m x (piece x r) p → (x + piece x r ≤ a → Holds a s q (walk n (x + piece x r) r (p + piece x r)))
          → (a < x + piece x r) ⊎ (x + piece x r ≤ a) → Holds a s q (key x (piece x r) p ∷ walk n (x + piece x r) r (p + piece x r))
      at first more (inl l) =
          inl (key_same m a s q x (piece x r) p a k first (omega arith) (omega (arith, k.size, pow_pos k.k)) xa l)
      at first more (inr l) = inr (more l)

pub walk_inside : (n x r p a s q : ℕ) → Holds a s q (walk n x r p) → (x ≤ a) × (a < r)
unfolding walk
walk_inside zero x r p a s q h = absurd h
walk_inside (suc n) x r p a s q h = at (cases_lt x r) (walk_inside n (x + piece x r) r (p + piece x r) a s q)
  where
    at : (x < r) ⊎ (r ≤ x) → (Holds a s q (walk n (x + piece x r) r (p + piece x r)) → (x + piece x r ≤ a) × (a < r)) → (x ≤ a) × (a < r)
    at (inr l) more = absurd (subst (Holds a s q) (walk_done (suc n) x r p l) h)
    at (inl l) more = which (subst (Holds a s q) (walk_more n x r p l) h)
      where
        which : Holds a s q (key x (piece x r) p ∷ walk n (x + piece x r) r (p + piece x r)) → (x ≤ a) × (a < r)
        which (inl (ea, es, ep)) = (omega arith, omega arith)
        which (inr g) = let o = more g in (omega arith, omega arith)

pub walk_keys : WalkKeys
walk_keys m l r p n run bl br f a s q = (
  (λ k. walk_complete m r br n l p f run bl a s q k.1 k.2 k.0),
  (λ h. (walk_sound m r br n l p run bl a s q h, (walk_inside n l r p a s q h).0, (walk_inside n l r p a s q h).1)),
)
