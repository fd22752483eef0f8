-- A canonical table, read along the truncations of a block, gives the block's place.
use Rattle.std.proofs.Common.{◌≡◌, ℕ, zero, suc, ◌+◌, ◌-◌, ◌/◌, ◌%◌, ◌^◌, ◌<◌, ◌≤◌, cond, ◌⊎◌, List, [], ◌∷◌, Some, None, Option, sym, refl, ap, ◌∙◌, inl, inr, arith, pow_pos}
use Rattle.std.proofs.lemmas.Bool.{cases_lt, cases_eq, cond-true, cond-false}
use Rattle.blocks.specs.Blocks.{inside}
use Rattle.blocks.specs.declared.Entry.{Entry}
use Rattle.blocks.proofs.Changes.{inside_yes, inside_after}
use Rattle.extents.specs.Extents.{FileMap, KeyTable, Straight, IsKey, KeysOf, trunc, rises, held_at, first_held_key, says}
use Rattle.extents.proofs.Grid.{trunc_multiple, trunc_le, trunc_lt}
use Rattle.extents.proofs.Straights.{some-none, known, at_block, key_same, rises_sound, is_key}
use Rattle.extents.proofs.Chain.{rest, trunc_order, trunc_trunc, bit_zero, Below, rest_below, rest_zero, rest_one}

-- the look-up in one: what the key at x says of block b, where one is held, or else r
abbrev held_or : Option Entry → ℕ → ℕ → Option ℕ → Option ℕ
held_or None b x r = r
held_or (Some e) b x r = cond (inside x e.length b) (Some (e.board + (b - x))) None

unfoldable pub look : KeyTable → ℕ → List ℕ → Option ℕ
look t b [] = None
look t b (x ∷ xs) = held_or (t x) b x (look t b xs)

pub look_first : (t : KeyTable) (b : ℕ) (xs : List ℕ) → says (first_held_key t xs) b ≡ look t b xs
unfolding first_held_key look
look_first t b [] = refl
look_first t b (x ∷ xs) = at (t x) (look_first t b xs)
  where
    at : (o : Option Entry) → says (first_held_key t xs) b ≡ look t b xs → says (held_at o x (first_held_key t xs)) b ≡ held_or o b x (look t b xs)
    at None e = e
    at (Some k) e = refl

pub record Top (m : FileMap) (b : ℕ) : Type 0 where
  pub j : ℕ
  pub p : ℕ
  pub small : j ≤ 12
  pub key : IsKey m (trunc j b) (2 ^ j) p

-- the key of a mapped block: climb while the next extent is straight
pub climb : (m : FileMap) (b n k p : ℕ) → n + k ≡ 12 → Straight m k (trunc k b) p → Top m b
climb m b zero k p e h = record { j = k; p = p; small = omega arith; key = is_key m k (trunc k b) p h (λ l. absurd (omega arith)) }
climb m b (suc n) k p e h = at (λ q. climb m b n (suc k) q (omega arith)) (known (rises m (suc k) (trunc (suc k) b)))
  where
    at : ((q : ℕ) → Straight m (suc k) (trunc (suc k) b) q → Top m b)
        → (rises m (suc k) (trunc (suc k) b) ≡ None) ⊎ ((q : ℕ) × (rises m (suc k) (trunc (suc k) b) ≡ Some q)) → Top m b
    at more (inl none) = record {
      j = k;
      p = p;
      small = omega arith;
      key = is_key m k (trunc k b) p h (λ _. ap (rises m (suc k)) (trunc_trunc k (suc k) b (omega arith)) ∙ none);
    }
    at more (inr (q, some)) = more q (record
        { aligned = record { small = omega arith; multiple = trunc_multiple (suc k) b }; runs = rises_sound m (suc k) (trunc (suc k) b) q some })

-- a single block
pub single : (m : FileMap) (b v : ℕ) → m b ≡ Some v → Straight m 0 (trunc 0 b) v
single m b v e = record {
  aligned = record { small = omega arith; multiple = trunc_multiple 0 b };
  runs = λ i l.
      let z : trunc 0 b + i ≡ b = omega (arith, trunc_le 0 b, trunc_lt 0 b) in
      let w : v ≡ v + i = omega arith in
      ap m z ∙ e ∙ ap Some w;
}

module _ (m : FileMap) (t : KeyTable) (can : KeysOf m t) (b : ℕ) where
  held : (x : ℕ) (e : Entry) → t x ≡ Some e → IsKey m x e.length e.board
  held x e h = (can x e.length e.board).0 h

  -- at a hole every key says that it is one
  look_none : m b ≡ None → (xs : List ℕ) → Below b xs → look t b xs ≡ None
  unfolding look
  look_none hole [] h = refl
  look_none hole (x ∷ xs) h = at (look_none hole xs h.1) (known (t x))
    where
      at : look t b xs ≡ None → (t x ≡ None) ⊎ ((e : Entry) × (t x ≡ Some e)) → held_or (t x) b x (look t b xs) ≡ None
      at more (inl none) = rw none more
      at more (inr (e, some)) = rw some (miss (cases_lt b (x + e.length)))
        where
          miss : (b < x + e.length) ⊎ (x + e.length ≤ b) → cond (inside x e.length b) (Some (e.board + (b - x))) None ≡ None
          miss (inl l) =
              let key = held x e some in
              some-none (m b) _ (at_block m key.k x e.board b key.straight h.0 (omega (arith, key.size))) hole
          miss (inr l) = cond-false (inside x e.length b) _ None (inside_after x e.length b l)

  module _ (top : Top m b) where
    abbrev answer : ℕ
    answer = top.p + (b - trunc top.j b)

    -- a key held at a truncation up to the top is the top
    hit_top : (k : ℕ) (e : Entry) (r : Option ℕ) → k ≤ top.j → t (trunc k b) ≡ Some e → held_or (Some e) b (trunc k b) r ≡ Some answer
    hit_top k e r l some =
        let x : ℕ = trunc k b in
        let key = held x e some in
        let o : trunc top.j b ≤ x = trunc_order k top.j b l in
        let z : x ≤ b = trunc_le k b in
        let s = key_same m x e.length e.board (trunc top.j b) (2 ^ top.j) top.p x key top.key
        (omega arith) (omega (arith, key.size, pow_pos key.k)) o (omega (arith, trunc_lt top.j b)) in
        let i : b < x + e.length = omega (arith, s, trunc_lt top.j b) in
        let f : e.board + (b - x) ≡ top.p + (b - trunc top.j b) = omega (arith, s) in
        cond-true (inside x e.length b) (Some (e.board + (b - x))) None (inside_yes x e.length b z i) ∙ ap Some f

    not_top : (k : ℕ) → t (trunc k b) ≡ None → k ≤ top.j → k < top.j
    not_top k none l = at (cases_lt k top.j)
      where
        at : (k < top.j) ⊎ (top.j ≤ k) → k < top.j
        at (inl o) = o
        at (inr o) =
            let e : top.j ≡ k = omega arith in
            some-none (t (trunc top.j b)) _ ((can (trunc top.j b) (2 ^ top.j) top.p).1 top.key) (ap (λ n. t (trunc n b)) e ∙ none)

    look_some : (n k : ℕ) → k ≤ top.j → top.j ≤ n + k → look t b (trunc k b ∷ rest n k b) ≡ Some answer
    unfolding look
    look_some zero k l g = at (known (t (trunc k b)))
      where
        at : (t (trunc k b) ≡ None) ⊎ ((e : Entry) × (t (trunc k b) ≡ Some e)) → held_or (t (trunc k b)) b (trunc k b) (look t b (rest 0 k b)) ≡ Some answer
        at (inl none) = absurd (omega (arith, not_top k none l))
        at (inr (e, some)) = ap (λ o. held_or o b (trunc k b) (look t b (rest 0 k b))) some ∙ hit_top k e (look t b (rest 0 k b)) l some
    look_some (suc n) k l g = at (λ o. look_some n (suc k) o (omega arith)) (known (t (trunc k b)))
      where
        at : (suc k ≤ top.j → held_or (t (trunc (suc k) b)) b (trunc (suc k) b) (look t b (rest n (suc k) b)) ≡ Some answer)
            → (t (trunc k b) ≡ None) ⊎ ((e : Entry) × (t (trunc k b) ≡ Some e)) → held_or (t (trunc k b)) b (trunc k b) (look t b (rest (suc n) k b)) ≡ Some answer
        at more (inl none) = ap (λ o. held_or o b (trunc k b) (look t b (rest (suc n) k b))) none ∙ bit (cases_eq (b / 2 ^ k % 2) 0)
          where
            on : held_or (t (trunc (suc k) b)) b (trunc (suc k) b) (look t b (rest n (suc k) b)) ≡ Some answer
            on = more (not_top k none l)

            bit : (b / 2 ^ k % 2 ≡ 0) ⊎ (b / 2 ^ k % 2 ≡ 0 → ⊥) → look t b (rest (suc n) k b) ≡ Some answer
            bit (inl zero_bit) =
                let same : t (trunc (suc k) b) ≡ None = ap t (bit_zero k b zero_bit) ∙ none in
                ap (look t b) (rest_zero n k b zero_bit) ∙ sym (ap (λ o. held_or o b (trunc (suc k) b) (look t b (rest n (suc k) b))) same) ∙ on
            bit (inr one_bit) = ap (look t b) (rest_one n k b one_bit) ∙ on
        at more (inr (e, some)) = ap (λ o. held_or o b (trunc k b) (look t b (rest (suc n) k b))) some ∙ hit_top k e (look t b (rest (suc n) k b)) l some

  -- the chain reads the block
  pub reads : look t b (trunc 0 b ∷ rest 12 0 b) ≡ m b
  reads = at (known (m b))
    where
      at : (m b ≡ None) ⊎ ((v : ℕ) × (m b ≡ Some v)) → look t b (trunc 0 b ∷ rest 12 0 b) ≡ m b
      at (inl none) = look_none none (trunc 0 b ∷ rest 12 0 b) (trunc_le 0 b, rest_below 12 0 b) ∙ sym none
      at (inr (v, some)) =
          let top = climb m b 12 0 v refl (single m b v some) in
          let z = top.small in
          look_some top 12 0 (omega arith) (omega arith)
          ∙ sym (at_block m top.key.k (trunc top.j b) top.p b top.key.straight (trunc_le top.j b) (omega (arith, top.key.size, trunc_lt top.j b)))
