-- What a table says that holds the keys of what is read from it.
use Rattle.std.proofs.Common.{◌≡◌, ℕ, ◌+◌, ◌-◌, ◌<◌, ◌≤◌, false, ◌⊎◌, List, [], ◌∷◌, Some, None, Option, sym, refl, ap, ◌∙◌, inl, inr, arith, pow_pos}
use Rattle.std.proofs.lemmas.Bool.{cases_lt, cond-false}
use Rattle.blocks.specs.Blocks.{inside}
use Rattle.blocks.specs.declared.Entry.{Entry}
use Rattle.extents.specs.declared.key.Key.{Key}
use Rattle.extents.specs.Extents.{FileMap, KeyTable, entry, key, IsKey, path, held_at, first_held_key, says, lookup, key_at}
use Rattle.extents.proofs.Found.{key_at_keys}
use Rattle.extents.proofs.Straights.{at_block, some-none, known}
use Rattle.tables.specs.Holding.{Holding}
use Rattle.key_rule.specs.Keyed.{Held, keyed, placing}
use Rattle.key_rule.specs.Mends.{Over}

-- ---- what a held table says

pub held_key : (h : Holding) → Held h → (f a s p : ℕ) → h f a ≡ Some (entry s p) → IsKey (placing h f) a s p
unfolding keyed
held_key h v f a s p e =
    (key_at_keys (placing h f) a s p).0 (sym (ap (λ (g : Holding). g f a) v.exact) ∙ e)

pub held_is_key : (h : Holding) → Held h → (f x : ℕ) → h f x ≡ key_at (placing h f) x
unfolding keyed
held_is_key h v f x = ap (λ (u : Holding). u f x) v.exact

pub key_block : (m : FileMap) (a s p b : ℕ) → IsKey m a s p → a ≤ b → b < a + s → m b ≡ Some (p + (b - a))
key_block m a s p b k l r = at_block m k.k a p b k.straight l (omega (arith, k.size))

pub key_long : (m : FileMap) (a s p : ℕ) → IsKey m a s p → 0 < s
key_long m a s p k = omega (arith, k.size, pow_pos k.k)

-- a held key's board numbers are small
pub held_small : (h : Holding) → Held h → (f a s p : ℕ) → h f a ≡ Some (entry s p) → p + s ≤ 4096
held_small h v f a s p e =
    let k = held_key h v f a s p e in
    let l = key_long (placing h f) a s p k in
    let z = v.small f (a + s - 1) (p + (a + s - 1 - a)) (key_block (placing h f) a s p (a + s - 1) k (omega arith) (omega arith)) in
    omega arith

-- a held key lies below the last block
pub held_within : (h : Holding) → Held h → (f a s p : ℕ) → h f a ≡ Some (entry s p) → a + s ≤ 65536
held_within h v f a s p e = at (cases_lt 65536 (a + s))
  where
    k : IsKey (placing h f) a s p
    k = held_key h v f a s p e

    at : (65536 < a + s) ⊎ (a + s ≤ 65536) → a + s ≤ 65536
    at (inr o) = o
    at (inl o) =
        let l = key_long (placing h f) a s p k in
        some-none (placing h f (a + s - 1)) _ (key_block (placing h f) a s p (a + s - 1) k (omega arith) (omega arith))
        (v.within f (a + s - 1) (inr (omega arith)))

-- ---- the key over a block

-- what is found on a path is held
pub found_held : (t : KeyTable) (xs : List ℕ) (k : Key) → first_held_key t xs ≡ Some k → t k.start ≡ Some (entry k.length k.board)
unfolding first_held_key
found_held t [] k e = some-none None k e refl
found_held t (x ∷ xs) k e = at (known (t x)) (found_held t xs k)
  where
    at : (t x ≡ None) ⊎ ((v : Entry) × (t x ≡ Some v)) → (first_held_key t xs ≡ Some k → t k.start ≡ Some (entry k.length k.board))
        → t k.start ≡ Some (entry k.length k.board)
    at (inl none) more = more (ap (λ (o : Option Entry). held_at o x (first_held_key t xs)) (sym none) ∙ e)
    at (inr (v, some)) more =
        let f : Some (key x v.length v.board) ≡ Some k = ap (λ (o : Option Entry). held_at o x (first_held_key t xs)) (sym some) ∙ e in
        let g : key x v.length v.board ≡ k = cc in
        let at = ap (λ (y : Key). y.start) g in
        sym (ap t at) ∙ some ∙ ap (λ (y : Key). Some (entry y.length y.board)) g

module _ (h : Holding) (v : Held h) (f b : ℕ) where
  -- the first key on the path, if its extent contains the block, is the key over it
  pub over_hit : (k : Key) → Some k ≡ first_held_key (h f) (path b) → Over (placing h f) b (Some k)
  over_hit k e = held_key h v f k.start k.length k.board (found_held (h f) (path b) k (sym e))

  -- if it does not, the block is a hole
  pub over_none : None ≡ first_held_key (h f) (path b) → Over (placing h f) b None
  unfolding placing lookup
  over_none e = ap (λ (o : Option Key). says o b) (sym e)

  pub over_miss : (k : Key) → Some k ≡ first_held_key (h f) (path b) → inside k.start k.length b ≡ false → Over (placing h f) b None
  unfolding placing lookup
  over_miss k e o = ap (λ (o : Option Key). says o b) (sym e) ∙ cond-false (inside k.start k.length b) _ None o
