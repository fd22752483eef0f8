-- The lowest mapped block of an extent: what the answer says of each block.
use Rattle.std.proofs.Common.{◌≡◌, ℕ, zero, suc, ◌+◌, ◌<◌, ◌≤◌, true, is_some, Some, None, Option, sym, refl, ap, ◌∙◌, inl, inr, arith}
use Rattle.std.proofs.lemmas.Bool.{cases_eq}
use Rattle.maps.specs.Steps.{lowest_mapped_block, here_or}

none_both : (o : Option ℕ) (b : ℕ) (r : Option ℕ) → here_or o b r ≡ None → (o ≡ None) × (r ≡ None)
none_both None b r e = (refl, e)
none_both (Some x) b r e = let z : ◌≡◌ {A = ℕ} 0 1 = cc in absurd (omega arith)

-- Where there is none, no block of the extent is mapped.
pub lowest_when_none : (m : ℕ → Option ℕ) (b n : ℕ) → lowest_mapped_block m b n ≡ None → (x : ℕ) → b ≤ x → x < b + n → m x ≡ None
unfolding lowest_mapped_block
lowest_when_none m b zero e x l k = absurd (omega arith)
lowest_when_none m b (suc n) e x l k =
    let s = none_both (m b) b (lowest_mapped_block m (suc b) n) e in
    elim (cases_eq x b) [
      | inl q ↦ ap m q ∙ s.0
      | inr q ↦ lowest_when_none m (suc b) n s.1 x (omega arith) (omega arith)
    ]

-- A block that is the lowest mapped one of n from b on.
pub record Lowest (m : ℕ → Option ℕ) (b n x : ℕ) : Type 0 where
  pub least : b ≤ x
  pub within : x < b + n
  pub there : is_some (m x) ≡ true
  pub before : (y : ℕ) → b ≤ y → y < x → m y ≡ None

-- The block that is told is that.
pub lowest_when_some : (m : ℕ → Option ℕ) (b n x : ℕ) → lowest_mapped_block m b n ≡ Some x → Lowest m b n x
unfolding lowest_mapped_block
lowest_when_some m b zero x e = let z : ◌≡◌ {A = ℕ} 0 1 = cc in absurd (omega arith)
lowest_when_some m b (suc n) x e = go (m b) refl e (lowest_when_some m (suc b) n x)
  where
    go : (o : Option ℕ) → m b ≡ o → here_or o b (lowest_mapped_block m (suc b) n) ≡ Some x → (lowest_mapped_block m (suc b) n ≡ Some x → Lowest m (suc b) n x) → Lowest m b (suc n) x
    go (Some p) h e ih =
        let q : b ≡ x = cc in
        record {
          least = omega arith;
          within = omega arith;
          there = ap (λ y. is_some (m y)) (sym q) ∙ ap is_some h;
          before = λ y i j. absurd (omega arith);
        }
    go None h e ih =
        let r = ih e in
        let l : suc b ≤ x = r.least in
        let w : x < suc b + n = r.within in
        record {
          least = omega arith;
          within = omega arith;
          there = r.there;
          before = λ y i j. elim (cases_eq y b) [ inl q ↦ ap m q ∙ h | inr q ↦ r.before y (omega arith) j ];
        }
