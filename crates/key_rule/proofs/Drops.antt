-- Dropping and counting the keys of an interval one by one.
use Rattle.std.proofs.Common.{◌≡◌, ℕ, ◌+◌, ◌<◌, ◌≤◌, ◌⊎◌, is_some, Some, None, Option, sym, ap, ◌∙◌, inl, inr, arith}
use Rattle.std.proofs.lemmas.Bool.{cases_lt}
use Rattle.extents.specs.Extents.{entry, IsKey, Barrier}
use Rattle.blocks.specs.Blocks.{one, tally}
use Rattle.blocks.specs.declared.Entry.{Entry}
use Rattle.tables.specs.Holding.{Holding}
use Rattle.blocks.proofs.Sums.{tally_change}
use Rattle.key_rule.specs.Keyed.{Held, placing}
use Rattle.key_rule.specs.Mends.{update, blend, none, Sought}
use Rattle.key_rule.proofs.Tallies.{blend_out, blend_step}
use Rattle.key_rule.proofs.Looks.{held_key, held_is_key, held_within, key_long}
use Rattle.key_rule.proofs.Runs.{no_key}

-- A key of s blocks at x, of a table that holds exactly the keys. The code goes on at x + d.
module _ (h : Holding) (v : Held h) (file l x s p d : ℕ) (lx : l ≤ x) (at : Some (entry s p) ≡ h file x) (is : 0 < s → d ≡ s) where
  is_key : IsKey (placing h file) x s p
  is_key = held_key h v file x s p (sym at)

  long : 0 < s
  long = key_long (placing h file) x s p is_key

  -- it ends before a barrier
  pub stops : (r : ℕ) → x < r → Barrier (placing h file) r → x + d ≤ r
  stops r xr bar = by (cases_lt r (x + s))
    where
      by : (r < x + s) ⊎ (x + s ≤ r) → x + d ≤ r
      by (inl o) = absurd (bar is_key.k x p is_key.straight xr (omega (arith, is_key.size)))
      by (inr o) = omega (arith, is long)

  pub gone : blend file l (x + d) none h ≡ update (blend file l x none h) file x None
  gone = blend_step file l x (x + d) x none h lx (omega arith) (omega (arith, long, is long))
      (λ b xb bs ne. sym (held_is_key h v file b ∙ no_key (placing h file) x s p b is_key (omega arith) (omega (arith, is long))))

  pub counts : (n : ℕ) → file < 65536 → n + tally (blend file l x none h) ≡ tally h → (n + 1) + tally (blend file l (x + d) none h) ≡ tally h
  counts n lf e =
      sum _ _ _ _ n (tally_change (blend file l x none h) file x None lf (omega (arith, held_within h v file x s p (sym at), long))) (ap tally gone) was e
    where
      was : one (is_some (blend file l x none h file x)) ≡ 1
      was = ap (λ (o : Option Entry). one (is_some o)) (blend_out file l x none h file x (inr (inr (omega arith))) ∙ sym at)

      sum : (u a o v n : ℕ) {k : ℕ} → u + o ≡ a + 0 → v ≡ u → o ≡ 1 → n + a ≡ k → (n + 1) + v ≡ k
      sum u a o v n c e z i = omega arith

-- the same of the table as it has become
pub same_beyond : (h g : Holding) (file l x b : ℕ) → g ≡ blend file l x none h → x ≤ b → g file b ≡ h file b
same_beyond h g file l x b e xb = ap (λ (u : Holding). u file b) e ∙ blend_out file l x none h file b (inr (inr xb))

pub sought_back : (h g : Holding) (file l x z r y : ℕ) → g ≡ blend file l x none h → x ≤ z → z ≤ y → Sought (g file) z r y → Sought (h file) z r y
sought_back h g file l x z r y e xz zy s = record {
  free = λ b zb by. sym (same_beyond h g file l x b e (omega arith)) ∙ s.free b zb by;
  held = λ o none. s.held o (same_beyond h g file l x y e (omega arith) ∙ none);
}
