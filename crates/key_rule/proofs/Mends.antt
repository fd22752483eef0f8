-- A extent of a file made anew.

use Rattle.std.proofs.Common.{◌≡◌, ℕ, ◌+◌, ◌<◌, ◌≤◌, false, leb, ◌⊎◌, Some, None, Option, sym, ap, ◌∙◌, subst, inl, inr, arith}
use mathlib.Core.Path.{fun_ext}
use Rattle.std.proofs.lemmas.Bool.{cases_lt, cases_eq, lt-leb}
use Rattle.extents.specs.Extents.{FileMap, IsKey, Barrier, Agree, Outside, key_at, key_from, if_mapped}
use Rattle.extents.proofs.Straights.{known}
use Rattle.extents.proofs.Barriers.{keys_beyond}
use Rattle.extents.proofs.Found.{key_at_keys}
use Rattle.extents.proofs.Paths.{reads_back}
use Rattle.blocks.specs.Blocks.{Placement, tally}
use Rattle.blocks.specs.declared.Entry.{Entry}
use Rattle.tables.specs.Holding.{Holding}
use Rattle.key_rule.specs.Keyed.{Held, Within, OnBoard, keyed, placing, rule_of_keys}
use Rattle.key_rule.specs.Mends.{blend, none, Empty, Counted, Laid, Cut, Mending}
use Rattle.key_rule.proofs.Tallies.{blend_in, blend_out, blend_empty, blend_more}
use Rattle.key_rule.proofs.Looks.{held_is_key}

pub hole_key : (m : FileMap) (a : ℕ) → m a ≡ None → key_at m a ≡ None
unfolding key_at
hole_key m a e = ap (λ (o : Option ℕ). if_mapped o (key_from m a 12 0)) e

pub keys_same : (m n : FileMap) (l r a : ℕ) → Agree m n l r → Barrier m l → Barrier m r → Barrier n l → Barrier n r → Outside l r a → key_at m a ≡ key_at n a
keys_same m n l r a ag ml mr nl nr out = at (known (key_at m a)) (known (key_at n a))
  where
    same : (s p : ℕ) → (IsKey m a s p → IsKey n a s p) × (IsKey n a s p → IsKey m a s p)
    same s p = ((keys_beyond m n l r ag ml mr nl nr a s p out).0, (keys_beyond m n l r ag ml mr nl nr a s p out).1)

    at : (key_at m a ≡ None) ⊎ ((e : Entry) × (key_at m a ≡ Some e)) → (key_at n a ≡ None) ⊎ ((e : Entry) × (key_at n a ≡ Some e)) → key_at m a ≡ key_at n a
    at (inl x) (inl y) = x ∙ sym y
    at (inr (e, x)) y = x ∙ sym ((key_at_keys n a e.length e.board).1 ((same e.length e.board).0 ((key_at_keys m a e.length e.board).0 x)))
    at (inl x) (inr (e, y)) = (key_at_keys m a e.length e.board).1 ((same e.length e.board).1 ((key_at_keys n a e.length e.board).0 y)) ∙ sym y

-- ---- a table of exactly the keys

pub placing_keyed : (n : Placement) → placing (keyed n) ≡ n
unfolding placing keyed
placing_keyed n = fun_ext (λ f. fun_ext (λ b. reads_back (n f) (key_at (n f)) (key_at_keys (n f)) b))

pub held_keyed : (n : Placement) → Within n → OnBoard n → Held (keyed n)
held_keyed n w s = record {
  exact = ap keyed (sym (placing_keyed n));
  within = subst Within (sym (placing_keyed n)) w;
  small = subst OnBoard (sym (placing_keyed n)) s;
}

pub rule_held : (h : Holding) → Held h → rule_of_keys (placing h) ≡ tally h
unfolding rule_of_keys
rule_held h v = ap tally (sym v.exact)

module _ (h : Holding) (v : Held h) (n : Placement) (file l a p b q r : ℕ) (cut : Cut l a p b q r) (g : Mending (placing h) n file l a p b q r) where
  abbrev pub first_left : Holding
  first_left = blend file l r none h

  abbrev pub then_run : Holding
  then_run = blend file l a (key_at (n file)) first_left

  abbrev pub then_both : Holding
  then_both = blend file b r (key_at (n file)) then_run

  pub empty_first : Empty first_left file l a
  empty_first x lx xa = let o = cut.between in let w = cut.behind in blend_in file l r none h x lx (omega arith)

  pub empty_second : Empty then_run file b r
  empty_second x bx xr =
      let o = cut.between in
      let w = cut.before in
      blend_out file l a (key_at (n file)) first_left file x (inr (inr (omega arith))) ∙ blend_in file l r none h x (omega arith) xr

  pub final : then_both ≡ keyed n
  unfolding keyed
  final = fun_ext (λ f. fun_ext (λ x. at f x (cases_eq f file)))
    where
      beyond : (x : ℕ) → Outside l r x → h file x ≡ key_at (n file) x
      beyond x out = held_is_key h v file x ∙ keys_same (placing h file) (n file) l r x g.agree g.left g.right g.first.left g.second.right out

      inside : (x : ℕ) → (x < l) ⊎ (l ≤ x) → (x < a) ⊎ (a ≤ x) → (x < b) ⊎ (b ≤ x) → (x < r) ⊎ (r ≤ x) → then_both file x ≡ key_at (n file) x
      inside x (inl xl) _ _ _ =
          let i = cut.before in let j = cut.between in
          blend_out file b r _ then_run file x (inr (inl (omega arith))) ∙ blend_out file l a _ first_left file x (inr (inl xl))
          ∙ blend_out file l r _ h file x (inr (inl xl)) ∙ beyond x (inl xl)
      inside x (inr lx) (inl xa) _ _ =
          let i = cut.before in let j = cut.between in
          blend_out file b r _ then_run file x (inr (inl (omega arith))) ∙ blend_in file l a _ first_left x lx xa
      inside x (inr lx) (inr ax) (inl xb) _ =
          let i = cut.behind in
          blend_out file b r _ then_run file x (inr (inl xb)) ∙ blend_out file l a _ first_left file x (inr (inr ax))
          ∙ blend_in file l r _ h x lx (omega arith) ∙ sym (hole_key (n file) x (g.hole x ax xb))
      inside x (inr lx) (inr ax) (inr bx) (inl xr) = blend_in file b r _ then_run x bx xr
      inside x (inr lx) (inr ax) (inr bx) (inr rx) =
          blend_out file b r _ then_run file x (inr (inr rx)) ∙ blend_out file l a _ first_left file x (inr (inr ax))
          ∙ blend_out file l r _ h file x (inr (inr rx)) ∙ beyond x (inr rx)

      at : (f x : ℕ) → (f ≡ file) ⊎ (f ≡ file → ⊥) → then_both f x ≡ key_at (n f) x
      at f x (inl e) = subst (λ y. then_both y x ≡ key_at (n y) x) (sym e) (inside x (cases_lt x l) (cases_lt x a) (cases_lt x b) (cases_lt x r))
      at f x (inr ne) =
          blend_out file b r _ then_run f x (inl ne) ∙ blend_out file l a _ first_left f x (inl ne) ∙ blend_out file l r _ h f x (inl ne)
          ∙ held_is_key h v f x ∙ ap (λ (m : FileMap). key_at m x) (g.others f ne)

  -- the keys afterwards, from counts
  pub counted : (c d e : ℕ) → Counted l a c → Counted b r d → e + tally first_left ≡ tally h → rule_of_keys n + e ≡ tally h + (c + d)
  unfolding rule_of_keys
  counted c d e cc' dd ee =
      sum c d e _ _ _ _ _ (cc' (n file) p g.first file g.known first_left empty_first) (dd (n file) q g.second file g.known then_run empty_second) ee (ap tally final)
    where
      sum : (c d e k₀ k₁ k₂ k h : ℕ) → c + k₀ ≡ k₁ → d + k₁ ≡ k₂ → e + k₀ ≡ h → k₂ ≡ k → k + e ≡ h + (c + d)
      sum c d e k₀ k₁ k₂ k h x y z w = omega arith

  pub fits_both : (room : ℕ) → rule_of_keys n ≤ room → tally then_both ≤ room
  unfolding rule_of_keys
  fits_both room o = subst (λ k. k ≤ room) (sym (ap tally final)) o

  pub fits_first : (room : ℕ) → rule_of_keys n ≤ room → tally then_run ≤ room
  fits_first room o =
      sum _ _ _ room (ap tally (blend_empty file b (key_at (n file)) then_run)) (blend_more file b b r (key_at (n file)) then_run cut.behind empty_second) (fits_both room o)
    where
      sum : (x y z room : ℕ) → x ≡ y → x ≤ z → z ≤ room → y ≤ room
      sum x y z room e o w = omega arith

  -- ---- for the code

  pub refused : (c d e held room : ℕ) → Counted l a c → Counted b r d → e + tally first_left ≡ tally h → held ≡ tally h → room + e < held + (c + d) → false ≡ leb (rule_of_keys n) room
  refused c d e held room x y z w o = sym (lt-leb (rule_of_keys n) room (sum c d e held room _ _ (counted c d e x y z) w o))
    where
      sum : (c d e held room k h : ℕ) → k + e ≡ h + (c + d) → held ≡ h → room + e < held + (c + d) → room < k
      sum c d e held room k h x w o = omega arith

  pub enough : (c d e held room : ℕ) → Counted l a c → Counted b r d → e + tally first_left ≡ tally h → held ≡ tally h → held + (c + d) ≤ room + e → rule_of_keys n ≤ room
  enough c d e held room x y z w o = sum c d e held room _ _ (counted c d e x y z) w o
    where
      sum : (c d e held room k h : ℕ) → k + e ≡ h + (c + d) → held ≡ h → held + (c + d) ≤ room + e → k ≤ room
      sum c d e held room k h x w o = omega arith

  pub laid_both : (h₁ h₂ h₃ : Holding) (room room₁ room₂ : ℕ) → h₁ ≡ first_left → Laid h₁ room₁ file l a p h₂ → Laid h₂ room₂ file b r q h₃
      → room₁ ≡ room → room₂ ≡ room → rule_of_keys n ≤ room → h₃ ≡ keyed n
  laid_both h₁ h₂ h₃ room room₁ room₂ e₁ l₁ l₂ r₁ r₂ o =
      subst (λ (u : Holding). Laid u room₂ file b r q h₃) e₂ l₂ (n file) g.second g.known empty_second (subst (λ k. tally then_both ≤ k) (sym r₂) (fits_both room o)) ∙ final
    where
      e₂ : h₂ ≡ then_run
      e₂ = subst (λ (u : Holding). Laid u room₁ file l a p h₂) e₁ l₁ (n file) g.first g.known empty_first (subst (λ k. tally then_run ≤ k) (sym r₁) (fits_first room o))
