-- Counting the keys of a table.

use Rattle.std.proofs.Common.{◌≡◌, ℕ, ◌<◌, ◌≤◌, ◌⊎◌, is_some, None, Option, sym, ◌∙◌, subst, inl, inr, arith}
use mathlib.Core.Path.{fun_ext}
use Rattle.std.proofs.lemmas.Bool.{cases_lt, cases_eq}
use Rattle.std.proofs.lemmas.Bool.Decides.{nat_tests}
use Rattle.blocks.specs.Blocks.{only, one, tally}
use Rattle.blocks.specs.declared.Entry.{Entry}
use Rattle.blocks.proofs.Changes.{changed_here, changed_elsewhere, only_here}
use Rattle.blocks.proofs.Sums.{tally_fewer}
use Rattle.extents.specs.Extents.{KeyTable}
use Rattle.tables.specs.Holding.{Holding}
use Rattle.key_rule.specs.Mends.{update, blend}

update_at : (h : Holding) (f b : ℕ) (o : Option Entry) → update h f b o f b ≡ o
update_at h f b o = changed_here h f (only b) (λ _. o) b (only_here b)

update_else : (h : Holding) (f b : ℕ) (o : Option Entry) (g c : ℕ) → (g ≡ f → ⊥) ⊎ (c ≡ b → ⊥) → update h f b o g c ≡ h g c
update_else h f b o g c (inl d) = changed_elsewhere h f (only b) (λ _. o) g c d
update_else h f b o g c (inr d) = grind (arith, nat_tests)

-- ---- an extent made anew key by key

pub blend_in : (file l r : ℕ) (k : KeyTable) (h : Holding) (b : ℕ) → l ≤ b → b < r → blend file l r k h file b ≡ k b
unfolding blend
blend_in file l r k h b lb br = grind (arith, nat_tests)

pub blend_out : (file l r : ℕ) (k : KeyTable) (h : Holding) (f b : ℕ) → (f ≡ file → ⊥) ⊎ ((b < l) ⊎ (r ≤ b)) → blend file l r k h f b ≡ h f b
unfolding blend
blend_out file l r k h f b d = grind (arith, nat_tests)

pub blend_empty : (file l : ℕ) (k : KeyTable) (h : Holding) → blend file l l k h ≡ h
blend_empty file l k h = fun_ext (λ f. fun_ext (λ b. blend_out file l l k h f b (inr (at b (cases_lt b l)))))
  where
    at : (b : ℕ) → (b < l) ⊎ (l ≤ b) → (b < l) ⊎ (l ≤ b)
    at b x = x

-- one more key, at a, with nothing to change elsewhere from x up to y
pub blend_step : (file l x y a : ℕ) (k : KeyTable) (h : Holding) → l ≤ x → x ≤ a → a < y
    → ((b : ℕ) → x ≤ b → b < y → (b ≡ a → ⊥) → k b ≡ h file b)
    → blend file l y k h ≡ update (blend file l x k h) file a (k a)
blend_step file l x y a k h lx xa ay same = fun_ext (λ f. fun_ext (λ b. at f b (cases_eq f file) (cases_lt b l) (cases_lt b x) (cases_lt b y) (cases_eq b a)))
  where
    at : (f b : ℕ) → (f ≡ file) ⊎ (f ≡ file → ⊥) → (b < l) ⊎ (l ≤ b) → (b < x) ⊎ (x ≤ b) → (b < y) ⊎ (y ≤ b) → (b ≡ a) ⊎ (b ≡ a → ⊥)
        → blend file l y k h f b ≡ update (blend file l x k h) file a (k a) f b
    at f b (inr nf) _ _ _ _ = blend_out file l y k h f b (inl nf) ∙ sym (update_else (blend file l x k h) file a (k a) f b (inl nf) ∙ blend_out file l x k h f b (inl nf))
    at f b (inl ef) _ _ _ (inl ea) =
        subst (λ g. blend file l y k h g b ≡ update (blend file l x k h) file a (k a) g b) (sym ef)
        (subst (λ c. blend file l y k h file c ≡ update (blend file l x k h) file a (k a) file c) (sym ea)
        (blend_in file l y k h a (omega arith) ay ∙ sym (update_at (blend file l x k h) file a (k a))))
    at f b (inl ef) (inl o) _ _ (inr na) = blend_out file l y k h f b (inr (inl o)) ∙ sym (update_else (blend file l x k h) file a (k a) f b (inr na) ∙ blend_out file l x k h f b (inr (inl o)))
    at f b (inl ef) (inr o) (inl p) _ (inr na) =
        subst (λ g. blend file l y k h g b ≡ update (blend file l x k h) file a (k a) g b) (sym ef)
        (blend_in file l y k h b o (omega arith) ∙ sym (update_else (blend file l x k h) file a (k a) file b (inr na) ∙ blend_in file l x k h b o p))
    at f b (inl ef) (inr o) (inr p) (inl q) (inr na) =
        subst (λ g. blend file l y k h g b ≡ update (blend file l x k h) file a (k a) g b) (sym ef)
        (blend_in file l y k h b o q ∙ same b p q na ∙ sym (update_else (blend file l x k h) file a (k a) file b (inr na) ∙ blend_out file l x k h file b (inr (inr p))))
    at f b (inl ef) (inr o) (inr p) (inr q) (inr na) = blend_out file l y k h f b (inr (inr q)) ∙ sym (update_else (blend file l x k h) file a (k a) f b (inr na) ∙ blend_out file l x k h f b (inr (inr p)))

-- nothing to change from x up to y
pub blend_skip : (file l x y : ℕ) (k : KeyTable) (h : Holding) → l ≤ x → x ≤ y
    → ((b : ℕ) → x ≤ b → b < y → k b ≡ h file b) → blend file l y k h ≡ blend file l x k h
blend_skip file l x y k h lx xy same = fun_ext (λ f. fun_ext (λ b. at f b (cases_eq f file) (cases_lt b l) (cases_lt b x) (cases_lt b y)))
  where
    at : (f b : ℕ) → (f ≡ file) ⊎ (f ≡ file → ⊥) → (b < l) ⊎ (l ≤ b) → (b < x) ⊎ (x ≤ b) → (b < y) ⊎ (y ≤ b)
        → blend file l y k h f b ≡ blend file l x k h f b
    at f b (inr nf) _ _ _ = blend_out file l y k h f b (inl nf) ∙ sym (blend_out file l x k h f b (inl nf))
    at f b (inl ef) (inl o) _ _ = blend_out file l y k h f b (inr (inl o)) ∙ sym (blend_out file l x k h f b (inr (inl o)))
    at f b (inl ef) (inr o) (inl p) _ =
        subst (λ g. blend file l y k h g b ≡ blend file l x k h g b) (sym ef)
        (blend_in file l y k h b o (omega arith) ∙ sym (blend_in file l x k h b o p))
    at f b (inl ef) (inr o) (inr p) (inl q) =
        subst (λ g. blend file l y k h g b ≡ blend file l x k h g b) (sym ef)
        (blend_in file l y k h b o q ∙ same b p q ∙ sym (blend_out file l x k h file b (inr (inr p))))
    at f b (inl ef) (inr o) (inr p) (inr q) = blend_out file l y k h f b (inr (inr q)) ∙ sym (blend_out file l x k h f b (inr (inr p)))

-- making more of an empty extent anew adds keys
pub blend_more : (file l x y : ℕ) (k : KeyTable) (h : Holding) → x ≤ y
    → ((b : ℕ) → l ≤ b → b < y → h file b ≡ None) → tally (blend file l x k h) ≤ tally (blend file l y k h)
blend_more file l x y k h xy empty = tally_fewer _ _ (λ f b. at f b (cases_eq f file) (cases_lt b l) (cases_lt b x) (cases_lt b y))
  where
    at : (f b : ℕ) → (f ≡ file) ⊎ (f ≡ file → ⊥) → (b < l) ⊎ (l ≤ b) → (b < x) ⊎ (x ≤ b) → (b < y) ⊎ (y ≤ b)
        → one (is_some (blend file l x k h f b)) ≤ one (is_some (blend file l y k h f b))
    at f b (inr nf) _ _ _ = rw (blend_out file l x k h f b (inl nf), blend_out file l y k h f b (inl nf)) (omega arith)
    at f b (inl ef) (inl o) _ _ = rw (blend_out file l x k h f b (inr (inl o)), blend_out file l y k h f b (inr (inl o))) (omega arith)
    at f b (inl ef) (inr o) (inl p) _ =
        subst (λ g. one (is_some (blend file l x k h g b)) ≤ one (is_some (blend file l y k h g b))) (sym ef)
        (rw (blend_in file l x k h b o p, blend_in file l y k h b o (omega arith)) (omega arith))
    at f b (inl ef) (inr o) (inr p) (inl q) =
        subst (λ g. one (is_some (blend file l x k h g b)) ≤ one (is_some (blend file l y k h g b))) (sym ef)
        (rw (blend_out file l x k h file b (inr (inr p)), empty b o q) (omega arith))
    at f b (inl ef) (inr o) (inr p) (inr q) = rw (blend_out file l x k h f b (inr (inr p)), blend_out file l y k h f b (inr (inr q))) (omega arith)
