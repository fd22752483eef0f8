-- Four straight blocks, and what is left of them without the second.
use Rattle.std.proofs.Common.{◌≡◌, ℕ, ◌+◌, ◌-◌, ◌<◌, ◌≤◌, Bool, cond, ltb, ◌⊎◌, Some, None, Ok, Err, sym, refl, ap, ◌∙◌, subst, inl, inr, arith}
use Rattle.std.proofs.lemmas.Bool.{cases_lt, cases_eq}
use Rattle.faults.specs.declared.Ground.TheVariants.{TooManyKeys}
use Rattle.blocks.specs.Blocks.{Placement, inside, tally}
use Rattle.blocks.proofs.Changes.{changed_here, changed_beside, changed_elsewhere, inside_yes, inside_after}
use Rattle.blocks.proofs.Sums.{tally_none}
use Rattle.extents.specs.Extents.{key_at}
use Rattle.extents.specs.Runs.{Run, size_from, piece}
use Rattle.extents.proofs.Barriers.{barrier_hole, barrier_multiple}
use Rattle.extents.proofs.Straights.{some-none}
use Rattle.tables.specs.Holding.{nothing}
use Rattle.maps.specs.Steps.{Outcome, nowhere, assigned, cleared, fault_of, lowest_mapped_block}
use Rattle.key_rule.specs.Keyed.{Held, keyed, rule_of_keys, four_blocks, CutInTwo}
use Rattle.key_rule.specs.Mends.{blend, none, Counted, Mending}
use Rattle.key_rule.proofs.Tallies.{blend_in, blend_out, blend_empty}
use Rattle.key_rule.proofs.Runs.{step}
use Rattle.key_rule.proofs.Edges.{run_none}
use Rattle.key_rule.proofs.Mends.{hole_key, placing_keyed, counted}
use Rattle.key_rule.proofs.Changes.{assign_mending, clear_mending, held_assigned, held_nothing, placing_nothing}

-- ---- runs of one piece, and of none

one_piece : (l r : ℕ) → l < r → r ≤ 65536 → l + piece l r ≡ r → Counted l r 1
one_piece l r lr top e m p lay file lf h em =
    let st = step m l r p l (piece l r) lay lay.left (omega arith) lr top refl in
    let a = ap tally (blend_empty file l (key_at m) h) in
    let b = ap (λ y. tally (blend file l y (key_at m) h)) e in
    sum _ _ _ _ (st.count file lf top h em) a b
  where
    sum : (a b c d : ℕ) → a + 1 ≡ b → a ≡ c → b ≡ d → 1 + c ≡ d
    sum a b c d x y z = omega arith

no_piece : (l : ℕ) → Counted l l 0
no_piece l m p lay file lf h em = let a = ap tally (blend_empty file l (key_at m) h) in sum _ _ a
  where
    sum : (a b : ℕ) → a ≡ b → 0 + b ≡ a
    sum a b x = omega arith

piece_0_4 : piece 0 4 ≡ 4
unfolding piece size_from
piece_0_4 = refl

piece_0_1 : piece 0 1 ≡ 1
unfolding piece size_from
piece_0_1 = refl

piece_2_4 : piece 2 4 ≡ 2
unfolding piece size_from
piece_2_4 = refl

-- ---- the four blocks

here : (b : ℕ) → b < 4 → four_blocks 0 b ≡ Some b
here b l =
    let e : 0 + (b - 0) ≡ b = omega arith in
    changed_here nowhere 0 (inside 0 4) (λ b. Some (0 + (b - 0))) b (inside_yes 0 4 b (omega arith) (omega arith)) ∙ ap Some e

beyond : (b : ℕ) → 4 ≤ b → four_blocks 0 b ≡ None
beyond b l = changed_beside nowhere 0 (inside 0 4) (λ b. Some (0 + (b - 0))) b (inside_after 0 4 b (omega arith))

others : (f b : ℕ) → (f ≡ 0 → ⊥) → four_blocks f b ≡ None
others f b ne = changed_elsewhere nowhere 0 (inside 0 4) (λ b. Some (0 + (b - 0))) f b ne

begin : Mending nowhere four_blocks 0 0 4 0 4 0 4
unfolding lowest_mapped_block
begin = assign_mending nowhere 0 0 4 0 0 0 4 (omega arith) (omega arith) (omega arith) (omega arith) refl refl
    (record { run = run_none (nowhere 0) 0 0; barrier = λ b. b; edge = inl refl })
    (record { run = run_none (nowhere 0) 4 4; barrier = barrier_hole (nowhere 0) 4 refl; edge = inr (λ s. some-none None _ s refl) })

one_key : rule_of_keys four_blocks ≡ 1
one_key =
    sum _ _ (counted nothing held_nothing four_blocks 0 0 4 0 4 0 4
    (record { before = omega arith; between = omega arith; behind = omega arith; top = omega arith; low = omega arith; high = omega arith })
    (subst (λ (m : Placement). Mending m four_blocks 0 0 4 0 4 0 4) (sym placing_nothing) begin)
    1 0 0 (one_piece 0 4 (omega arith) (omega arith) (ap (λ n. 0 + n) piece_0_4)) (no_piece 4) empty) (tally_none nothing (λ f b. refl))
  where
    gone : (f b : ℕ) → blend 0 0 4 none nothing f b ≡ None
    gone f b = at (cases_eq f 0) (cases_lt b 4)
      where
        at : (f ≡ 0) ⊎ (f ≡ 0 → ⊥) → (b < 4) ⊎ (4 ≤ b) → blend 0 0 4 none nothing f b ≡ None
        at (inr ne) _ = blend_out 0 0 4 none nothing f b (inl ne)
        at (inl e) (inr o) = blend_out 0 0 4 none nothing f b (inr (inr o))
        at (inl e) (inl o) = ap (λ y. blend 0 0 4 none nothing y b) e ∙ blend_in 0 0 4 none nothing b (omega arith) o

    empty : 0 + tally (blend 0 0 4 none nothing) ≡ tally nothing
    empty = let a = tally_none (blend 0 0 4 none nothing) gone in let b = tally_none nothing (λ f b. refl) in zeros _ _ a b
      where
        zeros : (a b : ℕ) → a ≡ 0 → b ≡ 0 → 0 + a ≡ b
        zeros a b x y = omega arith

    sum : (k h : ℕ) → k + 0 ≡ h + (1 + 0) → h ≡ 0 → k ≡ 1
    sum k h x y = omega arith

-- ---- without the second

held_four : Held (keyed four_blocks)
held_four =
    subst (λ (m : Placement). Held (keyed (assigned m 0 0 4 0))) placing_nothing (held_assigned nothing held_nothing 0 0 4 0 (omega arith) (omega arith) (omega arith))

cutting : Mending four_blocks (cleared four_blocks 0 1 1) 0 0 1 0 2 2 4
cutting = clear_mending four_blocks 0 1 1 0 0 4 2 (omega arith) (omega arith) (omega arith) (omega arith)
    (record { run = runs 0 1 (omega arith); barrier = barrier_multiple (four_blocks 0) 0 (0, refl) })
    (record { run = runs 2 4 (omega arith); barrier = barrier_hole (four_blocks 0) 4 (beyond 4 (omega arith)) })
  where
    runs : (l r : ℕ) → r ≤ 4 → Run (four_blocks 0) l r l
    runs l r o i lt = here (l + i) (omega arith)

two_keys : rule_of_keys (cleared four_blocks 0 1 1) ≡ 2
unfolding rule_of_keys keyed
two_keys =
    sum _ _ (counted (keyed four_blocks) held_four (cleared four_blocks 0 1 1) 0 0 1 0 2 2 4
    (record { before = omega arith; between = omega arith; behind = omega arith; top = omega arith; low = omega arith; high = omega arith })
    (subst (λ (m : Placement). Mending m (cleared four_blocks 0 1 1) 0 0 1 0 2 2 4) (sym (placing_keyed four_blocks)) cutting)
    1 1 1 (one_piece 0 1 (omega arith) (omega arith) (ap (λ n. 0 + n) piece_0_1)) (one_piece 2 4 (omega arith) (omega arith) (ap (λ n. 2 + n) piece_2_4)) rest) one_key
  where
    gone : (f b : ℕ) → blend 0 0 4 none (keyed four_blocks) f b ≡ None
    gone f b = at (cases_eq f 0) (cases_lt b 4)
      where
        at : (f ≡ 0) ⊎ (f ≡ 0 → ⊥) → (b < 4) ⊎ (4 ≤ b) → blend 0 0 4 none (keyed four_blocks) f b ≡ None
        at (inr ne) _ = blend_out 0 0 4 none (keyed four_blocks) f b (inl ne) ∙ hole_key (four_blocks f) b (others f b ne)
        at (inl e) (inr o) =
            blend_out 0 0 4 none (keyed four_blocks) f b (inr (inr o)) ∙ hole_key (four_blocks f) b (ap (λ y. four_blocks y b) e ∙ beyond b o)
        at (inl e) (inl o) = ap (λ y. blend 0 0 4 none (keyed four_blocks) y b) e ∙ blend_in 0 0 4 none (keyed four_blocks) b (omega arith) o

    rest : 1 + tally (blend 0 0 4 none (keyed four_blocks)) ≡ tally (keyed four_blocks)
    rest = ones _ _ (tally_none (blend 0 0 4 none (keyed four_blocks)) gone) one_key
      where
        ones : (a b : ℕ) → a ≡ 0 → b ≡ 1 → 1 + a ≡ b
        ones a b x y = omega arith

    sum : (k h : ℕ) → k + 1 ≡ h + (1 + 1) → h ≡ 1 → k ≡ 2
    sum k h x y = omega arith

abbrev granted_if : Bool → Outcome
granted_if t = cond t (Err (fault_of TooManyKeys 0 1), four_blocks) (Ok tt, cleared four_blocks 0 1 1)

pub cut_in_two : CutInTwo
cut_in_two = record {
  one_key = one_key;
  two_keys = two_keys;
  refused = ap (λ k. granted_if (ltb 1 k)) two_keys;
  granted = ap (λ k. granted_if (ltb 2 k)) two_keys;
}
