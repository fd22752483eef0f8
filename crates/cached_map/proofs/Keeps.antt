-- Which blocks stay where they are when a map is changed.
use Rattle.std.proofs.Common.{◌≡◌, ℕ, zero, suc, ◌+◌, ◌-◌, ◌<◌, ◌≤◌, Bool, true, false, cond, ◌&&◌, eqb, ltb, leb, ◌⊎◌, Some, None, Ok, Option, Result, sym, refl, ap, ◌∙◌, inl, inr, arith}
use Rattle.std.proofs.lemmas.Bool.{cases_Bool, cases_eq, cases_lt, and_parts, and_from, leb-true, ltb-true, eqb-true, le-leb, lt-ltb, le-ltb, eq-eqb, cond-false, both_ways}
use Rattle.faults.specs.declared.Fault.{Fault}
use Rattle.faults.specs.declared.Ground.{Ground}
use Rattle.faults.specs.declared.Ground.TheVariants.{File, Block}
use Rattle.blocks.specs.Blocks.{Placement, inside, every, changed}
use Rattle.blocks.proofs.Changes.{changed_elsewhere}
use Rattle.cached_map.proofs.Truth.{none_some}
use Rattle.maps.specs.Steps.{Outcome, answer, ground_of_block, find_answer, lowest_mapped_block, here_or, unless_ground, unless_mapped, if_room, assigned, cleared, ground_of_extent, ground_of_assign, ground_of_file, assign_step, clear_step, forget_step}

-- ---- a block that is mapped is found

-- Blocks past the numbers are not mapped.
abbrev pub Within : Placement → Type 0
Within p = (f b : ℕ) → (65536 ≤ f) ⊎ (65536 ≤ b) → p f b ≡ None

mapped_numbers : (p : Placement) (f b v : ℕ) → Within p → p f b ≡ Some v → (f < 65536) × (b < 65536)
mapped_numbers p f b v w e = (low f (cases_lt f 65536) (λ l. w f b (inl l)), low b (cases_lt b 65536) (λ l. w f b (inr l)))
  where
    low : (n : ℕ) → (n < 65536) ⊎ (65536 ≤ n) → (65536 ≤ n → p f b ≡ None) → n < 65536
    low n (inl l) h = l
    low n (inr l) h = absurd (none_some v (sym (h l) ∙ e))

block_good : (file block : ℕ) → file < 65536 → block < 65536 → ground_of_block file block ≡ None
block_good file block l m =
    cond-false (ltb 65535 file) (Some File) (cond (ltb 65535 block) (Some Block) None) (le-ltb 65535 file (omega arith))
    ∙ cond-false (ltb 65535 block) (Some Block) None (le-ltb 65535 block (omega arith))

pub found_answer : (p : Placement) (file block v : ℕ) → Within p → p file block ≡ Some v → Ok (Some v) ≡ find_answer p file block
found_answer p file block v w e =
    let n = mapped_numbers p file block v w e in
    ap (λ (o : Option ℕ). Ok o) (sym e) ∙ ap (λ (g : Option Ground). answer file block g (p file block)) (sym (block_good file block n.0 n.1))

-- A block that is found is mapped.
pub answered : (p : Placement) (file block v : ℕ) → Ok (Some v) ≡ find_answer p file block → p file block ≡ Some v
answered p file block v e = at (ground_of_block file block) e
  where
    at : (g : Option Ground) → ◌≡◌ {A = Result (Option ℕ) Fault} (Ok (Some v)) (answer file block g (p file block)) → p file block ≡ Some v
    at None k = cc
    at (Some g) k = absurd (let z : ◌≡◌ {A = ℕ} 0 1 = cc in omega arith)

-- ---- what a change leaves

stays : (p : Placement) (file : ℕ) (chosen : ℕ → Bool) (g : ℕ → Option ℕ) (f b v : ℕ)
    → p f b ≡ Some v → (eqb f file && chosen b) ≡ false → changed p file chosen g f b ≡ Some v
stays p file chosen g f b v e n = cond-false (eqb f file && chosen b) (g b) (p f b) n ∙ e

after_ground : (g : Option Ground) (p : Placement) (file first : ℕ) (o : Outcome) (f b v : ℕ)
    → p f b ≡ Some v → o.1 f b ≡ Some v → (unless_ground g p file first o).1 f b ≡ Some v
after_ground None p file first o f b v e k = k
after_ground (Some g) p file first o f b v e k = e

after_mapped : (m : Option ℕ) (p : Placement) (file : ℕ) (o : Outcome) (f b v : ℕ)
    → p f b ≡ Some v → (m ≡ None → o.1 f b ≡ Some v) → (unless_mapped m p file o).1 f b ≡ Some v
after_mapped None p file o f b v e k = k refl
after_mapped (Some x) p file o f b v e k = e

after_room : (rule : Placement → ℕ) (room : ℕ) (p q : Placement) (file first f b v : ℕ)
    → p f b ≡ Some v → q f b ≡ Some v → (if_room rule room p q file first).1 f b ≡ Some v
after_room rule room p q file first f b v e k = at (ltb room (rule q)) (_) (_)
  where
    at : (t : Bool) (x y : Result (Unit {0}) Fault) → (cond {A = Outcome} t (x, p) (y, q)).1 f b ≡ Some v
    at true x y = e
    at false x y = k

here_none : (o : Option ℕ) (b : ℕ) (r : Option ℕ) → here_or o b r ≡ None → (o ≡ None) × (r ≡ None)
here_none None b r e = (refl, e)
here_none (Some x) b r e = absurd (none_some b (sym e))

-- Where no block of an extent is mapped, none is.
lowest_none : (m : ℕ → Option ℕ) (first n b : ℕ) → lowest_mapped_block m first n ≡ None → first ≤ b → b < first + n → m b ≡ None
unfolding lowest_mapped_block
lowest_none m first zero b e l h = absurd (omega arith)
lowest_none m first (suc n) b e l h =
    let s = here_none (m first) first (lowest_mapped_block m (suc first) n) e in
    elim (cases_eq b first) [
      | inl q ↦ ap m q ∙ s.0
      | inr q ↦ lowest_none m (suc first) n b s.1 (omega arith) (omega arith)
    ]

-- ---- the three changes

module _ (p q : Placement) (r : Result (Unit {0}) Fault) where
  -- An assign moves no block that was mapped.
  pub assign_keeps : (rule : Placement → ℕ) (room file first n board : ℕ) → ◌≡◌ {A = Outcome} (r, q) (assign_step rule room p file first n board)
      → (f b v : ℕ) → p f b ≡ Some v → q f b ≡ Some v
  assign_keeps rule room file first n board s f b v e =
      ap (λ (o : Outcome). o.1 f b) s
      ∙ after_ground (ground_of_assign file first n board) p file first _ f b v e
      (after_mapped (lowest_mapped_block (p file) first n) p file _ f b v e
      (λ none. after_room rule room p (assigned p file first n board) file first f b v e
      (stays p file (inside first n) (λ x. Some (board + (x - first))) f b v e (outside none (cases_Bool (eqb f file && inside first n b))))))
    where
      outside : lowest_mapped_block (p file) first n ≡ None → ((eqb f file && inside first n b) ≡ true) ⊎ ((eqb f file && inside first n b) ≡ false)
          → (eqb f file && inside first n b) ≡ false
      outside none (inr k) = k
      outside none (inl k) =
          let a = and_parts (eqb f file) (inside first n b) k in
          let i = and_parts (leb first b) (ltb b (first + n)) a.1 in
          absurd (none_some v (sym (lowest_none (p file) first n b none (leb-true first b i.0) (ltb-true b (first + n) i.1))
          ∙ ap (λ x. p x b) (sym (eqb-true f file a.0)) ∙ e))

  -- A clear moves no block outside its extent.
  pub clear_keeps : (rule : Placement → ℕ) (room file first n : ℕ) → ◌≡◌ {A = Outcome} (r, q) (clear_step rule room p file first n)
      → (f b v : ℕ) → p f b ≡ Some v → (eqb f file && inside first n b) ≡ false → q f b ≡ Some v
  clear_keeps rule room file first n s f b v e k =
      ap (λ (o : Outcome). o.1 f b) s
      ∙ after_ground (ground_of_extent file first n) p file first _ f b v e
      (after_room rule room p (cleared p file first n) file first f b v e (stays p file (inside first n) (λ _. None) f b v e k))

  -- A forget moves no block of another file.
  pub forget_keeps : (file : ℕ) → Within p → ◌≡◌ {A = Outcome} (r, q) (forget_step p file)
      → (f b v : ℕ) → p f b ≡ Some v → (eqb f file && inside 0 65536 b) ≡ false → q f b ≡ Some v
  forget_keeps file w s f b v e k =
      ap (λ (o : Outcome). o.1 f b) s
      ∙ after_ground (ground_of_file file) p file 0 _ f b v e (changed_elsewhere p file every (λ _. None) f b other ∙ e)
    where
      other : f ≡ file → ⊥
      other z =
          let n = mapped_numbers p f b v w e in
          both_ways (eqb f file && inside 0 65536 b) k
          (and_from (eqb f file) (inside 0 65536 b) (eq-eqb f file z)
          (and_from (leb 0 b) (ltb b (0 + 65536)) (le-leb 0 b (omega arith)) (lt-ltb b (0 + 65536) (omega (arith, n.1)))))
