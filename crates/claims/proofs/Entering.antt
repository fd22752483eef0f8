-- A board block that is taken and entered as the place of a block.
use Rattle.std.proofs.Common.{◌≡◌, ℕ, zero, suc, ◌+◌, ◌-◌, ◌<◌, ◌≤◌, Bool, true, false, cond, ◌&&◌, eqb, ltb, Some, None, Ok, Err, Option, Result, sym, refl, ap, ◌∙◌, ap₂, inl, inr, arith}
use mathlib.Core.Path.{fun_ext}
use Rattle.std.proofs.lemmas.Bool.{cases_eq, cond-false, ne_eqb, and_right}
use Rattle.std.proofs.lemmas.Bool.Decides.{nat_tests}
use Rattle.faults.specs.declared.Fault.{Fault}
use Rattle.faults.specs.declared.Ground.{Ground}
use Rattle.faults.specs.declared.Ground.TheVariants.{NoFreeBlock, TooManyKeys}
use Rattle.calls.specs.declared.StoreFault.{StoreFault}
use Rattle.calls.specs.declared.StoreFault.TheVariants.{FromMap}
use Rattle.blocks.specs.Blocks.{Placement, only, inside, changed}
use Rattle.ledger.specs.Free.{goal, first_free, free_from, or_else}
use Rattle.ledger.specs.Store.{put, own, map_full}
use Rattle.ledger.proofs.Search.{found_free}
use Rattle.maps.specs.Steps.{Outcome, fault_of, assign_step, ground_of_assign, assigned, lowest_mapped_block, here_or, if_room, unless_ground, unless_mapped}
use Rattle.pool.specs.Enter.{entered, map_answer, settled_answer, settled_taken}
use Rattle.pool.specs.Pool.{board_size, number_in, taken_also}
use Rattle.pool.proofs.Tokens.{Settled, by_answer, taken_and_settled}
use Rattle.pool.specs.declared.Refusal.{Refusal}
use Rattle.pool.specs.declared.Taken.{Taken}
use Rattle.claims.specs.Claims.{Claimed, by_map, claimed, claim_step}

-- ---- the search

-- on a board of no blocks nothing is found, whatever the goal
free_goal : (t : ℕ → Bool) (size from goal : ℕ) → (0 < size → from ≡ goal) → free_from t size from ≡ free_from t size goal
free_goal t zero from goal e = none from ∙ sym (none goal)
  where
    none : (k : ℕ) → free_from t 0 k ≡ None
    none k = ap (λ (n : ℕ). or_else (first_free t k n) None) (let z : 0 - k ≡ 0 = omega arith in z)
free_goal t (suc n) from goal e = ap (free_from t (suc n)) (e (omega arith))

whole_board : (size : ℕ) → size ≤ 4096 → board_size size ≡ size
whole_board size l = omega arith

-- ---- the map

-- one block that is assigned
assigned_one : (pl : Placement) (file block p : ℕ) → assigned pl file block 1 p ≡ changed pl file (only block) (λ _. Some p)
assigned_one pl file block p = fun_ext (λ f. fun_ext (λ b. one f b))
  where
    one : (f b : ℕ) → assigned pl file block 1 p f b ≡ changed pl file (only block) (λ _. Some p) f b
    one f b = elim (cases_eq b block) [
      | inl e ↦ ap₂ (λ (v : Bool) (q : ℕ). cond (eqb f file && v) (Some q) (pl f b))
          (let h : inside block 1 b ≡ eqb b block = grind (arith, nat_tests) in h) (let z : p + (b - block) ≡ p = omega arith in z)
      | inr d ↦ beside (eqb f file) (let h : inside block 1 b ≡ false = grind (arith, nat_tests) in h) (ne_eqb b block d)
    ]
      where
        beside : (v : Bool) → inside block 1 b ≡ false → eqb b block ≡ false
            → cond (v && inside block 1 b) (Some (p + (b - block))) (pl f b) ≡ cond (v && eqb b block) (Some p) (pl f b)
        beside v h k = cond-false _ _ _ (and_right v _ h) ∙ sym (cond-false _ _ _ (and_right v _ k))

assign_one : (rule : Placement → ℕ) (room : ℕ) (pl : Placement) (file block p : ℕ) → file < 65536 → block < 65536 → p < 4096 → pl file block ≡ None
    → assign_step rule room pl file block 1 p ≡ if_room rule room pl (changed pl file (only block) (λ _. Some p)) file block
unfolding lowest_mapped_block
assign_one rule room pl file block p lf lb lp un =
    let g : ground_of_assign file block 1 p ≡ None = grind (arith, nat_tests) in
    let m : lowest_mapped_block (pl file) block 1 ≡ None = ap (λ (o : Option ℕ). here_or o block None) un in
    ap (λ (o : Option Ground). unless_ground o pl file block (unless_mapped (lowest_mapped_block (pl file) block 1) pl file (if_room rule room pl (assigned pl file block 1 p) file block))) g
    ∙ ap (λ (o : Option ℕ). unless_mapped o pl file (if_room rule room pl (assigned pl file block 1 p) file block)) m
    ∙ ap (λ (q : Placement). if_room rule room pl q file block) (assigned_one pl file block p)

-- ---- the token

-- what the store makes of the place or the map's fault
abbrev pub lifted : Result ℕ Fault → Result ℕ StoreFault
lifted (Ok p) = Ok p
lifted (Err f) = Err (FromMap f)

lift : Settled → Placement → Claimed
lift w q = (lifted w.0, w.1, q)

lift_answer : (t : ℕ → Bool) (p : ℕ) (out : Outcome) → ◌≡◌ {A = Claimed} (lift (by_answer t p out.0) out.1) (by_map t p out)
unfolding lift
lift_answer t p (Ok u, q) = refl
lift_answer t p (Err f, q) = refl

-- ---- both together

pub entered_claim : (rule : Placement → ℕ) (room size file block from goal : ℕ) (t t1 t2 : ℕ → Bool) (pl pl₁ q : Placement) (room₁ : ℕ) (o : Option Taken) (token : Taken)
    (er : Result ℕ Refusal) (ans : Result ℕ Fault)
    → room₁ ≡ room → pl₁ ≡ pl → (0 < size → from ≡ goal)
    → number_in o ≡ free_from t (board_size size) from → o ≡ Some token → t1 ≡ taken_also t (free_from t (board_size size) from)
    → er ≡ entered token (map_answer er) → ◌≡◌ {A = Outcome} (map_answer er, q) (assign_step rule room₁ pl₁ file block 1 token.number)
    → ans ≡ settled_answer er → t2 ≡ settled_taken t1 er
    → ◌≡◌ {A = Claimed} (lifted ans, t2, q) (claimed rule room t pl file block (free_from t (board_size size) goal))
unfolding lift
entered_claim rule room size file block from goal t t1 t2 pl pl₁ q room₁ o token er ans er₁ es eg f is a h s an b =
    let p = token.number in
    let z = taken_and_settled t t1 t2 (board_size size) from o token er ans f is a h an b in
    let e : free_from t (board_size size) goal ≡ Some p = sym (free_goal t (board_size size) from goal (λ l. eg (omega arith))) ∙ z.0 in
    ap (λ (w : Settled). lift w q) z.1
    ∙ ap (λ (out : Outcome). lift (by_answer t p out.0) out.1) (s ∙ ap₂ (λ (k : ℕ) (w : Placement). assign_step rule k w file block 1 p) er₁ es)
    ∙ lift_answer t p (assign_step rule room pl file block 1 p)
    ∙ sym (ap (claimed rule room t pl file block) e)

-- ---- a block within the numbers that has no place

-- The block with this place, unless the map then calls for more keys than it has room for.
abbrev pub entering : (Placement → ℕ) → ℕ → (ℕ → Bool) → Placement → ℕ → ℕ → Option ℕ → Claimed
entering rule room t pl file block None = (Err (own NoFreeBlock file block), t, pl)
entering rule room t pl file block (Some p) = cond (ltb room (rule (changed pl file (only block) (λ _. Some p))))
    (Err (map_full file block), t, pl) (Ok p, put t p true, changed pl file (only block) (λ _. Some p))

pub claims_within : (rule : Placement → ℕ) (room size : ℕ) (t : ℕ → Bool) (pl : Placement) (file block : ℕ)
    → file < 65536 → block < 65536 → size ≤ 4096 → pl file block ≡ None
    → claim_step rule room size t pl file block ≡ entering rule room t pl file block (free_from t size (goal size (pl file) block))
claims_within rule room size t pl file block lf lb ls un =
    ap (λ (n : ℕ). claimed rule room t pl file block (free_from t n (goal size (pl file) block))) (whole_board size ls)
    ∙ go (free_from t size (goal size (pl file) block)) refl
  where
    by_room : (p : ℕ) (v : Bool) → ◌≡◌ {A = Claimed} (by_map t p (cond v (Err (fault_of TooManyKeys file block), pl) (Ok tt, changed pl file (only block) (λ _. Some p))))
        (cond v (Err (map_full file block), t, pl) (Ok p, put t p true, changed pl file (only block) (λ _. Some p)))
    by_room p true = refl
    by_room p false = refl

    go : (o : Option ℕ) → free_from t size (goal size (pl file) block) ≡ o → claimed rule room t pl file block o ≡ entering rule room t pl file block o
    go None e = refl
    go (Some p) e =
        let free = found_free t size (goal size (pl file) block) p e in
        ap (by_map t p) (assign_one rule room pl file block p lf lb (omega (arith, free.0)) un)
        ∙ by_room p (ltb room (rule (changed pl file (only block) (λ _. Some p))))
