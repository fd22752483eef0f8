-- What the calls of a map come to where one key stands for each mapped block.
use Rattle.std.specs.Prelude.{◌≡◌, ℕ, ◌+◌, ◌-◌, ◌<◌, ◌≤◌, Bool, true, false, cond, ◌&&◌, ◌⊎◌, is_some, Some, None, Ok, Err, Option, Result, ◌==◌, nat_le, nat_lt, refl}
use Rattle.std.proofs.Common.{sym, ap, subst, ◌∙◌, inl, inr, arith}
use Rattle.std.proofs.Math.Path.{fun_ext}
use Rattle.std.specs.Option.{option_map}
use Rattle.std.proofs.lemmas.Bool.{cases_Bool, and_parts, leb-true, ltb-true, cond-true, cond-false, lt-ltb, le-ltb}
use Rattle.faults.specs.declared.Fault.{Fault}
use Rattle.faults.specs.declared.Ground.{Ground}
use Rattle.faults.specs.declared.Ground.TheVariants.{TooManyKeys}
use Rattle.blocks.specs.Blocks.{Placement, inside, every, changed, one, tally}
use Rattle.blocks.specs.declared.Entry.{Entry}
use Rattle.blocks.proofs.Sums.{tally_fewer}
use Rattle.tables.specs.declared.row.Row.{Row}
use Rattle.tables.specs.Holding.{Holding, lowest_row}
use Rattle.maps.specs.Steps.{Outcome, answer, fault_of, lowest_mapped_block, unless_ground, unless_mapped, if_room, assigned, cleared, forgotten, next_answer, ground_of_block, ground_of_extent, ground_of_assign, ground_of_file, assign_step, clear_step, forget_step}
use Rattle.block_map.specs.BlockKeys.{placed_by, Single, single}
use Rattle.block_map.specs.Extending.{tally_run}
use Rattle.block_map.specs.Lowest.{none_some, free_when_none, next_is}

-- ---- what keys say

-- A change of the keys changes what they say.
pub placed_changed : (h : Holding) (file : ℕ) (chosen : ℕ → Bool) (g : ℕ → Option Entry)
    → placed_by (changed h file chosen g) ≡ changed (placed_by h) file chosen (λ b. option_map (λ (e : Entry). e.board) (g b))
placed_changed h file chosen g = fun_ext (λ f. fun_ext (λ b. at (f == file && chosen b) (g b) (h f b)))
  where
    at : (t : Bool) (x y : Option Entry)
        → option_map (λ (e : Entry). e.board) (cond t x y) ≡ cond t (option_map (λ (e : Entry). e.board) x) (option_map (λ (e : Entry). e.board) y)
    at true x y = refl
    at false x y = refl

same_one : (o : Option Entry) → one (is_some (option_map (λ (e : Entry). e.board) o)) ≡ one (is_some o)
same_one None = refl
same_one (Some x) = refl

-- As many blocks are mapped as keys are held.
pub tally_placed : (h : Holding) → tally (placed_by h) ≡ tally h
tally_placed h =
    let a = tally_fewer (placed_by h) h (λ f b. let z = same_one (h f b) in omega arith) in
    let b = tally_fewer h (placed_by h) (λ f b. let z = same_one (h f b) in omega arith) in
    omega arith

-- ---- what is out is not counted

taken_out : (t : Bool) (o : Option ℕ) → one (is_some (cond t None o)) ≤ one (is_some o)
taken_out true None = omega arith
taken_out true (Some x) = omega arith
taken_out false o = omega arith

pub tally_out : (p : Placement) (file : ℕ) (chosen : ℕ → Bool) → tally (changed p file chosen (λ _. None)) ≤ tally p
tally_out p file chosen = tally_fewer (changed p file chosen (λ _. None)) p (λ f b. taken_out (f == file && chosen b) (p f b))

-- ---- keys that stand for one block

single_changed : (h : Holding) (file : ℕ) (chosen : ℕ → Bool) (g : ℕ → Option Entry)
    → ((b : ℕ) (e : Entry) → chosen b ≡ true → g b ≡ Some e → (e.length ≡ 1) × (e.board < 4096)) → Single h → Single (changed h file chosen g)
single_changed h file chosen g new s f b e k = at (cases_Bool (f == file && chosen b))
  where
    at : ((f == file && chosen b) ≡ true) ⊎ ((f == file && chosen b) ≡ false) → (e.length ≡ 1) × (e.board < 4096)
    at (inl y) = new b e (and_parts (f == file) (chosen b) y).1 (sym (cond-true (f == file && chosen b) (g b) (h f b) y) ∙ k)
    at (inr n) = s f b e (sym (cond-false (f == file && chosen b) (g b) (h f b) n) ∙ k)

some_is : (x y : Entry) → ◌≡◌ {A = Option Entry} (Some x) (Some y) → x ≡ y
some_is x y e = cc

pub single_put : (h h' : Holding) (file first n board : ℕ) → board + n ≤ 4096 → h' ≡ changed h file (inside first n) (single first board) → Single h → Single h'
single_put h h' file first n board l e s =
    subst Single (sym e) (single_changed h file (inside first n) (single first board) (λ b x i k.
    let q = some_is (record { length = 1; board = board + (b - first) }) x k in
    let a = and_parts (nat_le first b) (nat_lt b (first + n)) i in
    let low = leb-true first b a.0 in
    let high = ltb-true b (first + n) a.1 in
    (sym (ap (λ (z : Entry). z.length) q), subst (λ (z : Entry). z.board < 4096) q (let z : board + (b - first) < 4096 = omega arith in z))) s)

pub single_out : (h h' : Holding) (file : ℕ) (chosen : ℕ → Bool) → h' ≡ changed h file chosen (λ _. None) → Single h → Single h'
single_out h h' file chosen e s = subst Single (sym e) (single_changed h file chosen (λ _. None) (λ b x _ k. absurd (none_some x k)) s)

-- What lies somewhere lies on the board.
pub placed_low : (h : Holding) (f b p : ℕ) → Single h → placed_by h f b ≡ Some p → p < 4096
placed_low h f b p s e = at (h f b) (λ x. s f b x) e
  where
    at : (o : Option Entry) → ((x : Entry) → o ≡ Some x → (x.length ≡ 1) × (x.board < 4096)) → option_map (λ (e : Entry). e.board) o ≡ Some p → p < 4096
    at None k q = absurd (none_some p q)
    at (Some x) k q = let z : x.board ≡ p = cc in let l = (k x refl).1 in omega arith

-- ---- the calls

-- A call that is answered was not refused.
pub not_refused : {X : Type 0} (g : Option Ground) (file block : ℕ) (x y : X) → ◌≡◌ {A = Result X Fault} (Ok x) (answer file block g y) → (g ≡ None) × (x ≡ y)
not_refused None file block x y e = (refl, cc)
not_refused (Some g) file block x y e = absurd (let z : ◌≡◌ {A = ℕ} 0 1 = cc in omega arith)

granted : (room : ℕ) (p q : Placement) (file first : ℕ) → tally q ≤ room → if_room (λ (z : Placement). tally z) room p q file first ≡ (Ok tt, q)
granted room p q file first l = cond-false (nat_lt room (tally q)) (Err (fault_of TooManyKeys file first), p) (Ok tt, q) (le-ltb room (tally q) l)

too_many : (room : ℕ) (p q : Placement) (file first : ℕ) → room < tally q → if_room (λ (z : Placement). tally z) room p q file first ≡ (Err (fault_of TooManyKeys file first), p)
too_many room p q file first l = cond-true (nat_lt room (tally q)) (Err (fault_of TooManyKeys file first), p) (Ok tt, q) (lt-ltb room (tally q) l)

abbrev rule : Placement → ℕ
rule p = tally p

pub next_done : (h : Holding) (file block narrow_file narrow_block : ℕ) (o : Option ℕ)
    → ◌≡◌ {A = Result (ℕ × ℕ) Fault} (Ok (narrow_file, narrow_block)) (answer file block (ground_of_block file block) (file, block)) → narrow_block < 65536
    → o ≡ option_map (λ (r : Row). r.block) (lowest_row h narrow_file narrow_block) → ◌≡◌ {A = Result (Option ℕ) Fault} (Ok o) (next_answer (placed_by h) file block)
next_done h file block narrow_file narrow_block o ok l e =
    let named = not_refused (ground_of_block file block) file block (narrow_file, narrow_block) (file, block) ok in
    ap (λ (z : Option ℕ). Ok z) (e ∙ next_is h narrow_file narrow_block l
    ∙ ap (λ (z : ℕ × ℕ). lowest_mapped_block (placed_by h z.0) z.1 (65536 - z.1)) named.1)
    ∙ sym (ap (λ (g : Option Ground). answer file block g (lowest_mapped_block (placed_by h file) block (65536 - block))) named.0)

-- what the call has named
abbrev Named : Type 0
Named = ℕ × ℕ × ℕ

pub clear_done : (h h' : Holding) (room file first n : ℕ) (e : Named)
    → ◌≡◌ {A = Result Named Fault} (Ok e) (answer file first (ground_of_extent file first n) (file, first, n))
    → tally h ≤ room → h' ≡ changed h e.0 (inside e.1 e.2) (λ _. None)
    → ◌≡◌ {A = Outcome} (Ok tt, placed_by h') (clear_step rule room (placed_by h) file first n)
clear_done h h' room file first n e ok l after =
    let p = placed_by h in
    let q = cleared p file first n in
    let fewer : tally q ≤ tally p = tally_out p file (inside first n) in
    let keys = tally_placed h in
    let named = not_refused (ground_of_extent file first n) file first e (file, first, n) ok in
    ap (λ (z : Placement). (Ok tt, z)) (ap placed_by (after ∙ ap (λ (z : Named). changed h z.0 (inside z.1 z.2) (λ _. None)) named.1)
    ∙ placed_changed h file (inside first n) (λ _. None))
    ∙ sym (granted room p q file first (omega arith))
    ∙ sym (ap (λ (g : Option Ground). unless_ground g p file first (if_room rule room p q file first)) named.0)

pub forget_done : (h h' : Holding) (file narrow : ℕ) (other : ℕ)
    → ◌≡◌ {A = Result (ℕ × ℕ) Fault} (Ok (narrow, other)) (answer file 0 (ground_of_file file) (file, 0))
    → h' ≡ changed h narrow every (λ _. None) → ◌≡◌ {A = Outcome} (Ok tt, placed_by h') (forget_step (placed_by h) file)
forget_done h h' file narrow other ok after =
    let named = not_refused (ground_of_file file) file 0 (narrow, other) (file, 0) ok in
    ap (λ (z : Placement). (Ok tt, z)) (ap placed_by (after ∙ ap (λ (z : ℕ × ℕ). changed h z.0 every (λ _. None)) named.1) ∙ placed_changed h file every (λ _. None))
    ∙ sym (ap (λ (g : Option Ground). unless_ground g (placed_by h) file 0 (Ok tt, forgotten (placed_by h) file)) named.0)

-- Blocks are assigned that are not mapped, of an extent whose ground of refusal is none.
module _ (h : Holding) (room file first n board : ℕ) (lf : file < 65536) (ln : first + n ≤ 65536)
    (free : ground_of_assign file first n board ≡ None) (none : None ≡ lowest_mapped_block (placed_by h file) first n) where
  -- Each block of the extent is mapped anew.
  tally_assigned : tally (assigned (placed_by h) file first n board) ≡ tally h + n
  tally_assigned =
      tally_run (placed_by h) file first n (λ b. Some (board + (b - first))) lf ln
      (λ b l m. ap (option_map (λ (e : Entry). e.board)) (free_when_none h file first n none b l m)) (λ b. refl)
      ∙ ap (λ (z : ℕ). z + n) (tally_placed h)

  reached : (o : Outcome) → if_room rule room (placed_by h) (assigned (placed_by h) file first n board) file first ≡ o
      → o ≡ assign_step rule room (placed_by h) file first n board
  reached o e =
      sym e
      ∙ ap (λ (z : Option ℕ). unless_mapped z (placed_by h) file (if_room rule room (placed_by h) (assigned (placed_by h) file first n board) file first)) none
      ∙ sym (ap (λ (g : Option Ground). unless_ground g (placed_by h) file first
      (unless_mapped (lowest_mapped_block (placed_by h file) first n) (placed_by h) file (if_room rule room (placed_by h) (assigned (placed_by h) file first n board) file first)))
      free)

  full_step : room < tally h + n → ◌≡◌ {A = Outcome} (Err (fault_of TooManyKeys file first), placed_by h) (assign_step rule room (placed_by h) file first n board)
  full_step l =
      let k = tally_assigned in
      reached (Err (fault_of TooManyKeys file first), placed_by h) (too_many room (placed_by h) (assigned (placed_by h) file first n board) file first (omega arith))

  done_step : (h' : Holding) → tally h + n ≤ room → h' ≡ changed h file (inside first n) (single first board)
      → ◌≡◌ {A = Outcome} (Ok tt, placed_by h') (assign_step rule room (placed_by h) file first n board)
  done_step h' l e =
      let k = tally_assigned in
      ap (λ (z : Placement). (Ok tt, z)) (ap placed_by e ∙ placed_changed h file (inside first n) (single first board))
      ∙ reached (Ok tt, assigned (placed_by h) file first n board) (granted room (placed_by h) (assigned (placed_by h) file first n board) file first (omega arith))

-- The same of an extent that the call has named.
module _ (h : Holding) (room file first n board : ℕ) (e : Named)
    (ok : ◌≡◌ {A = Result Named Fault} (Ok e) (answer file first (ground_of_assign file first n board) (file, first, n))) where
  named : (ground_of_assign file first n board ≡ None) × (e ≡ (file, first, n))
  named = not_refused (ground_of_assign file first n board) file first e (file, first, n) ok

  pub named_n : e.2 ≡ n
  named_n = ap (λ (z : Named). z.2) named.1

  pub assign_full : e.0 < 65536 → e.1 + e.2 ≤ 65536 → None ≡ lowest_mapped_block (placed_by h e.0) e.1 e.2 → room < tally h + n
      → ◌≡◌ {A = Outcome} (Err (fault_of TooManyKeys file first), placed_by h) (assign_step rule room (placed_by h) file first n board)
  assign_full =
      subst (λ (z : Named). z.0 < 65536 → z.1 + z.2 ≤ 65536 → None ≡ lowest_mapped_block (placed_by h z.0) z.1 z.2 → room < tally h + n
      → ◌≡◌ {A = Outcome} (Err (fault_of TooManyKeys file first), placed_by h) (assign_step rule room (placed_by h) file first n board))
      (sym named.1) (λ lf ln none l. full_step h room file first n board lf ln named.0 none l)

  pub assign_done : (h' : Holding) → e.0 < 65536 → e.1 + e.2 ≤ 65536 → None ≡ lowest_mapped_block (placed_by h e.0) e.1 e.2 → tally h + n ≤ room
      → h' ≡ changed h e.0 (inside e.1 e.2) (single e.1 board)
      → ◌≡◌ {A = Outcome} (Ok tt, placed_by h') (assign_step rule room (placed_by h) file first n board)
  assign_done h' =
      subst (λ (z : Named). z.0 < 65536 → z.1 + z.2 ≤ 65536 → None ≡ lowest_mapped_block (placed_by h z.0) z.1 z.2 → tally h + n ≤ room
      → h' ≡ changed h z.0 (inside z.1 z.2) (single z.1 board)
      → ◌≡◌ {A = Outcome} (Ok tt, placed_by h') (assign_step rule room (placed_by h) file first n board))
      (sym named.1) (λ lf ln none l after. done_step h room file first n board lf ln named.0 none h' l after)
