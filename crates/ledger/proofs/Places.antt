-- Where a granted write goes, and where a granted read comes from.
use Rattle.std.proofs.Common.{◌≡◌, ℕ, ◌+◌, ◌-◌, ◌%◌, ◌≤◌, Bool, true, false, cond, eqb, length, is_some, Some, None, Ok, Err, Option, Result, refl, ap, ◌∙◌, subst, inl, inr, arith}
use Rattle.std.proofs.lemmas.Nat.{mod_below}
use Rattle.std.proofs.lemmas.Bool.{cases_eq, cond-true, cond-false, eq-eqb, ne_eqb, eqb-true, eqb-false}
use Rattle.blocks.specs.Blocks.{only, changed}
use Rattle.faults.specs.declared.Ground.{Ground}
use Rattle.calls.specs.Answers.{is_from_board}
use Rattle.calls.specs.declared.Granted.TheVariants.{Wrote, Showed}
use Rattle.calls.specs.declared.Source.{Source}
use Rattle.calls.specs.declared.StoreFault.{StoreFault}
use Rattle.calls.specs.declared.Written.{Written}
use Rattle.calls.specs.declared.Written.TheVariants.{Lower, Board}
use Rattle.ledger.specs.Free.{before, wanted, goal, NearestFree}
use Rattle.ledger.specs.Store.{Shape, State, map_full, unless, overfull, bad_write, takes, writes, free_for, write_answer, bad_read, source, read_answer, as_any}
use Rattle.ledger.specs.Where.{TakesNearest, Goes, WritesWhere, ReadsWhere}
use Rattle.ledger.proofs.Admits.{admitted_write}
use Rattle.ledger.proofs.Search.{found_free, nearest}

-- what a grant says, if it is one
abbrev Granting : {X : Type 0} → (X → Type 0) → Result X StoreFault → Type 0
Granting P (Ok x) = P x
Granting P (Err f) = Unit {0}

err_ok : {X Y : Type 0} {f : StoreFault} {x : X} → ◌≡◌ {A = Result X StoreFault} (Err f) (Ok x) → Y
err_ok {X} {Y} {f} {x} e = let z : ◌≡◌ {A = ℕ} 0 1 = cc in absurd (omega arith)

written_in : (r : Result Written StoreFault) (w : Written) → as_any Wrote r ≡ Ok (Wrote w) → r ≡ Ok w
written_in (Ok x) w e = let z : x ≡ w = cc in ap Ok z
written_in (Err f) w e = err_ok e

shown_in : (r : Result Source StoreFault) (w : Source) → as_any Showed r ≡ Ok (Showed w) → r ≡ Ok w
shown_in (Ok x) w e = let z : x ≡ w = cc in ap Ok z
shown_in (Err f) w e = err_ok e

-- The search begins below the size, and finds the nearest.
found_nearest : (sh : Shape) (s : State) (file block p : ℕ) → free_for sh s file block ≡ Some p
    → NearestFree s.taken sh.size (goal sh.size (s.place file) block) (Some p)
found_nearest sh s file block p e =
    let l = (found_free s.taken sh.size (goal sh.size (s.place file) block) p e).0 in
    let low = mod_below (wanted (before (s.place file) block) block) sh.size (omega arith) in
    subst (NearestFree s.taken sh.size (goal sh.size (s.place file) block)) e (nearest s.taken sh.size (goal sh.size (s.place file) block) low)

-- Where the search begins, as the rule words it.
goal_behind : (size : ℕ) (row : ℕ → Option ℕ) (block b q : ℕ) → block ≡ b + 1 → row b ≡ Some q → goal size row block ≡ (q + 1) % size
goal_behind size row block b q e r =
    let back : block - 1 ≡ b = omega arith in
    let at : before row block ≡ Some q = cond-false (eqb block 0) None (row (block - 1)) (ne_eqb block 0 (λ z. omega arith)) ∙ (ap row back ∙ r) in
    ap (λ (o : Option ℕ). wanted o block % size) at

goal_alone : (size : ℕ) (row : ℕ → Option ℕ) (block : ℕ) → ((b : ℕ) → block ≡ b + 1 → row b ≡ None) → goal size row block ≡ block % size
goal_alone size row block none = ap (λ (o : Option ℕ). wanted o block % size) (elim (cases_eq block 0) [
  | inl z ↦ cond-true (eqb block 0) None (row (block - 1)) (eq-eqb block 0 z)
  | inr d ↦ cond-false (eqb block 0) None (row (block - 1)) (ne_eqb block 0 d) ∙ none (block - 1) (omega arith)
])

takes_nearest : (sh : Shape) (s : State) (file block p : ℕ) → free_for sh s file block ≡ Some p → TakesNearest sh s file block p
takes_nearest sh s file block p e =
    let from : ℕ → Type 0 = λ g. NearestFree s.taken sh.size g (Some p) in
    let found = found_nearest sh s file block p e in
    record {
      behind = λ b q h r. subst from (goal_behind sh.size (s.place file) block b q h r) found;
      alone = λ none. subst from (goal_alone sh.size (s.place file) block none) found;
    }

goes : (sh : Shape) (s : State) (file block mark len : ℕ) → Granting (Goes sh s file block mark) (write_answer sh s file block mark len)
goes sh s file block mark len = admitted (bad_write sh file block mark len) refl
  where
    roomy : s.place file block ≡ None → mark ≡ 1 → (p : ℕ) → free_for sh s file block ≡ Some p → (v : Bool)
        → Granting (Goes sh s file block mark) (cond v (Err (map_full file block)) (Ok (Board p true)))
    roomy e m p h true = tt
    roomy e m p h false = (e, m, takes_nearest sh s file block p h)

    free : s.place file block ≡ None → mark ≡ 1 → (o : Option ℕ) → free_for sh s file block ≡ o → Granting (Goes sh s file block mark) (takes sh s.place file block o)
    free e m None h = tt
    free e m (Some p) h = roomy e m p h (overfull sh (changed s.place file (only block) (λ _. Some p)))

    marked : s.place file block ≡ None → mark ≤ 1 → (v : Bool) → eqb mark 0 ≡ v
        → Granting (Goes sh s file block mark) (cond v (Ok Lower) (takes sh s.place file block (free_for sh s file block)))
    marked e m true h = (e, eqb-true mark 0 h)
    marked e m false h = free e (let d = eqb-false mark 0 h in omega arith) (free_for sh s file block) refl

    mapped : mark ≤ 1 → (o : Option ℕ) → s.place file block ≡ o → Granting (Goes sh s file block mark) (writes sh s.place file block mark (free_for sh s file block) o)
    mapped m (Some p) e = e
    mapped m None e = marked e m (eqb mark 0) refl

    admitted : (o : Option Ground) → bad_write sh file block mark len ≡ o
        → Granting (Goes sh s file block mark) (unless o file block (writes sh s.place file block mark (free_for sh s file block) (s.place file block)))
    admitted (Some g) e = tt
    admitted None e = mapped (admitted_write sh file block mark len e).0 (s.place file block) refl

pub writes_where : WritesWhere
writes_where sh s file block mark sent w e =
    subst (Granting (Goes sh s file block mark)) (written_in (write_answer sh s file block mark (length sent)) w e) (goes sh s file block mark (length sent))

comes : (s : State) (file block : ℕ) (o : Option Ground)
    → Granting (λ from. is_from_board from ≡ is_some (s.place file block)) (unless o file block (Ok (source (s.place file block))))
comes s file block (Some g) = tt
comes s file block None = of (s.place file block)
  where
    of : (o : Option ℕ) → is_from_board (source o) ≡ is_some o
    of (Some p) = refl
    of None = refl

pub reads_where : ReadsWhere
reads_where sh s file block buffer from e =
    subst (Granting (λ x. is_from_board x ≡ is_some (s.place file block))) (shown_in (read_answer sh s file block (length buffer)) from e)
    (comes s file block (bad_read sh file block (length buffer)))
