-- When the arguments of a call admit it, and what it is answered then, case by case.
use Rattle.std.proofs.Common.{◌≡◌, ℕ, ◌+◌, ◌<◌, ◌≤◌, true, false, not, eqb, ltb, ◌≢◌, Some, None, Ok, Err, Option, ap, ◌∙◌, arith}
use Rattle.std.proofs.lemmas.Bool.{cond-true, cond-false, eq-eqb, ne_eqb}
use Rattle.std.proofs.lemmas.Bool.Decides.{nat_tests}
use Rattle.blocks.specs.Blocks.{Placement, only, inside, every, changed}
use Rattle.faults.specs.declared.Ground.{Ground}
use Rattle.faults.specs.declared.Ground.TheVariants.{File}
use Rattle.calls.specs.declared.Written.TheVariants.{Lower, Board}
use Rattle.ledger.specs.Store.{Shape, State, own, map_full, unless, overfull, bad_write, takes, writes, free_for, write_answer, bad_read, read_answer, source, bad_clear, clears, clear_answer, placed, file_answer}

-- ---- the arguments

pub is_below : (x n : ℕ) → not (ltb x n) ≡ false → x < n
is_below x n e = grind (arith, nat_tests)

module _ (sh : Shape) (file block : ℕ) where
  pub admitted_read : (len : ℕ) → bad_read sh file block len ≡ None → (file < sh.files) × (block < sh.width) × (len ≡ 4096)
  admitted_read len e = (grind (arith, nat_tests), grind (arith, nat_tests), grind (arith, nat_tests))

  pub admits_read : (len : ℕ) → file < sh.files → block < sh.width → len ≡ 4096 → bad_read sh file block len ≡ None
  admits_read len f b l = grind (arith, nat_tests)

  pub admitted_write : (mark len : ℕ) → bad_write sh file block mark len ≡ None → (mark ≤ 1) × (file < sh.files) × (block < sh.width) × (len ≡ 4096)
  admitted_write mark len e = (grind (arith, nat_tests), grind (arith, nat_tests), grind (arith, nat_tests), grind (arith, nat_tests))

  pub admits_write : (mark len : ℕ) → mark ≤ 1 → file < sh.files → block < sh.width → len ≡ 4096 → bad_write sh file block mark len ≡ None
  admits_write mark len m f b l = grind (arith, nat_tests)

module _ (sh : Shape) (file first n : ℕ) where
  pub admitted_clear : bad_clear sh file first n ≡ None → (file < sh.files) × (first + n ≤ sh.width) × (0 < n) × (n ≤ 4096)
  admitted_clear e = (grind (arith, nat_tests), grind (arith, nat_tests), grind (arith, nat_tests), grind (arith, nat_tests))

  pub admits_clear : file < sh.files → first + n ≤ sh.width → 0 < n → n ≤ 4096 → bad_clear sh file first n ≡ None
  admits_clear f b z l = grind (arith, nat_tests)

-- ---- a read, and what takes a whole file

module _ (sh : Shape) (s : State) (file block len : ℕ) where
  pub read_admitted : bad_read sh file block len ≡ None → read_answer sh s file block len ≡ Ok (source (s.place file block))
  read_admitted ad = ap (λ (o : Option Ground). unless o file block (Ok (source (s.place file block)))) ad

module _ (sh : Shape) (s : State) (file : ℕ) where
  pub file_granted : file < sh.files → file_answer sh s file ≡ Ok (placed (s.place file) every sh.width)
  file_granted l = grind (arith, nat_tests)

  pub file_refused : sh.files ≤ file → file_answer sh s file ≡ Err (own File file 0)
  file_refused l = grind (arith, nat_tests)

-- ---- an admitted write

-- whether the map has room for it
has_room : (sh : Shape) (pl : Placement) → sh.rule pl ≤ sh.keys → overfull sh pl ≡ false
has_room sh pl room = grind (arith, nat_tests)

no_room : (sh : Shape) (pl : Placement) → sh.keys < sh.rule pl → overfull sh pl ≡ true
no_room sh pl room = grind (arith, nat_tests)

module _ (sh : Shape) (s : State) (file block mark len : ℕ) (ad : bad_write sh file block mark len ≡ None) where
  pub write_admitted : write_answer sh s file block mark len ≡ writes sh s.place file block mark (free_for sh s file block) (s.place file block)
  write_admitted = ap (λ (o : Option Ground). unless o file block (writes sh s.place file block mark (free_for sh s file block) (s.place file block))) ad

  -- a block with a place is replaced there
  pub write_replaces : (p : ℕ) → s.place file block ≡ Some p → write_answer sh s file block mark len ≡ Ok (Board p false)
  write_replaces p e = write_admitted ∙ ap (writes sh s.place file block mark (free_for sh s file block)) e

  -- a loose block without a place goes to the lower store
  pub write_lower : s.place file block ≡ None → mark ≡ 0 → write_answer sh s file block mark len ≡ Ok Lower
  write_lower e m =
      write_admitted ∙ (ap (writes sh s.place file block mark (free_for sh s file block)) e
      ∙ cond-true (eqb mark 0) (Ok Lower) _ (eq-eqb mark 0 m))

  -- a kept one takes what is free, if the map has room for it
  pub write_takes : s.place file block ≡ None → mark ≢ 0 → (o : Option ℕ) → free_for sh s file block ≡ o → write_answer sh s file block mark len ≡ takes sh s.place file block o
  write_takes e m o h =
      write_admitted ∙ (ap (writes sh s.place file block mark (free_for sh s file block)) e
      ∙ (cond-false (eqb mark 0) (Ok Lower) (takes sh s.place file block (free_for sh s file block)) (ne_eqb mark 0 m)
      ∙ ap (takes sh s.place file block) h))

  pub write_new : s.place file block ≡ None → mark ≢ 0 → (p : ℕ) → free_for sh s file block ≡ Some p
      → sh.rule (changed s.place file (only block) (λ _. Some p)) ≤ sh.keys → write_answer sh s file block mark len ≡ Ok (Board p true)
  write_new e m p h room = write_takes e m (Some p) h ∙ cond-false _ _ _ (has_room sh (changed s.place file (only block) (λ _. Some p)) room)

  pub write_overfull : s.place file block ≡ None → mark ≢ 0 → (p : ℕ) → free_for sh s file block ≡ Some p
      → sh.keys < sh.rule (changed s.place file (only block) (λ _. Some p)) → write_answer sh s file block mark len ≡ Err (map_full file block)
  write_overfull e m p h room = write_takes e m (Some p) h ∙ cond-true _ _ _ (no_room sh (changed s.place file (only block) (λ _. Some p)) room)

-- ---- an admitted clear

module _ (sh : Shape) (s : State) (file first n : ℕ) (ad : bad_clear sh file first n ≡ None) where
  pub clear_admitted : clear_answer sh s file first n ≡ clears sh s.place file first n
  clear_admitted = ap (λ (o : Option Ground). unless o file first (clears sh s.place file first n)) ad

  pub clear_granted : sh.rule (changed s.place file (inside first n) (λ _. None)) ≤ sh.keys
      → clear_answer sh s file first n ≡ Ok (placed (s.place file) (inside first n) sh.width)
  clear_granted room = clear_admitted ∙ cond-false _ _ _ (has_room sh (changed s.place file (inside first n) (λ _. None)) room)

  pub clear_overfull : sh.keys < sh.rule (changed s.place file (inside first n) (λ _. None)) → clear_answer sh s file first n ≡ Err (map_full file first)
  clear_overfull room = clear_admitted ∙ cond-true _ _ _ (no_room sh (changed s.place file (inside first n) (λ _. None)) room)
