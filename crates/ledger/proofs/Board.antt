-- The worked case of a board of four blocks, step by step.
use Rattle.std.proofs.Common.{◌≡◌, ℕ, ◌+◌, ◌<◌, ◌≤◌, Bool, true, false, cond, ◌&&◌, List, [], ◌∷◌, map, length, is_some, Some, None, Ok, Err, Option, Result, sym, refl, ap, ◌∙◌, ap₂, arith, lit<}
use mathlib.Core.Path.{fun_ext}
use Rattle.std.proofs.lemmas.Bool.{and_left, eqb-true, eq-eqb, ne_eqb}
use Rattle.std.proofs.lemmas.Bool.Decides.{nat_tests}
use Rattle.blocks.specs.Blocks.{Placement, Contents, only, inside, changed, one, tally}
use Rattle.blocks.proofs.Sums.{sum_change, sum_zero, tally_none, tally_change}
use Rattle.faults.specs.declared.Ground.TheVariants.{NoFreeBlock}
use Rattle.calls.specs.declared.Granted.TheVariants.{Wrote, GaveBack}
use Rattle.calls.specs.declared.StoreFault.{StoreFault}
use Rattle.calls.specs.declared.Written.{Written}
use Rattle.calls.specs.declared.Written.TheVariants.{Board}
use Rattle.ledger.specs.Free.{first_free, or_else}
use Rattle.ledger.specs.Sound.{New}
use Rattle.ledger.specs.Store.{Shape, State, Ask, Told, own, free_for, write_answer, wrote, if_granted, freed, placed, clear_answer, cleared, as_any}
use Rattle.ledger.specs.Worked.{four_blocks, answers_to, keep, clear_one_block, took, worked_calls, worked_answers, WorkedBoard}
use Rattle.ledger.proofs.Admits.{admits_write, admits_clear, write_new, write_takes, clear_granted}
use Rattle.ledger.proofs.Pool.{some_same, freed_chosen, freed_other}
use Rattle.ledger.proofs.Runs.{same_run}
use Rattle.ledger.proofs.Steps.{sound_new}
use Rattle.ledger.proofs.Twins.{Same}

-- ---- one answer more

module _ (sh : Shape) (s : State) where
  takes_one : (bytes : List ℕ) (file block p : ℕ) (qs : List Ask) → write_answer sh s file block 1 (length bytes) ≡ Ok (Board p true)
      → answers_to sh s (keep bytes file block ∷ qs) ≡ took p ∷ answers_to sh (wrote s file block bytes (Board p true)) qs
  takes_one bytes file block p qs e = ap (λ (r : Result Written StoreFault). as_any Wrote r ∷ answers_to sh (if_granted r s (wrote s file block bytes)) qs) e

  is_refused : (bytes : List ℕ) (file block : ℕ) (f : StoreFault) (qs : List Ask) → write_answer sh s file block 1 (length bytes) ≡ Err f
      → answers_to sh s (keep bytes file block ∷ qs) ≡ Err f ∷ answers_to sh s qs
  is_refused bytes file block f qs e = ap (λ (r : Result Written StoreFault). as_any Wrote r ∷ answers_to sh (if_granted r s (wrote s file block bytes)) qs) e

  clears_one : (file block k : ℕ) (qs : List Ask) → clear_answer sh s file block 1 ≡ Ok k
      → answers_to sh s (clear_one_block file block ∷ qs) ≡ Ok (GaveBack k) ∷ answers_to sh (cleared sh s file block 1) qs
  clears_one file block k qs e = ap (λ (r : Result ℕ StoreFault). as_any GaveBack r ∷ answers_to sh (if_granted r s (λ _. cleared sh s file block 1)) qs) e

-- ---- counts

one_more : (pl : Placement) (file block p n : ℕ) → file < 65536 → block < 65536 → tally pl ≤ n → tally (changed pl file (only block) (λ _. Some p)) ≤ n + 1
one_more pl file block p n lf lb l = let e = tally_change pl file block (Some p) lf lb in omega arith

one_less : (pl : Placement) (file block p n : ℕ) → file < 65536 → block < 65536 → pl file block ≡ Some p → tally pl ≤ n + 1 → tally (changed pl file (only block) (λ _. None)) ≤ n
one_less pl file block p n lf lb h l =
    let e = tally_change pl file block None lf lb in
    let w = ap (λ (o : Option ℕ). one (is_some o)) h in
    omega arith

inside_is : (block b : ℕ) → inside block 1 b ≡ only block b
inside_is block b = grind (arith, nat_tests)

-- One block of a row that has a place.
placed_one : (row : ℕ → Option ℕ) (block p width : ℕ) → row block ≡ Some p → block < width → placed row (inside block 1) width ≡ 1
placed_one row block p width e l =
    let h : ℕ → ℕ = λ b. one (inside block 1 b && is_some (row b)) in
    let change = sum_change width (λ _. 0) h block l (λ i d. ap one (and_left (inside block 1 i) (is_some (row i)) (inside_is block i ∙ ne_eqb i block d))) in
    let none = sum_zero width (λ _. 0) (λ _ _. refl) in
    let here : h block ≡ 1 = ap₂ (λ (v : Bool) (o : Option ℕ). one (v && is_some o)) (inside_is block block ∙ eq-eqb block block refl) e in
    omega arith

cleared_count : (pl : Placement) (file block p n : ℕ) → file < 65536 → block < 65536 → pl file block ≡ Some p → tally pl ≤ n + 1
    → tally (changed pl file (inside block 1) (λ _. None)) ≤ n
cleared_count pl file block p n lf lb h l =
    let same : inside block 1 ≡ only block = fun_ext (inside_is block) in
    let e = ap (λ (chosen : ℕ → Bool). tally (changed pl file chosen (λ _. None))) same in
    let w = one_less pl file block p n lf lb h l in
    omega arith

-- Of four, the first is taken and the second is given back: from 0 on the second is free.
second_free : (t : ℕ → Bool) (row : ℕ → Option ℕ) (block width : ℕ) → block < width → row block ≡ Some 1 → t 0 ≡ true
    → or_else (first_free (freed t row (inside block 1) width) 0 4) (first_free (freed t row (inside block 1) width) 0 4) ≡ Some 1
second_free t row block width l e t0 =
    let u = freed t row (inside block 1) width in
    let u0 : u 0 ≡ true = freed_other t row (inside block 1) width 0
    (λ b _ h r. let z = some_same (sym e ∙ (ap row (sym (eqb-true b block (sym (inside_is block b) ∙ h))) ∙ r)) in omega arith) ∙ t0 in
    let u1 : u 1 ≡ false = freed_chosen t row (inside block 1) width block 1 l (inside_is block block ∙ eq-eqb block block refl) e in
    let f : first_free u 0 4 ≡ Some 1 =
    ap₂ (λ (v w : Bool). cond v (cond w (first_free u 2 2) (Some 1)) (Some 0)) u0 u1 in
    ap₂ or_else f f

-- ---- the run

abbrev fresh : (ℕ → List ℕ) → Contents → State
fresh board low = record { place = λ f b. None; taken = λ p. false; board = board; lower = low }

module _ (rule : Placement → ℕ) (most : (pl : Placement) → rule pl ≤ tally pl) (files width : ℕ) (lf : 1 < files) (lw : 7 < width)
    (bytes : List ℕ) (len : length bytes ≡ 4096) where
  takes_next : (s : State) (file block p n : ℕ) → file ≤ 1 → block ≤ 7 → s.place file block ≡ None → free_for (four_blocks rule files width) s file block ≡ Some p
      → tally s.place ≤ n → n ≤ 3 → write_answer (four_blocks rule files width) s file block 1 (length bytes) ≡ Ok (Board p true)
  takes_next s file block p n hf hb un free l m =
      write_new (four_blocks rule files width) s file block 1 (length bytes)
      (admits_write (four_blocks rule files width) file block 1 (length bytes) (omega arith) (omega arith) (omega arith) len)
      un (λ z. omega arith) p free
      (let w = most (changed s.place file (only block) (λ _. Some p)) in let v = one_more s.place file block p n (omega arith) (omega arith) l in omega arith)

  from_fresh : (board : ℕ → List ℕ) (low : Contents) → answers_to (four_blocks rule files width) (fresh board low) (worked_calls bytes) ≡ worked_answers
  from_fresh board low =
      let sh = four_blocks rule files width in
      let s0 : State = fresh board low in
      let s1 : State = wrote s0 0 5 bytes (Board 1 true) in
      let s2 : State = wrote s1 0 6 bytes (Board 2 true) in
      let s3 : State = wrote s2 1 6 bytes (Board 3 true) in
      let s4 : State = wrote s3 1 7 bytes (Board 0 true) in
      let s5 : State = cleared sh s4 0 5 1 in
      let n0 : tally s0.place ≤ 0 = (let z = tally_none s0.place (λ f b. refl) in omega arith) in
      let n1 = one_more s0.place 0 5 1 0 (lit< tt) (lit< tt) n0 in
      let n2 = one_more s1.place 0 6 2 1 (lit< tt) (lit< tt) n1 in
      let n3 = one_more s2.place 1 6 3 2 (lit< tt) (lit< tt) n2 in
      let n4 = one_more s3.place 1 7 0 3 (lit< tt) (lit< tt) n3 in
      let n5 = cleared_count s4.place 0 5 1 3 (lit< tt) (lit< tt) refl n4 in
      let room : rule (changed s4.place 0 (inside 5 1) (λ _. None)) ≤ 4 = (let w = most (changed s4.place 0 (inside 5 1) (λ _. None)) in omega arith) in
      let q6 : List Ask = keep bytes 0 0 ∷ [] in
      let q5 : List Ask = clear_one_block 0 5 ∷ q6 in
      let q4 : List Ask = keep bytes 0 0 ∷ q5 in
      let q3 : List Ask = keep bytes 1 7 ∷ q4 in
      let q2 : List Ask = keep bytes 1 6 ∷ q3 in
      let q1 : List Ask = keep bytes 0 6 ∷ q2 in
      let took5 = takes_one sh s0 bytes 0 5 1 q1 (takes_next s0 0 5 1 0 (omega arith) (omega arith) refl refl n0 (omega arith)) in
      let took6 = takes_one sh s1 bytes 0 6 2 q2 (takes_next s1 0 6 2 1 (omega arith) (omega arith) refl refl n1 (omega arith)) in
      let took16 = takes_one sh s2 bytes 1 6 3 q3 (takes_next s2 1 6 3 2 (omega arith) (omega arith) refl refl n2 (omega arith)) in
      let took17 = takes_one sh s3 bytes 1 7 0 q4 (takes_next s3 1 7 0 3 (omega arith) (omega arith) refl refl n3 (omega arith)) in
      let full = is_refused sh s4 bytes 0 0 (own NoFreeBlock 0 0) q5
      (write_takes sh s4 0 0 1 (length bytes) (admits_write sh 0 0 1 (length bytes) (omega arith) (omega arith) (omega arith) len) refl (λ z. omega arith) None refl) in
      let gave = clears_one sh s4 0 5 1 q6
      (clear_granted sh s4 0 5 1 (admits_clear sh 0 5 1 (omega arith) (omega arith) (omega arith) (omega arith)) room
      ∙ ap Ok (placed_one (s4.place 0) 5 1 width refl (omega arith))) in
      let again = takes_one sh s5 bytes 0 0 1 []
      (takes_next s5 0 0 1 3 (omega arith) (omega arith) refl (second_free s4.taken (s4.place 0) 5 width (omega arith) refl refl) n5 (omega arith)) in
      took5 ∙ ap (◌∷◌ (took 1)) (took6 ∙ ap (◌∷◌ (took 2)) (took16 ∙ ap (◌∷◌ (took 3)) (took17 ∙ ap (◌∷◌ (took 0))
      (full ∙ ap (◌∷◌ (Err (own NoFreeBlock 0 0))) (gave ∙ ap (◌∷◌ (Ok (GaveBack 1))) again)))))

pub worked : WorkedBoard
worked rule rules files width lf lw s new bytes len =
    let sh = four_blocks rule files width in
    let s0 : State = fresh s.board s.lower in
    let new0 : New sh s0 = record { unplaced = λ f b. refl; untaken = λ p _. refl } in
    let same : Same sh s s0 = record { place = fun_ext (λ f. fun_ext (λ b. new.unplaced f b)); lower = λ f b _ _. refl; board = λ f b p _. refl } in
    ap (map (λ (t : Told). t.answer)) (same_run sh s s0 (sound_new sh s new) (sound_new sh s0 new0) same (worked_calls bytes)).0
    ∙ from_fresh rule rules.most files width lf lw bytes len s.board s.lower
