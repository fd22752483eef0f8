-- What the calls of a board and of a lower store do where nothing refuses them, and what makes a call of the store of it.
use Rattle.std.proofs.Common.{◌≡◌, ℕ, ◌+◌, ◌<◌, ◌≤◌, Bool, List, length, is_ok, Some, None, Ok, Err, Option, Result, sym, refl, ap, ◌∙◌, subst₂, arith}
use Rattle.std.proofs.lemmas.Bool.{cond-true}
use Rattle.std.proofs.lemmas.Bool.Decides.{nat_tests}
use Rattle.faults.specs.declared.Fault.{Fault}
use Rattle.faults.specs.declared.Ground.{Ground}
use Rattle.calls.specs.declared.StoreFault.{StoreFault}
use Rattle.blocks.specs.Blocks.{Placement, Contents, changed}
use Rattle.boards.specs.Boards.{board_answer, ReadsBlock, ReplacesBlock}
use Rattle.lowers.specs.Lowers.{block_answer, extent_answer, CopiesOut, Changes}
use Rattle.ledger.specs.Sound.{Sound, New}
use Rattle.ledger.specs.Store.{Shape, State, Ask, put, own, unless, next}
use Rattle.ledger.proofs.Calls.{keeps}
use Rattle.maps.specs.Steps.{nowhere}
use Rattle.pool.specs.Pool.{none_taken}

-- ---- the arguments

-- what is granted meets no ground
pub no_ground : (o : Option Ground) (file block : ℕ) → ◌≡◌ {A = Result (Unit {0}) StoreFault} (unless o file block (Ok tt)) (Ok tt) → o ≡ None
no_ground None file block e = refl
no_ground (Some g) file block e = let z : ◌≡◌ {A = Option Ground} (Some g) None = cc in z

-- what meets one is refused on it, whatever would be answered else
pub by_ground : {X : Type 0} (o : Option Ground) (file block : ℕ) (f : StoreFault) (r : Result X StoreFault)
    → ◌≡◌ {A = Result (Unit {0}) StoreFault} (unless o file block (Ok tt)) (Err f) → unless o file block r ≡ Err f
by_ground None file block f r e = let z : ◌≡◌ {A = ℕ} 0 1 = cc in absurd (omega arith)
by_ground (Some g) file block f r e = let z : ◌≡◌ {A = StoreFault} (own g file block) f = cc in ap Err z

-- ---- the board

pub board_replaced : {size : ℕ} {block : ℕ → List ℕ} {number : ℕ} {buffer : List ℕ} {answer : Result (Unit {0}) Fault} {size' : ℕ} {block' : ℕ → List ℕ}
    → ReplacesBlock size block number buffer answer size' block' → number < size → length buffer ≡ 4096 → block' ≡ put block number buffer
board_replaced {size} {block} {number} {buffer} w l e =
    let granted : board_answer size number (length buffer) ≡ Ok tt = grind (arith, nat_tests) in
    w.replaces ∙ cond-true _ _ _ (ap is_ok (w.answers ∙ granted))

pub board_shown : {size : ℕ} {block : ℕ → List ℕ} {number : ℕ} {buffer : List ℕ} {answer : Result (Unit {0}) Fault} {buffer' : List ℕ} {size' : ℕ} {block' : ℕ → List ℕ}
    → ReadsBlock size block number buffer answer buffer' size' block' → number < size → length buffer ≡ 4096 → buffer' ≡ block number
board_shown {size} {block} {number} {buffer} w l e =
    let granted : board_answer size number (length buffer) ≡ Ok tt = grind (arith, nat_tests) in
    w.copies ∙ cond-true _ _ _ (ap is_ok (w.answers ∙ granted))

-- ---- the lower store

pub lower_shown : {files width : ℕ} {bytes : Contents} {file block : ℕ} {buffer : List ℕ} {answer : Result (Unit {0}) Fault} {buffer' : List ℕ} {files' width' : ℕ} {bytes' : Contents}
    → CopiesOut files width bytes file block buffer answer buffer' files' width' bytes' → file < files → block < width → length buffer ≡ 4096 → buffer' ≡ bytes file block
lower_shown {files} {width} {bytes} {file} {block} {buffer} w f b e =
    let granted : block_answer files width file block (length buffer) ≡ Ok tt = grind (arith, nat_tests) in
    w.copies ∙ cond-true _ _ _ (ap is_ok (w.answers ∙ granted))

pub lower_changed : {files width : ℕ} {bytes : Contents} {file : ℕ} {chosen : ℕ → Bool} {new : ℕ → List ℕ} {due answer : Result (Unit {0}) Fault} {files' width' : ℕ} {bytes' : Contents}
    → Changes files width bytes file chosen new due answer files' width' bytes' → due ≡ Ok tt → bytes' ≡ changed bytes file chosen new
lower_changed w e = w.makes ∙ cond-true _ _ _ (ap is_ok (w.answers ∙ e))

pub block_granted : (files width file block len : ℕ) → file < files → block < width → len ≡ 4096 → block_answer files width file block len ≡ Ok tt
block_granted files width file block len f b e = grind (arith, nat_tests)

pub extent_granted : (files width file first n : ℕ) → file < files → first + n ≤ width → 0 < n → n ≤ 4096 → extent_answer files width file first n ≡ Ok tt
extent_granted files width file first n f b z l = grind (arith, nat_tests)

-- ---- a call of the store

-- What a call answers, and what it leaves.
pub record Did {R : Type 0} (due answer : R) (sh sh' : Shape) (want s' : State) : Type 0 where
  pub answers : answer ≡ due
  pub leaves : s' ≡ want
  pub same_shape : sh' ≡ sh
  pub in_step : Sound sh' s'

pub did : {R : Type 0} {sh : Shape} {s : State} (q : Ask) {due answer : R} {sh' : Shape} {s' : State}
    → Sound sh s → answer ≡ due → sh' ≡ sh → s' ≡ next sh s q → Did due answer sh sh' (next sh s q) s'
did {sh = sh} {s = s} q v a e h = record {
  answers = a;
  leaves = h;
  same_shape = e;
  in_step = subst₂ Sound (sym e) (sym h) (keeps sh s v q).sound;
}

-- A call's clauses, one by one.
pub clauses : {R : Type 0} {due told : R} {sh sh' : Shape} {want s' : State} → Did due told sh sh' want s'
    → record { shape : sh' ≡ sh; answer : told ≡ due; after : s' ≡ want }
clauses d = record { shape = d.same_shape; answer = d.answers; after = d.leaves }

-- ---- a new store

pub fresh : {sh : Shape} {s : State} → s.place ≡ nowhere → s.taken ≡ none_taken → New sh s
fresh ep et = record {
  unplaced = λ f b. ap (λ (pl : Placement). pl f b) ep;
  untaken = λ p _. ap (λ (t : ℕ → Bool). t p) et;
}
