-- A block read from the board and written to the lower store, where neither is refused.
use Rattle.std.proofs.Common.{◌≡◌, ℕ, ◌<◌, Bool, cond, not, eqb, List, [], ◌∷◌, length, is_ok, Ok, Result, ap, ◌∙◌, ap₂}
use Rattle.std.proofs.lemmas.Bool.{eq-eqb, lt-ltb}
use Rattle.faults.specs.declared.Fault.{Fault}
use Rattle.faults.specs.declared.Ground.TheVariants.{File, Block, Buffer, BoardNumber}
use Rattle.faults.specs.declared.Layer.TheVariants.{Board, Lower}
use Rattle.faults.specs.Grounds.{first_ground}
use Rattle.faults.specs.Answers.{answered}
use Rattle.blocks.specs.Blocks.{Contents, only, changed}
use Rattle.boards.specs.Boards.{board_answer, ReadsBlock}
use Rattle.lowers.specs.Lowers.{block_answer, Changes, Holds}

board_grants : (size number n : ℕ) → number < size → n ≡ 4096 → board_answer size number n ≡ Ok tt
board_grants size number n l e =
    ap₂ (λ (u v : Bool). answered Board 0 number (first_ground ((not u, Buffer) ∷ (not v, BoardNumber) ∷ [])) tt) (eq-eqb n 4096 e) (lt-ltb number size l)

lower_grants : (files width file block n : ℕ) → file < files → block < width → n ≡ 4096 → block_answer files width file block n ≡ Ok tt
lower_grants files width file block n lf lb e =
    ap₂ (λ (u v : Bool). answered Lower file block (first_ground ((not u, File) ∷ (not v, Block) ∷ (not (eqb n 4096), Buffer) ∷ [])) tt) (lt-ltb file files lf) (lt-ltb block width lb)
    ∙ ap (λ (u : Bool). answered Lower file block (first_ground ((not u, Buffer) ∷ [])) tt) (eq-eqb n 4096 e)

pub copies_one : (size : ℕ) (held : ℕ → List ℕ) (number : ℕ) (buffer after : List ℕ) (read : Result (Unit {0}) Fault) (size' : ℕ) (held' : ℕ → List ℕ)
    (files width : ℕ) (bytes : Contents) (file block : ℕ) (write : Result (Unit {0}) Fault) (files' width' : ℕ) (bytes' : Contents)
    → ReadsBlock size held number buffer read after size' held'
    → Changes files width bytes file (only block) (λ _. after) (block_answer files width file block (length after)) write files' width' bytes'
    → length buffer ≡ 4096 → length after ≡ 4096 → number < size → file < files → block < width
    → Holds files width (changed bytes file (only block) (λ _. held number)) files' width' bytes'
copies_one size held number buffer after read size' held' files width bytes file block write files' width' bytes' rd wr full kept ln lf lb =
    let read_ok : read ≡ Ok tt = rd.answers ∙ board_grants size number (length buffer) ln full in
    let write_ok : write ≡ Ok tt = wr.answers ∙ lower_grants files width file block (length after) lf lb kept in
    let got : after ≡ held number = rd.copies ∙ ap (λ (r : Result (Unit {0}) Fault). cond (is_ok r) (held number) buffer) read_ok in
    record {
      same_files = wr.same_files;
      same_width = wr.same_width;
      same_bytes = wr.makes
          ∙ ap (λ (r : Result (Unit {0}) Fault). cond (is_ok r) (changed bytes file (only block) (λ _. after)) bytes) write_ok
          ∙ ap (λ (bs : List ℕ). changed bytes file (only block) (λ _. bs)) got;
    }
