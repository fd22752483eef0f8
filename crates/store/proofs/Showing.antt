-- A read, by where the block lies.
use Rattle.std.proofs.Common.{◌≡◌, ℕ, ◌<◌, List, length, Some, None, Ok, Option, Result, sym, ap, ◌∙◌}
use Rattle.faults.specs.declared.Fault.{Fault}
use Rattle.calls.specs.declared.Call.TheVariants.{Read}
use Rattle.calls.specs.declared.Source.{Source}
use Rattle.calls.specs.declared.StoreFault.{StoreFault}
use Rattle.blocks.specs.Blocks.{Placement, Contents}
use Rattle.boards.specs.Boards.{ReadsBlock}
use Rattle.lowers.specs.Lowers.{ground_of_block, CopiesOut}
use Rattle.ledger.specs.Store.{unless, Shape, State, bytes_at, shown, if_granted, bad_read, source, read_answer, read_buffer}
use Rattle.ledger.proofs.Admits.{admitted_read, read_admitted}
use Rattle.ledger.specs.Sound.{Sound}
use Rattle.store.specs.Whole.{shaped, stated}
use Rattle.store.proofs.Parts.{Did, did, no_ground, board_shown, lower_shown}

-- What a read answers and leaves, and what its buffer then holds.
pub record Showed {R : Type 0} (due answer : R) (bytes buffer' : List ℕ) (sh sh' : Shape) (s s' : State) : Type 0 where
  pub done : Did due answer sh sh' s s'
  pub shows : buffer' ≡ bytes

pub clauses : {R : Type 0} {due told : R} {bytes buffer' : List ℕ} {sh sh' : Shape} {s s' : State} → Showed due told bytes buffer' sh sh' s s'
    → record { shape : sh' ≡ sh; answer : told ≡ due; buffer : buffer' ≡ bytes; after : s' ≡ s }
clauses d = record {
  shape = d.done.same_shape;
  answer = d.done.answers;
  buffer = d.shows;
  after = d.done.leaves;
}

module _ {sh : Shape} {s : State} (file block : ℕ) (buffer : List ℕ) (v : Sound sh s) {r : Result (Unit {0}) StoreFault}
    (adm : r ≡ unless (ground_of_block sh.files sh.width file block (length buffer)) file block (Ok tt)) (granted : r ≡ Ok tt) where
  ad : bad_read sh file block (length buffer) ≡ None
  ad = no_ground (bad_read sh file block (length buffer)) file block (sym adm ∙ granted)

  bounds : (file < sh.files) × (block < sh.width) × (length buffer ≡ 4096)
  bounds = admitted_read sh file block (length buffer) ad

  due : (o : Option ℕ) → s.place file block ≡ o → read_answer sh s file block (length buffer) ≡ Ok (source o)
  due o e = read_admitted sh s file block (length buffer) ad ∙ ap (λ (p : Option ℕ). Ok (source p)) e

  fills : (o : Option ℕ) → s.place file block ≡ o → bytes_at s.board (s.lower file block) o ≡ read_buffer sh s file block buffer
  fills o e = sym (ap (λ (x : Result Source StoreFault). if_granted x buffer (λ _. shown s file block)) (due o e) ∙ ap (bytes_at s.board (s.lower file block)) e)

  pub from_board : {keys' size' p : ℕ} {place' : Placement} {blocks' : ℕ → List ℕ} {buffer' : List ℕ} {answer : Result (Unit {0}) Fault}
      → keys' ≡ sh.keys → place' ≡ s.place → Some p ≡ s.place file block
      → ReadsBlock sh.size s.board p buffer answer buffer' size' blocks'
      → Showed (read_answer sh s file block (length buffer)) (Ok (source (Some p))) (read_buffer sh s file block buffer) buffer' sh (shaped sh.rule keys' size' sh.files sh.width)
      s (stated place' s.taken blocks' s.lower)
  from_board {p = p} ek ep here w = record {
    done = did (record { call = Read file block; sent = buffer }) v (sym (due (Some p) (sym here)))
        (λ i. shaped sh.rule (ek i) (w.same_size i) sh.files sh.width) (λ i. stated (ep i) s.taken (w.keeps i) s.lower);
    shows = board_shown w (v.within file block p (sym here)).2 bounds.2 ∙ fills (Some p) (sym here);
  }

  pub from_lower : {keys' files' width' : ℕ} {place' : Placement} {bytes' : Contents} {buffer' : List ℕ} {answer : Result (Unit {0}) Fault}
      → keys' ≡ sh.keys → place' ≡ s.place → None ≡ s.place file block
      → CopiesOut sh.files sh.width s.lower file block buffer answer buffer' files' width' bytes'
      → Showed (read_answer sh s file block (length buffer)) (Ok (source None)) (read_buffer sh s file block buffer) buffer' sh (shaped sh.rule keys' sh.size files' width')
      s (stated place' s.taken s.board bytes')
  from_lower ek ep here w = record {
    done = did (record { call = Read file block; sent = buffer }) v (sym (due None (sym here)))
        (λ i. shaped sh.rule (ek i) sh.size (w.leaves.same_files i) (w.leaves.same_width i)) (λ i. stated (ep i) s.taken s.board (w.leaves.same_bytes i));
    shows = lower_shown w bounds.0 bounds.1 bounds.2 ∙ fills None (sym here);
  }
