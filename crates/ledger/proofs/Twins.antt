-- Two stores that are alike answer a call alike, and are alike after it.
use Rattle.std.proofs.Common.{◌≡◌, ℕ, ◌<◌, Bool, true, false, cond, ◌&&◌, eqb, List, length, is_some, Some, None, Ok, Err, Option, Result, sym, refl, ap, ◌∙◌, subst, ap₂, inl, inr, arith}
use Rattle.std.proofs.lemmas.Bool.{and_parts, eqb-true}
use Rattle.blocks.specs.Blocks.{Placement, Contents, zero_block, only, inside, every, changed}
use Rattle.faults.specs.declared.Ground.{Ground}
use Rattle.calls.specs.declared.Call.{Call}
use Rattle.calls.specs.declared.Call.TheVariants.{Write, Read, Clear, Remove, Demote}
use Rattle.calls.specs.declared.Granted.TheVariants.{Wrote, Showed, GaveBack}
use Rattle.calls.specs.declared.Source.{Source}
use Rattle.calls.specs.declared.StoreFault.{StoreFault}
use Rattle.calls.specs.declared.Written.{Written}
use Rattle.calls.specs.declared.Written.TheVariants.{Lower, Board}
use Rattle.ledger.specs.Free.{goal, free_from}
use Rattle.ledger.specs.Sound.{Sound}
use Rattle.ledger.specs.Store.{Shape, State, Ask, bytes_at, shown, put, unless, if_granted, bad_write, writes, free_for, write_answer, wrote, bad_read, source, read_answer, vacated, clear_answer, file_answer, as_any, answer_to, buffer_after, state_after, told, next}
use Rattle.ledger.proofs.Admits.{admitted_read}
use Rattle.ledger.proofs.Pool.{none_some, some_same, put_here}
use Rattle.ledger.proofs.Search.{free_same}
use Rattle.ledger.proofs.Steps.{changed_cases, only_cases}

-- Two states of one shape that are alike.
pub record Same (sh : Shape) (s t : State) : Type 0 where
  pub place : s.place ≡ t.place
  pub lower : (f b : ℕ) → f < sh.files → b < sh.width → s.lower f b ≡ t.lower f b
  pub board : (f b p : ℕ) → s.place f b ≡ Some p → s.board p ≡ t.board p

same_bool : (v w : Bool) → (v ≡ true → w ≡ true) → (w ≡ true → v ≡ true) → v ≡ w
same_bool true w h k = sym (h refl)
same_bool false true h k = k refl
same_bool false false h k = refl

cond_same : {X : Type 0} (v w : Bool) (x x' y y' : X) → v ≡ w → (v ≡ true → x ≡ x') → y ≡ y' → cond v x y ≡ cond w x' y'
cond_same true w x x' y y' e h k = h refl ∙ ap (λ (u : Bool). cond u x' y') e
cond_same false w x x' y y' e h k = k ∙ ap (λ (u : Bool). cond u x' y') e

module _ (sh : Shape) (s t : State) (ok : Sound sh s) (ok' : Sound sh t) (al : Same sh s t) where
  there : (f b p : ℕ) → s.place f b ≡ Some p → t.place f b ≡ Some p
  there f b p e = ap (λ (pl : Placement). pl f b) (sym al.place) ∙ e

  back : (f b p : ℕ) → t.place f b ≡ Some p → s.place f b ≡ Some p
  back f b p e = ap (λ (pl : Placement). pl f b) al.place ∙ e

  -- the same board blocks are taken
  same_taken : (p : ℕ) → p < sh.size → s.taken p ≡ t.taken p
  same_taken p l = same_bool (s.taken p) (t.taken p)
      (λ e. let w = ok.owned p l e in (ok'.within w.0 w.1 p (there w.0 w.1 p w.2)).3)
      (λ e. let w = ok'.owned p l e in (ok.within w.0 w.1 p (back w.0 w.1 p w.2)).3)

  same_shown : (f b : ℕ) → f < sh.files → b < sh.width → shown s f b ≡ shown t f b
  same_shown f b lf lb = go (s.place f b) refl ∙ ap (λ (pl : Placement). bytes_at t.board (t.lower f b) (pl f b)) al.place
    where
      go : (o : Option ℕ) → s.place f b ≡ o → bytes_at s.board (s.lower f b) o ≡ bytes_at t.board (t.lower f b) o
      go None e = al.lower f b lf lb
      go (Some p) e = al.board f b p e

  -- ---- answers

  same_free : (file block : ℕ) → free_for sh s file block ≡ free_for sh t file block
  same_free file block =
      free_same s.taken t.taken sh.size (goal sh.size (s.place file) block) same_taken
      ∙ ap (λ (pl : Placement). free_from t.taken sh.size (goal sh.size (pl file) block)) al.place

  write_alike : (file block mark len : ℕ) → write_answer sh s file block mark len ≡ write_answer sh t file block mark len
  write_alike file block mark len =
      ap₂ (λ (pl : Placement) (free : Option ℕ). unless (bad_write sh file block mark len) file block (writes sh pl file block mark free (pl file block)))
      al.place (same_free file block)

  -- answers that hang on the map alone
  by_map : {X : Type 0} (answer : Placement → X) → answer s.place ≡ answer t.place
  by_map answer = ap answer al.place

  read_alike : (file block len : ℕ) → read_answer sh s file block len ≡ read_answer sh t file block len
  read_alike file block len = by_map (λ pl. unless (bad_read sh file block len) file block (Ok (source (pl file block))))

  -- ---- states

  same_if : {X : Type 0} (r r' : Result X StoreFault) (g h : X → State) → r ≡ r' → ((x : X) → Same sh (g x) (h x)) → Same sh (if_granted r s g) (if_granted r' t h)
  same_if r r' g h e k = subst (λ (z : Result _ StoreFault). Same sh (if_granted r s g) (if_granted z t h)) e (go r)
    where
      go : (z : Result _ StoreFault) → Same sh (if_granted z s g) (if_granted z t h)
      go (Ok x) = k x
      go (Err f) = al

  same_put : (p : ℕ) (bytes : List ℕ) (q : ℕ) → s.board q ≡ t.board q → put s.board p bytes q ≡ put t.board p bytes q
  same_put p bytes q e = ap (cond (eqb q p) bytes) e

  same_wrote : (file block : ℕ) (bytes : List ℕ) (w : Written) → Same sh (wrote s file block bytes w) (wrote t file block bytes w)
  same_wrote file block bytes Lower = record {
    place = al.place;
    lower = λ f b lf lb. ap (cond (eqb f file && only block b) bytes) (al.lower f b lf lb);
    board = al.board;
  }
  same_wrote file block bytes (Board p false) = record
      { place = al.place; lower = al.lower; board = λ f b q e. same_put p bytes q (al.board f b q e) }
  same_wrote file block bytes (Board p true) = record {
    place = ap (λ (pl : Placement). changed pl file (only block) (λ _. Some p)) al.place;
    lower = al.lower;
    board = λ f b q e. elim (only_cases s.place file block (Some p) f b) [
      | inl h ↦ let w = some_same (sym e ∙ h.2) in put_here s.board p bytes q w ∙ sym (put_here t.board p bytes q w)
      | inr h ↦ same_put p bytes q (al.board f b q (sym h.1 ∙ e))
    ];
  }

  same_vacated : (file : ℕ) (chosen : ℕ → Bool) (l m : Contents) → ((f b : ℕ) → f < sh.files → b < sh.width → l f b ≡ m f b)
      → Same sh (vacated sh s file chosen l) (vacated sh t file chosen m)
  same_vacated file chosen l m e = record {
    place = ap (λ (pl : Placement). changed pl file chosen (λ _. None)) al.place;
    lower = e;
    board = λ f b q h. elim (changed_cases s.place file chosen (λ _. None) f b) [
      | inl k ↦ none_some k.2 h
      | inr k ↦ al.board f b q (sym k.1 ∙ h)
    ];
  }

  same_zeroed : (file : ℕ) (chosen : ℕ → Bool) (f b : ℕ) → f < sh.files → b < sh.width
      → changed s.lower file chosen (λ _. zero_block) f b ≡ changed t.lower file chosen (λ _. zero_block) f b
  same_zeroed file chosen f b lf lb = ap (cond (eqb f file && chosen b) zero_block) (al.lower f b lf lb)

  same_copied : (file f b : ℕ) → f < sh.files → b < sh.width
      → changed s.lower file (λ c. is_some (s.place file c)) (shown s file) f b ≡ changed t.lower file (λ c. is_some (t.place file c)) (shown t file) f b
  same_copied file f b lf lb =
      cond_same (eqb f file && is_some (s.place file b)) (eqb f file && is_some (t.place file b)) (shown s file b) (shown t file b) (s.lower f b) (t.lower f b)
      (by_map (λ pl. eqb f file && is_some (pl file b)))
      (λ e. same_shown file b (let h = eqb-true f file (and_parts (eqb f file) (is_some (s.place file b)) e).0 in omega arith) lb)
      (al.lower f b lf lb)

  -- ---- any call

  same_answer : (c : Call) (sent : List ℕ) → answer_to sh s c sent ≡ answer_to sh t c sent
  same_answer (Write file block mark) sent = ap (as_any Wrote) (write_alike file block mark (length sent))
  same_answer (Read file block) sent = ap (as_any Showed) (read_alike file block (length sent))
  same_answer (Clear file first n) sent = by_map (λ pl. as_any GaveBack (clear_answer sh (record { place = pl; taken = s.taken; board = s.board; lower = s.lower }) file first n))
  same_answer (Remove file) sent = by_map (λ pl. as_any GaveBack (file_answer sh (record { place = pl; taken = s.taken; board = s.board; lower = s.lower }) file))
  same_answer (Demote file) sent = by_map (λ pl. as_any GaveBack (file_answer sh (record { place = pl; taken = s.taken; board = s.board; lower = s.lower }) file))

  same_buffer : (c : Call) (sent : List ℕ) → buffer_after sh s c sent ≡ buffer_after sh t c sent
  same_buffer (Write file block mark) sent = refl
  same_buffer (Read file block) sent = go _
    where
      granted : (old : List ℕ) (o : Option Ground) → bad_read sh file block (length sent) ≡ o
          → if_granted (unless o file block (Ok (source (s.place file block)))) old (λ _. shown s file block)
          ≡ if_granted (unless o file block (Ok (source (s.place file block)))) old (λ _. shown t file block)
      granted old (Some g) e = refl
      granted old None e = let a = admitted_read sh file block (length sent) e in same_shown file block a.0 a.1

      go : (old : List ℕ) → if_granted (read_answer sh s file block (length sent)) old (λ _. shown s file block)
          ≡ if_granted (read_answer sh t file block (length sent)) old (λ _. shown t file block)
      go old = granted old (bad_read sh file block (length sent)) refl
          ∙ ap (λ (r : Result Source StoreFault). if_granted r old (λ _. shown t file block)) (read_alike file block (length sent))
  same_buffer (Clear file first n) sent = refl
  same_buffer (Remove file) sent = refl
  same_buffer (Demote file) sent = refl

  same_after : (c : Call) (sent : List ℕ) → Same sh (state_after sh s c sent) (state_after sh t c sent)
  same_after (Write file block mark) sent = same_if _ _ _ _ (write_alike file block mark (length sent)) (same_wrote file block sent)
  same_after (Read file block) sent = al
  same_after (Clear file first n) sent =
      same_if (clear_answer sh s file first n) (clear_answer sh t file first n) _ _
      (by_map (λ pl. clear_answer sh (record { place = pl; taken = s.taken; board = s.board; lower = s.lower }) file first n))
      (λ _. same_vacated file (inside first n) _ _ (same_zeroed file (inside first n)))
  same_after (Remove file) sent =
      same_if (file_answer sh s file) (file_answer sh t file) _ _
      (by_map (λ pl. file_answer sh (record { place = pl; taken = s.taken; board = s.board; lower = s.lower }) file))
      (λ _. same_vacated file every _ _ (same_zeroed file (inside 0 sh.width)))
  same_after (Demote file) sent =
      same_if (file_answer sh s file) (file_answer sh t file) _ _
      (by_map (λ pl. file_answer sh (record { place = pl; taken = s.taken; board = s.board; lower = s.lower }) file))
      (λ _. same_vacated file every _ _ (same_copied file))

  pub same_told : (q : Ask) → told sh s q ≡ told sh t q
  same_told q = λ i. record { answer = same_answer q.call q.sent i; buffer = same_buffer q.call q.sent i }

  pub same_next : (q : Ask) → Same sh (next sh s q) (next sh t q)
  same_next q = same_after q.call q.sent
