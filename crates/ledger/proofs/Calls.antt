-- What each call does to the store, to the book and to the count of places.
use Rattle.std.proofs.Common.{◌≡◌, ℕ, ◌+◌, ◌<◌, Bool, true, false, cond, not, ◌&&◌, eqb, ltb, List, length, is_some, is_ok, Some, None, Ok, Err, Option, Result, sym, refl, ap, ◌∙◌, subst, ap₂, inl, inr, arith}
use Rattle.std.proofs.lemmas.Bool.{cases_eq, cases_lt, both_ways}
use Rattle.blocks.specs.Blocks.{Contents, zero_block, only, inside, every, changed, one, tally_below}
use Rattle.blocks.proofs.Sums.{count_full, full_count, below_change}
use Rattle.blocks.proofs.Changes.{inside_yes, changed_here, changed_beside, changed_elsewhere}
use Rattle.faults.specs.declared.Ground.{Ground}
use Rattle.faults.specs.declared.Ground.TheVariants.{File}
use Rattle.calls.specs.declared.Call.{Call}
use Rattle.calls.specs.declared.Call.TheVariants.{Write, Read, Clear, Remove, Demote}
use Rattle.calls.specs.declared.Granted.{Granted}
use Rattle.calls.specs.declared.Granted.TheVariants.{Wrote, Showed, GaveBack}
use Rattle.calls.specs.declared.StoreFault.{StoreFault}
use Rattle.calls.specs.declared.Written.TheVariants.{Lower, Board}
use Rattle.calls.specs.Answers.{Answer, taken_in, given_back_in, refused_with}
use Rattle.ledger.specs.Book.{Book, fed}
use Rattle.ledger.specs.Free.{goal}
use Rattle.ledger.specs.Promise.{ShowsBook, FullExactly}
use Rattle.ledger.specs.Sound.{Sound}
use Rattle.ledger.specs.Store.{Shape, State, Ask, bytes_at, shown, put, map_full, unless, overfull, if_granted, bad_write, takes, writes, free_for, wrote, bad_read, source, placed, vacated, bad_clear, cleared, file_answer, as_any, answer_to, buffer_after, state_after, told, next}
use Rattle.ledger.proofs.Admits.{is_below, admitted_write, admits_write, admitted_clear, write_takes}
use Rattle.ledger.proofs.Pool.{put_here, put_other, none_some, some_same}
use Rattle.ledger.proofs.Search.{found_free, found_none}
use Rattle.ledger.proofs.Steps.{only_cases, changed_same, vacated_count, beyond, unowned, sound_take, sound_vacate}

-- The book that tells what a store holds.
abbrev pub book_of : State → Book
book_of s = record { bytes = shown s; place = s.place }

-- A call that is answered so and leaves the store so keeps the book true, and the count.
pub record Keeps (sh : Shape) (s : State) (c : Call) (sent : List ℕ) (a : Answer) (s' : State) : Type 0 where
  pub sound : Sound sh s'
  pub book : fed sh.width (book_of s) c sent a ≡ book_of s'
  pub balance : tally_below sh.files sh.width s.place + taken_in a ≡ tally_below sh.files sh.width s'.place + given_back_in a

-- The same of an answer of one kind, with what a grant of that kind makes.
abbrev KeepsBy : {X : Type 0} → Shape → State → Call → List ℕ → (X → Granted) → (X → State) → Result X StoreFault → Type 0
KeepsBy sh s c sent kind make r = Keeps sh s c sent (as_any kind r) (if_granted r s make)

book_path : {x y : Book} → ((f b : ℕ) → x.bytes f b ≡ y.bytes f b) → ((f b : ℕ) → x.place f b ≡ y.place f b) → x ≡ y
book_path e h = λ i. record { bytes = λ f b. e f b i; place = λ f b. h f b i }

-- Clearing what is shown is clearing below and taking the place out.
zero_swap : (board : ℕ → List ℕ) (low : List ℕ) (v : Bool) (o : Option ℕ)
    → cond v zero_block (bytes_at board low o) ≡ bytes_at board (cond v zero_block low) (cond v None o)
zero_swap board low true o = refl
zero_swap board low false o = refl

module _ (sh : Shape) (s : State) (ok : Sound sh s) where
  refused : (c : Call) (sent : List ℕ) (f : StoreFault) → Keeps sh s c sent (Err f) s
  refused c sent f = record { sound = ok; book = refl; balance = refl }

  -- ---- write

  -- the board block of another block keeps its bytes
  replaced_bytes : (file block p : ℕ) (bytes : List ℕ) → s.place file block ≡ Some p
      → (f b : ℕ) → changed (shown s) file (only block) (λ _. bytes) f b ≡ bytes_at (put s.board p bytes) (s.lower f b) (s.place f b)
  replaced_bytes file block p bytes e f b =
      elim (only_cases (shown s) file block bytes f b) [
        | inl h ↦ h.2 ∙ (sym (put_here s.board p bytes p refl)
            ∙ ap (bytes_at (put s.board p bytes) (s.lower f b)) (sym e ∙ ap₂ s.place (sym h.0) (sym h.1)))
        | inr h ↦ h.1 ∙ go (s.place f b) refl h.0
      ]
    where
      go : (o : Option ℕ) → s.place f b ≡ o → (f ≡ file → b ≡ block → ⊥) → bytes_at s.board (s.lower f b) o ≡ bytes_at (put s.board p bytes) (s.lower f b) o
      go None w n = refl
      go (Some q) w n = sym (put_other s.board p bytes q (λ h. let k = ok.apart f b file block p (w ∙ ap Some h) e in n k.0 k.1))

  taken_bytes : (file block p : ℕ) (bytes : List ℕ) → s.taken p ≡ false
      → (f b : ℕ) → changed (shown s) file (only block) (λ _. bytes) f b
      ≡ bytes_at (put s.board p bytes) (s.lower f b) (changed s.place file (only block) (λ _. Some p) f b)
  taken_bytes file block p bytes e f b = go (eqb f file && only block b) (s.place f b) refl
    where
      go : (v : Bool) (o : Option ℕ) → s.place f b ≡ o
          → cond v bytes (bytes_at s.board (s.lower f b) o) ≡ bytes_at (put s.board p bytes) (s.lower f b) (cond v (Some p) o)
      go true o w = sym (put_here s.board p bytes p refl)
      go false None w = refl
      go false (Some q) w = sym (put_other s.board p bytes q (λ h. unowned sh s ok p e f b q w h))

  lower_bytes : (file block : ℕ) (bytes : List ℕ) → s.place file block ≡ None
      → (f b : ℕ) → changed (shown s) file (only block) (λ _. bytes) f b ≡ bytes_at s.board (changed s.lower file (only block) (λ _. bytes) f b) (s.place f b)
  lower_bytes file block bytes e f b =
      elim (only_cases s.lower file block bytes f b) [
        | inl h ↦ elim (only_cases (shown s) file block bytes f b) [
          | inl k ↦ k.2 ∙ (sym h.2 ∙ ap (bytes_at s.board (changed s.lower file (only block) (λ _. bytes) f b)) (sym e ∙ ap₂ s.place (sym h.0) (sym h.1)))
          | inr k ↦ absurd (k.0 h.0 h.1)
        ]
        | inr h ↦ elim (only_cases (shown s) file block bytes f b) [
          | inl k ↦ absurd (h.0 k.0 k.1)
          | inr k ↦ k.1 ∙ ap (λ (l : List ℕ). bytes_at s.board l (s.place f b)) (sym h.1)
        ]
      ]

  keeps_write : (file block mark : ℕ) (sent : List ℕ)
      → Keeps sh s (Write file block mark) sent (answer_to sh s (Write file block mark) sent) (state_after sh s (Write file block mark) sent)
  keeps_write file block mark sent = admitted (bad_write sh file block mark (length sent)) refl
    where
      roomy : file < sh.files → block < sh.width → s.place file block ≡ None → (p : ℕ) → free_for sh s file block ≡ Some p → (v : Bool)
          → KeepsBy sh s (Write file block mark) sent Wrote (wrote s file block sent) (cond v (Err (map_full file block)) (Ok (Board p true)))
      roomy lf lb e p h true = refused (Write file block mark) sent (map_full file block)
      roomy lf lb e p h false =
          let w = found_free s.taken sh.size (goal sh.size (s.place file) block) p h in
          let more = below_change sh.files sh.width s.place file block (Some p) lf lb in
          let x = ap (λ (o : Option ℕ). one (is_some o)) e in
          record {
            sound = sound_take sh s ok file block p sent lf lb w.0 w.1 e;
            book = book_path (taken_bytes file block p sent w.1) (λ f b. refl);
            balance = omega arith;
          }

      free : file < sh.files → block < sh.width → s.place file block ≡ None → (o : Option ℕ) → free_for sh s file block ≡ o
          → KeepsBy sh s (Write file block mark) sent Wrote (wrote s file block sent) (takes sh s.place file block o)
      free lf lb e None h = refused (Write file block mark) sent _
      free lf lb e (Some p) h = roomy lf lb e p h (overfull sh (changed s.place file (only block) (λ _. Some p)))

      marked : file < sh.files → block < sh.width → s.place file block ≡ None → (v : Bool)
          → KeepsBy sh s (Write file block mark) sent Wrote (wrote s file block sent) (cond v (Ok Lower) (takes sh s.place file block (free_for sh s file block)))
      marked lf lb e false = free lf lb e (free_for sh s file block) refl
      marked lf lb e true = record {
        sound = record { within = ok.within; owned = ok.owned; apart = ok.apart; counted = ok.counted };
        book = book_path (lower_bytes file block sent e) (λ f b. refl);
        balance = refl;
      }

      mapped : file < sh.files → block < sh.width → (o : Option ℕ) → s.place file block ≡ o
          → KeepsBy sh s (Write file block mark) sent Wrote (wrote s file block sent) (writes sh s.place file block mark (free_for sh s file block) o)
      mapped lf lb None e = marked lf lb e (eqb mark 0)
      mapped lf lb (Some p) e = record {
        sound = record { within = ok.within; owned = ok.owned; apart = ok.apart; counted = ok.counted };
        book = book_path (replaced_bytes file block p sent e) (changed_same s.place file block (Some p) e);
        balance = refl;
      }

      admitted : (o : Option Ground) → bad_write sh file block mark (length sent) ≡ o
          → KeepsBy sh s (Write file block mark) sent Wrote (wrote s file block sent)
          (unless o file block (writes sh s.place file block mark (free_for sh s file block) (s.place file block)))
      admitted (Some g) e = refused (Write file block mark) sent _
      admitted None e = let a = admitted_write sh file block mark (length sent) e in mapped a.1 a.2 (s.place file block) refl

  -- ---- read

  keeps_read : (file block : ℕ) (sent : List ℕ) → Keeps sh s (Read file block) sent (answer_to sh s (Read file block) sent) s
  keeps_read file block sent = admitted (bad_read sh file block (length sent))
    where
      admitted : (o : Option Ground) → Keeps sh s (Read file block) sent (as_any Showed (unless o file block (Ok (source (s.place file block))))) s
      admitted (Some g) = refused (Read file block) sent _
      admitted None = record { sound = ok; book = refl; balance = refl }

  -- ---- clear, remove, demote

  keeps_clear : (file first n : ℕ) (sent : List ℕ)
      → Keeps sh s (Clear file first n) sent (answer_to sh s (Clear file first n) sent) (state_after sh s (Clear file first n) sent)
  keeps_clear file first n sent = admitted (bad_clear sh file first n) refl (overfull sh (changed s.place file (inside first n) (λ _. None)))
    where
      admitted : (o : Option Ground) → bad_clear sh file first n ≡ o → (v : Bool)
          → KeepsBy sh s (Clear file first n) sent GaveBack (λ _. cleared sh s file first n)
          (unless o file first (cond v (Err (map_full file first)) (Ok (placed (s.place file) (inside first n) sh.width))))
      admitted (Some g) e v = refused (Clear file first n) sent _
      admitted None e true = refused (Clear file first n) sent _
      admitted None e false =
          let lf = (admitted_clear sh file first n e).0 in
          let w = vacated_count sh.files sh.width s.place file (inside first n) lf in
          record {
            sound = sound_vacate sh s ok file (inside first n) _ lf;
            book = book_path (λ f b. zero_swap s.board (s.lower f b) (eqb f file && inside first n b) (s.place f b)) (λ f b. refl);
            balance = omega arith;
          }

  -- All blocks of a file, or all below the width: the same places go.
  same_gone : (file f b : ℕ) → changed s.place file (inside 0 sh.width) (λ _. None) f b ≡ changed s.place file every (λ _. None) f b
  same_gone file f b =
      elim (cases_lt b sh.width) [
        | inl l ↦ ap (λ (v : Bool). cond (eqb f file && v) None (s.place f b)) (inside_yes 0 sh.width b (omega arith) (omega arith))
        | inr l ↦ go (eqb f file) (inside 0 sh.width b) (s.place f b) (beyond sh s ok f b l)
      ]
    where
      go : (v w : Bool) (o : Option ℕ) → o ≡ None → cond (v && w) None o ≡ cond (v && true) None o
      go false w o e = refl
      go true true o e = refl
      go true false o e = e

  -- A whole file loses its places, with a lower store that suits the book.
  keeps_file : (c : Call) (sent : List ℕ) (file : ℕ) (low : Contents)
      → fed sh.width (book_of s) c sent (Ok (GaveBack (placed (s.place file) every sh.width))) ≡ book_of (vacated sh s file every low)
      → KeepsBy sh s c sent GaveBack (λ _. vacated sh s file every low) (file_answer sh s file)
  keeps_file c sent file low e = go (not (ltb file sh.files)) refl
    where
      go : (v : Bool) → not (ltb file sh.files) ≡ v
          → KeepsBy sh s c sent GaveBack (λ _. vacated sh s file every low)
          (unless (cond v (Some File) None) file 0 (Ok (placed (s.place file) every sh.width)))
      go true h = refused c sent _
      go false h =
          let lf = is_below file sh.files h in
          let w = vacated_count sh.files sh.width s.place file every lf in
          record { sound = sound_vacate sh s ok file every low lf; book = e; balance = omega arith }

  keeps_remove : (file : ℕ) (sent : List ℕ) → Keeps sh s (Remove file) sent (answer_to sh s (Remove file) sent) (state_after sh s (Remove file) sent)
  keeps_remove file sent = keeps_file (Remove file) sent file (changed s.lower file (inside 0 sh.width) (λ _. zero_block))
      (book_path
      (λ f b. zero_swap s.board (s.lower f b) (eqb f file && inside 0 sh.width b) (s.place f b)
      ∙ ap (bytes_at s.board (changed s.lower file (inside 0 sh.width) (λ _. zero_block) f b)) (same_gone file f b))
      (λ f b. same_gone file f b))

  -- What a demote copies is what was shown.
  copied_bytes : (file f b : ℕ)
      → shown s f b ≡ bytes_at s.board (changed s.lower file (λ c. is_some (s.place file c)) (shown s file) f b) (changed s.place file every (λ _. None) f b)
  copied_bytes file f b =
      elim (cases_eq f file) [
        | inl e ↦ subst (λ (x : ℕ). shown s x b ≡ bytes_at s.board (copied x b) (changed s.place file every (λ _. None) x b)) (sym e)
            (go (s.place file b) refl ∙ ap (bytes_at s.board (copied file b)) (sym (changed_here s.place file every (λ _. None) b refl)))
        | inr d ↦ ap₂ (bytes_at s.board) (sym (changed_elsewhere s.lower file (λ c. is_some (s.place file c)) (shown s file) f b d))
            (sym (changed_elsewhere s.place file every (λ _. None) f b d))
      ]
    where
      copied : Contents
      copied = changed s.lower file (λ c. is_some (s.place file c)) (shown s file)

      go : (o : Option ℕ) → s.place file b ≡ o → shown s file b ≡ changed s.lower file (λ c. is_some (s.place file c)) (shown s file) file b
      go (Some p) e = sym (changed_here s.lower file (λ c. is_some (s.place file c)) (shown s file) b (ap is_some e))
      go None e = ap (bytes_at s.board (s.lower file b)) e
          ∙ sym (changed_beside s.lower file (λ c. is_some (s.place file c)) (shown s file) b (ap is_some e))

  keeps_demote : (file : ℕ) (sent : List ℕ) → Keeps sh s (Demote file) sent (answer_to sh s (Demote file) sent) (state_after sh s (Demote file) sent)
  keeps_demote file sent = keeps_file (Demote file) sent file (changed s.lower file (λ b. is_some (s.place file b)) (shown s file))
      (book_path (copied_bytes file) (λ f b. refl))

  -- ---- any call

  pub keeps : (q : Ask) → Keeps sh s q.call q.sent (told sh s q).answer (next sh s q)
  keeps q = of q.call q.sent
    where
      of : (c : Call) (sent : List ℕ) → Keeps sh s c sent (answer_to sh s c sent) (state_after sh s c sent)
      of (Write file block mark) sent = keeps_write file block mark sent
      of (Read file block) sent = keeps_read file block sent
      of (Clear file first n) sent = keeps_clear file first n sent
      of (Remove file) sent = keeps_remove file sent
      of (Demote file) sent = keeps_demote file sent

  -- ---- what a read shows, and when a kept write finds no free block

  pub shows : (q : Ask) → ShowsBook (book_of s) q (told sh s q)
  shows q file block e =
      subst (λ (c : Call). is_ok (answer_to sh s c q.sent) ≡ true → buffer_after sh s c q.sent ≡ shown s file block) (sym e)
      (go _ (bad_read sh file block (length q.sent)))
    where
      go : (old : List ℕ) (o : Option Ground) → is_ok (as_any Showed (unless o file block (Ok (source (s.place file block))))) ≡ true
          → if_granted (unless o file block (Ok (source (s.place file block)))) old (λ _. shown s file block) ≡ shown s file block
      go old (Some g) h = absurd (both_ways false refl h)
      go old None h = refl

  pub full : (q : Ask) → FullExactly sh (book_of s) q (told sh s q)
  full q file block e lf lb len un =
      subst (λ (a : Answer). (refused_with a ≡ Some 12 → places ≡ sh.size) × (places ≡ sh.size → refused_with a ≡ Some 12)) (sym said)
      (go (free_for sh s file block) refl)
    where
      places : ℕ
      places = tally_below sh.files sh.width s.place

      said : answer_to sh s q.call q.sent ≡ as_any Wrote (takes sh s.place file block (free_for sh s file block))
      said = ap (λ (c : Call). answer_to sh s c q.sent) e
          ∙ ap (as_any Wrote) (write_takes sh s file block 1 (length q.sent) (admits_write sh file block 1 (length q.sent) (omega arith) lf lb len) un (λ z. omega arith) _ refl)

      not_full : (p : ℕ) → free_for sh s file block ≡ Some p → tally_below sh.files sh.width s.place ≡ sh.size → ⊥
      not_full p h z =
          let w = found_free s.taken sh.size (goal sh.size (s.place file) block) p h in
          both_ways (s.taken p) w.1 (full_count sh.size s.taken (ok.counted ∙ z) p w.0)

      roomy : (p : ℕ) → free_for sh s file block ≡ Some p → (v : Bool)
          → (refused_with (as_any Wrote (cond v (Err (map_full file block)) (Ok (Board p true)))) ≡ Some 12 → tally_below sh.files sh.width s.place ≡ sh.size)
          × (tally_below sh.files sh.width s.place ≡ sh.size → refused_with (as_any Wrote (cond v (Err (map_full file block)) (Ok (Board p true)))) ≡ Some 12)
      roomy p h true = (λ z. absurd (let y = some_same z in omega arith), λ z. absurd (not_full p h z))
      roomy p h false = (λ z. none_some refl z, λ z. absurd (not_full p h z))

      go : (o : Option ℕ) → free_for sh s file block ≡ o
          → (refused_with (as_any Wrote (takes sh s.place file block o)) ≡ Some 12 → tally_below sh.files sh.width s.place ≡ sh.size)
          × (tally_below sh.files sh.width s.place ≡ sh.size → refused_with (as_any Wrote (takes sh s.place file block o)) ≡ Some 12)
      go None h = (λ _. sym ok.counted ∙ count_full sh.size s.taken (found_none s.taken sh.size (goal sh.size (s.place file) block) h), λ _. refl)
      go (Some p) h = roomy p h (overfull sh (changed s.place file (only block) (λ _. Some p)))
