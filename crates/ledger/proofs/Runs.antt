-- The laws over whole lists, from any sound store and then from a new one.
use Rattle.std.proofs.Common.{◌≡◌, ◌+◌, List, [], ◌∷◌, ◌++◌, sym, refl, ap, ◌∙◌, subst, ap₂, subst₂, arith}
use mathlib.Core.Path.{fun_ext}
use Rattle.blocks.specs.Blocks.{Placement}
use Rattle.blocks.proofs.Sums.{below_none}
use Rattle.ledger.specs.Book.{Book, new_book, book_after, places_in, blocks_taken, blocks_given_back}
use Rattle.ledger.specs.Promise.{ShowsBook, FullExactly, Along, Holds, TrueToBook, Alike, Agree, Promise}
use Rattle.ledger.specs.Sound.{Sound, New}
use Rattle.ledger.specs.Store.{Shape, State, Ask, Told, bytes_at, told, next, outcome, final}
use Rattle.ledger.proofs.Calls.{book_of, keeps, shows, full}
use Rattle.ledger.proofs.Steps.{sound_new}
use Rattle.ledger.proofs.Twins.{Same, same_told, same_next}

-- ---- one list

-- What was asked and told, beside the book at the beginning and the map at the end.
pub record Account (sh : Shape) (k : Book) (qs : List Ask) (ts : List Told) (map : Placement) : Type 0 where
  pub reads : Along ShowsBook sh.width k qs ts
  pub full : Along (FullExactly sh) sh.width k qs ts
  pub balance : places_in sh k + blocks_taken ts ≡ places_in sh (book_after sh.width k qs ts) + blocks_given_back ts
  pub places : Holds sh map (book_after sh.width k qs ts)

-- What is said of each call alone holds along a list.
along : (sh : Shape) (P : Book → Ask → Told → Type 0) → ((s : State) → Sound sh s → (q : Ask) → P (book_of s) q (told sh s q))
    → (s : State) → Sound sh s → (qs : List Ask) → Along P sh.width (book_of s) qs (outcome sh s qs)
along sh P each s ok [] = tt
along sh P each s ok (q ∷ qs) =
    let w = keeps sh s ok q in
    (each s ok q, subst (λ (k : Book). Along P sh.width k qs (outcome sh (next sh s q) qs)) (sym w.book) (along sh P each (next sh s q) w.sound qs))

pub sound_final : (sh : Shape) (s : State) → Sound sh s → (qs : List Ask) → Sound sh (final sh s qs)
sound_final sh s ok [] = ok
sound_final sh s ok (q ∷ qs) = sound_final sh (next sh s q) (keeps sh s ok q).sound qs

-- The book that was fed is the book of the store at the end.
pub book_final : (sh : Shape) (s : State) → Sound sh s → (qs : List Ask) → book_after sh.width (book_of s) qs (outcome sh s qs) ≡ book_of (final sh s qs)
book_final sh s ok [] = refl
book_final sh s ok (q ∷ qs) =
    let w = keeps sh s ok q in
    ap (λ (k : Book). book_after sh.width k qs (outcome sh (next sh s q) qs)) w.book ∙ book_final sh (next sh s q) w.sound qs

balanced : (sh : Shape) (s : State) → Sound sh s → (qs : List Ask)
    → places_in sh (book_of s) + blocks_taken (outcome sh s qs) ≡ places_in sh (book_of (final sh s qs)) + blocks_given_back (outcome sh s qs)
balanced sh s ok [] = refl
balanced sh s ok (q ∷ qs) =
    let w = keeps sh s ok q in
    let here = w.balance in
    let rest = balanced sh (next sh s q) w.sound qs in
    omega arith

holds : (sh : Shape) (s : State) → Sound sh s → Holds sh s.place (book_of s)
holds sh s ok = record { held = λ f b. refl; within = λ f b p e. let w = ok.within f b p e in (w.0, w.1, w.2); apart = ok.apart }

pub account : (sh : Shape) (s : State) → Sound sh s → (qs : List Ask) → Account sh (book_of s) qs (outcome sh s qs) (final sh s qs).place
account sh s ok qs =
    let e = book_final sh s ok qs in
    record {
      reads = along sh ShowsBook (shows sh) s ok qs;
      full = along sh (FullExactly sh) (full sh) s ok qs;
      balance = balanced sh s ok qs ∙ ap (λ (k : Book). places_in sh k + blocks_given_back (outcome sh s qs)) (sym e);
      places = subst (Holds sh (final sh s qs).place) (sym e) (holds sh (final sh s qs) (sound_final sh s ok qs));
    }

-- ---- one list after another

pub outcome_append : (sh : Shape) (s : State) (qs rs : List Ask) → outcome sh s (qs ++ rs) ≡ outcome sh s qs ++ outcome sh (final sh s qs) rs
outcome_append sh s [] rs = refl
outcome_append sh s (q ∷ qs) rs = ap (λ (ts : List Told). told sh s q ∷ ts) (outcome_append sh (next sh s q) qs rs)

pub final_append : (sh : Shape) (s : State) (qs rs : List Ask) → final sh s (qs ++ rs) ≡ final sh (final sh s qs) rs
final_append sh s [] rs = refl
final_append sh s (q ∷ qs) rs = final_append sh (next sh s q) qs rs

-- ---- two stores

module _ (sh : Shape) where
  pub same_run : (s t : State) → Sound sh s → Sound sh t → Same sh s t → (qs : List Ask)
      → (outcome sh s qs ≡ outcome sh t qs) × Same sh (final sh s qs) (final sh t qs)
  same_run s t ok ok' al [] = (refl, al)
  same_run s t ok ok' al (q ∷ qs) =
      let w = same_run (next sh s q) (next sh t q) (keeps sh s ok q).sound (keeps sh t ok' q).sound (same_next sh s t ok ok' al q) qs in
      (ap₂ ◌∷◌ (same_told sh s t ok ok' al q) w.0, w.1)

shape_path : {sh sh' : Shape} {s s' : State} → Alike sh s sh' s' → sh ≡ sh'
shape_path al = λ i. record { rule = λ pl. al.rule pl i; keys = al.keys i; size = al.size i; files = al.files i; width = al.width i }

from_same : (sh : Shape) (s t : State) → Same sh s t → Alike sh s sh t
from_same sh s t w = record {
  rule = λ _. refl;
  keys = refl;
  size = refl;
  files = refl;
  width = refl;
  place = λ f b. ap (λ (pl : Placement). pl f b) w.place;
  lower = w.lower;
  board = w.board;
}

pub agree : (sh sh' : Shape) (s s' : State) → Sound sh s → Sound sh' s' → Alike sh s sh' s' → (qs : List Ask)
    → Agree sh (outcome sh s qs) (final sh s qs) sh' (outcome sh' s' qs) (final sh' s' qs)
agree sh sh' s s' ok ok' al qs =
    let e = shape_path al in
    let same : Same sh s s' = record { place = fun_ext (λ f. fun_ext (λ b. al.place f b)); lower = al.lower; board = al.board } in
    let w = same_run sh s s' ok (subst (λ (z : Shape). Sound z s') (sym e) ok') same qs in
    subst (λ (z : Shape). Agree sh (outcome sh s qs) (final sh s qs) z (outcome z s' qs) (final z s' qs)) e
    (record { told_alike = w.0; end_alike = from_same sh _ _ w.1 })

-- ---- from a new store

new_book_is : (sh : Shape) (s : State) → New sh s → book_of s ≡ new_book s.lower
new_book_is sh s new = λ i. record
    { bytes = λ f b. bytes_at s.board (s.lower f b) (new.unplaced f b i); place = λ f b. new.unplaced f b i }

pub promise : Promise
promise = record {
  books = λ sh s new qs.
      let a = subst (λ (k : Book). Account sh k qs (outcome sh s qs) (final sh s qs).place) (new_book_is sh s new) (account sh s (sound_new sh s new) qs) in
      let none = below_none sh.files sh.width (new_book s.lower).place (λ f b. refl) in
      let sums = a.balance in
      record { reads = a.reads; full = a.full; balance = omega arith; places = a.places };
  agrees = λ sh sh' s s' new new' qs qs' later al.
      agree sh sh' (final sh s qs) (final sh' s' qs') (sound_final sh s (sound_new sh s new) qs) (sound_final sh' s' (sound_new sh' s' new') qs') al later;
}

-- One list after another, from a new store on.
pub books_on : (sh : Shape) (s : State) → New sh s → (qs rs : List Ask)
    → TrueToBook sh s.lower (qs ++ rs) (outcome sh s qs ++ outcome sh (final sh s qs) rs) (final sh (final sh s qs) rs).place
books_on sh s new qs rs =
    subst₂ (λ (ts : List Told) (e : State). TrueToBook sh s.lower (qs ++ rs) ts e.place)
    (outcome_append sh s qs rs) (final_append sh s qs rs) (promise.books sh s new (qs ++ rs))
