-- From what each part of a run says to what is promised of an end, and of two.
use mathlib.Core.Path.{◌≡◌, refl, sym, ap₂, subst, subst₂}
use mathlib.Core.List.{List, ◌++◌}
use Rattle.blocks.specs.Blocks.{Contents}
use Rattle.ledger.specs.Promise.{TrueToBook, Agree}
use Rattle.ledger.specs.Sound.{New}
use Rattle.ledger.specs.Store.{Shape, State, Ask, Told, outcome, final}
use Rattle.ledger.proofs.Runs.{agree, books_on, sound_final}
use Rattle.ledger.proofs.Steps.{sound_new}
use Rattle.promise.specs.Ends.{End, Kept, Compared, after_own}

-- A list that ran on a store of this shape and state.
pub record Ran (sh : Shape) (s : State) (qs : List Ask) (ts : List Told) (sh' : Shape) (s' : State) : Type 0 where
  pub told : ts ≡ outcome sh s qs
  pub after : s' ≡ final sh s qs
  pub shape : sh' ≡ sh

-- It ran alike on an equal store.
moved : {sh sh'' sh' : Shape} {s s'' s' : State} {qs : List Ask} {ts : List Told} → sh ≡ sh'' → s ≡ s'' → Ran sh s qs ts sh' s' → Ran sh'' s'' qs ts sh' s'
moved {sh' = sh'} {s' = s'} {qs = qs} {ts = ts} e f r = subst₂ (λ (z : Shape) (y : State). Ran z y qs ts sh' s') e f r

-- An end whose store began in this shape and state, ran its own list, and then the later one.
pub kept : {e : End} {sh sh₁ : Shape} {s s₁ : State}
    → sh ≡ e.shape → New sh s → s.board ≡ e.board → s.lower ≡ e.lower
    → Ran sh s e.own e.own_told sh₁ s₁ → Ran sh₁ s₁ e.later e.later_told e.shape_after e.state_after
    → Kept e
kept {e} {s = s} shaped new board_bytes lower_bytes own later =
    let fresh : New e.shape s = subst (λ (z : Shape). New z s) shaped new in
    let a = moved shaped refl own in
    let b = moved a.shape a.after later in
    let told : outcome e.shape s e.own ++ outcome e.shape (after_own e s) e.later ≡ e.own_told ++ e.later_told =
    ap₂ (λ (x y : List Told). x ++ y) (sym a.told) (sym b.told) in
    let book = subst₂ (λ (ts : List Told) (z : State). TrueToBook e.shape s.lower (e.own ++ e.later) ts z.place) told (sym b.after)
    (books_on e.shape s fresh e.own e.later) in
    record {
      began = s;
      begins = record { new = fresh; board_bytes = board_bytes; lower_bytes = lower_bytes };
      own_ruled = a.told;
      later_ruled = b.told;
      left_ruled = b.after;
      book = subst (λ (low : Contents). TrueToBook e.shape low (e.own ++ e.later) (e.own_told ++ e.later_told) e.state_after.place) lower_bytes book;
      shape_stays = b.shape;
    }

pub compared : {club server : End} → Kept club → Kept server → Compared club server
compared {club} {server} k k' = record {
  at_club = k;
  at_server = k';
  agreement = λ al same.
      let sh = club.shape in
      let sh' = server.shape in
      let m = after_own club k.began in
      let m' = after_own server k'.began in
      let sound = sound_final sh k.began (sound_new sh k.began k.begins.new) club.own in
      let sound' = sound_final sh' k'.began (sound_new sh' k'.began k'.begins.new) server.own in
      let w = subst (λ (qs : List Ask). Agree sh (outcome sh m club.later) (final sh m club.later) sh' (outcome sh' m' qs) (final sh' m' qs)) same
      (agree sh sh' m m' sound sound' al club.later) in
      let left = subst₂ (λ (ts : List Told) (z : State). Agree sh ts z sh' (outcome sh' m' server.later) (final sh' m' server.later))
      (sym k.later_ruled) (sym k.left_ruled) w in
      subst₂ (λ (ts : List Told) (z : State). Agree sh club.later_told club.state_after sh' ts z) (sym k'.later_ruled) (sym k'.left_ruled) left;
}
