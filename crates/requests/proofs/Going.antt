-- A list of requests, served so far.
use Rattle.std.proofs.Common.{◌≡◌, ℕ, ◌+◌, ◌<◌, ◌≤◌, List, [], ◌∷◌, ◌++◌, length, get_or, take, drop, set, sym, refl, ap, ◌∙◌, subst, ap₂, append_assoc, append-nil, arith}
use Rattle.std.proofs.lemmas.List.{drop_more, take_more_set, drop-set-lt, drop_all, take_all, map-append}
use Rattle.ledger.specs.Store.{Shape, State, Ask, Told, told, next, outcome, final}
use Rattle.requests.specs.declared.Request.{Request}
use Rattle.requests.specs.Requests.{asked, heard, asks, tells}

-- What a store of this shape and state told of one call, and what it then is.
pub record Served (sh : Shape) (s : State) (q : Ask) (t : Told) (sh' : Shape) (s' : State) : Type 0 where
  pub tells_it : t ≡ told sh s q
  pub leaves : s' ≡ next sh s q
  pub shape : sh' ≡ sh

-- After k requests: what is left gives the rest of the outcome.
pub record Going (sh : Shape) (s : State) (before : List Request) (k : ℕ) (rs : List Request) (sh' : Shape) (s' : State) : Type 0 where
  pub answers : outcome sh s (asks before) ≡ tells (take k rs) ++ outcome sh s' (asks (drop k rs))
  pub left : final sh s (asks before) ≡ final sh s' (asks (drop k rs))
  pub shape : sh' ≡ sh

module _ (sh : Shape) (s : State) (before : List Request) where
  pub start : Going sh s before 0 before sh s
  start = record { answers = refl; left = refl; shape = refl }

  pub again : (k : ℕ) (rs : List Request) (sh' : Shape) (s' : State) → Going sh s before k rs sh' s' → k < length rs
      → (d x : Request) (sh'' : Shape) (s'' : State) → Served sh' s' (asked (get_or rs k d)) (heard x) sh'' s''
      → Going sh s before (k + 1) (set rs k x) sh'' s''
  again k rs sh' s' i l d x sh'' s'' served =
      let q = asked (get_or rs k d) in
      let w = subst (λ (z : Shape). Served z s' q (heard x) sh'' s'') i.shape served in
      let rest = drop (k + 1) rs in
      let cut : drop k rs ≡ get_or rs k d ∷ rest = drop_more rs k d l in
      let kept : drop (k + 1) (set rs k x) ≡ rest = drop-set-lt (k + 1) rs k x (omega arith) in
      let front : tells (take (k + 1) (set rs k x)) ≡ tells (take k rs) ++ heard x ∷ [] =
      ap tells (take_more_set rs k x l) ∙ map-append heard (take k rs) (x ∷ []) in
      record {
        answers =
            i.answers
            ∙ (ap (λ (z : List Request). tells (take k rs) ++ outcome sh s' (asks z)) cut
            ∙ (ap₂ (λ (t : Told) (z : State). tells (take k rs) ++ t ∷ outcome sh z (asks rest)) (sym w.tells_it) (sym w.leaves)
            ∙ (sym (append_assoc (tells (take k rs)) (heard x ∷ []) (outcome sh s'' (asks rest)))
            ∙ ap₂ (λ (a : List Told) (z : List Request). a ++ outcome sh s'' (asks z)) (sym front) (sym kept))));
        left =
            i.left
            ∙ (ap (λ (z : List Request). final sh s' (asks z)) cut
            ∙ ap₂ (λ (z : State) (y : List Request). final sh z (asks y)) (sym w.leaves) (sym kept));
        shape = w.shape;
      }

  module _ (k : ℕ) (rs : List Request) (sh' : Shape) (s' : State) (i : Going sh s before k rs sh' s') (l : length rs ≤ k) where
    pub all_told : tells rs ≡ outcome sh s (asks before)
    all_told = sym (
        i.answers
        ∙ (ap₂ (λ (a z : List Request). tells a ++ outcome sh s' (asks z)) (take_all k rs l) (drop_all k rs l)
        ∙ append-nil (tells rs)))

    pub at_end : s' ≡ final sh s (asks before)
    at_end = sym (i.left ∙ ap (λ (z : List Request). final sh s' (asks z)) (drop_all k rs l))
