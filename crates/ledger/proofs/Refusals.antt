-- Refusals come in the order of the grounds, and change nothing.
use Rattle.std.proofs.Common.{◌≡◌, ℕ, ◌+◌, Bool, true, false, cond, not, ◌&&◌, ◌||◌, eqb, ltb, List, length, is_some, is_ok, Some, None, Ok, Err, Option, Result, refl, ap}
use Rattle.std.proofs.lemmas.Bool.{both_ways}
use Rattle.blocks.specs.Blocks.{only, inside, every, changed}
use Rattle.faults.specs.Grounds.{first_ground}
use Rattle.faults.specs.declared.Ground.{Ground}
use Rattle.faults.specs.declared.Ground.TheVariants.{Mark, File, Block, Length, Buffer, NoFreeBlock, TooManyKeys}
use Rattle.calls.specs.declared.Call.{Call}
use Rattle.calls.specs.declared.Call.TheVariants.{Write, Read, Clear, Remove, Demote}
use Rattle.calls.specs.declared.Granted.{Granted}
use Rattle.calls.specs.declared.Granted.TheVariants.{Wrote, Showed, GaveBack}
use Rattle.calls.specs.declared.Source.{Source}
use Rattle.calls.specs.declared.StoreFault.{StoreFault}
use Rattle.calls.specs.declared.Written.TheVariants.{Lower, Board}
use Rattle.ledger.specs.Order.{takes_block, too_many_with, grounds_of, refusal_on, refusal_in, on_ground, RefusedInOrder, RefusedLeaves}
use Rattle.ledger.specs.Store.{Shape, State, shown, own, map_full, unless, overfull, takes, writes, free_for, write_answer, read_answer, source, placed, clears, clear_answer, file_answer, if_granted, as_any, answer_to, buffer_after, state_after}

-- ---- in order

-- One more ground in front, that the store itself refuses on.
front : {X : Type 0} (c : Call) (kind : X → Granted) (file block : ℕ) (r : Result X StoreFault) (v : Bool) (g : Ground) (o late : Option Ground)
    → own g file block ≡ refusal_on c g → refusal_in (as_any kind (unless o file block r)) ≡ on_ground c late
    → refusal_in (as_any kind (unless (cond v (Some g) o) file block r)) ≡ on_ground c (cond v (Some g) late)
front c kind file block r true g o late e h = ap Some e
front c kind file block r false g o late e h = h

module _ (sh : Shape) (s : State) (sent : List ℕ) where
  -- the grounds that the state gives a write, when no argument refuses it
  write_late : (file block mark : ℕ) (place free : Option ℕ)
      → refusal_in (as_any Wrote (writes sh s.place file block mark free place))
      ≡ on_ground (Write file block mark) (cond (takes_block place mark && not (is_some free)) (Some NoFreeBlock)
      (cond (takes_block place mark && too_many_with sh s.place file block free) (Some TooManyKeys) None))
  write_late file block mark (Some p) free = refl
  write_late file block mark None free = marked (eqb mark 0) free
    where
      roomy : (p : ℕ) (v : Bool) → refusal_in (as_any Wrote (cond v (Err (map_full file block)) (Ok (Board p true)))) ≡ on_ground (Write file block mark) (cond v (Some TooManyKeys) None)
      roomy p true = refl
      roomy p false = refl

      marked : (v : Bool) (free : Option ℕ)
          → refusal_in (as_any Wrote (cond v (Ok Lower) (takes sh s.place file block free)))
          ≡ on_ground (Write file block mark) (cond (not v && not (is_some free)) (Some NoFreeBlock)
          (cond (not v && too_many_with sh s.place file block free) (Some TooManyKeys) None))
      marked true free = refl
      marked false None = refl
      marked false (Some p) = roomy p (overfull sh (changed s.place file (only block) (λ _. Some p)))

  clear_late : (file first n k : ℕ) (v : Bool)
      → refusal_in (as_any GaveBack (cond v (Err (map_full file first)) (Ok k))) ≡ on_ground (Clear file first n) (cond v (Some TooManyKeys) None)
  clear_late file first n k true = refl
  clear_late file first n k false = refl

  of : (c : Call) → refusal_in (answer_to sh s c sent) ≡ on_ground c (first_ground (grounds_of sh s c (length sent)))
  of (Write file block mark) =
      let c : Call = Write file block mark in
      let r = writes sh s.place file block mark (free_for sh s file block) (s.place file block) in
      front c Wrote file block r (ltb 1 mark) Mark _ _ refl
      (front c Wrote file block r (not (ltb file sh.files)) File _ _ refl
      (front c Wrote file block r (not (ltb block sh.width)) Block _ _ refl
      (front c Wrote file block r (not (eqb (length sent) 4096)) Buffer None _ refl
      (write_late file block mark (s.place file block) (free_for sh s file block)))))
  of (Read file block) =
      let c : Call = Read file block in
      let r : Result Source StoreFault = Ok (source (s.place file block)) in
      front c Showed file block r (not (ltb file sh.files)) File _ _ refl
      (front c Showed file block r (not (ltb block sh.width)) Block _ _ refl
      (front c Showed file block r (not (eqb (length sent) 4096)) Buffer None None refl refl))
  of (Clear file first n) =
      let c : Call = Clear file first n in
      let r = clears sh s.place file first n in
      front c GaveBack file first r (not (ltb file sh.files)) File _ _ refl
      (front c GaveBack file first r (not (ltb first sh.width) || ltb sh.width (first + n)) Block _ _ refl
      (front c GaveBack file first r (eqb n 0 || ltb 4096 n) Length None _ refl
      (clear_late file first n _ (overfull sh (changed s.place file (inside first n) (λ _. None))))))
  of (Remove file) = front (Remove file) GaveBack file 0 (Ok (placed (s.place file) every sh.width)) (not (ltb file sh.files)) File None None refl refl
  of (Demote file) = front (Demote file) GaveBack file 0 (Ok (placed (s.place file) every sh.width)) (not (ltb file sh.files)) File None None refl refl

pub in_order : RefusedInOrder
in_order sh s q = of sh s q.sent q.call

-- ---- nothing changes

stays : {X Y : Type 0} (kind : X → Granted) (r : Result X StoreFault) (y : Y) (make : X → Y) → is_ok (as_any kind r) ≡ false → if_granted r y make ≡ y
stays kind (Ok x) y make e = absurd (both_ways true e refl)
stays kind (Err f) y make e = refl

pub leaves : RefusedLeaves
leaves sh s q = go q.call
  where
    go : (c : Call) → is_ok (answer_to sh s c q.sent) ≡ false → (state_after sh s c q.sent ≡ s) × (buffer_after sh s c q.sent ≡ q.sent)
    go (Write file block mark) e = (stays Wrote (write_answer sh s file block mark (length q.sent)) s _ e, refl)
    go (Read file block) e = (refl, stays Showed (read_answer sh s file block (length q.sent)) q.sent (λ _. shown s file block) e)
    go (Clear file first n) e = (stays GaveBack (clear_answer sh s file first n) s _ e, refl)
    go (Remove file) e = (stays GaveBack (file_answer sh s file) s _ e, refl)
    go (Demote file) e = (stays GaveBack (file_answer sh s file) s _ e, refl)
