-- A write and a read, by where the block lies.
use Rattle.std.proofs.Common.{◌≡◌, ℕ, ◌<◌, ◌≤◌, Bool, true, false, cond, ◌≢◌, List, length, Some, None, Ok, Err, Option, Result, sym, refl, ap, ◌∙◌, arith}
use Rattle.faults.specs.declared.Fault.{Fault}
use Rattle.faults.specs.declared.Ground.TheVariants.{NoFreeBlock}
use Rattle.calls.specs.declared.Call.TheVariants.{Write}
use Rattle.calls.specs.declared.StoreFault.{StoreFault}
use Rattle.calls.specs.declared.Written.{Written}
use Rattle.calls.specs.declared.Written.TheVariants.{Lower, Board}
use Rattle.blocks.specs.Blocks.{Placement, Contents, only, changed}
use Rattle.boards.specs.Boards.{ReplacesBlock}
use Rattle.lowers.specs.Lowers.{Changes, block_answer}
use Rattle.claims.specs.Claims.{Claimed, claim_step}
use Rattle.claims.proofs.Entering.{entering, claims_within}
use Rattle.ledger.specs.Free.{goal}
use Rattle.ledger.specs.Store.{unless, Shape, State, put, own, map_full, overfull, if_granted, bad_write, takes, free_for, write_answer, wrote, after_write}
use Rattle.ledger.proofs.Admits.{admitted_write, write_replaces, write_lower, write_takes}
use Rattle.ledger.proofs.Search.{found_free}
use Rattle.ledger.specs.Sound.{Sound}
use Rattle.store.specs.Whole.{shaped, stated}
use Rattle.admission.specs.Admission.{ground_of_write}
use Rattle.store.proofs.Parts.{Did, did, no_ground, by_ground, board_replaced, lower_changed, block_granted}

-- ---- what a claim tells of a write

module _ (sh : Shape) (s : State) (file block : ℕ) where
  abbrev with_place : ℕ → Placement
  with_place p = changed s.place file (only block) (λ _. Some p)

  abbrev claimed_by : Option ℕ → Claimed
  claimed_by o = entering sh.rule sh.keys s.taken s.place file block o

  refused_claim : (o : Option ℕ) (f : StoreFault) (w : Claimed) → w ≡ claimed_by o → w.0 ≡ Err f
      → (takes sh s.place file block o ≡ Err f) × (w.1 ≡ s.taken) × (w.2 ≡ s.place)
  refused_claim None f w e h =
      let d : ◌≡◌ {A = Result ℕ StoreFault} (Err (own NoFreeBlock file block)) (Err f) = sym (ap (λ (x : Claimed). x.0) e) ∙ h in
      let z : ◌≡◌ {A = StoreFault} (own NoFreeBlock file block) f = cc in
      (ap Err z, ap (λ (x : Claimed). x.1) e, ap (λ (x : Claimed). x.2) e)
  refused_claim (Some p) f w e h = go (overfull sh (with_place p)) e
    where
      go : (v : Bool) → w ≡ cond v (Err (map_full file block), s.taken, s.place) (Ok p, put s.taken p true, with_place p)
          → (cond v (Err (map_full file block)) (Ok (Board p true)) ≡ Err f) × (w.1 ≡ s.taken) × (w.2 ≡ s.place)
      go true k =
          let d : ◌≡◌ {A = Result ℕ StoreFault} (Err (map_full file block)) (Err f) = sym (ap (λ (x : Claimed). x.0) k) ∙ h in
          let z : ◌≡◌ {A = StoreFault} (map_full file block) f = cc in
          (ap Err z, ap (λ (x : Claimed). x.1) k, ap (λ (x : Claimed). x.2) k)
      go false k = let d : ◌≡◌ {A = Result ℕ StoreFault} (Err f) (Ok p) = sym h ∙ ap (λ (x : Claimed). x.0) k in
          let z : ◌≡◌ {A = ℕ} 0 1 = cc in absurd (omega arith)

  granted_claim : (o : Option ℕ) (p : ℕ) (w : Claimed) → w ≡ claimed_by o → w.0 ≡ Ok p
      → (takes sh s.place file block o ≡ Ok (Board p true)) × (o ≡ Some p) × (w.1 ≡ put s.taken p true) × (w.2 ≡ with_place p)
  granted_claim None p w e h =
      let d : ◌≡◌ {A = Result ℕ StoreFault} (Ok p) (Err (own NoFreeBlock file block)) = sym h ∙ ap (λ (x : Claimed). x.0) e in
      let z : ◌≡◌ {A = ℕ} 0 1 = cc in absurd (omega arith)
  granted_claim (Some q) p w e h = go (overfull sh (with_place q)) e
    where
      go : (v : Bool) → w ≡ cond v (Err (map_full file block), s.taken, s.place) (Ok q, put s.taken q true, with_place q)
          → (cond v (Err (map_full file block)) (Ok (Board q true)) ≡ Ok (Board p true)) × (Some q ≡ Some p) × (w.1 ≡ put s.taken p true) × (w.2 ≡ with_place p)
      go true k = let d : ◌≡◌ {A = Result ℕ StoreFault} (Ok p) (Err (map_full file block)) = sym h ∙ ap (λ (x : Claimed). x.0) k in
          let z : ◌≡◌ {A = ℕ} 0 1 = cc in absurd (omega arith)
      go false k =
          let d : ◌≡◌ {A = Result ℕ StoreFault} (Ok q) (Ok p) = sym (ap (λ (x : Claimed). x.0) k) ∙ h in
          let z : q ≡ p = cc in
          (ap (λ (n : ℕ). Ok (Board n true)) z, ap Some z, ap (λ (x : Claimed). x.1) k ∙ ap (λ (n : ℕ). put s.taken n true) z, ap (λ (x : Claimed). x.2) k ∙ ap with_place z)

-- ---- an admitted write

-- that its arguments admit it, as the call has found
module _ {sh : Shape} {s : State} (file block mark : ℕ) (bytes : List ℕ) (v : Sound sh s) {r : Result (Unit {0}) StoreFault}
    (adm : r ≡ unless (ground_of_write sh.files sh.width file block mark (length bytes)) file block (Ok tt)) where
  -- one that they do not admit
  pub not_admitted : (f : StoreFault) → r ≡ Err f
      → Did (write_answer sh s file block mark (length bytes)) (Err f) sh sh (after_write sh s file block mark bytes) s
  not_admitted f e =
      let due = by_ground (bad_write sh file block mark (length bytes)) file block f _ (sym adm ∙ e) in
      did (record { call = Write file block mark; sent = bytes }) v (sym due) refl
      (sym (ap (λ (x : Result Written StoreFault). if_granted x s (wrote s file block bytes)) due))

  module _ (granted : r ≡ Ok tt) where
    ad : bad_write sh file block mark (length bytes) ≡ None
    ad = no_ground (bad_write sh file block mark (length bytes)) file block (sym adm ∙ granted)

    bounds : (mark ≤ 1) × (file < sh.files) × (block < sh.width) × (length bytes ≡ 4096)
    bounds = admitted_write sh file block mark (length bytes) ad

    leaves_so : {w : Result Written StoreFault} {s' : State} → write_answer sh s file block mark (length bytes) ≡ w → s' ≡ if_granted w s (wrote s file block bytes) → s' ≡ after_write sh s file block mark bytes
    leaves_so due e = e ∙ sym (ap (λ (x : Result Written StoreFault). if_granted x s (wrote s file block bytes)) due)

    -- a block with a place is replaced there
    pub replaces : {keys' size' p : ℕ} {place' : Placement} {blocks' : ℕ → List ℕ} {answer : Result (Unit {0}) Fault}
        → keys' ≡ sh.keys → place' ≡ s.place → Some p ≡ s.place file block
        → ReplacesBlock sh.size s.board p bytes answer size' blocks'
        → Did (write_answer sh s file block mark (length bytes)) (Ok (Board p false)) sh (shaped sh.rule keys' size' sh.files sh.width)
        (after_write sh s file block mark bytes) (stated place' s.taken blocks' s.lower)
    replaces {p = p} ek ep here w =
        let due = write_replaces sh s file block mark (length bytes) ad p (sym here) in
        let eb = board_replaced w (v.within file block p (sym here)).2 bounds.3 in
        did (record { call = Write file block mark; sent = bytes }) v (sym due)
        (λ i. shaped sh.rule (ek i) (w.same_size i) sh.files sh.width) (leaves_so due (λ i. stated (ep i) s.taken (eb i) s.lower))

    -- a loose block without one goes to the lower store
    pub goes_down : {keys' files' width' : ℕ} {place' : Placement} {bytes' : Contents} {answer : Result (Unit {0}) Fault}
        → keys' ≡ sh.keys → place' ≡ s.place → None ≡ s.place file block → mark ≡ 0
        → Changes sh.files sh.width s.lower file (only block) (λ _. bytes) (block_answer sh.files sh.width file block (length bytes)) answer files' width' bytes'
        → Did (write_answer sh s file block mark (length bytes)) (Ok Lower) sh (shaped sh.rule keys' sh.size files' width')
        (after_write sh s file block mark bytes) (stated place' s.taken s.board bytes')
    goes_down ek ep here loose w =
        let due = write_lower sh s file block mark (length bytes) ad (sym here) loose in
        let el = lower_changed w (block_granted sh.files sh.width file block (length bytes) bounds.1 bounds.2 bounds.3) in
        did (record { call = Write file block mark; sent = bytes }) v (sym due)
        (λ i. shaped sh.rule (ek i) sh.size (w.same_files i) (w.same_width i)) (leaves_so due (λ i. stated (ep i) s.taken s.board (el i)))

    -- a kept one takes a board block, unless the claim is refused
    module _ {keys' keys₁ size₁ : ℕ} {place' place₁ : Placement} {taken' : ℕ → Bool} {told : Result ℕ StoreFault}
        (ek : keys₁ ≡ sh.keys) (ek' : keys' ≡ keys₁) (ep : place₁ ≡ s.place) (here : None ≡ s.place file block) (kept : mark ≢ 0)
        (es : size₁ ≡ sh.size) (few : sh.files ≤ 65536) (narrow : sh.width ≤ 65536) (bounded : sh.size ≤ 4096)
        (step : ◌≡◌ {A = Claimed} (told, taken', place') (claim_step sh.rule keys₁ size₁ s.taken place₁ file block)) where
      claims : ◌≡◌ {A = Claimed} (told, taken', place') (entering sh.rule sh.keys s.taken s.place file block (free_for sh s file block))
      claims = step ∙ (λ i. claim_step sh.rule (ek i) (es i) s.taken (ep i) file block)
          ∙ claims_within sh.rule sh.keys sh.size s.taken s.place file block
          (omega (arith, few, bounds.1)) (omega (arith, narrow, bounds.2)) bounded (sym here)

      takes_free : write_answer sh s file block mark (length bytes) ≡ takes sh s.place file block (free_for sh s file block)
      takes_free = write_takes sh s file block mark (length bytes) ad (sym here) kept (free_for sh s file block) refl

      pub not_claimed : (f : StoreFault) → told ≡ Err f
          → Did (write_answer sh s file block mark (length bytes)) (Err f) sh (shaped sh.rule keys' sh.size sh.files sh.width)
          (after_write sh s file block mark bytes) (stated place' taken' s.board s.lower)
      not_claimed f e =
          let h = refused_claim sh s file block (free_for sh s file block) f (told, taken', place') claims e in
          let due = takes_free ∙ h.0 in
          did (record { call = Write file block mark; sent = bytes }) v (sym due)
          (λ i. shaped sh.rule ((ek' ∙ ek) i) sh.size sh.files sh.width) (leaves_so due (λ i. stated (h.2 i) (h.1 i) s.board s.lower))

      pub is_claimed : {size' p : ℕ} {blocks' : ℕ → List ℕ} {answer : Result (Unit {0}) Fault} → told ≡ Ok p
          → ReplacesBlock sh.size s.board p bytes answer size' blocks'
          → Did (write_answer sh s file block mark (length bytes)) (Ok (Board p true)) sh (shaped sh.rule keys' size' sh.files sh.width)
          (after_write sh s file block mark bytes) (stated place' taken' blocks' s.lower)
      is_claimed {p = p} e b =
          let h = granted_claim sh s file block (free_for sh s file block) p (told, taken', place') claims e in
          let due = takes_free ∙ h.0 in
          let low = (found_free s.taken sh.size (goal sh.size (s.place file) block) p h.1).0 in
          let eb = board_replaced b low bounds.3 in
          did (record { call = Write file block mark; sent = bytes }) v (sym due)
          (λ i. shaped sh.rule ((ek' ∙ ek) i) (b.same_size i) sh.files sh.width) (leaves_so due (λ i. stated (h.3 i) (h.2 i) (eb i) s.lower))
