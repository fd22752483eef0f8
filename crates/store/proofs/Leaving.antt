-- Blocks that leave the board: a clear, a remove and a demote.
use Rattle.std.proofs.Common.{◌≡◌, ℕ, ◌+◌, ◌<◌, ◌≤◌, Bool, true, false, cond, not, ltb, List, [], Some, None, Ok, Err, Option, Result, sym, refl, ap, ◌∙◌, arith}
use Rattle.faults.specs.declared.Fault.{Fault}
use Rattle.faults.specs.declared.Ground.{Ground}
use Rattle.faults.specs.declared.Ground.TheVariants.{TooManyKeys, File}
use Rattle.calls.specs.declared.Call.TheVariants.{Clear, Remove, Demote}
use Rattle.calls.specs.declared.StoreFault.{StoreFault}
use Rattle.calls.specs.declared.StoreFault.TheVariants.{FromMap}
use Rattle.blocks.specs.Blocks.{Placement, Contents, zero_block, inside, changed}
use Rattle.maps.specs.Steps.{fault_of}
use Rattle.lowers.specs.Lowers.{ground_of_extent, extent_answer, Changes, Holds}
use Rattle.admission.specs.Admission.{ground_of_file}
use Rattle.claims.specs.Leaves.{Vacated, leaving, vacate_step, LeftFile, leave_file}
use Rattle.claims.proofs.Giving.{vacates_within}
use Rattle.walks.specs.Walks.{BoardStays, Reaches, copied}
use Rattle.walks.proofs.Places.{freed_extent, placed_extent}
use Rattle.ledger.specs.Store.{unless, Shape, State, map_full, overfull, if_granted, placed, freed, bad_clear, clears, clear_answer, cleared, after_clear, file_answer, removed, after_remove, demoted, after_demote}
use Rattle.ledger.proofs.Admits.{admitted_clear, clear_admitted, file_granted, is_below}
use Rattle.ledger.specs.Sound.{Sound}
use Rattle.store.specs.Whole.{shaped, stated}
use Rattle.store.proofs.Parts.{Did, did, no_ground, by_ground, lower_changed, extent_granted}

-- ---- a clear

module _ {sh : Shape} {s : State} (file first n : ℕ) (v : Sound sh s) {r : Result (Unit {0}) StoreFault}
    (adm : r ≡ unless (ground_of_extent sh.files sh.width file first n) file first (Ok tt)) where
  leaves_so : {w : Result ℕ StoreFault} {s' : State} → clear_answer sh s file first n ≡ w → s' ≡ if_granted w s (λ _. cleared sh s file first n) → s' ≡ after_clear sh s file first n
  leaves_so due e = e ∙ sym (ap (λ (x : Result ℕ StoreFault). if_granted x s (λ _. cleared sh s file first n)) due)

  -- one that its arguments do not admit
  pub not_admitted : (f : StoreFault) → r ≡ Err f → Did (clear_answer sh s file first n) (Err f) sh sh (after_clear sh s file first n) s
  not_admitted f e =
      let due = by_ground (bad_clear sh file first n) file first f (clears sh s.place file first n) (sym adm ∙ e) in
      did (record { call = Clear file first n; sent = [] }) v (sym due) refl (leaves_so due refl)

module _ {sh : Shape} {s : State} (file first n : ℕ) (v : Sound sh s) {r : Result (Unit {0}) StoreFault}
    (adm : r ≡ unless (ground_of_extent sh.files sh.width file first n) file first (Ok tt)) (granted : r ≡ Ok tt) where
  ad : bad_clear sh file first n ≡ None
  ad = no_ground (bad_clear sh file first n) file first (sym adm ∙ granted)

  bounds : (file < sh.files) × (first + n ≤ sh.width) × (0 < n) × (n ≤ 4096)
  bounds = admitted_clear sh file first n ad

  abbrev left : Placement
  left = changed s.place file (inside first n) (λ _. None)

  -- the pool and the count, by all blocks of the file
  freed_here : freed s.taken (s.place file) (inside first n) (first + n) ≡ freed s.taken (s.place file) (inside first n) sh.width
  freed_here = freed_extent s.taken (s.place file) first n (first + n) (omega arith)
      ∙ sym (freed_extent s.taken (s.place file) first n sh.width bounds.1)

  module _ {keys' : ℕ} {place' : Placement} {taken' : ℕ → Bool} {told : Result ℕ Fault} (few : sh.files ≤ 65536) (narrow : sh.width ≤ 65536) (ek : keys' ≡ sh.keys)
      (step : ◌≡◌ {A = Vacated} (told, taken', place') (vacate_step sh.rule sh.keys s.taken s.place file first n)) where
    vacates : ◌≡◌ {A = Vacated} (told, taken', place') (leaving sh.rule sh.keys s.taken s.place left file first n)
    vacates = step ∙ vacates_within sh.rule sh.keys s.taken s.place file first n
        (omega (arith, few, bounds.0)) (omega (arith, narrow, bounds.1)) bounds.2 bounds.3

    refusal : (f : Fault) → told ≡ Err f → (clears sh s.place file first n ≡ Err (FromMap f)) × (taken' ≡ s.taken) × (place' ≡ s.place)
    refusal f e = go (overfull sh left) vacates
      where
        go : (b : Bool) → ◌≡◌ {A = Vacated} (told, taken', place')
            (cond b (Err (fault_of TooManyKeys file first), s.taken, s.place) (Ok (placed (s.place file) (inside first n) (first + n)), freed s.taken (s.place file) (inside first n) (first + n), left))
            → (cond b (Err (map_full file first)) (Ok (placed (s.place file) (inside first n) sh.width)) ≡ Err (FromMap f)) × (taken' ≡ s.taken) × (place' ≡ s.place)
        go true k =
            let d : ◌≡◌ {A = Result ℕ Fault} (Err (fault_of TooManyKeys file first)) (Err f) = sym (ap (λ (x : Vacated). x.0) k) ∙ e in
            let z : ◌≡◌ {A = Fault} (fault_of TooManyKeys file first) f = cc in
            (ap (λ (x : Fault). Err (FromMap x)) z, ap (λ (x : Vacated). x.1) k, ap (λ (x : Vacated). x.2) k)
        go false k =
            let d : ◌≡◌ {A = Result ℕ Fault} (Err f) (Ok (placed (s.place file) (inside first n) (first + n))) = sym e ∙ ap (λ (x : Vacated). x.0) k in
            let z : ◌≡◌ {A = ℕ} 0 1 = cc in absurd (omega arith)

    grant : (count : ℕ) → told ≡ Ok count → (clears sh s.place file first n ≡ Ok count) × (taken' ≡ freed s.taken (s.place file) (inside first n) sh.width) × (place' ≡ left)
    grant count e = go (overfull sh left) vacates
      where
        go : (b : Bool) → ◌≡◌ {A = Vacated} (told, taken', place')
            (cond b (Err (fault_of TooManyKeys file first), s.taken, s.place) (Ok (placed (s.place file) (inside first n) (first + n)), freed s.taken (s.place file) (inside first n) (first + n), left))
            → (cond b (Err (map_full file first)) (Ok (placed (s.place file) (inside first n) sh.width)) ≡ Ok count)
            × (taken' ≡ freed s.taken (s.place file) (inside first n) sh.width) × (place' ≡ left)
        go true k =
            let d : ◌≡◌ {A = Result ℕ Fault} (Ok count) (Err (fault_of TooManyKeys file first)) = sym e ∙ ap (λ (x : Vacated). x.0) k in
            let z : ◌≡◌ {A = ℕ} 0 1 = cc in absurd (omega arith)
        go false k =
            let d : ◌≡◌ {A = Result ℕ Fault} (Ok (placed (s.place file) (inside first n) (first + n))) (Ok count) = sym (ap (λ (x : Vacated). x.0) k) ∙ e in
            let z : placed (s.place file) (inside first n) (first + n) ≡ count = cc in
            (ap Ok (placed_extent (s.place file) first n sh.width bounds.1 ∙ z), ap (λ (x : Vacated). x.1) k ∙ freed_here, ap (λ (x : Vacated). x.2) k)

    pub keeps_all : (f : Fault) → told ≡ Err f
        → Did (clear_answer sh s file first n) (Err (FromMap f)) sh (shaped sh.rule keys' sh.size sh.files sh.width)
        (after_clear sh s file first n) (stated place' taken' s.board s.lower)
    keeps_all f e =
        let h = refusal f e in
        let due = clear_admitted sh s file first n ad ∙ h.0 in
        did (record { call = Clear file first n; sent = [] }) v (sym due)
        (λ i. shaped sh.rule (ek i) sh.size sh.files sh.width) (leaves_so file first n v adm due (λ i. stated (h.2 i) (h.1 i) s.board s.lower))

    pub clears_all : {files' width' : ℕ} {bytes' : Contents} {answer : Result (Unit {0}) Fault} (count : ℕ) → told ≡ Ok count
        → Changes sh.files sh.width s.lower file (inside first n) (λ _. zero_block) (extent_answer sh.files sh.width file first n) answer files' width' bytes'
        → Did (clear_answer sh s file first n) (Ok count) sh (shaped sh.rule keys' sh.size files' width')
        (after_clear sh s file first n) (stated place' taken' s.board bytes')
    clears_all count e w =
        let h = grant count e in
        let due = clear_admitted sh s file first n ad ∙ h.0 in
        let el = lower_changed w (extent_granted sh.files sh.width file first n bounds.0 bounds.1 bounds.2 bounds.3) in
        did (record { call = Clear file first n; sent = [] }) v (sym due)
        (λ i. shaped sh.rule (ek i) sh.size (w.same_files i) (w.same_width i)) (leaves_so file first n v adm due (λ i. stated (h.2 i) (h.1 i) s.board (el i)))

-- ---- a whole file

module _ {sh : Shape} {s : State} (file : ℕ) (v : Sound sh s) {r : Result (Unit {0}) StoreFault}
    (adm : r ≡ unless (ground_of_file sh.files file) file 0 (Ok tt)) (granted : r ≡ Ok tt) where
  within : file < sh.files
  within = is_below file sh.files (ground_free (not (ltb file sh.files)) (no_ground (ground_of_file sh.files file) file 0 (sym adm ∙ granted)))
    where
      ground_free : (b : Bool) → ◌≡◌ {A = Option Ground} (cond b (Some File) None) None → b ≡ false
      ground_free false e = refl
      ground_free true e = let z : ◌≡◌ {A = ℕ} 0 1 = cc in absurd (omega arith)

  pub in_reach : Reaches (s.place file) sh.width sh.size
  in_reach b p e = let w = v.within file b p e in (w.1, w.2)

  pub in_files : file < sh.files
  in_files = within

  -- its places go, with a lower store that is left so
  module _ {width₁ keys' told : ℕ} {place' place₁ : Placement} {taken' : ℕ → Bool} (ek : keys' ≡ sh.keys) (ep : place₁ ≡ s.place) (ew : width₁ ≡ sh.width)
      (step : ◌≡◌ {A = LeftFile} (told, taken', place') (leave_file s.taken place₁ file width₁)) where
    left_file : ◌≡◌ {A = LeftFile} (told, taken', place') (leave_file s.taken s.place file sh.width)
    left_file = step ∙ (λ i. leave_file s.taken (ep i) file (ew i))

    due : file_answer sh s file ≡ Ok told
    due = file_granted sh s file within ∙ ap Ok (sym (ap (λ (x : LeftFile). x.0) left_file))

    pub removes : {files' width' : ℕ} {bytes' : Contents}
        → Holds sh.files sh.width (changed s.lower file (inside 0 sh.width) (λ _. zero_block)) files' width' bytes'
        → Did (file_answer sh s file) (Ok told) sh (shaped sh.rule keys' sh.size files' width') (after_remove sh s file) (stated place' taken' s.board bytes')
    removes w = did (record { call = Remove file; sent = [] }) v (sym due)
        (λ i. shaped sh.rule (ek i) sh.size (w.same_files i) (w.same_width i))
        ((λ i. stated (left_file i).2 (left_file i).1 s.board (w.same_bytes i)) ∙ sym (ap (λ (x : Result ℕ StoreFault). if_granted x s (λ _. removed sh s file)) due))

    pub demotes : {size' files' width' : ℕ} {blocks' : ℕ → List ℕ} {bytes' : Contents}
        → BoardStays sh.size s.board size' blocks' → Holds sh.files sh.width (copied s.board (s.place file) file s.lower) files' width' bytes'
        → Did (file_answer sh s file) (Ok told) sh (shaped sh.rule keys' size' files' width') (after_demote sh s file) (stated place' taken' blocks' bytes')
    demotes b w = did (record { call = Demote file; sent = [] }) v (sym due)
        (λ i. shaped sh.rule (ek i) (b.same_size i) (w.same_files i) (w.same_width i))
        ((λ i. stated (left_file i).2 (left_file i).1 (b.same_block i) (w.same_bytes i)) ∙ sym (ap (λ (x : Result ℕ StoreFault). if_granted x s (λ _. demoted sh s file)) due))
