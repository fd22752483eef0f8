-- What a store shows once it was written to or cleared from above.
use Rattle.std.proofs.Common.{◌≡◌, ℕ, ◌+◌, ◌<◌, ◌≤◌, Bool, true, false, cond, ◌&&◌, eqb, List, [], length, is_err, Some, None, Ok, Err, Option, Result, sym, refl, ap, ◌∙◌, arith}
use mathlib.Core.Path.{fun_ext}
use Rattle.std.proofs.lemmas.Bool.Decides.{nat_tests}
use Rattle.calls.specs.declared.Call.TheVariants.{Write, Clear, Demote}
use Rattle.calls.specs.declared.Granted.TheVariants.{Wrote, GaveBack}
use Rattle.calls.specs.declared.StoreFault.{StoreFault}
use Rattle.calls.specs.declared.Written.{Written}
use Rattle.calls.specs.Answers.{Answer}
use Rattle.blocks.specs.Blocks.{Placement, Contents, zero_block, only, inside, changed}
use Rattle.maps.specs.Steps.{forgotten}
use Rattle.ledger.specs.Book.{Book, fed}
use Rattle.ledger.specs.Sound.{Sound}
use Rattle.ledger.specs.Store.{Shape, State, bytes_at, shown, if_granted, as_any, write_answer, wrote, after_write, clear_answer, cleared, after_clear, demoted, after_demote, bad_write}
use Rattle.ledger.proofs.Admits.{admits_write, admits_clear, write_replaces, write_lower, file_granted, clear_granted}
use Rattle.ledger.proofs.Calls.{book_of, keeps}
use Rattle.lowers.specs.Lowers.{block_answer, extent_answer, Changes}
use Rattle.ledger.specs.Sound.{Sound}
use Rattle.store.specs.Whole.{shaped, stated}

-- an answer that is no refusal
granted : {X : Type 0} (r : Result X StoreFault) → is_err r ≡ false → (x : X) × (r ≡ Ok x)
granted (Ok x) e = (x, refl)
granted (Err f) e = let z : ◌≡◌ {A = Bool} true false = e in let y : ◌≡◌ {A = ℕ} 0 1 = ap (λ (b : Bool). cond b 0 1) z in absurd (omega arith)

refusal : {X : Type 0} (r : Result X StoreFault) → is_err r ≡ true → (f : StoreFault) × (r ≡ Err f)
refusal (Ok x) e = let z : ◌≡◌ {A = Bool} false true = e in let y : ◌≡◌ {A = ℕ} 0 1 = ap (λ (b : Bool). cond b 1 0) z in absurd (omega arith)
refusal (Err f) e = (f, refl)

module _ (sh : Shape) (s : State) (ok : Sound sh s) where
  -- ---- a write

  module _ (file block mark : ℕ) (bytes : List ℕ) {s' : State} (r : Result Written StoreFault) (due : r ≡ write_answer sh s file block mark (length bytes))
      (after : s' ≡ after_write sh s file block mark bytes) where
    pub written_shown : is_err r ≡ false → shown s' ≡ changed (shown s) file (only block) (λ _. bytes)
    written_shown e =
        let g = granted r e in
        let told : as_any Wrote (write_answer sh s file block mark (length bytes)) ≡ Ok (Wrote g.0) = ap (as_any Wrote) (sym due ∙ g.1) in
        ap shown after ∙ sym (ap (λ (k : Book). k.bytes) (keeps sh s ok (record { call = Write file block mark; sent = bytes })).book)
        ∙ ap (λ (a : Answer). (fed sh.width (book_of s) (Write file block mark) bytes a).bytes) told

    pub write_refused : is_err r ≡ true → s' ≡ s
    write_refused e = let g = refusal r e in after ∙ ap (λ (x : Result Written StoreFault). if_granted x s (wrote s file block bytes)) (sym due ∙ g.1)

  -- a loose write that is admitted is never refused
  pub loose_granted : (file block : ℕ) (bytes : List ℕ) → file < sh.files → block < sh.width → length bytes ≡ 4096 → is_err (write_answer sh s file block 0 (length bytes)) ≡ false
  loose_granted file block bytes f b l =
      go (s.place file block) refl
    where
      ad : bad_write sh file block 0 (length bytes) ≡ None
      ad = admits_write sh file block 0 (length bytes) (omega arith) f b l

      go : (o : Option ℕ) → s.place file block ≡ o → is_err (write_answer sh s file block 0 (length bytes)) ≡ false
      go (Some p) e = ap is_err (write_replaces sh s file block 0 (length bytes) ad p e)
      go None e = ap is_err (write_lower sh s file block 0 (length bytes) ad e refl)

  -- ---- a clear

  module _ (file first n : ℕ) {s' : State} (r : Result ℕ StoreFault) (due : r ≡ clear_answer sh s file first n) (after : s' ≡ after_clear sh s file first n) where
    pub cleared_shown : is_err r ≡ false → shown s' ≡ changed (shown s) file (inside first n) (λ _. zero_block)
    cleared_shown e =
        let g = granted r e in
        let told : as_any GaveBack (clear_answer sh s file first n) ≡ Ok (GaveBack g.0) = ap (as_any GaveBack) (sym due ∙ g.1) in
        ap shown after ∙ sym (ap (λ (k : Book). k.bytes) (keeps sh s ok (record { call = Clear file first n; sent = [] })).book)
        ∙ ap (λ (a : Answer). (fed sh.width (book_of s) (Clear file first n) [] a).bytes) told

    pub clear_refused : is_err r ≡ true → s' ≡ s
    clear_refused e = let g = refusal r e in after ∙ ap (λ (x : Result ℕ StoreFault). if_granted x s (λ _. cleared sh s file first n)) (sym due ∙ g.1)

  -- ---- a demote shows the same, and takes the file out of the map

  module _ (file : ℕ) (there : file < sh.files) {s' : State} (after : s' ≡ after_demote sh s file) where
    pub demoted_shown : shown s' ≡ shown s
    demoted_shown =
        ap shown after ∙ sym (ap (λ (k : Book). k.bytes) (keeps sh s ok (record { call = Demote file; sent = [] })).book)
        ∙ ap (λ (a : Answer). (fed sh.width (book_of s) (Demote file) [] a).bytes) (ap (as_any GaveBack) (file_granted sh s file there))

    pub demoted_place : s'.place ≡ forgotten s.place file
    demoted_place = ap (λ (x : State). x.place) (after ∙ ap (λ (x : Result ℕ StoreFault). if_granted x s (λ _. demoted sh s file)) (file_granted sh s file there))

-- a file that is out of the map is not cut by a clear
uncut : (pl : Placement) (file first n : ℕ) → changed (forgotten pl file) file (inside first n) (λ _. None) ≡ forgotten pl file
uncut pl file first n = fun_ext (λ f. fun_ext (λ b. go (eqb f file) (inside first n b) (pl f b)))
  where
    go : (v w : Bool) (o : Option ℕ) → cond (v && w) None (cond (v && true) None o) ≡ cond (v && true) None o
    go false w o = refl
    go true true o = refl
    go true false o = refl

-- so the map has room for what is left
pub clear_granted_then : (sh : Shape) (s : State) (pl : Placement) (file first n : ℕ) → file < sh.files → first + n ≤ sh.width → 0 < n → n ≤ 4096
    → s.place ≡ forgotten pl file → sh.rule (forgotten pl file) ≤ sh.rule pl → sh.rule pl ≤ sh.keys → is_err (clear_answer sh s file first n) ≡ false
clear_granted_then sh s pl file first n f b z l e lighter roomy =
    let same : changed s.place file (inside first n) (λ _. None) ≡ forgotten pl file =
    ap (λ (w : Placement). changed w file (inside first n) (λ _. None)) e ∙ uncut pl file first n in
    let fits : sh.rule (changed s.place file (inside first n) (λ _. None)) ≤ sh.keys = omega (arith, ap sh.rule same) in
    ap is_err (clear_granted sh s file first n (admits_clear sh file first n f b z l) fits)

-- ---- what is asked of a lower store

admitted_block : (files width file block len : ℕ) → block_answer files width file block len ≡ Ok tt → (file < files) × (block < width) × (len ≡ 4096)
admitted_block files width file block len e = (grind (arith, nat_tests), grind (arith, nat_tests), grind (arith, nat_tests))

admitted_extent : (files width file first n : ℕ) → extent_answer files width file first n ≡ Ok tt → (file < files) × (first + n ≤ width) × (0 < n) × (n ≤ 4096)
admitted_extent files width file first n e = (grind (arith, nat_tests), grind (arith, nat_tests), grind (arith, nat_tests), grind (arith, nat_tests))

module _ {sh : Shape} {s : State} (file block : ℕ) (bytes : List ℕ) (v : Sound sh s)
    (adm : block_answer sh.files sh.width file block (length bytes) ≡ Ok tt) {sh₁ : Shape} {s₁ : State} {r : Result Written StoreFault} (e₁ : sh₁ ≡ sh)
    (due : r ≡ write_answer sh s file block 1 (length bytes)) (after : s₁ ≡ after_write sh s file block 1 bytes) where
  -- what is kept is there
  pub keeps_it : is_err r ≡ false
      → Changes sh.files sh.width (shown s) file (only block) (λ _. bytes) (block_answer sh.files sh.width file block (length bytes)) (Ok tt) sh₁.files sh₁.width (shown s₁)
  keeps_it e = record {
    answers = sym adm;
    same_files = ap (λ (x : Shape). x.files) e₁;
    same_width = ap (λ (x : Shape). x.width) e₁;
    makes = written_shown sh s v file block 1 bytes r due after e;
  }

  -- and what is not kept is written loose
  pub falls_back : Sound sh₁ s₁ → is_err r ≡ true → {sh₂ : Shape} {s₂ : State} {r₂ : Result Written StoreFault} → sh₂ ≡ sh₁
      → r₂ ≡ write_answer sh₁ s₁ file block 0 (length bytes) → s₂ ≡ after_write sh₁ s₁ file block 0 bytes
      → Changes sh.files sh.width (shown s) file (only block) (λ _. bytes) (block_answer sh.files sh.width file block (length bytes)) (Ok tt) sh₂.files sh₂.width (shown s₂)
  falls_back v₁ e {r₂ = r₂} e₂ due₂ after₂ =
      let a = admitted_block sh.files sh.width file block (length bytes) adm in
      let lf : file < sh₁.files = omega (arith, a.0, ap (λ (x : Shape). x.files) e₁) in
      let lb : block < sh₁.width = omega (arith, a.1, ap (λ (x : Shape). x.width) e₁) in
      record {
        answers = sym adm;
        same_files = ap (λ (x : Shape). x.files) (e₂ ∙ e₁);
        same_width = ap (λ (x : Shape). x.width) (e₂ ∙ e₁);
        makes = written_shown sh₁ s₁ v₁ file block 0 bytes r₂ due₂ after₂ (ap is_err due₂ ∙ loose_granted sh₁ s₁ v₁ file block bytes lf lb a.2)
            ∙ ap (λ (x : State). changed (shown x) file (only block) (λ _. bytes)) (write_refused sh s v file block 1 bytes r due after e);
      }

module _ {sh : Shape} {s : State} (file first n : ℕ) (v : Sound sh s)
    (adm : extent_answer sh.files sh.width file first n ≡ Ok tt) {sh₁ : Shape} {s₁ : State} {r : Result ℕ StoreFault} (e₁ : sh₁ ≡ sh)
    (due : r ≡ clear_answer sh s file first n) (after : s₁ ≡ after_clear sh s file first n) where
  pub clears_it : is_err r ≡ false
      → Changes sh.files sh.width (shown s) file (inside first n) (λ _. zero_block) (extent_answer sh.files sh.width file first n) (Ok tt) sh₁.files sh₁.width (shown s₁)
  clears_it e = record {
    answers = sym adm;
    same_files = ap (λ (x : Shape). x.files) e₁;
    same_width = ap (λ (x : Shape). x.width) e₁;
    makes = cleared_shown sh s v file first n r due after e;
  }

  -- a clear that the map refused is granted once the file is off the board
  pub clears_demoted : is_err r ≡ true → {sh₂ sh₃ : Shape} {s₂ s₃ : State} {r₃ : Result ℕ StoreFault} → sh₂ ≡ sh₁ → sh₃ ≡ sh₂
      → Sound sh₁ s₁ → s₂ ≡ after_demote sh₁ s₁ file → Sound sh₂ s₂ → r₃ ≡ clear_answer sh₂ s₂ file first n → s₃ ≡ after_clear sh₂ s₂ file first n
      → sh.rule (forgotten s.place file) ≤ sh.rule s.place → sh.rule s.place ≤ sh.keys
      → Changes sh.files sh.width (shown s) file (inside first n) (λ _. zero_block) (extent_answer sh.files sh.width file first n) (Ok tt) sh₃.files sh₃.width (shown s₃)
  clears_demoted e {sh₂} {sh₃} {s₂} {s₃} {r₃} e₂ e₃ ok₁ after₂ ok₂ due₃ after₃ lighter roomy =
      let a = admitted_extent sh.files sh.width file first n adm in
      let f₁ = ap (λ (x : Shape). x.files) e₁ in
      let f₂ = ap (λ (x : Shape). x.files) (e₂ ∙ e₁) in
      let w₂ = ap (λ (x : Shape). x.width) (e₂ ∙ e₁) in
      let there : file < sh₁.files = omega (arith, a.0, f₁) in
      let same = clear_refused sh s v file first n r due after e in
      let place : s₂.place ≡ forgotten s.place file = demoted_place sh₁ s₁ ok₁ file there after₂ ∙ ap (λ (x : State). forgotten x.place file) same in
      let rule₂ : sh₂.rule (forgotten s.place file) ≤ sh₂.rule s.place =
      omega (arith, lighter, ap (λ (x : Shape). x.rule (forgotten s.place file)) (e₂ ∙ e₁), ap (λ (x : Shape). x.rule s.place) (e₂ ∙ e₁)) in
      let room₂ : sh₂.rule s.place ≤ sh₂.keys = omega (arith, roomy, ap (λ (x : Shape). x.rule s.place) (e₂ ∙ e₁), ap (λ (x : Shape). x.keys) (e₂ ∙ e₁)) in
      let granted = clear_granted_then sh₂ s₂ s.place file first n (omega (arith, a.0, f₂)) (omega (arith, a.1, w₂)) a.2 a.3 place rule₂ room₂ in
      record {
        answers = sym adm;
        same_files = ap (λ (x : Shape). x.files) (e₃ ∙ (e₂ ∙ e₁));
        same_width = ap (λ (x : Shape). x.width) (e₃ ∙ (e₂ ∙ e₁));
        makes = cleared_shown sh₂ s₂ ok₂ file first n r₃ due₃ after₃ (ap is_err due₃ ∙ granted)
            ∙ ap (λ (x : Contents). changed x file (inside first n) (λ _. zero_block)) (demoted_shown sh₁ s₁ ok₁ file there after₂ ∙ ap shown same);
      }
