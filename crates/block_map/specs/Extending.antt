-- Keys that are entered or dropped one after another.
use Rattle.std.specs.Prelude.{◌≡◌, ℕ, zero, suc, ◌+◌, ◌-◌, ◌<◌, ◌≤◌, Bool, true, cond, not, ◌≢◌, ◌⊎◌, is_some, Some, None, Option, refl}
use Rattle.std.proofs.Common.{sym, ap, ◌∙◌, inl, inr, arith, add-one}
use Rattle.std.proofs.Math.Path.{fun_ext}
use Rattle.std.proofs.lemmas.Bool.{cases_eq, cases_lt, not_from_false}
use Rattle.blocks.specs.Blocks.{only, inside, every, changed, one, tally}
use Rattle.blocks.specs.declared.Entry.{Entry}
use Rattle.blocks.proofs.Changes.{changed_here, changed_beside, changed_elsewhere, only_here, only_other, inside_yes, inside_before, inside_after}
use Rattle.blocks.proofs.Sums.{tally_change}
use Rattle.tables.specs.declared.row.Row.{Row}
use Rattle.tables.specs.Holding.{Holding, Numbered, full, lowest_row}
use Rattle.tables.proofs.Looks.{room_new}
use Rattle.tables.proofs.Lowest.{lowest_when_some}
use Rattle.block_map.specs.BlockKeys.{Free, single}

-- Two that agree on one file and on all others are the same.
file_ext : {X : Type 0} (p q : ℕ → ℕ → X) (file : ℕ) → ((b : ℕ) → p file b ≡ q file b) → ((f b : ℕ) → f ≢ file → p f b ≡ q f b) → p ≡ q
file_ext {X} p q file here there = fun_ext (λ f. fun_ext (λ b. at f b (cases_eq f file)))
  where
    at : (f b : ℕ) → (f ≡ file) ⊎ (f ≢ file) → p f b ≡ q f b
    at f b (inl e) = ap (λ (n : ℕ). p n b) e ∙ here b ∙ sym (ap (λ (n : ℕ). q n b) e)
    at f b (inr e) = there f b e

-- ---- one block more

-- The block that follows an extent makes it longer by one.
extend : {X : Type 0} (h : ℕ → ℕ → X) (file first i : ℕ) (g : ℕ → X) (x : X) → g (first + i) ≡ x
    → changed (changed h file (inside first i) g) file (only (first + i)) (λ _. x) ≡ changed h file (inside first (i + 1)) g
extend {X} h file first i g x s = file_ext (changed k file (only (first + i)) (λ _. x)) (changed h file (inside first (i + 1)) g) file
    (λ b. at b (cases_lt b first) (cases_lt b (first + i)) (cases_eq b (first + i)))
    (λ f b d. changed_elsewhere k file (only (first + i)) (λ _. x) f b d ∙ changed_elsewhere h file (inside first i) g f b d
    ∙ sym (changed_elsewhere h file (inside first (i + 1)) g f b d))
  where
    k : ℕ → ℕ → X
    k = changed h file (inside first i) g

    at : (b : ℕ) → (b < first) ⊎ (first ≤ b) → (b < first + i) ⊎ (first + i ≤ b) → (b ≡ first + i) ⊎ (b ≢ first + i)
        → changed k file (only (first + i)) (λ _. x) file b ≡ changed h file (inside first (i + 1)) g file b
    at b (inl l) _ _ =
        changed_beside k file (only (first + i)) (λ _. x) b (only_other (first + i) b (λ e. omega arith))
        ∙ changed_beside h file (inside first i) g b (inside_before first i b l)
        ∙ sym (changed_beside h file (inside first (i + 1)) g b (inside_before first (i + 1) b l))
    at b (inr l) (inl m) _ =
        changed_beside k file (only (first + i)) (λ _. x) b (only_other (first + i) b (λ e. omega arith))
        ∙ changed_here h file (inside first i) g b (inside_yes first i b l m)
        ∙ sym (changed_here h file (inside first (i + 1)) g b (inside_yes first (i + 1) b l (omega arith)))
    at b (inr l) (inr m) (inl e) =
        changed_here k file (only (first + i)) (λ _. x) b (ap (only (first + i)) e ∙ only_here (first + i))
        ∙ sym (ap g e ∙ s)
        ∙ sym (changed_here h file (inside first (i + 1)) g b (inside_yes first (i + 1) b l (omega arith)))
    at b (inr l) (inr m) (inr e) =
        changed_beside k file (only (first + i)) (λ _. x) b (only_other (first + i) b e)
        ∙ changed_beside h file (inside first i) g b (inside_after first i b m)
        ∙ sym (changed_beside h file (inside first (i + 1)) g b (inside_after first (i + 1) b (omega arith)))

-- The same, where the block is given.
pub extend_at : {X : Type 0} (h : ℕ → ℕ → X) (file first block : ℕ) (g : ℕ → X) → first ≤ block
    → changed (changed h file (inside first (block - first)) g) file (only block) (λ _. g block) ≡ changed h file (inside first (block + 1 - first)) g
extend_at {X} h file first block g l =
    let i = block - first in
    ap (λ (z : ℕ). changed (changed h file (inside first i) g) file (only z) (λ _. g z)) (let q : block ≡ first + i = omega arith in q)
    ∙ extend h file first i g (g (first + i)) refl
    ∙ ap (λ (z : ℕ). changed h file (inside first z) g) (let q : i + 1 ≡ block + 1 - first = omega arith in q)

-- An extent of no block changes nothing.
pub extend_none : {X : Type 0} (h : ℕ → ℕ → X) (file first : ℕ) (g : ℕ → X) → h ≡ changed h file (inside first 0) g
extend_none h file first g = file_ext h (changed h file (inside first 0) g) file (λ b. at b (cases_lt b first))
    (λ f b d. sym (changed_elsewhere h file (inside first 0) g f b d))
  where
    at : (b : ℕ) → (b < first) ⊎ (first ≤ b) → h file b ≡ changed h file (inside first 0) g file b
    at b (inl l) = sym (changed_beside h file (inside first 0) g b (inside_before first 0 b l))
    at b (inr l) = sym (changed_beside h file (inside first 0) g b (inside_after first 0 b (omega arith)))

-- ---- how many keys there are

-- Of n blocks that had nothing each has something.
pub tally_run : {X : Type 0} (h : ℕ → ℕ → Option X) (file first n : ℕ) (g : ℕ → Option X) → file < 65536 → first + n ≤ 65536
    → ((b : ℕ) → first ≤ b → b < first + n → h file b ≡ None) → ((b : ℕ) → is_some (g b) ≡ true)
    → tally (changed h file (inside first n) g) ≡ tally h + n
tally_run {X} h file first zero g lf ln free s = ap (λ (z : ℕ → ℕ → Option X). tally z) (sym (extend_none h file first g)) ∙ (let z : tally h ≡ tally h + 0 = omega arith in z)
tally_run {X} h file first (suc n) g lf ln free s =
    let k : ℕ → ℕ → Option X = changed h file (inside first n) g in
    let ih : tally k ≡ tally h + n = tally_run h file first n g lf (omega arith) (λ b l m. free b l (omega arith)) s in
    let e : tally (changed k file (only (first + n)) (λ _. g (first + n))) ≡ tally (changed h file (inside first (n + 1)) g) =
    ap (λ (z : ℕ → ℕ → Option X). tally z) (extend h file first n g (g (first + n)) refl) in
    let r : tally (changed h file (inside first (suc n)) g) ≡ tally (changed h file (inside first (n + 1)) g) =
    ap (λ (z : ℕ). tally (changed h file (inside first z) g)) (sym (add-one n)) in
    let c = tally_change k file (first + n) (g (first + n)) lf (omega arith) in
    let o : one (is_some (k file (first + n))) ≡ 0 =
    ap (λ (v : Option X). one (is_some v)) (changed_beside h file (inside first n) g (first + n) (inside_after first n (first + n) (omega arith)) ∙ free (first + n) (omega arith) (omega arith)) in
    let w : one (is_some (g (first + n))) ≡ 1 = ap one (s (first + n)) in
    omega arith

-- ---- one turn of each loop

-- A key is entered, since there is room.
pub put_next : (h0 h h' : Holding) (places places' file first n board block : ℕ) (r : Bool) → file < 65536 → first + n ≤ 65536 → first ≤ block → block < first + n
    → Free (h0 file) first n → tally h0 + n ≤ places → places' ≡ places
    → h ≡ changed h0 file (inside first (block - first)) (single first board)
    → r ≡ not (full h places' file block)
    → h' ≡ cond r (changed h file (only block) (λ _. single first board block)) h
    → h' ≡ changed h0 file (inside first (block + 1 - first)) (single first board)
put_next h0 h h' places places' file first n board block r lf ln lb li free room same e answer after =
    let count : tally h ≡ tally h0 + (block - first) =
    ap (λ (z : Holding). tally z) e ∙ tally_run h0 file first (block - first) (single first board) lf (omega arith) (λ b l m. free b l (omega arith)) (λ b. refl) in
    let yes : r ≡ true = answer ∙ not_from_false (full h places' file block) (room_new h places' file block (omega arith)) in
    after
    ∙ ap (λ (z : Bool). cond z (changed h file (only block) (λ _. single first board block)) h) yes
    ∙ ap (λ (z : Holding). changed z file (only block) (λ _. single first board block)) e
    ∙ extend_at h0 file first block (single first board) lb

-- All other files are as they were.
abbrev pub Beside : Holding → Holding → ℕ → Type 0
Beside h0 h file = (f b : ℕ) → f ≢ file → h f b ≡ h0 f b

-- A key of the file is dropped.
pub beside_next : (h0 h h' : Holding) (file block : ℕ) → Beside h0 h file → h' ≡ changed h file (only block) (λ _. None) → Beside h0 h' file
beside_next h0 h h' file block d after f b z =
    ap (λ (k : Holding). k f b) after ∙ changed_elsewhere h file (only block) (λ _. None) f b z ∙ d f b z

-- It was one key.
pub drop_fewer : (h h' : Holding) (file from : ℕ) (row : Row) → from ≤ 65536 → file < 65536 → Some row ≡ lowest_row h file from
    → h' ≡ changed h file (only row.block) (λ _. None) → tally h' < tally h
drop_fewer h h' file from row lb lf found after =
    let low = lowest_when_some h file from row lb (sym found) in
    let there : one (is_some (h file row.block)) ≡ 1 = ap (λ (o : Option Entry). one (is_some o)) low.there in
    let c = tally_change h file row.block None lf low.within in
    let e : tally h' ≡ tally (changed h file (only row.block) (λ _. None)) = ap (λ (z : Holding). tally z) after in
    omega arith

-- No key is left of a file once none is found from its first block on.
pub beside_all : (h0 h : Holding) (file : ℕ) → Numbered h → Beside h0 h file
    → ((b : ℕ) → 0 ≤ b → b < 65536 → h file b ≡ None) → h ≡ changed h0 file every (λ _. None)
beside_all h0 h file num d none = file_ext h (changed h0 file every (λ _. None)) file
    (λ b. at b (cases_lt b 65536) ∙ sym (changed_here h0 file every (λ _. None) b refl))
    (λ f b z. d f b z ∙ sym (changed_elsewhere h0 file every (λ _. None) f b z))
  where
    past : (b : ℕ) (o : Option Entry) → 65536 ≤ b → h file b ≡ o → o ≡ None
    past b None l s = refl
    past b (Some x) l s = absurd (let k = num file b (ap is_some s) in let z : b < 65536 = k.1 in omega arith)

    at : (b : ℕ) → (b < 65536) ⊎ (65536 ≤ b) → h file b ≡ None
    at b (inl m) = none b (omega arith) m
    at b (inr m) = past b (h file b) m refl

-- ---- the same, from block to block

-- The lowest key from a block on is dropped.
pub drop_next : (h0 h h' : Holding) (file from : ℕ) (row : Row) → from ≤ 65536
    → h ≡ changed h0 file (inside 0 from) (λ _. None) → Some row ≡ lowest_row h file from
    → h' ≡ changed h file (only row.block) (λ _. None)
    → (from ≤ row.block) × (h' ≡ changed h0 file (inside 0 (row.block + 1)) (λ _. None))
drop_next h0 h h' file from row lf e found after =
    let low = lowest_when_some h file from row lf (sym found) in (
      low.least,
      file_ext h' (changed h0 file (inside 0 (row.block + 1)) (λ _. None)) file
          (λ b. at low b (cases_lt b from) (cases_lt b row.block) (cases_eq b row.block))
          (λ f b d. ap (λ (z : Holding). z f b) after ∙ changed_elsewhere h file (only row.block) (λ _. None) f b d
          ∙ ap (λ (z : Holding). z f b) e ∙ changed_elsewhere h0 file (inside 0 from) (λ _. None) f b d
          ∙ sym (changed_elsewhere h0 file (inside 0 (row.block + 1)) (λ _. None) f b d)),
    )
  where
    gone : (b : ℕ) → b < row.block + 1 → changed h0 file (inside 0 (row.block + 1)) (λ _. None) file b ≡ None
    gone b l = changed_here h0 file (inside 0 (row.block + 1)) (λ _. None) b (inside_yes 0 (row.block + 1) b (omega arith) (omega arith))

    left : (b : ℕ) → b ≢ row.block → h' file b ≡ h file b
    left b d = ap (λ (z : Holding). z file b) after ∙ changed_beside h file (only row.block) (λ _. None) b (only_other row.block b d)

    at : Rattle.tables.proofs.Lowest.Lowest (h file) file from 65536 row → (b : ℕ) → (b < from) ⊎ (from ≤ b) → (b < row.block) ⊎ (row.block ≤ b) → (b ≡ row.block) ⊎ (b ≢ row.block)
        → h' file b ≡ changed h0 file (inside 0 (row.block + 1)) (λ _. None) file b
    at low b (inl l) _ _ =
        let k : from ≤ row.block = low.least in
        left b (λ z. omega arith) ∙ ap (λ (z : Holding). z file b) e
        ∙ changed_here h0 file (inside 0 from) (λ _. None) b (inside_yes 0 from b (omega arith) (omega arith))
        ∙ sym (gone b (omega arith))
    at low b (inr l) (inl m) _ = left b (λ z. omega arith) ∙ low.before b l m ∙ sym (gone b (omega arith))
    at low b (inr l) (inr m) (inl q) =
        ap (λ (z : Holding). z file b) after ∙ changed_here h file (only row.block) (λ _. None) b (ap (only row.block) q ∙ only_here row.block)
        ∙ sym (gone b (omega arith))
    at low b (inr l) (inr m) (inr q) =
        let k : from ≤ row.block = low.least in
        left b q ∙ ap (λ (z : Holding). z file b) e
        ∙ changed_beside h0 file (inside 0 from) (λ _. None) b (inside_after 0 from b (omega arith))
        ∙ sym (changed_beside h0 file (inside 0 (row.block + 1)) (λ _. None) b (inside_after 0 (row.block + 1) b (omega arith)))

-- No key is left of a file once there is none from a block on.
pub drop_all : (h0 h : Holding) (file from : ℕ) → Numbered h0 → h ≡ changed h0 file (inside 0 from) (λ _. None)
    → ((b : ℕ) → from ≤ b → b < 65536 → h file b ≡ None) → h ≡ changed h0 file every (λ _. None)
drop_all h0 h file from num e none = file_ext h (changed h0 file every (λ _. None)) file
    (λ b. at b (cases_lt b from) (cases_lt b 65536) ∙ sym (changed_here h0 file every (λ _. None) b refl))
    (λ f b d. ap (λ (z : Holding). z f b) e ∙ changed_elsewhere h0 file (inside 0 from) (λ _. None) f b d
    ∙ sym (changed_elsewhere h0 file every (λ _. None) f b d))
  where
    past : (b : ℕ) (o : Option Entry) → 65536 ≤ b → h0 file b ≡ o → o ≡ None
    past b None l s = refl
    past b (Some x) l s = absurd (let k = num file b (ap is_some s) in let z : b < 65536 = k.1 in omega arith)

    at : (b : ℕ) → (b < from) ⊎ (from ≤ b) → (b < 65536) ⊎ (65536 ≤ b) → h file b ≡ None
    at b (inl l) _ = ap (λ (z : Holding). z file b) e ∙ changed_here h0 file (inside 0 from) (λ _. None) b (inside_yes 0 from b (omega arith) (omega arith))
    at b (inr l) (inl m) = none b l m
    at b (inr l) (inr m) =
        ap (λ (z : Holding). z file b) e ∙ changed_beside h0 file (inside 0 from) (λ _. None) b (inside_after 0 from b (omega arith)) ∙ past b (h0 file b) m refl
