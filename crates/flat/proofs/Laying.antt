-- Where the blocks of files lie in memory, and what a change of a part leaves of them.
use Rattle.std.proofs.Common.{◌≡◌, ℕ, ◌+◌, ◌-◌, ◌*◌, ◌<◌, ◌≤◌, Bool, true, false, ◌&&◌, eqb, ltb, leb, ◌⊎◌, List, [], length, take, replicate, sym, refl, ap, ◌∙◌, inl, inr, ⊎_elim, arith}
use mathlib.Core.Path.{fun_ext}
use Rattle.std.proofs.lemmas.Nat.{mul-add-lt}
use Rattle.std.proofs.lemmas.List.{take_all, take-replicate, drop-replicate, length-replicate}
use Rattle.std.proofs.lemmas.Bool.{cond-false, lt-ltb, and_from, and_parts, and_cases, both_ways, eqb-true, eqb-false, leb-true, leb-false, ltb-true, ltb-false, cases_order, cases_lt}
use Rattle.blocks.specs.Blocks.{only, inside, changed, zero_block}
use Rattle.blocks.proofs.Changes.{changed_here, changed_beside, changed_elsewhere}
use Rattle.memory.specs.Memory.{block_at, overlaid}
use Rattle.memory.proofs.Overlays.{length_overlaid, block_before, block_behind, block_within}
use Rattle.flat.specs.Flat.{files_in, index_of, bytes_in, Laid}
use Rattle.flat.specs.Full.{extent_within, bytes_is}

-- ---- what a change leaves of a part

apart : (b block : ℕ) → (b ≡ block → ⊥) → block ≤ b → block < b
apart b block d l = ⊎_elim (λ q. absurd (d q)) (λ o. ⊎_elim (λ (h : b < block). omega arith) (λ h. h) o) (cases_order b block)

-- ---- a change of the n blocks from the first on

module _ (memory new : List ℕ) (files width file first n : ℕ) (laid : Laid memory files width)
    (lf : file < files) (l0 : 0 < n) (ln : first + n ≤ width) (full : length new ≡ n * 4096) where
  room : index_of width file first * 4096 + n * 4096 ≤ length memory
  room = extent_within memory files width laid file first n lf l0 ln

  same_length : length (overlaid memory (index_of width file first * 4096) new) ≡ length memory
  same_length = length_overlaid memory new (index_of width file first * 4096) (omega (arith, room))

  pub still_laid : Laid (overlaid memory (index_of width file first * 4096) new) files width
  still_laid = record { whole = laid.whole ∙ ap (λ (k : ℕ). files_in k width) (sym same_length); narrow = laid.narrow }

  module _ (chosen : ℕ → Bool) (given : ℕ → List ℕ)
      (hit : (b : ℕ) → chosen b ≡ true → (first ≤ b) × (b < first + n))
      (miss : (b : ℕ) → chosen b ≡ false → (b < first) ⊎ (first + n ≤ b))
      (gives : (b : ℕ) → chosen b ≡ true → block_at new (b - first) ≡ given b) where
    at_file : (b : ℕ) → b < width → (v : Bool) → chosen b ≡ v
        → block_at (overlaid memory (index_of width file first * 4096) new) (index_of width file b) ≡ changed (bytes_in memory files width) file chosen given file b
    at_file b lb true e =
        ap (block_at (overlaid memory (index_of width file first * 4096) new)) (omega (arith, hit b e))
        ∙ block_within memory new (index_of width file first * 4096) (index_of width file first) (b - first) refl (omega (arith, hit b e)) (omega (arith, room))
        ∙ gives b e
        ∙ sym (changed_here (bytes_in memory files width) file chosen given b e)
    at_file b lb false e =
        ⊎_elim
        (λ (h : b < first). block_before memory new (index_of width file first * 4096) (index_of width file b) (omega arith) (omega (arith, room)))
        (λ (h : first + n ≤ b). block_behind memory new (index_of width file first * 4096) (index_of width file b) (omega arith) (omega (arith, room)))
        (miss b e)
        ∙ sym (bytes_is memory files width file b lf lb)
        ∙ sym (changed_beside (bytes_in memory files width) file chosen given b e)

    inner : (f b : ℕ) → f < files → b < width → (f ≡ file) ⊎ ((f < file) ⊎ (file < f))
        → block_at (overlaid memory (index_of width file first * 4096) new) (index_of width f b) ≡ changed (bytes_in memory files width) file chosen given f b
    inner f b hf hb (inl q) =
        ap (λ (k : ℕ). block_at (overlaid memory (index_of width file first * 4096) new) (index_of width k b)) q
        ∙ at_file b hb (chosen b) refl
        ∙ ap (λ (k : ℕ). changed (bytes_in memory files width) file chosen given k b) (sym q)
    inner f b hf hb (inr (inl h)) =
        block_before memory new (index_of width file first * 4096) (index_of width f b) (omega (arith, mul-add-lt f width b file h hb)) (omega (arith, room))
        ∙ sym (bytes_is memory files width f b hf hb)
        ∙ sym (changed_elsewhere (bytes_in memory files width) file chosen given f b (λ q. omega arith))
    inner f b hf hb (inr (inr h)) =
        block_behind memory new (index_of width file first * 4096) (index_of width f b) (omega (arith, mul-add-lt file width (width - 1) f h (omega arith))) (omega (arith, room))
        ∙ sym (bytes_is memory files width f b hf hb)
        ∙ sym (changed_elsewhere (bytes_in memory files width) file chosen given f b (λ q. omega arith))

    outer : (f b : ℕ) → (ltb f files && ltb b width) ≡ false → (v : Bool) → (eqb f file && chosen b) ≡ v
        → bytes_in memory files width f b ≡ changed (bytes_in memory files width) file chosen given f b
    outer f b e true q =
        let p = and_parts (eqb f file) (chosen b) q in
        let h = hit b p.1 in
        absurd (both_ways (ltb f files && ltb b width) e
        (and_from (ltb f files) (ltb b width) (lt-ltb f files (omega (arith, eqb-true f file p.0))) (lt-ltb b width (omega arith))))
    outer f b e false q = sym (cond-false (eqb f file && chosen b) (given b) (bytes_in memory files width f b) q)

    both : (f b : ℕ) → (v : Bool) → (ltb f files && ltb b width) ≡ v
        → bytes_in (overlaid memory (index_of width file first * 4096) new) files width f b ≡ changed (bytes_in memory files width) file chosen given f b
    both f b true e =
        let p = and_parts (ltb f files) (ltb b width) e in
        let hf = ltb-true f files p.0 in
        let hb = ltb-true b width p.1 in
        bytes_is (overlaid memory (index_of width file first * 4096) new) files width f b hf hb
        ∙ inner f b hf hb (cases_order f file)
    both f b false e =
        cond-false (ltb f files && ltb b width) (block_at (overlaid memory (index_of width file first * 4096) new) (index_of width f b)) [] e
        ∙ sym (cond-false (ltb f files && ltb b width) (block_at memory (index_of width f b)) [] e)
        ∙ outer f b e (eqb f file && chosen b) refl

    changed_within : bytes_in (overlaid memory (index_of width file first * 4096) new) files width ≡ changed (bytes_in memory files width) file chosen given
    changed_within = fun_ext (λ f. fun_ext (λ b. both f b (ltb f files && ltb b width) refl))

-- ---- one block, and zero bytes

module _ (memory new : List ℕ) (files width file block : ℕ) (laid : Laid memory files width)
    (lf : file < files) (lb : block < width) (full : length new ≡ 4096) where
  pub written_laid : Laid (overlaid memory (index_of width file block * 4096) new) files width
  written_laid = still_laid memory new files width file block 1 laid lf (omega arith) (omega arith) full

  pub written_within : bytes_in (overlaid memory (index_of width file block * 4096) new) files width ≡ changed (bytes_in memory files width) file (only block) (λ _. new)
  written_within =
      changed_within memory new files width file block 1 laid lf (omega arith) (omega arith) full (only block) (λ _. new)
      (λ b e. let q = eqb-true b block e in (omega arith, omega arith))
      (λ b e. ⊎_elim (λ (h : b < block). inl h) (λ (h : block ≤ b). inr (omega (arith, apart b block (eqb-false b block e) h))) (cases_lt b block))
      (λ b e. let q = eqb-true b block e in
      ap (block_at new) (let z : b - block ≡ 0 = omega arith in z) ∙ take_all 4096 new (omega arith))

module _ (memory : List ℕ) (files width file first n : ℕ) (laid : Laid memory files width)
    (lf : file < files) (l0 : 0 < n) (ln : first + n ≤ width) where
  pub cleared_laid : Laid (overlaid memory (index_of width file first * 4096) (replicate (n * 4096) 0)) files width
  cleared_laid = still_laid memory (replicate (n * 4096) 0) files width file first n laid lf l0 ln (length-replicate (n * 4096) 0)

  pub cleared_within : bytes_in (overlaid memory (index_of width file first * 4096) (replicate (n * 4096) 0)) files width ≡ changed (bytes_in memory files width) file (inside first n) (λ _. zero_block)
  cleared_within =
      changed_within memory (replicate (n * 4096) 0) files width file first n laid lf l0 ln (length-replicate (n * 4096) 0) (inside first n) (λ _. zero_block)
      (λ b e. let p = and_parts (leb first b) (ltb b (first + n)) e in (leb-true first b p.0, ltb-true b (first + n) p.1))
      (λ b e. ⊎_elim (λ h. inl (leb-false first b h)) (λ h. inr (ltb-false b (first + n) h)) (and_cases (leb first b) (ltb b (first + n)) e))
      (λ b e. let p = and_parts (leb first b) (ltb b (first + n)) e in
      let l = leb-true first b p.0 in
      let m = ltb-true b (first + n) p.1 in
      ap (take 4096) (drop-replicate ((b - first) * 4096) (n * 4096) 0)
      ∙ take-replicate 4096 (n * 4096 - (b - first) * 4096) 0 (omega arith))
