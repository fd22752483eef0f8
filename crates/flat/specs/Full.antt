-- Each block of each file lies in memory, and has 4,096 bytes.
use Rattle.std.proofs.Common.{◌≡◌, ℕ, ◌+◌, ◌-◌, ◌*◌, ◌/◌, ◌<◌, ◌≤◌, min, ◌&&◌, eqb, ltb, List, [], length, sym, ap, ◌∙◌, zero-le, mul_assoc, mul_comm, arith}
use Rattle.std.proofs.lemmas.Nat.{mul-add-lt, mul-le, div-add-mod'}
use Rattle.std.proofs.lemmas.Bool.{cond-true, cond_both, lt-ltb, and_from}
use Rattle.memory.specs.Memory.{block_at}
use Rattle.memory.proofs.Overlays.{length_block}
use Rattle.flat.specs.Flat.{files_in, index_of, bytes_in, Laid}

files_fit : (bytes width : ℕ) → files_in bytes width ≤ bytes / (width * 4096)
files_fit bytes width =
    cond_both (eqb width 0) 0 (min (bytes / (width * 4096)) 65536) (λ n. n ≤ bytes / (width * 4096)) (λ _. zero-le) (λ _. omega arith)

at_most : (bytes width : ℕ) → files_in bytes width ≤ 65536
at_most bytes width =
    cond_both (eqb width 0) 0 (min (bytes / (width * 4096)) 65536) (λ n. n ≤ 65536) (λ _. zero-le) (λ _. omega arith)

rows_fit : (bytes files width : ℕ) → files ≤ bytes / (width * 4096) → (width * files) * 4096 ≤ bytes
rows_fit bytes files width l =
    let p = mul-le files (width * 4096) (bytes / (width * 4096)) (width * 4096) l (omega arith) in
    let q = div-add-mod' bytes (width * 4096) in
    let s : files * (width * 4096) ≡ (width * files) * 4096 = sym (mul_assoc files width 4096) ∙ ap (λ (n : ℕ). n * 4096) (mul_comm files width) in
    omega arith

module _ (memory : List ℕ) (files width : ℕ) (laid : Laid memory files width) where
  pub rows_within : (width * files) * 4096 ≤ length memory
  rows_within = rows_fit (length memory) files width (omega (arith, laid.whole, files_fit (length memory) width))

  pub extent_within : (file first n : ℕ) → file < files → 0 < n → first + n ≤ width → index_of width file first * 4096 + n * 4096 ≤ length memory
  extent_within file first n lf l0 ln = omega (arith, rows_within, mul-add-lt file width ((first + n) - 1) files lf (omega arith))

pub bytes_is : (memory : List ℕ) (files width f b : ℕ) → f < files → b < width → bytes_in memory files width f b ≡ block_at memory (index_of width f b)
bytes_is memory files width f b lf lb =
    cond-true (ltb f files && ltb b width) (block_at memory (index_of width f b)) [] (and_from _ _ (lt-ltb f files lf) (lt-ltb b width lb))

pub full_within : (memory : List ℕ) (files width : ℕ) → Laid memory files width → (f b : ℕ) → f < files → b < width → length (bytes_in memory files width f b) ≡ 4096
full_within memory files width laid f b lf lb =
    ap length (bytes_is memory files width f b lf lb) ∙ length_block memory (index_of width f b) (omega (arith, extent_within memory files width laid f b 1 lf (omega arith) (omega arith)))

pub few_in : (memory : List ℕ) (files width : ℕ) → Laid memory files width → files ≤ 65536
few_in memory files width laid = omega (arith, laid.whole, at_most (length memory) width)
