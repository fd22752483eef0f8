-- What a change of a part leaves, block by block.
use Rattle.std.proofs.Common.{◌≡◌, ℕ, ◌+◌, ◌-◌, ◌*◌, ◌<◌, ◌≤◌, List, ◌++◌, length, take, drop, replicate, sym, refl, ap, ◌∙◌, ⊎_elim, arith}
use borrow.Rule.Slice.PartMut.{put_mid}
use Rattle.std.proofs.lemmas.Slice.{between_is, take-put_mid_below, drop-put_mid}
use Rattle.std.proofs.lemmas.List.{drop-drop, drop_at, drop-append-le, take-append-le, length-take, length-drop, length-append, length-take-le, length-replicate, take_all}
use Rattle.std.proofs.lemmas.Bool.{cases_lt}
use Rattle.memory.specs.Memory.{block_at, overlaid}

-- what a part that was lent leaves, once it is given back
pub overlaid_put : (xs ys : List ℕ) (at k : ℕ) → k ≡ length ys → put_mid at k xs ys ≡ overlaid xs at ys
overlaid_put xs ys at k e =
    ap (λ (zs : List ℕ). take at xs ++ (ys ++ zs)) (drop-drop k at xs ∙ ap (λ (n : ℕ). drop (at + n) xs) e)

-- the same, where the part was filled with zero bytes
pub overlaid_fill : (xs ys : List ℕ) (at size : ℕ) → at + size ≤ length xs
    → ys ≡ replicate (length (take ((at + size) - at) (drop at xs))) 0
    → put_mid at ((at + size) - at) xs ys ≡ overlaid xs at (replicate size 0)
overlaid_fill xs ys at size l e =
    let n : length (take ((at + size) - at) (drop at xs)) ≡ size = simp (length-take, length-drop) (omega arith) in
    let f : ys ≡ replicate size 0 = e ∙ ap (λ (k : ℕ). replicate k 0) n in
    let m : length ys ≡ size = ap length f ∙ length-replicate size 0 in
    overlaid_put xs ys at ((at + size) - at) (omega arith) ∙ ap (overlaid xs at) f

pub length_overlaid : (xs ys : List ℕ) (at : ℕ) → at + length ys ≤ length xs → length (overlaid xs at ys) ≡ length xs
length_overlaid xs ys at l =
    simp (length-append, length-take, length-drop) (omega arith)

-- ---- block by block

-- a block as it is cut out of the memory
pub block_cut : (zs : List ℕ) (j at : ℕ) → at ≡ j * 4096 → take ((at + 4096) - at) (drop at zs) ≡ block_at zs j
block_cut zs j at e = let n : (at + 4096) - at ≡ 4096 = omega arith in ap (λ (k : ℕ). take k (drop at zs)) n ∙ ap (λ (k : ℕ). take 4096 (drop k zs)) e

pub length_block : (zs : List ℕ) (j : ℕ) → j * 4096 + 4096 ≤ length zs → length (block_at zs j) ≡ 4096
length_block zs j l = simp (length-take, length-drop) (omega arith)

front : (zs : List ℕ) (j : ℕ) → block_at zs j ≡ drop (j * 4096) (take (j * 4096 + 4096) zs)
front zs j = sym (block_cut zs j (j * 4096) refl) ∙ between_is zs (j * 4096) (j * 4096 + 4096)

module _ (xs ys : List ℕ) (at : ℕ) where
  as_put : overlaid xs at ys ≡ put_mid at (length ys) xs ys
  as_put = sym (overlaid_put xs ys at (length ys) refl)

  pub block_before : (j : ℕ) → j * 4096 + 4096 ≤ at → at ≤ length xs → block_at (overlaid xs at ys) j ≡ block_at xs j
  block_before j l m =
      ap (λ (zs : List ℕ). block_at zs j) as_put ∙ front (put_mid at (length ys) xs ys) j
      ∙ ap (drop (j * 4096)) (take-put_mid_below at (length ys) xs ys (j * 4096 + 4096) l m)
      ∙ sym (front xs j)

  pub block_behind : (j : ℕ) → at + length ys ≤ j * 4096 → at ≤ length xs → block_at (overlaid xs at ys) j ≡ block_at xs j
  block_behind j l m =
      ap (λ (zs : List ℕ). block_at zs j) as_put
      ∙ ap (take 4096) (drop-put_mid at (length ys) xs ys (j * 4096) l m refl)

  -- block d of the new bytes, where they start at block i
  pub block_within : (i d : ℕ) → at ≡ i * 4096 → d * 4096 + 4096 ≤ length ys → at ≤ length xs
      → block_at (overlaid xs at ys) (i + d) ≡ block_at ys d
  block_within i d e l m =
      ap (λ (n : ℕ). take 4096 (drop n (overlaid xs at ys))) (omega arith)
      ∙ ap (take 4096) (sym (drop-drop (d * 4096) at (overlaid xs at ys)))
      ∙ ap (λ (zs : List ℕ). take 4096 (drop (d * 4096) zs)) (drop_at (take at xs) (ys ++ drop (at + length ys) xs) at (length-take-le at xs m))
      ∙ ap (take 4096) (drop-append-le (d * 4096) ys (drop (at + length ys) xs) (omega arith))
      ∙ take-append-le 4096 (drop (d * 4096) ys) (drop (at + length ys) xs) (simp length-drop (omega arith))

  pub block_here : (i : ℕ) → at ≡ i * 4096 → length ys ≡ 4096 → at ≤ length xs → block_at (overlaid xs at ys) i ≡ ys
  block_here i e l m =
      ap (block_at (overlaid xs at ys)) (omega arith)
      ∙ block_within i 0 e (omega arith) m
      ∙ take_all 4096 ys (omega arith)

  -- a block that the change does not touch, on either side
  pub block_beside : (i j : ℕ) → at ≡ i * 4096 → length ys ≡ 4096 → at ≤ length xs → (j ≡ i → ⊥) → block_at (overlaid xs at ys) j ≡ block_at xs j
  block_beside i j e l m d =
      ⊎_elim (λ (h : j < i). block_before j (omega arith) m) (λ (h : i ≤ j). block_behind j (omega arith) m) (cases_lt j i)
