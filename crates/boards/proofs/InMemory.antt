-- The blocks of a board in memory.
use Rattle.std.proofs.Common.{◌≡◌, ℕ, ◌+◌, ◌*◌, ◌/◌, ◌<◌, ◌≤◌, min, eqb, ◌⊎◌, List, [], length, Ok, sym, refl, ap, ◌∙◌, inl, inr, arith}
use mathlib.Core.Path.{fun_ext}
use Rattle.std.proofs.lemmas.Bool.Decides.{nat_tests}
use Rattle.std.proofs.lemmas.Bool.{cond-true, cond-false, lt-ltb, le-ltb, eq-eqb, ne_eqb, cases_eq, cases_lt}
use Rattle.memory.specs.Memory.{block_at, overlaid}
use Rattle.memory.proofs.Overlays.{length_overlaid, length_block, block_here, block_beside}
use Rattle.boards.specs.Full.{fits_in, block_is}
use Rattle.boards.specs.Boards.{board_answer, size_in, block_in, replaced}

-- what a granted call brings
pub granted : (size number buffer : ℕ) → Ok tt ≡ board_answer size number buffer → (number < size) × (buffer ≡ 4096)
granted size number buffer e = (grind (arith, nat_tests), grind (arith, nat_tests))

-- the board after a write, where the memory has other bytes in that block's part
module _ (memory new : List ℕ) (i : ℕ) (l : i < size_in memory) (e : length new ≡ 4096) where
  pub same_size_in : size_in (overlaid memory (i * 4096) new) ≡ size_in memory
  same_size_in = ap (λ (n : ℕ). min (n / 4096) 4096) (length_overlaid memory new (i * 4096) (omega (arith, fits_in memory i l)))

  pub replaced_in : block_in (overlaid memory (i * 4096) new) ≡ replaced (block_in memory) i new
  replaced_in = fun_ext (λ j. at j (cases_lt j (size_in memory)) (cases_eq j i))
    where
      room : i * 4096 ≤ length memory
      room = omega (arith, fits_in memory i l)

      within : (j : ℕ) → j < size_in memory → block_in (overlaid memory (i * 4096) new) j ≡ block_at (overlaid memory (i * 4096) new) j
      within j h = block_is (overlaid memory (i * 4096) new) j (omega (arith, same_size_in))

      at : (j : ℕ) → (j < size_in memory) ⊎ (size_in memory ≤ j) → (j ≡ i) ⊎ (j ≡ i → ⊥) → block_in (overlaid memory (i * 4096) new) j ≡ replaced (block_in memory) i new j
      at j (inl h) (inl q) =
          within j h ∙ ap (block_at (overlaid memory (i * 4096) new)) q
          ∙ block_here memory new (i * 4096) i refl e room
          ∙ sym (cond-true (eqb j i) new (block_in memory j) (eq-eqb j i q))
      at j (inl h) (inr d) =
          within j h ∙ block_beside memory new (i * 4096) i j refl e room d
          ∙ sym (block_is memory j h)
          ∙ sym (cond-false (eqb j i) new (block_in memory j) (ne_eqb j i d))
      at j (inr h) o =
          cond-false _ (block_at (overlaid memory (i * 4096) new) j) [] (le-ltb j (size_in (overlaid memory (i * 4096) new)) (omega (arith, same_size_in)))
          ∙ sym (cond-false _ (block_at memory j) [] (le-ltb j (size_in memory) h))
          ∙ sym (cond-false (eqb j i) new (block_in memory j) (ne_eqb j i (λ q. omega arith)))
