-- Each block of a board has 4,096 bytes.
use Rattle.std.specs.Prelude.{◌≡◌, ℕ, ◌+◌, ◌-◌, ◌*◌, ◌<◌, ◌≤◌, ◌⊎◌, List, [], length, cond, nat_lt}
use Rattle.std.proofs.Common.{ap, ◌∙◌, inl, inr, arith}
use Rattle.std.proofs.lemmas.Bool.{cond-true, cond-false, lt-ltb, le-ltb, cases_lt}
use Rattle.memory.specs.Memory.{block_at}
use Rattle.memory.proofs.Overlays.{length_block}
use Rattle.boards.specs.Boards.{size_in, block_in, joined_size, joined_block}

pub fits_in : (memory : List ℕ) (i : ℕ) → i < size_in memory → i * 4096 + 4096 ≤ length memory
fits_in memory i l = omega arith

pub block_is : (memory : List ℕ) (i : ℕ) → i < size_in memory → block_in memory i ≡ block_at memory i
block_is memory i l = cond-true _ (block_at memory i) [] (lt-ltb i (size_in memory) l)

pub full_in : (memory : List ℕ) (i : ℕ) → i < size_in memory → length (block_in memory i) ≡ 4096
full_in memory i l = ap length (block_is memory i l) ∙ length_block memory i (fits_in memory i l)

-- Each block of the two together is of 4,096 bytes, where each block of each is.
pub joined_full : (left : ℕ) (lefts : ℕ → List ℕ) → ((i : ℕ) → i < left → length (lefts i) ≡ 4096)
    → (right : ℕ) (rights : ℕ → List ℕ) → ((i : ℕ) → i < right → length (rights i) ≡ 4096)
    → (i : ℕ) → i < joined_size left right → length (joined_block left lefts right rights i) ≡ 4096
joined_full left lefts full right rights fuller i l = ap length (cond-true _ _ _ (lt-ltb i (joined_size left right) l)) ∙ side (cases_lt i left)
  where
    side : (i < left) ⊎ (left ≤ i) → length (cond (nat_lt i left) (lefts i) (rights (i - left))) ≡ 4096
    side (inl k) = ap length (cond-true _ _ _ (lt-ltb i left k)) ∙ full i k
    side (inr k) = ap length (cond-false _ _ _ (le-ltb i left k)) ∙ fuller (i - left) (omega arith)
