-- What carrying a whole reading side to a lower store leaves, where both have `files` files of `width` blocks.
use Rattle.std.specs.Prelude.{ℕ, min, cond, not, ◌&&◌, List, ◌==◌, nat_lt, slice_index}
use Rattle.blocks.specs.Blocks.{Contents, changed, count}

-- one file of the target has the source's bytes in its blocks below `blocks`, as far as both sides reach
abbrev pub file_carried : ℕ → ℕ → Contents → ℕ → ℕ → Contents → Contents
file_carried files width source file blocks target =
    changed target file (λ b. nat_lt file files && nat_lt b (min blocks width)) (source file)

-- how many blocks these are
abbrev pub blocks_carried : ℕ → ℕ → ℕ → ℕ → ℕ
blocks_carried files width file blocks = cond (nat_lt file files) (min blocks width) 0

-- the target has the source's bytes wherever both sides reach, and its own elsewhere
abbrev pub all_carried : ℕ → ℕ → Contents → Contents → Contents
all_carried files width source target f b = cond (nat_lt f files && nat_lt b width) (source f b) (target f b)

-- how many of the first n bytes differ
abbrev pub differing : ℕ → List ℕ → List ℕ → ℕ
differing n left right = count n (λ i. not (slice_index left i == slice_index right i))
