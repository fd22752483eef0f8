-- Which board numbers a set has, and what its calls leave in it.
use Rattle.std.specs.Prelude.{ℕ, ◌/◌, ◌%◌, Bool, true, false, cond, not, ◌&&◌, List, nat_lt, slice_index}
use Rattle.bits.specs.Bits.{bit}
use Rattle.ledger.specs.Store.{put}
use Rattle.block_set.specs.declared.BlockSet.{BlockSet}

-- the bits of a row of words, counted on: bit i is bit i % 64 of word i / 64
unfoldable pub bit_of : List ℕ → ℕ → Bool
bit_of words i = bit (slice_index words (i / 64)) (i % 64)

-- which numbers are in a set
abbrev pub member : BlockSet → ℕ → Bool
member set = bit_of set.words

-- none is
abbrev pub none : ℕ → Bool
none i = false

-- one number more, if it is below 4,096
abbrev pub inserted : (ℕ → Bool) → ℕ → ℕ → Bool
inserted members number = cond (nat_lt number 4096) (put members number true) members

-- all but those of another set
abbrev pub without : (ℕ → Bool) → (ℕ → Bool) → ℕ → Bool
without members others i = members i && not (others i)
