-- Which board block a new block takes: the first free one from a goal on, going round.
use Rattle.std.specs.Prelude.{◌≡◌, ℕ, zero, suc, ◌+◌, ◌-◌, ◌%◌, ◌<◌, Bool, true, false, cond, Some, None, Option, ◌==◌, nat_le}

-- ---- the goal

-- where the block before lies, in the row of the same file; block 0 has none before it
abbrev pub before : (ℕ → Option ℕ) → ℕ → Option ℕ
before row block = cond (block == 0) None (row (block - 1))

-- one past the place of the block before, or else the block's own number
abbrev pub wanted : Option ℕ → ℕ → ℕ
wanted (Some p) block = p + 1
wanted None block = block

-- The board number to begin at, on a board of so many blocks.
abbrev pub goal : ℕ → (ℕ → Option ℕ) → ℕ → ℕ
goal size row block = wanted (before row block) block % size

-- ---- the search

-- the first number that is not taken, of the n numbers from `from` on
abbrev pub first_free : (ℕ → Bool) → ℕ → ℕ → Option ℕ
first_free taken from zero = None
first_free taken from (suc n) = cond (taken from) (first_free taken (suc from) n) (Some from)

abbrev pub or_else : Option ℕ → Option ℕ → Option ℕ
or_else (Some p) o = Some p
or_else None o = o

-- The first number below `size` that is not taken: from `from` up to the last, then from 0 up.
abbrev pub free_from : (ℕ → Bool) → ℕ → ℕ → Option ℕ
free_from taken size from = or_else (first_free taken from (size - from)) (first_free taken 0 size)

-- ---- the same as a relation

-- how many steps lead from one number to another, going round from size - 1 to 0
abbrev pub steps : ℕ → ℕ → ℕ → ℕ
steps size from to = cond (nat_le from to) (to - from) (size - from + to)

-- None is found only if all are taken. What is found is below the size and free, and all that are nearer are taken.
abbrev pub NearestFree : (ℕ → Bool) → ℕ → ℕ → Option ℕ → Type 0
NearestFree taken size from None = (q : ℕ) → q < size → taken q ≡ true
NearestFree taken size from (Some p) = (p < size) × (taken p ≡ false)
    × ((q : ℕ) → q < size → steps size from q < steps size from p → taken q ≡ true)

-- The search finds the nearest free number, whatever is taken.
abbrev pub FindsNearest : Type 0
FindsNearest = (taken : ℕ → Bool) (size from : ℕ) → from < size → NearestFree taken size from (free_from taken size from)
