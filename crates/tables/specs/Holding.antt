-- What a table means: the entry under each key.
use Rattle.std.specs.Prelude.{◌≡◌, ℕ, zero, suc, ◌+◌, ◌-◌, ◌<◌, Bool, true, not, ◌&&◌, is_some, Some, None, Option, nat_le}
use Rattle.blocks.specs.Blocks.{tally}
use Rattle.blocks.specs.declared.Entry.{Entry}
use Rattle.tables.specs.declared.row.Row.{Row}

-- the entry under each file and block, if one stands there
abbrev pub Holding : Type 0
Holding = ℕ → ℕ → Option Entry

-- no key
abbrev pub nothing : Holding
nothing f b = None

-- Every key is a file and a block number.
abbrev pub Numbered : Holding → Type 0
Numbered h = (f b : ℕ) → is_some (h f b) ≡ true → (f < 65536) × (b < 65536)

-- The key is new, and n are held.
abbrev pub full : Holding → ℕ → ℕ → ℕ → Bool
full h n file block = not (is_some (h file block)) && nat_le n (tally h)

-- the row of an entry under this key, or else what is given
abbrev pub row_or : ℕ → ℕ → Option Entry → Option Row → Option Row
row_or file block None r = r
row_or file block (Some e) r = Some (record { file = file; block = block; entry = e })

-- the row of the first of the n blocks from `block` on under which h has an entry
abbrev pub first_row : (ℕ → Option Entry) → ℕ → ℕ → ℕ → Option Row
first_row h file block zero = None
first_row h file block (suc n) = row_or file block (h block) (first_row h file (block + 1) n)

-- The row of the lowest key of a file from a block on.
-- Shut, since no proof can go through so many blocks: the laws serve.
unfoldable pub lowest_row : Holding → ℕ → ℕ → Option Row
lowest_row h file block = first_row (h file) file block (65536 - block)
