-- What rising rows mean, and what a table of them keeps true.
use Rattle.std.specs.Prelude.{◌≡◌, ℕ, ◌+◌, ◌-◌, ◌*◌, ◌<◌, ◌≤◌, List, length, get_or, Ok, Err, Result, slice_index_or}
use Rattle.blocks.specs.Blocks.{tally}
use Rattle.tables.specs.declared.row.Row.{Row}
use Rattle.tables.specs.Holding.{Holding}
use Rattle.tables.specs.Rows.{blank, Good, says, first}

-- what stands under each key
abbrev pub lookup : List Row → Holding
lookup xs f b = first (says f b) xs

-- the number by which keys are ordered
abbrev pub rank : ℕ → ℕ → ℕ
rank file block = file * 65536 + block

abbrev pub rank_at : List Row → ℕ → ℕ
rank_at xs i = rank (get_or xs i blank).file (get_or xs i blank).block

abbrev pub Rising : List Row → Type 0
Rising xs = (i j : ℕ) → i < j → j < length xs → rank_at xs i < rank_at xs j

-- rows whose memory is for `cap`, in a table with this room
pub record Sound (xs : List Row) (room cap : ℕ) : Type 0 where
  pub rising : Rising xs
  pub numbered : (i : ℕ) → i < length xs → Good (slice_index_or xs i blank)
  pub counted : length xs ≡ tally (lookup xs)
  pub fits : length xs ≤ room
  pub memory : room ≤ cap

-- ---- places of keys

-- r is where a key of rank k stands, or would stand.
pub record Stands (xs : List Row) (k r : ℕ) : Type 0 where
  pub within : r ≤ length xs
  pub before : 0 < r → rank_at xs (r - 1) < k
  pub from : r < length xs → k ≤ rank_at xs r

-- The row at i has this key.
pub record Hit (xs : List Row) (f b i : ℕ) : Type 0 where
  pub within : i < length xs
  pub file : (get_or xs i blank).file ≡ f
  pub block : (get_or xs i blank).block ≡ b

-- A row with this key would stand at i.
pub record Miss (xs : List Row) (f b i : ℕ) : Type 0 where
  pub within : i ≤ length xs
  pub before : 0 < i → rank_at xs (i - 1) < rank f b
  pub after : i < length xs → rank f b < rank_at xs i

-- where a key stands, or else where it would
abbrev pub Sought : List Row → ℕ → ℕ → Result ℕ ℕ → Type 0
Sought xs f b (Ok i) = Hit xs f b i
Sought xs f b (Err i) = Miss xs f b i
