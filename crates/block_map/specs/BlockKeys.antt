-- Keys that each stand for one block.
use Rattle.std.specs.Prelude.{◌≡◌, ℕ, ◌+◌, ◌-◌, ◌<◌, ◌≤◌, Some, None, Option}
use Rattle.std.specs.Option.{option_map}
use Rattle.blocks.specs.Blocks.{Placement}
use Rattle.blocks.specs.declared.Entry.{Entry}
use Rattle.tables.specs.Holding.{Holding}

-- what the keys of a table say of each block: it lies at the board number of the key with its own number
abbrev pub placed_by : Holding → Placement
placed_by h f b = option_map (λ (e : Entry). e.board) (h f b)

-- Every key stands for one block, which lies on the board.
abbrev pub Single : Holding → Type 0
Single h = (f b : ℕ) (e : Entry) → h f b ≡ Some e → (e.length ≡ 1) × (e.board < 4096)

-- No key stands under the n blocks from `first` on.
abbrev pub Free : (ℕ → Option Entry) → ℕ → ℕ → Type 0
Free h first n = (b : ℕ) → first ≤ b → b < first + n → h b ≡ None

-- the entry of each block of an extent that starts at `first` and lies from the board number `board` on
abbrev pub single : ℕ → ℕ → ℕ → Option Entry
single first board b = Some (record { length = 1; board = board + (b - first) })
