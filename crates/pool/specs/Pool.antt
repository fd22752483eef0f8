-- Which board blocks are taken, and what taking one and giving one back leave.
use Rattle.std.specs.Prelude.{ℕ, min, Bool, true, false, Some, None, Option}
use Rattle.std.specs.Option.{option_map}
use Rattle.block_set.specs.Members.{member}
use Rattle.ledger.specs.Store.{put}
use Rattle.pool.specs.declared.Pool.{Pool}
use Rattle.pool.specs.declared.Taken.{Taken}

-- which board blocks are taken
abbrev pub taken_in : Pool → ℕ → Bool
taken_in pool = member pool.taken

-- none is
abbrev pub none_taken : ℕ → Bool
none_taken i = false

-- A board has at most 4,096 blocks: a larger size counts as that.
abbrev pub board_size : ℕ → ℕ
board_size size = min size 4096

-- the board number of what was taken, if anything was
abbrev pub number_in : Option Taken → Option ℕ
number_in = option_map (λ (token : Taken). token.number)

-- what is taken once the block that was found is taken too
abbrev pub taken_also : (ℕ → Bool) → Option ℕ → ℕ → Bool
taken_also taken (Some number) = put taken number true
taken_also taken None = taken
