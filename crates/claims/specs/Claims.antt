-- How a new block gets a place on the board.
use Rattle.std.specs.Prelude.{ℕ, Bool, true, Some, None, Ok, Err, Option, Result}
use Rattle.faults.specs.declared.Ground.TheVariants.{NoFreeBlock}
use Rattle.calls.specs.declared.StoreFault.{StoreFault}
use Rattle.calls.specs.declared.StoreFault.TheVariants.{FromMap}
use Rattle.blocks.specs.Blocks.{Placement}
use Rattle.ledger.specs.Free.{goal, free_from}
use Rattle.ledger.specs.Store.{put, own}
use Rattle.maps.specs.Steps.{Outcome, assign_step}
use Rattle.pool.specs.Pool.{board_size}

-- the place that is told or the refusal, and what is taken and mapped then
abbrev pub Claimed : Type 0
Claimed = Result ℕ StoreFault × (ℕ → Bool) × Placement

-- By what the map answers and leaves: the board number, which is taken, or the map's refusal, whole inside the store's.
abbrev pub by_map : (ℕ → Bool) → ℕ → Outcome → Claimed
by_map taken p (Ok granted, placedThen) = (Ok p, put taken p true, placedThen)
by_map taken p (Err f, placedThen) = (Err (FromMap f), taken, placedThen)

-- By the board block that is free for it: none, or the map is asked to hold the block there.
abbrev pub claimed : (Placement → ℕ) → ℕ → (ℕ → Bool) → Placement → ℕ → ℕ → Option ℕ → Claimed
claimed rule room taken placed file block None = (Err (own NoFreeBlock file block), taken, placed)
claimed rule room taken placed file block (Some p) = by_map taken p (assign_step rule room placed file block 1 p)

-- The first free board block from the goal on, going round, is to become the place of a block.
abbrev pub claim_step : (Placement → ℕ) → ℕ → ℕ → (ℕ → Bool) → Placement → ℕ → ℕ → Claimed
claim_step rule room size taken placed file block =
    claimed rule room taken placed file block (free_from taken (board_size size) (goal size (placed file) block))
