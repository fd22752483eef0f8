-- A board block taken for a block of a file and entered; then one for another block.
use Rattle.std.specs.Prelude.{ℕ, Bool, true, Some, None, Ok, Err, Option, Result}
use Rattle.faults.specs.declared.Fault.{Fault}
use Rattle.blocks.specs.Blocks.{Placement}
use Rattle.ledger.specs.Free.{free_from}
use Rattle.ledger.specs.Store.{put}
use Rattle.maps.specs.Steps.{assign_step}
use Rattle.pool.specs.Pool.{board_size}

-- the place that is told, and what is taken and mapped then
abbrev pub Told : Type 0
Told = Option ℕ × (ℕ → Bool) × Placement

-- A refused block is not taken.
abbrev pub if_entered : Result (Unit {0}) Fault → ℕ → (ℕ → Bool) → Placement → Told
if_entered (Ok granted) number taken placed = (Some number, put taken number true, placed)
if_entered (Err fault) number taken placed = (None, taken, placed)

abbrev pub entering : (Placement → ℕ) → ℕ → ℕ → ℕ → (ℕ → Bool) → Placement → Option ℕ → Told
entering rule room file block taken placed None = (None, taken, placed)
entering rule room file block taken placed (Some number) =
    if_entered (assign_step rule room placed file block 1 number).0 number taken (assign_step rule room placed file block 1 number).1

-- the first free block from the block's own number on is entered as its place
abbrev pub enter_one : (Placement → ℕ) → ℕ → ℕ → ℕ → ℕ → (ℕ → Bool) → Placement → Told
enter_one rule room size file block taken placed =
    entering rule room file block taken placed (free_from taken (board_size size) block)

-- the second, if the first has a place
abbrev pub if_first : Option ℕ → Told → Told → Told
if_first (Some number) without with = with
if_first None without with = without

abbrev pub two_entered : (Placement → ℕ) → ℕ → ℕ → ℕ → ℕ → ℕ → (ℕ → Bool) → Placement → Told
two_entered rule room size file block other taken placed =
    if_first (enter_one rule room size file block taken placed).0 (enter_one rule room size file block taken placed)
    (enter_one rule room size file other (enter_one rule room size file block taken placed).1 (enter_one rule room size file block taken placed).2)
