-- How blocks lose their places on the board.
use Rattle.std.specs.Prelude.{ℕ, ◌+◌, Bool, cond, Some, None, Ok, Err, Option, Result, nat_lt}
use Rattle.faults.specs.declared.Fault.{Fault}
use Rattle.faults.specs.declared.Ground.{Ground}
use Rattle.faults.specs.declared.Ground.TheVariants.{TooManyKeys}
use Rattle.blocks.specs.Blocks.{Placement, inside, every, changed}
use Rattle.ledger.specs.Store.{placed, freed}
use Rattle.maps.specs.Steps.{fault_of, ground_of_extent}

-- how many board blocks were given back or the map's refusal, and what is taken and mapped then
abbrev pub Vacated : Type 0
Vacated = Result ℕ Fault × (ℕ → Bool) × Placement

-- The blocks leave, unless the map then calls for more keys than it has room for: a refused call leaves all as it was.
abbrev pub leaving : (Placement → ℕ) → ℕ → (ℕ → Bool) → Placement → Placement → ℕ → ℕ → ℕ → Vacated
leaving rule room taken place placeThen file first n =
    cond (nat_lt room (rule placeThen)) (Err (fault_of TooManyKeys file first), taken, place)
    (Ok (placed (place file) (inside first n) (first + n)), freed taken (place file) (inside first n) (first + n), placeThen)

-- A call that is refused whatever the map holds leaves all as it was.
abbrev pub unless_refused : Option Ground → (ℕ → Bool) → Placement → ℕ → ℕ → Vacated → Vacated
unless_refused None taken place file first r = r
unless_refused (Some g) taken place file first r = (Err (fault_of g file first), taken, place)

-- the n blocks of a file from the first on
abbrev pub vacate_step : (Placement → ℕ) → ℕ → (ℕ → Bool) → Placement → ℕ → ℕ → ℕ → Vacated
vacate_step rule room taken place file first n = unless_refused (ground_of_extent file first n) taken place file first
    (leaving rule room taken place (changed place file (inside first n) (λ _. None)) file first n)

-- how many board blocks were given back, and what is taken and mapped then
abbrev pub LeftFile : Type 0
LeftFile = ℕ × (ℕ → Bool) × Placement

-- a whole file, of which the blocks below the width give their board blocks back
abbrev pub leave_file : (ℕ → Bool) → Placement → ℕ → ℕ → LeftFile
leave_file taken place file width =
    (placed (place file) every width, freed taken (place file) every width, changed place file every (λ _. None))
