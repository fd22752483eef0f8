-- Which calls of a table are refused, and what a call answers.
use Rattle.std.specs.Prelude.{ℕ, Bool, [], ◌∷◌, Some, None, Option, Result, nat_le}
use Rattle.faults.specs.declared.Fault.{Fault}
use Rattle.faults.specs.declared.Ground.{Ground}
use Rattle.faults.specs.declared.Ground.TheVariants.{File, Block, TableFull}
use Rattle.faults.specs.declared.Layer.TheVariants.{Table}
use Rattle.faults.specs.Grounds.{first_ground}
use Rattle.faults.specs.Answers.{answered, ground_of_numbers}

-- why a call with this key is refused
abbrev pub ground_of_key : ℕ → ℕ → Option Ground
ground_of_key file block = ground_of_numbers file block

-- why a put with this key is refused, where the third test is that the table is full
abbrev pub ground_of_put : ℕ → ℕ → Bool → Option Ground
ground_of_put file block full = first_ground ((nat_le 65536 file, File) ∷ (nat_le 65536 block, Block) ∷ (full, TableFull) ∷ [])

-- What a table answers to a call with this file and block: the fault, if there is a ground to refuse it, else x.
abbrev pub answer : {X : Type 0} → ℕ → ℕ → (ground : Option Ground) → X → Result X Fault
answer file block g x = answered Table file block g x

-- What a call leaves: all as it was, if there is a ground to refuse it, else x.
abbrev pub leaves : {X : Type 0} → Option Ground → X → X → X
leaves None was x = x
leaves (Some g) was x = was
