-- How a call that may be refused is answered.
use Rattle.std.specs.Prelude.{ℕ, [], ◌∷◌, Some, None, Ok, Err, Option, Result, nat_lt}
use Rattle.faults.specs.declared.Ground.{Ground}
use Rattle.faults.specs.declared.Ground.TheVariants.{File, Block}
use Rattle.faults.specs.declared.Layer.{Layer}
use Rattle.faults.specs.declared.Fault.{Fault}
use Rattle.faults.specs.Grounds.{first_ground}

-- a layer's refusal of a call with this file and first block
abbrev pub refused_by : Layer → (ground : Ground) → ℕ → ℕ → Fault
refused_by layer g file block = record { ground = g; layer = layer; file = file; block = block }

-- What a layer answers to a call with this file and first block: the refusal, if there is a ground, else x.
abbrev pub answered : {X : Type 0} → Layer → ℕ → ℕ → (ground : Option Ground) → X → Result X Fault
answered layer file block None x = Ok x
answered layer file block (Some g) x = Err (refused_by layer g file block)

-- why a file and a block number are refused that have to be below 65,536
abbrev pub ground_of_numbers : ℕ → ℕ → Option Ground
ground_of_numbers file block = first_ground ((nat_lt 65535 file, File) ∷ (nat_lt 65535 block, Block) ∷ [])
