-- Whether the arguments of a call admit it.
use Rattle.std.specs.Prelude.{ℕ, cond, not, [], ◌∷◌, Some, Option, nat_lt}
use Rattle.faults.specs.Grounds.{first_ground}
use Rattle.faults.specs.declared.Ground.{Ground}
use Rattle.faults.specs.declared.Ground.TheVariants.{Mark, File}
use Rattle.lowers.specs.Lowers.{ground_of_block}

-- a mark that is none comes before what else is wrong with a write
abbrev pub ground_of_write : ℕ → ℕ → ℕ → ℕ → ℕ → ℕ → Option Ground
ground_of_write files width file block mark len = cond (nat_lt 1 mark) (Some Mark) (ground_of_block files width file block len)

-- a whole file
abbrev pub ground_of_file : ℕ → ℕ → Option Ground
ground_of_file files file = first_ground ((not (nat_lt file files), File) ∷ [])
