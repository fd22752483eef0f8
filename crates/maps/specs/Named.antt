-- The extent that a call of a map names.
use Rattle.std.specs.Prelude.{ℕ, Ok, Err, Result}
use Rattle.faults.specs.declared.Fault.{Fault}
use Rattle.maps.specs.declared.extent.Extent.{Extent}

-- what came of naming an extent: its file, its first block and the number of its blocks, or the refusal
abbrev pub numbers_in : Result Extent Fault → Result (ℕ × ℕ × ℕ) Fault
numbers_in (Ok e) = Ok (e.file, e.first, e.n)
numbers_in (Err f) = Err f
