-- What is left of a block's path.
use Rattle.std.specs.Prelude.{ℕ, List, [], Some, None, Option}
use Rattle.extents.specs.declared.path.Path.{Path}
use Rattle.extents.specs.Extents.{path}

-- the path of the block where there is one
abbrev pub path_from : Option ℕ → List ℕ
path_from None = []
path_from (Some b) = path b

-- The starts that are still to come.
abbrev pub starts : Path → List ℕ
starts p = path_from p.start
