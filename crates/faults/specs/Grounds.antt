-- The numbers of the grounds of refusal, and which of several grounds a call is refused on.
use Rattle.std.specs.Prelude.{ℕ, Bool, cond, List, [], ◌∷◌, Some, None, codes, Option}
use Rattle.faults.specs.declared.Ground.{Ground}
use Rattle.faults.specs.declared.Ground.TheVariants.{Mark, File, Block, Length, Buffer, BoardNumber, Line, Mapped, NoFreeBlock, TooManyKeys, TableFull}
use Rattle.faults.specs.declared.Layer.{Layer}
use Rattle.faults.specs.declared.Layer.TheVariants.{Table, Map, Store, Board, Lower, Console}

-- the number under which each ground is known
abbrev pub ground_number : Ground → ℕ
ground_number Mark = 1
ground_number File = 2
ground_number Block = 3
ground_number Length = 4
ground_number Buffer = 5
ground_number BoardNumber = 6
ground_number Line = 7
ground_number Mapped = 11
ground_number NoFreeBlock = 12
ground_number TooManyKeys = 13
ground_number TableFull = 14

-- the name of each layer, in ASCII
abbrev pub layer_name : Layer → List ℕ
layer_name Table = codes "table"
layer_name Map = codes "map"
layer_name Store = codes "store"
layer_name Board = codes "board"
layer_name Lower = codes "lower"
layer_name Console = codes "console"

-- Of grounds that are each tested, in the order in which they are tried, the first that holds.
abbrev pub first_ground : List (Bool × Ground) → Option Ground
first_ground [] = None
first_ground (g ∷ gs) = cond g.0 (Some g.1) (first_ground gs)
