-- What rows say of a key.
use Rattle.std.specs.Prelude.{ℕ, ◌<◌, cond, ◌&&◌, List, [], ◌∷◌, Some, None, Option, ◌==◌}
use Rattle.blocks.specs.declared.Entry.{Entry}
use Rattle.tables.specs.declared.row.Row.{Row}

-- the row that is read past the last
abbrev pub blank : Row
blank = record { file = 0; block = 0; entry = record { length = 0; board = 0 } }

-- Its file and its block are numbers that these can have.
abbrev pub Good : Row → Type 0
Good r = (r.file < 65536) × (r.block < 65536)

-- what a row says of a key: its entry, if it is the key's
abbrev pub says : ℕ → ℕ → Row → Option Entry
says file block r = cond (file == r.file && block == r.block) (Some r.entry) None

abbrev pub or_else : {X : Type 0} → Option X → Option X → Option X
or_else None o = o
or_else (Some x) o = Some x

-- what the first says that says something
abbrev pub first : {X Y : Type 0} → (X → Option Y) → List X → Option Y
first g [] = None
first g (x ∷ xs) = or_else (g x) (first g xs)
