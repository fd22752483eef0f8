-- What a probing table means, with the places that its spread gives.
use Rattle.std.specs.Prelude.{ℕ, vec_items}
use Rattle.tables.specs.Holding.{Holding}
use Rattle.tables.specs.declared.spread.Spread.{Ghosts}
use Rattle.probing.specs.declared.rows.ProbingTable.{ProbingTable}
use Rattle.probing.specs.Slots.{look, looked}

-- where the search for each key begins
abbrev pub home_in : {S : Type 0} {d : Ghosts S} → ProbingTable S d → ℕ → ℕ → ℕ
home_in {d = d} t f b = d.place t.spread f b t.room

abbrev pub holding_of : {S : Type 0} {d : Ghosts S} → ProbingTable S d → Holding
holding_of t = look (vec_items t.slots.slots)

-- how many rows a look-up of a key looks at
abbrev pub looked_in : {S : Type 0} {d : Ghosts S} → ProbingTable S d → ℕ → ℕ → ℕ
looked_in t file block = looked t.room (vec_items t.slots.slots) (home_in t file block) file block
