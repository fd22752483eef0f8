-- What the calls of an extent map and their parts answer.
use Rattle.std.specs.Prelude.{◌≡◌, ℕ, ◌<◌, ◌≤◌, Some, None, Ok, Err, Option, Result}
use Rattle.faults.specs.declared.Fault.{Fault}
use Rattle.faults.specs.declared.Ground.{Ground}
use Rattle.faults.specs.declared.Ground.TheVariants.{TooManyKeys}
use Rattle.look_ups.specs.declared.Found.{Found}
use Rattle.extents.specs.declared.key.Key.{Key}
use Rattle.extents.specs.Extents.{KeyTable, entry, lookup, tried, key_at}
use Rattle.blocks.specs.Blocks.{Placement}
use Rattle.tables.specs.Holding.{Holding}
use Rattle.maps.specs.Steps.{answer, ground_of_block}
use Rattle.key_rule.specs.Keyed.{keyed, rule_of_keys}
use Rattle.key_rule.specs.Mends.{Sought}

-- what the counted look-up of a block reads from a table: its board number or none, and how many keys of its path were tried
abbrev pub counted_in : Holding → ℕ → ℕ → Result Found Fault
counted_in h file block =
    answer file block (ground_of_block file block) (record { board = lookup (h file) block; tried = tried (h file) block })

-- the same by what is placed, where the keys tried are those of the file's map
abbrev pub counted_answer : Placement → ℕ → ℕ → Result Found Fault
counted_answer p file block =
    answer file block (ground_of_block file block) (record { board = p file block; tried = tried (key_at (p file)) block })

-- The first key of a file that starts from x on and below r.
abbrev pub Next : KeyTable → ℕ → ℕ → Option Key → Type 0
Next t x r None = Sought t x r r
Next t x r (Some k) = (x ≤ k.start) × (k.start < r) × Sought t x r k.start × (t k.start ≡ Some (entry k.length k.board))

-- whether there was room for the keys of the new placement, and the table afterwards
abbrev pub Remade : Holding → ℕ → Placement → Result (Unit {0}) Ground → Holding → Type 0
Remade h room n (Ok _) g = (rule_of_keys n ≤ room) × (g ≡ keyed n)
Remade h room n (Err e) g = (room < rule_of_keys n) × (e ≡ TooManyKeys) × (g ≡ h)
