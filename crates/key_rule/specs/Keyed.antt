-- A placement that is held as its keys.
use Rattle.std.specs.Prelude.{◌≡◌, ℕ, ◌<◌, ◌≤◌, ◌⊎◌, Some, None, Ok, Err}
use Rattle.blocks.specs.Blocks.{Placement, tally}
use Rattle.extents.specs.Extents.{KeysOf, lookup, key_at}
use Rattle.tables.specs.Holding.{Holding}
use Rattle.maps.specs.Steps.{Outcome, nowhere, assigned, cleared, clear_step, fault_of}
use Rattle.faults.specs.declared.Ground.TheVariants.{TooManyKeys}

-- the keys of each file's map
unfoldable pub keyed : Placement → Holding
keyed p f a = key_at (p f) a

-- How many keys a placement calls for.
unfoldable pub rule_of_keys : Placement → ℕ
unfolding keyed
rule_of_keys p = tally (keyed p)

-- what is read from a table by the look-up
unfoldable pub placing : Holding → Placement
placing h f b = lookup (h f) b

-- Only blocks that have a file and a block number are mapped.
abbrev pub Within : Placement → Type 0
Within p = (f b : ℕ) → (65536 ≤ f) ⊎ (65536 ≤ b) → p f b ≡ None

-- Board numbers are below 4,096.
abbrev pub OnBoard : Placement → Type 0
OnBoard p = (f b v : ℕ) → p f b ≡ Some v → v < 4096

-- A table holds the keys of what is read from it, and nothing else.
pub record Held (h : Holding) : Type 0 where
  pub exact : h ≡ keyed (placing h)
  pub within : Within (placing h)
  pub small : OnBoard (placing h)

-- Such a table holds exactly the keys of each file's map, and as many as the rule says.
pub record Exact : Type 0 where
  pub keys : (h : Holding) → Held h → (f : ℕ) → KeysOf (placing h f) (h f)
  pub number : (h : Holding) → Held h → rule_of_keys (placing h) ≡ tally h

-- Worked: blocks 0 to 3 of file 0 at the board numbers 0 to 3
abbrev pub four_blocks : Placement
four_blocks = assigned nowhere 0 0 4 0

-- are one key. Without block 1 they are two, so with room for one key clearing it is refused, and with room for two it is granted.
pub record CutInTwo : Type 0 where
  pub one_key : rule_of_keys four_blocks ≡ 1
  pub two_keys : rule_of_keys (cleared four_blocks 0 1 1) ≡ 2
  pub refused : ◌≡◌ {A = Outcome} (clear_step rule_of_keys 1 four_blocks 0 1 1) (Err (fault_of TooManyKeys 0 1), four_blocks)
  pub granted : ◌≡◌ {A = Outcome} (clear_step rule_of_keys 2 four_blocks 0 1 1) (Ok tt, cleared four_blocks 0 1 1)
