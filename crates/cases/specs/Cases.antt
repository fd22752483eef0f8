-- Worked cases: what the rules come to on numbers.
use Rattle.std.specs.Prelude.{◌≡◌, ℕ, ◌+◌, ◌-◌, cond, [], ◌∷◌, length, Some}
use Rattle.blocks.specs.Blocks.{inside}
use Rattle.extents.specs.Extents.{FileMap, key, path}
use Rattle.extents.specs.Runs.{run_map, ListsKeys}
use Rattle.key_rule.specs.Keyed.{CutInTwo}
use Rattle.ledger.specs.Worked.{WorkedBoard}
use Rattle.tables.specs.Spreads.{mixed}

-- the map with one run more: the n blocks from `first` at the board numbers from p
abbrev pub and_run : FileMap → ℕ → ℕ → ℕ → FileMap
and_run m first n p b = cond (inside first n b) (Some (p + (b - first))) (m b)

-- The paths of four blocks.
pub record Paths : Type 0 where
  pub of_7 : path 7 ≡ 7 ∷ 6 ∷ 4 ∷ 0 ∷ []
  pub of_4095 : length (path 4095) ≡ 13
  pub of_4096 : path 4096 ≡ 4096 ∷ []
  pub of_4103 : path 4103 ≡ 4103 ∷ 4102 ∷ 4100 ∷ 4096 ∷ []

-- The keys of the blocks 3 to 10 at 103 to 110, and those after the blocks 0 to 2 at 100 to 102 have come, before or after.
pub record Joining : Type 0 where
  pub right_part : ListsKeys (run_map 3 8 103) (key 3 1 103 ∷ key 4 4 104 ∷ key 8 2 108 ∷ key 10 1 110 ∷ [])
  pub left_later : ListsKeys (and_run (run_map 3 8 103) 0 3 100) (key 0 8 100 ∷ key 8 2 108 ∷ key 10 1 110 ∷ [])
  pub left_first : ListsKeys (and_run (run_map 0 3 100) 3 8 103) (key 0 8 100 ∷ key 8 2 108 ∷ key 10 1 110 ∷ [])

-- The mixing spread puts block 1 of file 0 at place 1,591 of 2,048.
abbrev pub Mixing : Type 0
Mixing = mixed 0 1 2048 ≡ 1591

-- The list of worked cases.
pub record Worked : Type 0 where
  pub paths : Paths
  pub joining : Joining
  -- a board of four blocks, filled and filled again
  pub board : WorkedBoard
  pub mixing : Mixing
  -- a key that is cut in two, with room for one key and for two
  pub cut_in_two : CutInTwo
