-- What is remembered of a map, and when that is true.
use Rattle.std.specs.Prelude.{◌≡◌, ℕ, ◌+◌, ◌%◌, cond, ◌&&◌, List, [], ◌∷◌, map, replicate, is_some, Some, None, Ok, Err, Option, Result, ◌==◌, slice_set}
use Rattle.std.specs.Option.{option_or}
use Rattle.std.specs.Coded.{×_prop, Unit-prop}
use Rattle.std.proofs.Props.{props}
use Rattle.faults.specs.declared.Fault.{Fault}
use Rattle.blocks.specs.Blocks.{Placement, inside}
use Rattle.cached_map.specs.declared.memory.Line.{Line}
use Rattle.cached_map.specs.declared.memory.Memory.{Memory}

-- ---- one line

-- what a line says of a block
abbrev pub says : ℕ → ℕ → Option Line → Option ℕ
says file block None = None
says file block (Some l) = cond (l.file == file && l.block == block) (Some l.board) None

-- The line is true of a placement: the block that it gives a board number lies there.
abbrev pub True : Placement → Option Line → Type 0
True p None = Unit {0}
True p (Some l) = p l.file l.block ≡ Some l.board

-- a line that says nothing any more, if its block is one of the n of a file from `first` on
abbrev pub struck : ℕ → ℕ → ℕ → Option Line → Option Line
struck file first n None = None
struck file first n (Some l) = cond (l.file == file && inside first n l.block) None (Some l)

-- ---- all lines

-- what the first line says that says something of the block
abbrev pub recalled : List (Option Line) → ℕ → ℕ → Option ℕ
recalled [] file block = None
recalled (l ∷ ls) file block = option_or (says file block l) (recalled ls file block)

-- Every line is true.
abbrev pub AllTrue : Placement → List (Option Line) → Type 0
AllTrue p [] = Unit {0}
AllTrue p (l ∷ ls) = True p l × AllTrue p ls

-- That has one proof at most.
pub True-prop : (p : Placement) (l : Option Line) → IsProp (True p l)
True-prop p None = Unit-prop
True-prop p (Some l) = hlevel props

pub AllTrue-prop : (p : Placement) (ls : List (Option Line)) → IsProp (AllTrue p ls)
AllTrue-prop p [] = Unit-prop
AllTrue-prop p (l ∷ ls) = ×_prop (True-prop p l) (AllTrue-prop p ls)

-- ---- the memory

-- nothing is remembered
abbrev pub blank_memory : Memory
blank_memory = record { lines = replicate 8 None; turn = 0 }

-- a block's board number is remembered in the place whose turn it is, which is the oldest line's
abbrev pub remembered : Memory → ℕ → ℕ → ℕ → Memory
remembered m file block board = record {
  lines = slice_set m.lines (m.turn % 8) (Some (record { file = file; block = block; board = board }));
  turn = m.turn % 8 + 1;
}

-- the n blocks of a file from `first` on are not remembered, all others are as they were
abbrev pub without : Memory → ℕ → ℕ → ℕ → Memory
without m file first n = record { lines = map (struck file first n) m.lines; turn = m.turn }

-- ---- what the calls of a map leave in memory

-- what a look-up below has found is remembered
abbrev pub learned : Memory → ℕ → ℕ → Result (Option ℕ) Fault → Memory
learned m file block (Ok (Some board)) = remembered m file block board
learned m file block (Ok None) = m
learned m file block (Err e) = m

-- After a block was asked for: what was remembered before is not learned again.
abbrev pub after_find : Memory → ℕ → ℕ → Result (Option ℕ) Fault → Memory
after_find m file block r = cond (is_some (recalled m.lines file block)) m (learned m file block r)

-- After n blocks of a file from `first` on were to be taken out: they are forgotten if they were.
abbrev pub after_taking : Memory → ℕ → ℕ → ℕ → Result (Unit {0}) Fault → Memory
after_taking m file first n (Ok u) = without m file first n
after_taking m file first n (Err e) = m
