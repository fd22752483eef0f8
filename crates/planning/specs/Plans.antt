-- What a plan of extents prints for its lines, and what it counts.
use Rattle.std.specs.Prelude.{◌≡◌, ℕ, zero, suc, ◌+◌, ◌*◌, ◌^◌, ◌<◌, ◌≤◌, max, Bool, false, List, [], ◌∷◌, ◌++◌, length, Some, None, Ok, Err, codes, decimal, Option, Result, ◌==◌, slice_index}
use Rattle.blocks.specs.Blocks.{count}
use Rattle.faults.specs.Grounds.{ground_number}
use Rattle.faults.specs.declared.Ground.{Ground}
use Rattle.faults.specs.declared.Ground.TheVariants.{Line}
use Rattle.lines.specs.Lines.{fields}
use Rattle.extents.specs.declared.key.Key.{Key}
use Rattle.extents.specs.Extents.{KeyTable, lookup, tried}
use Rattle.extents.specs.Runs.{ground_of_run, walk, table_of}
use Rattle.planning.specs.declared.plan.PlanError.{PlanError}
use Rattle.run_keys.specs.declared.run.RunError.{RunError}
use Rattle.run_keys.specs.declared.run.RunError.TheVariants.{Unadmitted}
use Rattle.planning.specs.declared.plan.PlanError.TheVariants.{TooLong, NoMemory}
use Rattle.planning.specs.declared.summary.Run.{Run}
use Rattle.planning.specs.declared.summary.Summary.{Summary}

-- ---- what a line asks for

-- a line asks for a run by its first block, its number of blocks and its first board number
abbrev pub run_in_line : Option (List ℕ) → Option Run
run_in_line None = None
run_in_line (Some ns) = Some (record { first = slice_index ns 0; blocks = slice_index ns 1; board = slice_index ns 2 })

abbrev pub admitted : Option Ground → Run → Result Run Ground
admitted None run = Ok run
admitted (Some g) run = Err g

abbrev pub asked : Option Run → Result Run Ground
asked None = Err Line
asked (Some run) = admitted (ground_of_run run.first run.blocks run.board) run

-- the run that a line asks for, or the ground on which the line is refused
abbrev pub outcome : List ℕ → Result Run Ground
outcome line = asked (run_in_line (fields 3 (Some line)))

-- the run's blocks and board numbers are such as there are
abbrev pub InRange : Run → Type 0
InRange run = (run.first + run.blocks ≤ 65536) × (run.board + run.blocks ≤ 4096)

-- why a line has no keys: it is refused, or there was no memory
abbrev pub NoKeys : Result Run Ground → RunError → Type 0
NoKeys asked (Unadmitted g) = asked ≡ Err g
NoKeys asked RunError.NoMemory = Unit {0}

-- the keys of a run
abbrev pub keys_of : Run → List Key
keys_of run = walk run.blocks run.first (run.first + run.blocks) run.board

-- ---- what is printed

abbrev pub key_text : Key → List ℕ
key_text k = codes "key " ++ (decimal k.start ++ (codes " length " ++ (decimal k.length ++ (codes " board " ++ (decimal k.board ++ codes "\n")))))

unfoldable pub keys_text : List Key → List ℕ
keys_text [] = []
keys_text (k ∷ ks) = key_text k ++ keys_text ks

-- a line's keys, or `no` and the number of the refusal
abbrev pub line_text : Result Run Ground → List ℕ
line_text (Ok run) = keys_text (keys_of run)
line_text (Err g) = codes "no " ++ (decimal (ground_number g) ++ codes "\n")

unfoldable pub lines_text : List (List ℕ) → List ℕ
lines_text [] = []
lines_text (l ∷ ls) = line_text (outcome l) ++ lines_text ls

-- ---- what is counted

abbrev pub is_at : Option ℕ → ℕ → Bool
is_at None p = false
is_at (Some q) p = q == p

-- how many of the n blocks from `first` the look-up over a table finds at the board numbers from p
abbrev pub right_in : KeyTable → ℕ → ℕ → ℕ → ℕ
right_in t first p n = count n (λ i. is_at (lookup t (first + i)) (p + i))

-- the most keys that the look-up of one of them tries
unfoldable pub most_tried : KeyTable → ℕ → ℕ → ℕ
most_tried t first zero = 0
most_tried t first (suc n) = max (most_tried t first n) (tried t (first + n))

abbrev pub nothing : Summary
nothing = record { lines = 0; planned = 0; refused = 0; blocks = 0; keys = 0; tried = 0; right = 0 }

-- There is room for one line more in every count.
pub record Room (s : Summary) : Type 0 where
  pub lines : s.lines < 2 ^ 32
  pub planned : s.planned ≤ s.lines
  pub refused : s.refused ≤ s.lines
  pub blocks : s.blocks ≤ 4096 * s.lines
  pub keys : s.keys ≤ 4096 * s.lines
  pub right : s.right ≤ 4096 * s.lines

-- one line more
abbrev pub counted : Summary → Result Run Ground → Summary
counted s (Ok run) = record {
  lines = s.lines + 1;
  planned = s.planned + 1;
  refused = s.refused;
  blocks = s.blocks + run.blocks;
  keys = s.keys + length (keys_of run);
  tried = max s.tried (most_tried (table_of (keys_of run)) run.first run.blocks);
  right = s.right + right_in (table_of (keys_of run)) run.first run.board run.blocks;
}
counted s (Err g) = record {
  lines = s.lines + 1;
  planned = s.planned;
  refused = s.refused + 1;
  blocks = s.blocks;
  keys = s.keys;
  tried = s.tried;
  right = s.right;
}

unfoldable pub counted_from : Summary → List (List ℕ) → Summary
counted_from s [] = s
counted_from s (l ∷ ls) = counted_from (counted s (outcome l)) ls

-- what is counted over all lines
abbrev pub summary_of : List (List ℕ) → Summary
summary_of ls = counted_from nothing ls

abbrev pub summary_text : Summary → List ℕ
summary_text s =
    codes "\nlines " ++ (decimal s.lines ++ (codes "\nplanned " ++ (decimal s.planned ++ (codes "\nrefused " ++ (decimal s.refused
    ++ (codes "\nblocks " ++ (decimal s.blocks ++ (codes "\nkeys " ++ (decimal s.keys ++ (codes "\nmost tried " ++ (decimal s.tried
    ++ (codes "\nread back " ++ (decimal s.right ++ codes "\n")))))))))))))

-- ---- the whole

abbrev pub plan_text : List (List ℕ) → List ℕ
plan_text ls = lines_text ls ++ summary_text (summary_of ls)

-- why there is no plan, for a text of n bytes
abbrev pub Failed : ℕ → PlanError → Type 0
Failed n TooLong = 2 ^ 32 ≤ n
Failed n NoMemory = n < 2 ^ 32

-- what is said of it
abbrev pub failure_text : PlanError → List ℕ
failure_text TooLong = codes "the input has 4 GiB or more"
failure_text NoMemory = codes "there is not enough memory"
