-- What the calls of a map answer, and what placement they leave.
use Rattle.std.specs.Prelude.{ℕ, zero, suc, ◌+◌, ◌-◌, cond, ◌||◌, [], ◌∷◌, Some, None, Ok, Err, Option, Result, ◌==◌, nat_lt}
use Rattle.faults.specs.declared.Fault.{Fault}
use Rattle.faults.specs.declared.Ground.{Ground}
use Rattle.faults.specs.declared.Ground.TheVariants.{File, Block, Length, BoardNumber, Mapped, TooManyKeys}
use Rattle.faults.specs.declared.Layer.TheVariants.{Map}
use Rattle.faults.specs.Grounds.{first_ground}
use Rattle.faults.specs.Answers.{refused_by, answered, ground_of_numbers}
use Rattle.blocks.specs.Blocks.{Placement, inside, every, changed}

-- ---- refusals

-- a map's refusal, naming a file and a block
abbrev pub fault_of : (ground : Ground) → ℕ → ℕ → Fault
fault_of g file block = refused_by Map g file block

-- What a call that names a file and a block first answers: the fault, if there is a ground to refuse it, else x.
abbrev pub answer : {X : Type 0} → ℕ → ℕ → (ground : Option Ground) → X → Result X Fault
answer file block g x = answered Map file block g x

-- why a question about a block is refused
abbrev pub ground_of_block : ℕ → ℕ → Option Ground
ground_of_block file block = ground_of_numbers file block

-- why a change of an extent is refused, whatever the map holds
abbrev pub ground_of_extent : ℕ → ℕ → ℕ → Option Ground
ground_of_extent file first n = first_ground (
    (nat_lt 65535 file, File)
    ∷ (nat_lt 65535 first || nat_lt 65536 (first + n), Block)
    ∷ (n == 0 || nat_lt 4096 n, Length)
    ∷ [])

-- why an extent is not assigned, whatever the map holds: board numbers end at 4,096
abbrev pub ground_of_assign : ℕ → ℕ → ℕ → ℕ → Option Ground
ground_of_assign file first n board = first_ground (
    (nat_lt 65535 file, File)
    ∷ (nat_lt 65535 first || nat_lt 65536 (first + n), Block)
    ∷ (n == 0 || nat_lt 4096 n, Length)
    ∷ (nat_lt 4096 (board + n), BoardNumber)
    ∷ [])

-- why a file is not forgotten
abbrev pub ground_of_file : ℕ → Option Ground
ground_of_file file = first_ground ((nat_lt 65535 file, File) ∷ [])

-- ---- placements

-- no block is mapped
abbrev pub nowhere : Placement
nowhere f b = None

-- the n blocks of a file from `first` on lie at the board numbers from `board` on
abbrev pub assigned : Placement → ℕ → ℕ → ℕ → ℕ → Placement
assigned p file first n board = changed p file (inside first n) (λ b. Some (board + (b - first)))

-- those blocks are not mapped
abbrev pub cleared : Placement → ℕ → ℕ → ℕ → Placement
cleared p file first n = changed p file (inside first n) (λ _. None)

-- no block of the file is mapped
abbrev pub forgotten : Placement → ℕ → Placement
forgotten p file = changed p file every (λ _. None)

abbrev pub here_or : Option ℕ → ℕ → Option ℕ → Option ℕ
here_or None b r = r
here_or (Some p) b r = Some b

-- the lowest mapped one of a file's n blocks from b on
unfoldable pub lowest_mapped_block : (ℕ → Option ℕ) → ℕ → ℕ → Option ℕ
lowest_mapped_block m b zero = None
lowest_mapped_block m b (suc n) = here_or (m b) b (lowest_mapped_block m (suc b) n)

-- ---- the calls

-- where a block lies
abbrev pub find_answer : Placement → ℕ → ℕ → Result (Option ℕ) Fault
find_answer p file block = answer file block (ground_of_block file block) (p file block)

-- the lowest mapped block of a file from a block on
abbrev pub next_answer : Placement → ℕ → ℕ → Result (Option ℕ) Fault
next_answer p file block = answer file block (ground_of_block file block) (lowest_mapped_block (p file) block (65536 - block))

-- an answer, and the placement that is left
abbrev pub Outcome : Type 0
Outcome = Result (Unit {0}) Fault × Placement

-- p becomes q, unless q calls for more keys than there is room for
abbrev pub if_room : (Placement → ℕ) → ℕ → Placement → Placement → ℕ → ℕ → Outcome
if_room rule room p q file first = cond (nat_lt room (rule q)) (Err (fault_of TooManyKeys file first), p) (Ok tt, q)

abbrev pub unless_mapped : Option ℕ → Placement → ℕ → Outcome → Outcome
unless_mapped None p file r = r
unless_mapped (Some b) p file r = (Err (fault_of Mapped file b), p)

abbrev pub unless_ground : Option Ground → Placement → ℕ → ℕ → Outcome → Outcome
unless_ground None p file first r = r
unless_ground (Some g) p file first r = (Err (fault_of g file first), p)

abbrev pub assign_step : (Placement → ℕ) → ℕ → Placement → ℕ → ℕ → ℕ → ℕ → Outcome
assign_step rule room p file first n board =
    unless_ground (ground_of_assign file first n board) p file first
    (unless_mapped (lowest_mapped_block (p file) first n) p file (if_room rule room p (assigned p file first n board) file first))

abbrev pub clear_step : (Placement → ℕ) → ℕ → Placement → ℕ → ℕ → ℕ → Outcome
clear_step rule room p file first n =
    unless_ground (ground_of_extent file first n) p file first (if_room rule room p (cleared p file first n) file first)

abbrev pub forget_step : Placement → ℕ → Outcome
forget_step p file = unless_ground (ground_of_file file) p file 0 (Ok tt, forgotten p file)
