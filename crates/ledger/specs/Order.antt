-- Every ground on which a call is refused, in the order in which they are tried.
use Rattle.std.specs.Prelude.{◌≡◌, ℕ, ◌+◌, Bool, false, cond, not, ◌&&◌, ◌||◌, List, [], ◌∷◌, length, is_some, is_ok, Some, None, Ok, Err, Option, ◌==◌, nat_lt}
use Rattle.blocks.specs.Blocks.{Placement, only, inside, changed}
use Rattle.faults.specs.Grounds.{ground_number, first_ground}
use Rattle.faults.specs.declared.Ground.{Ground}
use Rattle.faults.specs.declared.Ground.TheVariants.{Mark, File, Block, Length, Buffer, NoFreeBlock, TooManyKeys}
use Rattle.faults.specs.declared.Layer.TheVariants.{Map, Store}
use Rattle.calls.specs.Answers.{Answer}
use Rattle.ledger.specs.Store.{Shape, State, Ask, free_for, told, next}
use Rattle.calls.specs.declared.Call.{Call}
use Rattle.calls.specs.declared.Call.TheVariants.{Write, Read, Clear, Remove, Demote}
use Rattle.calls.specs.declared.StoreFault.{StoreFault}
use Rattle.calls.specs.declared.StoreFault.TheVariants.{Own, FromMap}

-- whether a write has to take a board block: it is kept, and the block has no place
abbrev pub takes_block : Option ℕ → ℕ → Bool
takes_block place mark = not (is_some place) && not (mark == 0)

-- whether the map calls for more keys than there is room for, with the block at the board block that is free for it
abbrev pub too_many_with : Shape → Placement → ℕ → ℕ → Option ℕ → Bool
too_many_with sh pl file block (Some p) = nat_lt sh.keys (sh.rule (changed pl file (only block) (λ _. Some p)))
too_many_with sh pl file block None = false

-- The grounds of a call that brings a buffer of so many bytes.
abbrev pub grounds_of : Shape → State → Call → ℕ → List (Bool × Ground)
grounds_of sh s (Write file block mark) len =
    (nat_lt 1 mark, Mark)
    ∷ (not (nat_lt file sh.files), File)
    ∷ (not (nat_lt block sh.width), Block)
    ∷ (not (len == 4096), Buffer)
    ∷ (takes_block (s.place file block) mark && not (is_some (free_for sh s file block)), NoFreeBlock)
    ∷ (takes_block (s.place file block) mark && too_many_with sh s.place file block (free_for sh s file block), TooManyKeys)
    ∷ []
grounds_of sh s (Read file block) len =
    (not (nat_lt file sh.files), File)
    ∷ (not (nat_lt block sh.width), Block)
    ∷ (not (len == 4096), Buffer)
    ∷ []
grounds_of sh s (Clear file first n) len =
    (not (nat_lt file sh.files), File)
    ∷ (not (nat_lt first sh.width) || nat_lt sh.width (first + n), Block)
    ∷ (n == 0 || nat_lt 4096 n, Length)
    ∷ (nat_lt sh.keys (sh.rule (changed s.place file (inside first n) (λ _. None))), TooManyKeys)
    ∷ []
grounds_of sh s (Remove file) len = (not (nat_lt file sh.files), File) ∷ []
grounds_of sh s (Demote file) len = (not (nat_lt file sh.files), File) ∷ []

-- the file of a call
abbrev pub file_of : Call → ℕ
file_of (Write file block mark) = file
file_of (Read file block) = file
file_of (Clear file first n) = file
file_of (Remove file) = file
file_of (Demote file) = file

-- its first block, 0 if it names none
abbrev pub block_of : Call → ℕ
block_of (Write file block mark) = block
block_of (Read file block) = block
block_of (Clear file first n) = first
block_of (Remove file) = 0
block_of (Demote file) = 0

-- The refusal of a call on a ground: too many keys is the map's, whole inside the store's, every other is the store's own.
abbrev pub refusal_on : Call → (ground : Ground) → StoreFault
refusal_on c ground = cond (ground_number ground == 13)
    (FromMap (record { ground = ground; layer = Map; file = file_of c; block = block_of c }))
    (Own (record { ground = ground; layer = Store; file = file_of c; block = block_of c }))

-- the refusal in an answer, none if it is granted
abbrev pub refusal_in : Answer → Option StoreFault
refusal_in (Ok g) = None
refusal_in (Err f) = Some f

abbrev pub on_ground : Call → Option Ground → Option StoreFault
on_ground c (Some ground) = Some (refusal_on c ground)
on_ground c None = None

-- A call is refused on the first of its grounds that holds, and granted if none does.
abbrev pub RefusedInOrder : Type 0
RefusedInOrder = (sh : Shape) (s : State) (q : Ask)
    → refusal_in (told sh s q).answer ≡ on_ground q.call (first_ground (grounds_of sh s q.call (length q.sent)))

-- A refused call leaves the store and its buffer as they were.
abbrev pub RefusedLeaves : Type 0
RefusedLeaves = (sh : Shape) (s : State) (q : Ask) → is_ok (told sh s q).answer ≡ false → (next sh s q ≡ s) × ((told sh s q).buffer ≡ q.sent)
