-- What a store is, and what each call answers and does.
use Rattle.std.specs.Prelude.{ℕ, zero, suc, ◌+◌, Bool, true, false, cond, not, ◌&&◌, ◌||◌, List, [], ◌∷◌, length, is_some, Some, None, Ok, Err, Option, Result, ◌==◌, nat_lt}
use Rattle.blocks.specs.Blocks.{Placement, Contents, zero_block, only, inside, every, changed, count}
use Rattle.faults.specs.Grounds.{first_ground}
use Rattle.faults.specs.declared.Ground.{Ground}
use Rattle.faults.specs.declared.Ground.TheVariants.{Mark, File, Block, Length, Buffer, NoFreeBlock, TooManyKeys}
use Rattle.faults.specs.declared.Layer.TheVariants.{Map, Store}
use Rattle.calls.specs.Answers.{Answer}
use Rattle.ledger.specs.Free.{goal, free_from}
use Rattle.calls.specs.declared.Call.{Call}
use Rattle.calls.specs.declared.Call.TheVariants.{Write, Read, Clear, Remove, Demote}
use Rattle.calls.specs.declared.Granted.{Granted}
use Rattle.calls.specs.declared.Granted.TheVariants.{Wrote, Showed, GaveBack}
use Rattle.calls.specs.declared.Source.{Source}
use Rattle.calls.specs.declared.Source.TheVariants.{Lower as LowerBytes, Board as BoardBytes}
use Rattle.calls.specs.declared.StoreFault.{StoreFault}
use Rattle.calls.specs.declared.StoreFault.TheVariants.{Own, FromMap}
use Rattle.calls.specs.declared.Written.{Written}
use Rattle.calls.specs.declared.Written.TheVariants.{Lower, Board}

-- What never changes in a store.
pub record Shape : Type 0 where
  -- the key rule: how many keys a placement calls for
  pub rule : Placement → ℕ
  -- how many keys there is room for
  pub keys : ℕ
  -- the blocks of the board
  pub size : ℕ
  -- the files of the lower store, and the blocks of each
  pub files : ℕ
  pub width : ℕ

-- What a store holds.
pub record State : Type 0 where
  -- the map: where each block lies on the board, if it lies there
  pub place : Placement
  -- the pool: which board blocks are taken
  pub taken : ℕ → Bool
  -- the bytes of each board block
  pub board : ℕ → List ℕ
  -- the bytes of each block of the lower store
  pub lower : Contents

-- the bytes of a block: on the board if it has a place there, else in the lower store
abbrev pub bytes_at : (ℕ → List ℕ) → List ℕ → Option ℕ → List ℕ
bytes_at board low (Some p) = board p
bytes_at board low None = low

abbrev pub shown : State → Contents
shown s file block = bytes_at s.board (s.lower file block) (s.place file block)

-- The same as g, but v at k.
abbrev pub put : {X : Type 0} → (ℕ → X) → ℕ → X → ℕ → X
put g k v i = cond (i == k) v (g i)

-- ---- refusals

-- a refusal of the store's own
abbrev pub own : (ground : Ground) → ℕ → ℕ → StoreFault
own ground file block = Own (record { ground = ground; layer = Store; file = file; block = block })

-- the map's refusal, whole inside the store's: the map would call for more keys than there is room for
abbrev pub map_full : ℕ → ℕ → StoreFault
map_full file block = FromMap (record { ground = TooManyKeys; layer = Map; file = file; block = block })

-- The answer to a call of this file and block, unless a ground refuses it.
abbrev pub unless : {X : Type 0} → Option Ground → ℕ → ℕ → Result X StoreFault → Result X StoreFault
unless (Some ground) file block r = Err (own ground file block)
unless None file block r = r

-- whether a placement calls for more keys than there is room for
abbrev pub overfull : Shape → Placement → Bool
overfull sh pl = nat_lt sh.keys (sh.rule pl)

-- What a granted call makes; a refused one leaves what was there.
abbrev pub if_granted : {X Y : Type 0} → Result X StoreFault → Y → (X → Y) → Y
if_granted (Ok x) y make = make x
if_granted (Err f) y make = y

-- ---- write

-- The grounds that a write's arguments meet, in the order in which they are tried.
abbrev pub bad_write : Shape → ℕ → ℕ → ℕ → ℕ → Option Ground
bad_write sh file block mark len = first_ground
    ((nat_lt 1 mark, Mark)
    ∷ (not (nat_lt file sh.files), File)
    ∷ (not (nat_lt block sh.width), Block)
    ∷ (not (len == 4096), Buffer)
    ∷ [])

-- A kept block that has no place: none is free, or the map is asked to hold it at the free board block.
abbrev pub takes : Shape → Placement → ℕ → ℕ → Option ℕ → Result Written StoreFault
takes sh pl file block None = Err (own NoFreeBlock file block)
takes sh pl file block (Some p) =
    cond (overfull sh (changed pl file (only block) (λ _. Some p))) (Err (map_full file block)) (Ok (Board p true))

-- An admitted write, by the place that the block has and the board block that is free for it.
-- A block with a place is replaced there under either mark; another goes down if loose, and takes a board block if kept.
abbrev pub writes : Shape → Placement → ℕ → ℕ → ℕ → Option ℕ → Option ℕ → Result Written StoreFault
writes sh pl file block mark free (Some p) = Ok (Board p false)
writes sh pl file block mark free None = cond (mark == 0) (Ok Lower) (takes sh pl file block free)

-- the board block that is free for a block
abbrev pub free_for : Shape → State → ℕ → ℕ → Option ℕ
free_for sh s file block = free_from s.taken sh.size (goal sh.size (s.place file) block)

abbrev pub write_answer : Shape → State → ℕ → ℕ → ℕ → ℕ → Result Written StoreFault
write_answer sh s file block mark len = unless (bad_write sh file block mark len) file block
    (writes sh s.place file block mark (free_for sh s file block) (s.place file block))

-- What a granted write does, by what it tells.
abbrev pub wrote : State → ℕ → ℕ → List ℕ → Written → State
wrote s file block bytes Lower = record
    { place = s.place; taken = s.taken; board = s.board; lower = changed s.lower file (only block) (λ _. bytes) }
wrote s file block bytes (Board p false) = record
    { place = s.place; taken = s.taken; board = put s.board p bytes; lower = s.lower }
wrote s file block bytes (Board p true) = record
    { place = changed s.place file (only block) (λ _. Some p); taken = put s.taken p true; board = put s.board p bytes; lower = s.lower }

abbrev pub after_write : Shape → State → ℕ → ℕ → ℕ → List ℕ → State
after_write sh s file block mark bytes = if_granted (write_answer sh s file block mark (length bytes)) s (wrote s file block bytes)

-- ---- read

abbrev pub bad_read : Shape → ℕ → ℕ → ℕ → Option Ground
bad_read sh file block len = first_ground
    ((not (nat_lt file sh.files), File)
    ∷ (not (nat_lt block sh.width), Block)
    ∷ (not (len == 4096), Buffer)
    ∷ [])

abbrev pub source : Option ℕ → Source
source (Some p) = BoardBytes
source None = LowerBytes

abbrev pub read_answer : Shape → State → ℕ → ℕ → ℕ → Result Source StoreFault
read_answer sh s file block len = unless (bad_read sh file block len) file block (Ok (source (s.place file block)))

-- the reader's buffer afterwards
abbrev pub read_buffer : Shape → State → ℕ → ℕ → List ℕ → List ℕ
read_buffer sh s file block buffer = if_granted (read_answer sh s file block (length buffer)) buffer (λ _. shown s file block)

-- ---- what takes blocks off the board

-- how many of the chosen blocks of a row, below n, have a place
abbrev pub placed : (ℕ → Option ℕ) → (ℕ → Bool) → ℕ → ℕ
placed row chosen n = count n (λ b. chosen b && is_some (row b))

-- The pool once a block has handed its board block back, if it is chosen and has one.
abbrev pub hand_back : Bool → Option ℕ → (ℕ → Bool) → ℕ → Bool
hand_back true (Some p) taken = put taken p false
hand_back true None taken = taken
hand_back false o taken = taken

-- The pool once all chosen blocks of a row, below n, have done so.
abbrev pub freed : (ℕ → Bool) → (ℕ → Option ℕ) → (ℕ → Bool) → ℕ → ℕ → Bool
freed taken row chosen zero = taken
freed taken row chosen (suc n) = hand_back (chosen n) (row n) (freed taken row chosen n)

-- The store once the chosen blocks of a file have lost their places, with the lower store that is left.
abbrev pub vacated : Shape → State → ℕ → (ℕ → Bool) → Contents → State
vacated sh s file chosen low = record {
  place = changed s.place file chosen (λ _. None);
  taken = freed s.taken (s.place file) chosen sh.width;
  board = s.board;
  lower = low;
}

-- ---- clear

abbrev pub bad_clear : Shape → ℕ → ℕ → ℕ → Option Ground
bad_clear sh file first n = first_ground
    ((not (nat_lt file sh.files), File)
    ∷ (not (nat_lt first sh.width) || nat_lt sh.width (first + n), Block)
    ∷ (n == 0 || nat_lt 4096 n, Length)
    ∷ [])

abbrev pub clears : Shape → Placement → ℕ → ℕ → ℕ → Result ℕ StoreFault
clears sh pl file first n =
    cond (overfull sh (changed pl file (inside first n) (λ _. None))) (Err (map_full file first)) (Ok (placed (pl file) (inside first n) sh.width))

abbrev pub clear_answer : Shape → State → ℕ → ℕ → ℕ → Result ℕ StoreFault
clear_answer sh s file first n = unless (bad_clear sh file first n) file first (clears sh s.place file first n)

abbrev pub cleared : Shape → State → ℕ → ℕ → ℕ → State
cleared sh s file first n = vacated sh s file (inside first n) (changed s.lower file (inside first n) (λ _. zero_block))

abbrev pub after_clear : Shape → State → ℕ → ℕ → ℕ → State
after_clear sh s file first n = if_granted (clear_answer sh s file first n) s (λ _. cleared sh s file first n)

-- ---- remove and demote

-- Both give back every board block of the file, and only the file can be refused.
abbrev pub file_answer : Shape → State → ℕ → Result ℕ StoreFault
file_answer sh s file = unless (first_ground ((not (nat_lt file sh.files), File) ∷ [])) file 0 (Ok (placed (s.place file) every sh.width))

-- a remove clears the lower store too
abbrev pub removed : Shape → State → ℕ → State
removed sh s file = vacated sh s file every (changed s.lower file (inside 0 sh.width) (λ _. zero_block))

abbrev pub after_remove : Shape → State → ℕ → State
after_remove sh s file = if_granted (file_answer sh s file) s (λ _. removed sh s file)

-- a demote first copies every block that has a place to the lower store
abbrev pub demoted : Shape → State → ℕ → State
demoted sh s file = vacated sh s file every (changed s.lower file (λ b. is_some (s.place file b)) (shown s file))

abbrev pub after_demote : Shape → State → ℕ → State
after_demote sh s file = if_granted (file_answer sh s file) s (λ _. demoted sh s file)

-- ---- any call

-- A call with the buffer that it brings, which a write and a read look at.
pub record Ask : Type 0 where
  pub call : Call
  pub sent : List ℕ

-- What a call is told: its answer, and what its buffer then holds.
pub record Told : Type 0 where
  pub answer : Answer
  pub buffer : List ℕ

-- an answer to one kind of call as an answer to any
abbrev pub as_any : {X : Type 0} → (X → Granted) → Result X StoreFault → Answer
as_any kind (Ok x) = Ok (kind x)
as_any kind (Err f) = Err f

abbrev pub answer_to : Shape → State → Call → List ℕ → Answer
answer_to sh s (Write file block mark) sent = as_any Wrote (write_answer sh s file block mark (length sent))
answer_to sh s (Read file block) sent = as_any Showed (read_answer sh s file block (length sent))
answer_to sh s (Clear file first n) sent = as_any GaveBack (clear_answer sh s file first n)
answer_to sh s (Remove file) sent = as_any GaveBack (file_answer sh s file)
answer_to sh s (Demote file) sent = as_any GaveBack (file_answer sh s file)

-- only a granted read changes its buffer
abbrev pub buffer_after : Shape → State → Call → List ℕ → List ℕ
buffer_after sh s (Write file block mark) sent = sent
buffer_after sh s (Read file block) sent = read_buffer sh s file block sent
buffer_after sh s (Clear file first n) sent = sent
buffer_after sh s (Remove file) sent = sent
buffer_after sh s (Demote file) sent = sent

abbrev pub state_after : Shape → State → Call → List ℕ → State
state_after sh s (Write file block mark) sent = after_write sh s file block mark sent
state_after sh s (Read file block) sent = s
state_after sh s (Clear file first n) sent = after_clear sh s file first n
state_after sh s (Remove file) sent = after_remove sh s file
state_after sh s (Demote file) sent = after_demote sh s file

abbrev pub told : Shape → State → Ask → Told
told sh s q = record { answer = answer_to sh s q.call q.sent; buffer = buffer_after sh s q.call q.sent }

abbrev pub next : Shape → State → Ask → State
next sh s q = state_after sh s q.call q.sent

-- ---- a list of calls

abbrev pub outcome : Shape → State → List Ask → List Told
outcome sh s [] = []
outcome sh s (q ∷ qs) = told sh s q ∷ outcome sh (next sh s q) qs

abbrev pub final : Shape → State → List Ask → State
final sh s [] = s
final sh s (q ∷ qs) = final sh (next sh s q) qs
