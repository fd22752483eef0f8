-- The book: what a reader of the calls and answers alone knows of every block.
use Rattle.std.specs.Prelude.{ℕ, ◌+◌, List, [], ◌∷◌, Some, None, Option}
use Rattle.blocks.specs.Blocks.{Placement, Contents, zero_block, only, inside, every, changed, tally_below}
use Rattle.calls.specs.Answers.{Answer, board_in, taken_in, given_back_in}
use Rattle.ledger.specs.Store.{Shape, Ask, Told, if_granted}
use Rattle.calls.specs.declared.Call.{Call}
use Rattle.calls.specs.declared.Call.TheVariants.{Write, Read, Clear, Remove, Demote}

pub record Book : Type 0 where
  -- the bytes of each block
  pub bytes : Contents
  -- its place on the board, or none
  pub place : Placement

-- It begins with the bytes of the lower store, and no places.
abbrev pub new_book : Contents → Book
new_book low = record { bytes = low; place = λ f b. None }

-- a board number becomes the place of a block
abbrev pub placed_at : Placement → ℕ → ℕ → Option ℕ → Placement
placed_at pl file block (Some p) = changed pl file (only block) (λ _. Some p)
placed_at pl file block None = pl

-- What a granted call enters, from its arguments and its answer; a file has so many blocks.
abbrev pub entered : ℕ → Book → Call → List ℕ → Answer → Book
entered width k (Write file block mark) sent a = record
    { bytes = changed k.bytes file (only block) (λ _. sent); place = placed_at k.place file block (board_in a) }
entered width k (Read file block) sent a = k
entered width k (Clear file first n) sent a = record
    { bytes = changed k.bytes file (inside first n) (λ _. zero_block); place = changed k.place file (inside first n) (λ _. None) }
entered width k (Remove file) sent a = record
    { bytes = changed k.bytes file (inside 0 width) (λ _. zero_block); place = changed k.place file (inside 0 width) (λ _. None) }
entered width k (Demote file) sent a = record
    { bytes = k.bytes; place = changed k.place file every (λ _. None) }

-- The book after a call: a refused one enters nothing.
abbrev pub fed : ℕ → Book → Call → List ℕ → Answer → Book
fed width k c sent a = if_granted a k (λ _. entered width k c sent a)

-- The book after a list of calls.
abbrev pub book_after : ℕ → Book → List Ask → List Told → Book
book_after width k [] ts = k
book_after width k (q ∷ qs) [] = k
book_after width k (q ∷ qs) (t ∷ ts) = book_after width (fed width k q.call q.sent t.answer) qs ts

-- ---- counts

-- how many blocks have a place in the book
abbrev pub places_in : Shape → Book → ℕ
places_in sh k = tally_below sh.files sh.width k.place

-- how many board blocks were taken, as the answers say
abbrev pub blocks_taken : List Told → ℕ
blocks_taken [] = 0
blocks_taken (t ∷ ts) = taken_in t.answer + blocks_taken ts

-- how many were given back
abbrev pub blocks_given_back : List Told → ℕ
blocks_given_back [] = 0
blocks_given_back (t ∷ ts) = given_back_in t.answer + blocks_given_back ts
