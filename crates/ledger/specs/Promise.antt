-- What a store promises over every list of calls, granted and refused ones mixed.
use Rattle.std.specs.Prelude.{◌≡◌, ℕ, ◌+◌, ◌<◌, true, List, [], ◌∷◌, length, is_ok, Some, None}
use Rattle.blocks.specs.Blocks.{Placement, Contents}
use Rattle.calls.specs.Answers.{refused_with}
use Rattle.ledger.specs.Book.{Book, new_book, fed, book_after, places_in, blocks_taken, blocks_given_back}
use Rattle.ledger.specs.Sound.{New}
use Rattle.ledger.specs.Store.{Shape, State, Ask, Told, outcome, final}
use Rattle.calls.specs.declared.Call.TheVariants.{Write, Read}

-- ---- what one call is told, beside the book that the calls before it have fed

-- A granted read shows exactly the bytes in the book.
abbrev pub ShowsBook : Book → Ask → Told → Type 0
ShowsBook k q t = (file block : ℕ) → q.call ≡ Read file block → is_ok t.answer ≡ true → t.buffer ≡ k.bytes file block

-- A kept write that its arguments admit, of a block without a place, is refused with 12 exactly if the board is full:
-- if the places in the book are as many as the board has blocks.
abbrev pub FullExactly : Shape → Book → Ask → Told → Type 0
FullExactly sh k q t = (file block : ℕ) → q.call ≡ Write file block 1 → file < sh.files → block < sh.width → length q.sent ≡ 4096
    → k.place file block ≡ None
    → (refused_with t.answer ≡ Some 12 → places_in sh k ≡ sh.size) × (places_in sh k ≡ sh.size → refused_with t.answer ≡ Some 12)

-- What P says holds of each call of a list, beside the book as it is then.
abbrev pub Along : (Book → Ask → Told → Type 0) → ℕ → Book → List Ask → List Told → Type 0
Along P width k [] [] = Unit {0}
Along P width k [] (t ∷ ts) = ⊥
Along P width k (q ∷ qs) [] = ⊥
Along P width k (q ∷ qs) (t ∷ ts) = P k q t × Along P width (fed width k q.call q.sent t.answer) qs ts

-- ---- a list of calls from a new store on

-- The places in a book are the map's, within the store, and no two alike.
pub record Holds (sh : Shape) (map : Placement) (k : Book) : Type 0 where
  -- the map holds each place for its block, and no others
  pub held : (f b : ℕ) → map f b ≡ k.place f b
  -- places are of blocks within the lower store, and below the size of the board
  pub within : (f b p : ℕ) → k.place f b ≡ Some p → (f < sh.files) × (b < sh.width) × (p < sh.size)
  -- no two are alike
  pub apart : (f b g c p : ℕ) → k.place f b ≡ Some p → k.place g c ≡ Some p → (f ≡ g) × (b ≡ c)

-- What was asked of a store and told by it, beside the bytes that its lower store began with and the map that it ends with.
pub record TrueToBook (sh : Shape) (low : Contents) (qs : List Ask) (ts : List Told) (map : Placement) : Type 0 where
  pub reads : Along ShowsBook sh.width (new_book low) qs ts
  pub full : Along (FullExactly sh) sh.width (new_book low) qs ts
  -- blocks taken, less blocks given back, are the places in the book
  pub balance : blocks_taken ts ≡ places_in sh (book_after sh.width (new_book low) qs ts) + blocks_given_back ts
  pub places : Holds sh map (book_after sh.width (new_book low) qs ts)

-- ---- two stores

-- Equal in key rule, sizes, map, lower bytes within the files and their width, and mapped board bytes.
pub record Alike (sh : Shape) (s : State) (sh' : Shape) (s' : State) : Type 0 where
  pub rule : (pl : Placement) → sh.rule pl ≡ sh'.rule pl
  pub keys : sh.keys ≡ sh'.keys
  pub size : sh.size ≡ sh'.size
  pub files : sh.files ≡ sh'.files
  pub width : sh.width ≡ sh'.width
  pub place : (f b : ℕ) → s.place f b ≡ s'.place f b
  pub lower : (f b : ℕ) → f < sh.files → b < sh.width → s.lower f b ≡ s'.lower f b
  pub board : (f b p : ℕ) → s.place f b ≡ Some p → s.board p ≡ s'.board p

-- What two stores told of the same calls, and what they hold at the end.
pub record Agree (sh : Shape) (ts : List Told) (s : State) (sh' : Shape) (ts' : List Told) (s' : State) : Type 0 where
  -- the same answers, refusals and read bytes
  pub told_alike : ts ≡ ts'
  -- and the ends are alike again
  pub end_alike : Alike sh s sh' s'

-- ---- the whole promise

pub record Promise : Type 0 where
  -- Every list of calls, from a new store on, is told true to the book.
  pub books : (sh : Shape) (s : State) → New sh s → (qs : List Ask) → TrueToBook sh s.lower qs (outcome sh s qs) (final sh s qs).place
  -- Two stores, each reached from a new one by a list of its own, that are alike then, agree over every later list.
  pub agrees : (sh sh' : Shape) (s s' : State) → New sh s → New sh' s' → (qs qs' later : List Ask)
      → Alike sh (final sh s qs) sh' (final sh' s' qs')
      → Agree sh (outcome sh (final sh s qs) later) (final sh (final sh s qs) later)
      sh' (outcome sh' (final sh' s' qs') later) (final sh' (final sh' s' qs') later)
