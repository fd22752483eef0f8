-- What two stores promise of the requests that really came to them.
use Rattle.std.specs.Prelude.{ℕ, ◌≡◌, List, ◌++◌}
use Rattle.blocks.specs.Blocks.{Contents}
use Rattle.ledger.specs.Promise.{TrueToBook, Alike, Agree}
use Rattle.ledger.specs.Sound.{New}
use Rattle.ledger.specs.Store.{Shape, State, Ask, Told, outcome, final}

-- One end, as it is seen from outside: what its store was made of, what it was asked, what it told, and the store that is handed back.
pub record End : Type 0 where
  -- the key rule and room of the map, and the sizes of the board and of the lower store
  pub shape : Shape
  -- the bytes of the board and of the lower store at the start
  pub board : ℕ → List ℕ
  pub lower : Contents
  -- the calls that this end alone was asked, as they were sent, and the later ones
  pub own : List Ask
  pub later : List Ask
  -- what came back of each
  pub own_told : List Told
  pub later_told : List Told
  -- the store that is handed back
  pub shape_after : Shape
  pub state_after : State

-- A state to begin with: these bytes, no block with a place, and no board block taken. That leaves nothing open but what a pool says of
-- numbers past the last board block, and no answer depends on that.
pub record Begins (e : End) (s : State) : Type 0 where
  pub new : New e.shape s
  pub board_bytes : s.board ≡ e.board
  pub lower_bytes : s.lower ≡ e.lower

-- The state once the end's own calls have run, by the rules of a store.
abbrev pub after_own : End → State → State
after_own e s = final e.shape s e.own

-- What came is what the rules give, and is true to the book that a reader of the calls and answers keeps.
pub record Kept (e : End) : Type 0 where
  pub began : State
  pub begins : Begins e began
  -- the answers and buffers, and the state that is left, are those of the rules
  pub own_ruled : e.own_told ≡ outcome e.shape began e.own
  pub later_ruled : e.later_told ≡ outcome e.shape (after_own e began) e.later
  pub left_ruled : e.state_after ≡ final e.shape (after_own e began) e.later
  -- granted reads show the book's bytes; a kept write is refused with 12 exactly if the board is full; blocks taken less blocks given back
  -- are the places in the book; these are below the board's size, no two alike, and held by the map that is handed back, which holds no others
  pub book : TrueToBook e.shape e.lower (e.own ++ e.later) (e.own_told ++ e.later_told) e.state_after.place
  -- the store that is handed back has the shape that it was made with
  pub shape_stays : e.shape_after ≡ e.shape

-- Two ends, each with calls of its own and then later ones.
pub record Compared (club server : End) : Type 0 where
  pub at_club : Kept club
  pub at_server : Kept server
  -- If they were alike once their own calls had run, and the later calls ask the same of both, then they answer the same, refusals included,
  -- show the same bytes, and the stores that are handed back are alike again.
  pub agreement : Alike club.shape (after_own club at_club.began) server.shape (after_own server at_server.began)
      → club.later ≡ server.later
      → Agree club.shape club.later_told club.state_after server.shape server.later_told server.state_after
