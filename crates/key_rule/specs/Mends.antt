-- How a table of exactly the keys is changed between two barriers.
use Rattle.std.specs.Prelude.{◌≡◌, ℕ, ◌+◌, ◌-◌, ◌%◌, ◌<◌, ◌≤◌, Bool, ◌&&◌, ◌⊎◌, Some, None, Option, ◌≢◌, nat_le, nat_lt}
use Rattle.blocks.specs.Blocks.{Placement, changed, only, tally}
use Rattle.blocks.specs.declared.Entry.{Entry}
use Rattle.extents.specs.declared.key.Key.{Key}
use Rattle.extents.specs.Extents.{FileMap, KeyTable, IsKey, Barrier, Agree, key_at}
use Rattle.extents.specs.Runs.{Run}
use Rattle.tables.specs.Holding.{Holding}

-- ---- changes of a table

-- the same but at one key
abbrev pub update : Holding → ℕ → ℕ → Option Entry → Holding
update h file block o = changed h file (only block) (λ _. o)

abbrev pub between : ℕ → ℕ → ℕ → Bool
between l r b = nat_le l b && nat_lt b r

-- the same but from l up to r in one file, where it is k
unfoldable pub blend : ℕ → ℕ → ℕ → KeyTable → Holding → Holding
blend file l r k h = changed h file (between l r) k

abbrev pub none : KeyTable
none b = None

-- ---- single keys

-- The key's extent contains the block, and its numbers are such as a map has.
abbrev pub Sane : ℕ → Option Key → Type 0
Sane b None = Unit {0}
Sane b (Some k) = (k.start ≤ b) × (b < k.start + k.length) × (k.board + k.length ≤ 4096) × (k.start + k.length ≤ 65536)

-- the key over a block
abbrev pub Over : FileMap → ℕ → Option Key → Type 0
Over m b None = m b ≡ None
Over m b (Some k) = IsKey m k.start k.length k.board

-- The first key of a file that starts from x on and below r starts at y; where there is none, y is r.
pub record Sought (t : KeyTable) (x r y : ℕ) : Type 0 where
  pub free : (b : ℕ) → x ≤ b → b < y → t b ≡ None
  pub held : y < r → t y ≢ None

-- ---- a run of blocks between two barriers

pub record Lay (m : FileMap) (l r p : ℕ) : Type 0 where
  pub run : Run m l r p
  pub left : Barrier m l
  pub right : Barrier m r

abbrev pub Empty : Holding → ℕ → ℕ → ℕ → Type 0
Empty h file l r = (b : ℕ) → l ≤ b → b < r → h file b ≡ None

-- Such a run has c keys.
abbrev pub Counted : ℕ → ℕ → ℕ → Type 0
Counted l r c = (m : FileMap) (p : ℕ) → Lay m l r p → (file : ℕ) → file < 65536 → (h : Holding) → Empty h file l r
    → c + tally h ≡ tally (blend file l r (key_at m) h)

-- Its keys are put into h, which has none there, if there is room for them, and so g comes about.
abbrev pub Laid : Holding → ℕ → ℕ → ℕ → ℕ → ℕ → Holding → Type 0
Laid h n file l r p g = (m : FileMap) → Lay m l r p → file < 65536 → Empty h file l r
    → tally (blend file l r (key_at m) h) ≤ n → g ≡ blend file l r (key_at m) h

-- ---- an extent of a file made anew

pub record Cut (l a p b q r : ℕ) : Type 0 where
  pub before : l ≤ a
  pub between : a ≤ b
  pub behind : b ≤ r
  pub top : r ≤ 65536
  pub low : p + (a - l) ≤ 4096
  pub high : q + (r - b) ≤ 4096

-- From l up to r the placement becomes a run up to a, a hole up to b, and a run.
pub record Mending (m n : Placement) (file l a p b q r : ℕ) : Type 0 where
  pub known : file < 65536
  pub others : (f : ℕ) → (f ≢ file) → m f ≡ n f
  pub agree : Agree (m file) (n file) l r
  pub left : Barrier (m file) l
  pub right : Barrier (m file) r
  pub first : Lay (n file) l a p
  pub second : Lay (n file) b r q
  pub hole : (x : ℕ) → a ≤ x → x < b → n file x ≡ None

-- ---- where the mending begins and ends

-- the run up to a block that goes on from the left
pub record Leftward (m : FileMap) (first l p : ℕ) : Type 0 where
  pub run : Run m l first p
  pub barrier : Barrier m first → Barrier m l
  pub edge : (l % 4096 ≡ 0) ⊎ ((v : ℕ) → m (l - 1) ≡ Some v → v + 1 ≢ p)

-- the run from a block that goes on to the right
pub record Rightward (m : FileMap) (end q r : ℕ) : Type 0 where
  pub run : Run m end r q
  pub barrier : Barrier m r
  pub edge : (r % 4096 ≡ 0) ⊎ (m r ≢ Some (q + (r - end)))

-- the key over a block, cut before the block
pub record LeftEdge (m : FileMap) (first l p : ℕ) : Type 0 where
  pub run : Run m l first p
  pub barrier : Barrier m l

-- the key over the block before a block, cut there
pub record RightEdge (m : FileMap) (end r q : ℕ) : Type 0 where
  pub run : Run m end r q
  pub barrier : Barrier m r
