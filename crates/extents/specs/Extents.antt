-- The keys of one file's map from blocks to board numbers, and the look-up that reads the map back from a table of keys.
use Rattle.std.specs.Prelude.{◌≡◌, ℕ, zero, suc, ◌+◌, ◌-◌, ◌*◌, ◌/◌, ◌%◌, ◌^◌, ◌<◌, ◌≤◌, Bool, true, false, cond, ◌⊎◌, ◌↔◌, List, [], ◌∷◌, length, Some, None, Option, ◌==◌, bit_and, nat_lt, slice_index_or}
use Rattle.blocks.specs.Blocks.{inside}
use Rattle.blocks.specs.declared.Entry.{Entry}
use Rattle.extents.specs.declared.key.Key.{Key}

-- One file's map: the board number of each block that has one.
abbrev pub FileMap : Type 0
FileMap = ℕ → Option ℕ

-- What a table of one file's keys holds at each start.
abbrev pub KeyTable : Type 0
KeyTable = ℕ → Option Entry

abbrev pub entry : ℕ → ℕ → Entry
entry s p = record { length = s; board = p }

-- ---- keys

abbrev pub Multiple : ℕ → ℕ → Type 0
Multiple d x = (q : ℕ) × (x ≡ q * d)

-- The extent of 2 ^ k blocks from a is aligned: it has 1, 2, 4, .. or 4,096 blocks and starts at a multiple of its length.
pub record Aligned (k a : ℕ) : Type 0 where
  pub small : k ≤ 12
  pub multiple : Multiple (2 ^ k) a

-- It is aligned and straight: all its blocks are mapped, and their board numbers rise by one from p.
pub record Straight (m : FileMap) (k a p : ℕ) : Type 0 where
  pub aligned : Aligned k a
  pub runs : (i : ℕ) → i < 2 ^ k → m (a + i) ≡ Some (p + i)

-- A key: a straight aligned extent, of s blocks from a at the board numbers from p, that lies in no longer one.
pub record IsKey (m : FileMap) (a s p : ℕ) : Type 0 where
  pub k : ℕ
  pub size : s ≡ 2 ^ k
  pub straight : Straight m k a p
  pub longest : (j c q : ℕ) → Straight m j c q → k < j → c ≤ a → a + 2 ^ k ≤ c + 2 ^ j → ⊥

-- The table holds the keys of the map, and nothing else.
abbrev pub KeysOf : FileMap → KeyTable → Type 0
KeysOf m t = (a s p : ℕ) → (t a ≡ Some (entry s p)) ↔ IsKey m a s p

-- ---- the look-up

-- x with its lowest one bit cleared
abbrev pub clear_lowest : ℕ → ℕ
clear_lowest x = bit_and x (x - 1)

-- x, then x with its lowest one bit cleared, again and again while any of the low 12 bits is one, n times at most
unfoldable pub clearing : ℕ → ℕ → List ℕ
clearing zero x = x ∷ []
clearing (suc n) x = x ∷ cond (x % 2 ^ 12 == 0) [] (clearing n (clear_lowest x))

-- The path of a block. Twelve times is never too few, as the law on its length shows.
unfoldable pub path : ℕ → List ℕ
unfolding clearing
path b = clearing 12 b

abbrev pub key : ℕ → ℕ → ℕ → Key
key a s p = record { start = a; length = s; board = p }

abbrev pub held_at : Option Entry → ℕ → Option Key → Option Key
held_at None x r = r
held_at (Some e) x r = Some (key x e.length e.board)

-- the key at the first of the starts at which one is held
unfoldable pub first_held_key : KeyTable → List ℕ → Option Key
first_held_key t [] = None
first_held_key t (x ∷ xs) = held_at (t x) x (first_held_key t xs)

-- what it says of block b: if its extent contains b, the board number is its own plus b less its start; else b is a hole
abbrev pub says : Option Key → ℕ → Option ℕ
says None b = None
says (Some k) b = cond (inside k.start k.length b) (Some (k.board + (b - k.start))) None

-- the look-up of a block: its path is tried in order up to the first key that is held
unfoldable pub lookup : KeyTable → ℕ → Option ℕ
unfolding first_held_key path
lookup t b = says (first_held_key t (path b)) b

abbrev pub only_here : Option Entry → ℕ → ℕ
only_here None n = suc n
only_here (Some e) n = 1

-- how many of the starts are tried
unfoldable pub tried_of : KeyTable → List ℕ → ℕ
tried_of t [] = 0
tried_of t (x ∷ xs) = only_here (t x) (tried_of t xs)

-- how many keys the look-up of a block tries
unfoldable pub tried : KeyTable → ℕ → ℕ
unfolding tried_of path
tried t b = tried_of t (path b)

-- What a driver is told of a block's path: its length, and the k-th key from 0. A block above 65,535 has no path.
unfoldable pub length_of_path : ℕ → ℕ
length_of_path b = cond (nat_lt b 65536) (length (path b)) 0

unfoldable pub key_on_path : ℕ → ℕ → ℕ
key_on_path b k = cond (nat_lt b 65536) (slice_index_or (path b) k 65536) 65536

-- ---- the keys, computed

-- b with its low k bits cleared
unfoldable pub trunc : ℕ → ℕ → ℕ
trunc k b = b / 2 ^ k * 2 ^ k

abbrev pub join : ℕ → Option ℕ → Option ℕ → Option ℕ
join d None o = None
join d (Some p) None = None
join d (Some p) (Some q) = cond (q == p + d) (Some p) None

-- the first board number of the 2 ^ k blocks from a, if all are mapped and their numbers rise by one
unfoldable pub rises : FileMap → ℕ → ℕ → Option ℕ
rises m zero a = m a
rises m (suc k) a = join (2 ^ k) (rises m k a) (rises m k (a + 2 ^ k))

abbrev pub widen : Option ℕ → Bool → Option Entry → (Unit {0} → Option Entry) → Option Entry
widen None b here more = here
widen (Some q) true here more = more tt
widen (Some q) false here more = None

-- the key at a, where the 2 ^ k blocks from a are straight from p, and n + k is 12:
-- as long as the aligned extent of twice the length is straight, it is that one's, if that starts at a, and else there is none
unfoldable pub key_from : FileMap → ℕ → ℕ → ℕ → ℕ → Option Entry
unfolding rises trunc
key_from m a zero k p = Some (entry (2 ^ k) p)
key_from m a (suc n) k p =
    widen (rises m (suc k) (trunc (suc k) a)) (trunc (suc k) a == a) (Some (entry (2 ^ k) p)) (λ _. key_from m a n (suc k) p)

abbrev pub if_mapped : Option ℕ → (ℕ → Option Entry) → Option Entry
if_mapped None f = None
if_mapped (Some p) f = f p

-- the table that holds the key of the map at each start that has one
unfoldable pub key_at : FileMap → KeyTable
unfolding key_from
key_at m a = if_mapped (m a) (key_from m a 12 0)

-- ---- barriers

-- No straight aligned extent contains both x - 1 and x.
abbrev pub Barrier : FileMap → ℕ → Type 0
Barrier m x = (k a p : ℕ) → Straight m k a p → a < x → x < a + 2 ^ k → ⊥

abbrev pub Outside : ℕ → ℕ → ℕ → Type 0
Outside l r x = (x < l) ⊎ (r ≤ x)

-- The two maps are the same outside the blocks from l up to r.
abbrev pub Agree : FileMap → FileMap → ℕ → ℕ → Type 0
Agree m n l r = (x : ℕ) → Outside l r x → m x ≡ n x
