-- Straight runs of blocks, of any length and start, and the greedy walk that cuts one into aligned extents.
use Rattle.std.specs.Prelude.{◌≡◌, ℕ, zero, suc, ◌+◌, ◌-◌, ◌%◌, ◌^◌, ◌<◌, ◌≤◌, Bool, true, false, cond, ◌&&◌, ◌||◌, ◌⊎◌, ◌↔◌, List, [], ◌∷◌, Some, None, Option, ◌==◌, nat_le, nat_lt}
use Rattle.faults.specs.Grounds.{first_ground}
use Rattle.faults.specs.declared.Ground.{Ground}
use Rattle.faults.specs.declared.Ground.TheVariants.{Block, Length, BoardNumber}
use Rattle.blocks.specs.Blocks.{inside}
use Rattle.blocks.specs.declared.Entry.{Entry}
use Rattle.extents.specs.declared.key.Key.{Key}
use Rattle.extents.specs.Extents.{FileMap, KeyTable, entry, key, Aligned, IsKey}

-- the blocks from l up to r are mapped, and their numbers rise by one from p
abbrev pub Run : FileMap → ℕ → ℕ → ℕ → Type 0
Run m l r p = (i : ℕ) → l + i < r → m (l + i) ≡ Some (p + i)

-- the map that holds just one run: the n blocks from `first` at the board numbers from p
abbrev pub run_map : ℕ → ℕ → ℕ → FileMap
run_map first n p b = cond (inside first n b) (Some (p + (b - first))) None

-- Why a run is refused: a block past 65,535; no block, or more than 4,096; a board number past 4,095.
abbrev pub ground_of_run : ℕ → ℕ → ℕ → Option Ground
ground_of_run first n p = first_ground (
    (nat_lt 65535 first || nat_lt 65536 (first + n), Block)
    ∷ (n == 0 || nat_lt 4096 n, Length)
    ∷ (nat_lt 4096 (p + n), BoardNumber)
    ∷ [])

-- ---- the greedy walk

-- 2 ^ k is the largest length of an aligned extent that starts at x and ends at r or before
pub record Greedy (x r k : ℕ) : Type 0 where
  pub aligned : Aligned k x
  pub fits : x + 2 ^ k ≤ r
  pub largest : (j : ℕ) → Aligned j x → x + 2 ^ j ≤ r → j ≤ k

-- its exponent, the largest up to n
unfoldable pub size_from : ℕ → ℕ → ℕ → ℕ
size_from zero x r = 0
size_from (suc n) x r = cond (x % 2 ^ suc n == 0 && nat_le (x + 2 ^ suc n) r) (suc n) (size_from n x r)

-- the length of the walk's next extent at x on its way to r
unfoldable pub piece : ℕ → ℕ → ℕ
piece x r = 2 ^ size_from 12 x r

-- the walk from x to r, at the board numbers from p: the largest extent, and on from its end (in at most n steps)
unfoldable pub walk : ℕ → ℕ → ℕ → ℕ → List Key
unfolding piece
walk zero x r p = []
walk (suc n) x r p = cond (nat_lt x r) (key x (piece x r) p ∷ walk n (x + piece x r) r (p + piece x r)) []

-- Among the keys is the one of s blocks from a at p.
abbrev pub Holds : ℕ → ℕ → ℕ → List Key → Type 0
Holds a s p [] = ⊥
Holds a s p (e ∷ es) = ((a ≡ e.start) × (s ≡ e.length) × (p ≡ e.board)) ⊎ Holds a s p es

-- The list has the keys of the map, and nothing else.
abbrev pub ListsKeys : FileMap → List Key → Type 0
ListsKeys m ks = (a s p : ℕ) → IsKey m a s p ↔ Holds a s p ks

abbrev pub or_at : Bool → Key → Option Entry → Option Entry
or_at true e r = Some (entry e.length e.board)
or_at false e r = r

-- the table that holds the listed keys
unfoldable pub table_of : List Key → KeyTable
table_of [] x = None
table_of (e ∷ es) x = or_at (e.start == x) e (table_of es x)
