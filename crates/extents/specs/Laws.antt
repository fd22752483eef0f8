-- What is proved of keys, paths and runs, as statements.
use Rattle.std.specs.Prelude.{◌≡◌, ℕ, ◌+◌, ◌-◌, ◌%◌, ◌^◌, ◌<◌, ◌≤◌, min, true, ◌↔◌, length, is_some, Some, None, ◌≢◌, count_ones, slice_index}
use Rattle.std.specs.Int.Count.{count_trailing_zeros, count_leading_zeros}
use Rattle.extents.specs.Extents.{FileMap, KeyTable, entry, Multiple, IsKey, KeysOf, path, lookup, tried, key_at, Barrier, Outside, Agree}
use Rattle.extents.specs.Runs.{Run, run_map, walk, Holds, ListsKeys, Greedy}

-- The look-up over the table of a map's keys reads the map back at every block, holes included.
abbrev pub ReadsBack : Type 0
ReadsBack = (m : FileMap) (t : KeyTable) → KeysOf m t → (b : ℕ) → lookup t b ≡ m b

-- The look-up tries the keys of the path up to the first that is held, or all of them where none is.
pub record Tries : Type 0 where
  pub up_to_held : (t : KeyTable) (b k : ℕ) → k < length (path b) → is_some (t (slice_index (path b) k)) ≡ true
      → ((j : ℕ) → j < k → t (slice_index (path b) j) ≡ None) → tried t b ≡ k + 1
  pub all : (t : KeyTable) (b : ℕ) → ((j : ℕ) → j < length (path b) → t (slice_index (path b) j) ≡ None) → tried t b ≡ length (path b)

-- Every map has a table of its keys, which is computed, and it has only that one.
-- So a table that holds a map's keys does not depend on the order in which the map was filled.
pub record OneTable : Type 0 where
  pub exists : (m : FileMap) → KeysOf m (key_at m)
  pub unique : (m : FileMap) (t : KeyTable) → KeysOf m t → t ≡ key_at m

-- Two keys that share a block are the same key.
abbrev pub KeysApart : Type 0
KeysApart = (m : FileMap) (a s p c r q b : ℕ) → IsKey m a s p → IsKey m c r q
    → a ≤ b → b < a + s → c ≤ b → b < c + r → (a ≡ c) × (s ≡ r) × (p ≡ q)

-- What is a barrier: a multiple of 4,096, both ends of a key, both edges of a hole, and a place where board numbers do not run on.
pub record Barriers : Type 0 where
  pub multiple : (m : FileMap) (x : ℕ) → Multiple 4096 x → Barrier m x
  pub key_start : (m : FileMap) (a s p : ℕ) → IsKey m a s p → Barrier m a
  pub key_end : (m : FileMap) (a s p : ℕ) → IsKey m a s p → Barrier m (a + s)
  pub before_hole : (m : FileMap) (x : ℕ) → m x ≡ None → Barrier m x
  pub after_hole : (m : FileMap) (x : ℕ) → m x ≡ None → Barrier m (x + 1)
  pub break : (m : FileMap) (x v : ℕ) → m x ≡ Some v → (m (x + 1) ≢ Some (v + 1)) → Barrier m (x + 1)

-- Maps that agree outside an interval that barriers of both close at either end have the same keys there.
abbrev pub KeysBeyond : Type 0
KeysBeyond = (m n : FileMap) (l r : ℕ) → Agree m n l r → Barrier m l → Barrier m r → Barrier n l → Barrier n r
    → (a s p : ℕ) → Outside l r a → IsKey m a s p ↔ IsKey n a s p

-- A table stays that of the map's keys if between two barriers it is made anew and elsewhere left as it is.
abbrev pub Mended : Type 0
Mended = (m n : FileMap) (l r : ℕ) → Agree m n l r → Barrier m l → Barrier m r → Barrier n l → Barrier n r
    → (t u : KeyTable) → KeysOf m t → ((a : ℕ) → Outside l r a → u a ≡ t a)
    → ((a s p : ℕ) → l ≤ a → a < r → (u a ≡ Some (entry s p)) ↔ IsKey n a s p) → KeysOf n u

-- The keys that start in a straight run between two barriers are exactly those of the greedy walk.
abbrev pub WalkKeys : Type 0
WalkKeys = (m : FileMap) (l r p n : ℕ) → Run m l r p → Barrier m l → Barrier m r → r ≤ n + l
    → (a s q : ℕ) → (IsKey m a s q × (l ≤ a) × (a < r)) ↔ Holds a s q (walk n l r p)

-- The map that holds just one run has exactly the keys of the greedy walk over it.
abbrev pub RunKeys : Type 0
RunKeys = (first n p : ℕ) → ListsKeys (run_map first n p) (walk n first (first + n) p)

-- A path has one key more than there are ones in the low 12 bits.
abbrev pub PathLength : Type 0
PathLength = (b : ℕ) → length (path b) ≡ 1 + count_ones (b % 4096)

-- For the code: the exponent of the walk's next extent, from the trailing zeros of x and from what is left
abbrev pub size_by_zeros : ℕ → ℕ → ℕ
size_by_zeros x left = min 12 (min (count_trailing_zeros 32 x) (31 - count_leading_zeros 32 left))

abbrev pub SizeByZeros : Type 0
SizeByZeros = (x r : ℕ) → x < r → r - x < 2 ^ 32 → Greedy x r (size_by_zeros x (r - x))
