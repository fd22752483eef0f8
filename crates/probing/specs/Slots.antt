-- What slots mean, and how a search goes through them.
use Rattle.std.specs.Prelude.{◌≡◌, ℕ, zero, suc, ◌+◌, ◌-◌, ◌<◌, ◌≤◌, Bool, true, false, cond, not, ◌&&◌, ◌||◌, ◌≢◌, List, [], ◌∷◌, length, is_some, unwrap_or, Some, None, Option, ◌==◌, nat_le, nat_lt, slice_index_or}
use Rattle.blocks.specs.declared.Entry.{Entry}
use Rattle.blocks.specs.Blocks.{tally}
use Rattle.tables.specs.declared.row.Row.{Row}
use Rattle.tables.specs.Holding.{Holding, Numbered}
use Rattle.tables.specs.Rows.{blank, says, first}
use Rattle.probing.specs.declared.slots.Slot.{Slot}
use Rattle.probing.specs.declared.slots.Probe.{Probe}
use Rattle.probing.specs.declared.slots.Probe.TheVariants.{Found, Free, Full}

abbrev pub free : Slot
free = record { row = None }

-- whether a row stands in a slot
abbrev pub used : Slot → Bool
used s = is_some s.row

-- the row in a slot, or the blank one
abbrev pub row_in : Slot → Row
row_in s = unwrap_or s.row blank

abbrev pub slot_at : List Slot → ℕ → Slot
slot_at xs i = slice_index_or xs i free

abbrev pub Used : List Slot → ℕ → Type 0
Used xs i = used (slot_at xs i) ≡ true

-- what a slot says of a key
abbrev pub tells : ℕ → ℕ → Slot → Option Entry
tells f b s = cond (used s) (says f b (row_in s)) None

-- what stands under each key
abbrev pub look : List Slot → Holding
look xs f b = first (tells f b) xs

abbrev pub bit : Slot → ℕ
bit s = cond (used s) 1 0

-- how many slots are used
abbrev pub occupied : List Slot → ℕ
occupied [] = 0
occupied (s ∷ ss) = bit s + occupied ss

abbrev pub Has : ℕ → ℕ → Slot → Type 0
Has f b s = ((row_in s).file ≡ f) × ((row_in s).block ≡ b)

-- how many slots on it is from one slot of n to another, going round
abbrev pub dist : ℕ → ℕ → ℕ → ℕ
dist n from to = cond (nat_le from to) (to - from) (n - from + to)

-- ---- a search

-- The slot has another key.
abbrev pub Passed : List Slot → ℕ → ℕ → ℕ → Type 0
Passed xs f b x = Used xs x × (Has f b (slot_at xs x) → ⊥)

-- what a search of all slots, from one on, comes to
abbrev pub Probed : ℕ → List Slot → ℕ → ℕ → ℕ → Probe → Type 0
Probed n xs from f b (Found i) = (i < n) × Used xs i × Has f b (slot_at xs i) × ((x : ℕ) → x < n → dist n from x < dist n from i → Passed xs f b x)
Probed n xs from f b (Free i) = (i < n) × (used (slot_at xs i) ≡ false) × ((x : ℕ) → x < n → dist n from x < dist n from i → Passed xs f b x)
Probed n xs from f b Full = (x : ℕ) → x < n → Passed xs f b x

-- It comes to a slot that is there.
abbrev pub Within : ℕ → Probe → Type 0
Within n (Found i) = i < n
Within n (Free i) = i < n
Within n Full = Unit {0}

-- ---- how far a search goes

-- how many of the tests t 0, t 1, .. are made, up to the first that holds, and m at most
abbrev pub tried : (ℕ → Bool) → ℕ → ℕ
tried t zero = 0
tried t (suc m) = suc (cond (t 0) 0 (tried (λ i. t (i + 1)) m))

-- the slot that is so many on from one of n, going round
abbrev pub onto : ℕ → ℕ → ℕ → ℕ
onto n from k = cond (nat_lt (from + k) n) (from + k) (from + k - n)

-- A search for a key ends at a slot that is free or has the key.
abbrev pub ends : ℕ → ℕ → Slot → Bool
ends f b s = not (used s) || ((row_in s).file == f && (row_in s).block == b)

-- how many slots a search for a key looks at, from one of n on
abbrev pub looked : ℕ → List Slot → ℕ → ℕ → ℕ → ℕ
looked n xs from f b = tried (λ k. ends f b (slot_at xs (onto n from k))) n

-- ---- the lowest key of a file from a block on

abbrev pub Wanted : ℕ → ℕ → Slot → Type 0
Wanted f b s = (used s ≡ true) × ((row_in s).file ≡ f) × (b ≤ (row_in s).block)

-- the lowest of the first m slots
abbrev pub Best : List Slot → ℕ → ℕ → ℕ → Option Row → Type 0
Best xs f b m None = (x : ℕ) → x < m → Wanted f b (slot_at xs x) → ⊥
Best xs f b m (Some r) = ((i : ℕ) × (i < m) × Wanted f b (slot_at xs i) × ((row_in (slot_at xs i)) ≡ r))
    × ((x : ℕ) → x < m → Wanted f b (slot_at xs x) → r.block ≤ (row_in (slot_at xs x)).block)

-- ---- what the slots of a table keep true

-- where the search for the key of a slot begins
abbrev pub home_of : (ℕ → ℕ → ℕ) → Slot → ℕ
home_of home s = home (row_in s).file (row_in s).block

-- A search for the key of slot s, which stands at q, passes x before it comes to q.
abbrev pub Passes : (ℕ → ℕ → ℕ) → ℕ → Slot → ℕ → ℕ → Type 0
Passes home n s q x = dist n (home_of home s) x < dist n (home_of home s) q

-- Each key stands in one slot.
abbrev pub Single : List Slot → Type 0
Single xs = (i j : ℕ) → Used xs i → Used xs j → Has (row_in (slot_at xs j)).file (row_in (slot_at xs j)).block (slot_at xs i) → i ≡ j

-- A search finds each key, since the slots that it passes on the way are all there.
-- Slots have ages: a slot that is passed is older than the one that it leads to, and all are older than the latest.
pub record Reached (home : ℕ → ℕ → ℕ) (n : ℕ) (xs : List Slot) (there : ℕ → Type 0) (age : ℕ → ℕ) (latest : ℕ) : Type 0 where
  pub single : Single xs
  pub way : (q x : ℕ) → Used xs q → x < n → Passes home n (slot_at xs q) q x → there x × (age x < age q)
  pub young : (q : ℕ) → Used xs q → age q < latest

-- The slots have some such ages.
pub record Ages (home : ℕ → ℕ → ℕ) (n : ℕ) (xs : List Slot) : Type 0 where
  pub age : ℕ → ℕ
  pub latest : ℕ
  pub reached : Reached home n xs (λ x. Used xs x) age latest

-- what the n slots of a table keep true, with so many keys held
pub record Sound (home : ℕ → ℕ → ℕ) (n : ℕ) (xs : List Slot) (held : ℕ) : Type 0 where
  pub long : length xs ≡ n
  pub ages : ∥ Ages home n xs ∥₁
  pub numbered : Numbered (look xs)
  pub counted : held ≡ tally (look xs)
  pub filled : held ≡ occupied xs

-- What closing the hole that a key left keeps: what the slots mean, how many are used, and that a search finds each key.
pub record Closed (home : ℕ → ℕ → ℕ) (n : ℕ) (was : List Slot) (start : ℕ) (xs : List Slot) : Type 0 where
  pub closed : (age : ℕ → ℕ) (latest : ℕ) → Reached home n was (λ x. x ≢ start → Used was x) age latest
      → (age' : ℕ → ℕ) × Reached home n xs (λ x. Used xs x) age' latest
  pub same : Single was → look xs ≡ look was
  pub filled : occupied xs ≡ occupied was
