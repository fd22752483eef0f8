-- What is said of every block of every file: where it lies, what it holds, how many there are.
use Rattle.std.specs.Prelude.{ℕ, zero, suc, ◌+◌, Bool, true, false, cond, ◌&&◌, List, replicate, is_some, Option, ◌==◌, nat_le, nat_lt}

-- Where each block of each file lies on the board, if it lies there.
abbrev pub Placement : Type 0
Placement = ℕ → ℕ → Option ℕ

-- The bytes of each block of each file.
abbrev pub Contents : Type 0
Contents = ℕ → ℕ → List ℕ

-- a block of zero bytes
abbrev pub zero_block : List ℕ
zero_block = replicate 4096 0

-- ---- which blocks of a file

-- one block
abbrev pub only : ℕ → ℕ → Bool
only block b = b == block

-- the n blocks from the first on: an extent
abbrev pub inside : ℕ → ℕ → ℕ → Bool
inside first n b = nat_le first b && nat_lt b (first + n)

-- every block
abbrev pub every : ℕ → Bool
every b = true

-- The same as h, but that the chosen blocks of one file have what g gives each.
abbrev pub changed : {X : Type 0} → (ℕ → ℕ → X) → ℕ → (ℕ → Bool) → (ℕ → X) → ℕ → ℕ → X
changed h file chosen g f b = cond (f == file && chosen b) (g b) (h f b)

-- ---- how many

abbrev pub one : Bool → ℕ
one true = 1
one false = 0

-- g 0 + .. + g (n - 1)
abbrev pub sum : ℕ → (ℕ → ℕ) → ℕ
sum zero g = 0
sum (suc n) g = g n + sum n g

-- how many of the numbers below n pass the test
abbrev pub count : ℕ → (ℕ → Bool) → ℕ
count n t = sum n (λ i. one (t i))

-- how many blocks, of those below `blocks` in the files below `files`, have something
abbrev pub tally_below : {X : Type 0} → ℕ → ℕ → (ℕ → ℕ → Option X) → ℕ
tally_below files blocks h = sum files (λ f. count blocks (λ b. is_some (h f b)))

-- How many blocks have something, among all numbers that a file and a block can have.
-- Shut, since no proof can count so far: the laws serve.
unfoldable pub tally : {X : Type 0} → (ℕ → ℕ → Option X) → ℕ
tally h = tally_below 65536 65536 h
