-- How blocks lie in memory, one behind the other.
use Rattle.std.specs.Prelude.{ℕ, ◌+◌, ◌*◌, List, ◌++◌, length, take, drop}

-- block i: the 4,096 bytes that start at i × 4,096
abbrev pub block_at : List ℕ → ℕ → List ℕ
block_at memory i = take 4096 (drop (i * 4096) memory)

-- The memory with the new bytes from `at` on, and every other byte as it was.
abbrev pub overlaid : List ℕ → ℕ → List ℕ → List ℕ
overlaid memory at new = take at memory ++ (new ++ drop (at + length new) memory)
