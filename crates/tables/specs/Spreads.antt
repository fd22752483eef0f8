-- Where the two spreads put a key.
use Rattle.std.specs.Prelude.{ℕ, ◌+◌, ◌*◌, ◌/◌, ◌%◌, ◌^◌, cond, ◌==◌}

-- the rest after division by n, and 0 for n = 0
abbrev pub modulo : ℕ → ℕ → ℕ
modulo x n = cond (n == 0) 0 (x % n)

-- file × 65,536 + block, times 2,654,435,761 modulo 2^32, divided by 65,536, modulo n
abbrev pub mixed : ℕ → ℕ → ℕ → ℕ
mixed file block n = modulo (((file * 65536 + block) * 2654435761) % 2 ^ 32 / 65536) n

-- file + block, modulo n
abbrev pub levelled : ℕ → ℕ → ℕ → ℕ
levelled file block n = modulo (file + block) n
