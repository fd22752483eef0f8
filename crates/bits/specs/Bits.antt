-- The single bits of a word.
use Rattle.std.specs.Prelude.{ℕ, ◌/◌, ◌%◌, ◌^◌, Bool, ◌==◌}

-- whether bit i of a word is one, counted from the lowest, which is bit 0
unfoldable pub bit : ℕ → ℕ → Bool
bit w i = w / 2 ^ i % 2 == 1
