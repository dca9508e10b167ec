-- Rows of bits.
use Rattle.std.specs.Prelude.{ℕ, ◌/◌, ◌%◌, ◌==◌, Bool, List, get_or}
use Rattle.std.specs.Int.{bit_at}

-- whether bit `n` of a row is set: a word has 64 bits, and bits after the last word aren't set
abbrev pub has_bit : List ℕ → ℕ → Bool
has_bit words n = bit_at (get_or words (n / 64) 0) (n % 64) == 1
