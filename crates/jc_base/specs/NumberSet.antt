-- Sets of numbers below 65,536.
use Rattle.std.specs.Prelude.{ℕ, ◌/◌, ◌%◌, ◌==◌, Bool, List, get_or}
use Rattle.std.specs.Int.{bit_at}

-- whether a number is in a set: whether its bit is set; a word has 64 bits
abbrev pub has_number : List ℕ → ℕ → Bool
has_number words n = bit_at (get_or words (n / 64) 0) (n % 64) == 1
