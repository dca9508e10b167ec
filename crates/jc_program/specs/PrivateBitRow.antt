-- Private. Numbers put into rows of bits.
use Rattle.std.specs.Prelude.{◌≡◌, ℕ, zero, suc, ◌+◌, ◌<◌, ◌/◌, ◌%◌, ◌==◌, ◌&&◌, ◌||◌, Bool, true, false, List}
use Rattle.std.specs.Prelude.{if◌then◌else◌}
use Rattle.std.specs.Int.{bit_at}
use Rattle.jc_program.specs.BitRow.{has_bit}

-- how many numbers of 16 bits there are
unfoldable pub most_bits : ℕ
most_bits = 65_536

-- how many of the first numbers a row doesn't have
abbrev pub unset : List ℕ → ℕ → ℕ
unset words zero = 0
unset words (suc n) = (if has_bit words n then 0 else 1) + unset words n

-- the numbers that the word at an index contains
abbrev pub bits_of : ℕ → ℕ → ℕ → Bool
bits_of at word n = n / 64 == at && bit_at word (n % 64) == 1

-- numbers were put into a row; `changed` says whether one of them is new
pub record AreUnited (more : ℕ → Bool) (old new : List ℕ) (changed : Bool) : Type 0 where
  pub bits : (n : ℕ) → has_bit new n ≡ (has_bit old n || more n)
  pub fewer : changed ≡ true → unset new most_bits < unset old most_bits
  pub same : changed ≡ false → (n : ℕ) → has_bit new n ≡ has_bit old n
