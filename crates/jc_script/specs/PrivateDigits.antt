-- Private. The table of hexadecimal digits.
use Rattle.std.specs.Prelude.{◌≡◌, ℕ, ◌<◌, List, length, slice_index, unwrap_or}
use Rattle.hex.specs.Hex.{hex_digit_value}

-- the value of a byte as a digit; 16 for one that is none
abbrev pub value_or_sixteen : ℕ → ℕ
value_or_sixteen byte = unwrap_or (hex_digit_value byte) 16

-- a list has this value for each byte
pub record AreValues (values : List ℕ) : Type 0 where
  pub each : (byte : ℕ) → byte < 256 → slice_index values byte ≡ value_or_sixteen byte
  pub all : length values ≡ 256
