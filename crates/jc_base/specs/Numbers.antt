-- Bytes as numbers (Java Card Virtual Machine Specification, CAP file format: u2; Data types: byte and short), and
-- flags.
use Rattle.std.specs.Prelude.{ℕ, ◌+◌, ◌*◌, ◌==◌, ℤ, Bool, List, [], ◌∷◌, map, bit_and}
use Rattle.std.specs.Int.{w8, w16, cast_signed}

-- numbers of two bytes, the high one first
abbrev pub u2s : List ℕ → List ℕ
u2s (high ∷ low ∷ bytes) = (256 * high + low) ∷ u2s bytes
u2s _ = []

-- bytes and shorts with their signs
abbrev pub s1s : List ℕ → List ℤ
s1s bytes = map (cast_signed w8) bytes

abbrev pub s2s : List ℕ → List ℤ
s2s bytes = map (cast_signed w16) (u2s bytes)

-- whether all bits of a flag are set in the flags
abbrev pub has_flag : ℕ → ℕ → Bool
has_flag flags flag = bit_and flags flag == flag
