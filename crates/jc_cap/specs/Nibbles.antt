-- Nibbles, the halves of bytes: numbers below 16.
use Rattle.std.specs.Prelude.{ℕ, ◌+◌, ◌/◌, ◌%◌, List, [], ◌∷◌, take, Option, Result, Ok}
use Rattle.jc_base.specs.Cursor.{Read, next_u1, next_bytes, field}
use Rattle.jc_base.specs.Results.{◌>>=◌}
use Rattle.jc_base.specs.Tag.{descriptor_tag}
use Rattle.jc_base.specs.declared.fault.LoadFault.{LoadFault}

-- the nibbles of bytes, the high one of each first
abbrev pub nibbles_of : List ℕ → List ℕ
nibbles_of [] = []
nibbles_of (b ∷ bytes) = (b / 16) ∷ (b % 16) ∷ nibbles_of bytes

-- the first of these nibbles
abbrev pub next_nibble : List ℕ → Option (Read ℕ)
next_nibble nibbles = next_u1 nibbles

-- the first n nibbles of bytes, in whole bytes: after an odd number a nibble of any value
unfoldable pub next_nibbles : ℕ → List ℕ → Result (Read (List ℕ)) LoadFault
next_nibbles n bytes = do
  packed ← field descriptor_tag (next_bytes ((n + 1) / 2) bytes)
  Ok (record { value = take n (nibbles_of packed.value); rest = packed.rest })
