-- Reading from the front of a list of bytes: a value and the bytes after it, or nothing.
-- Numbers are big-endian (Java Card Virtual Machine Specification, CAP file format: u1, u2 and u4; and s1 and s2 with a
-- sign).
use Rattle.std.specs.Prelude.{◌≡◌, ℕ, ℤ, ◌+◌, ◌*◌, ◌==◌, List, [], ◌∷◌, length, take, drop, Option, Some, None, Result}
use Rattle.std.specs.Prelude.{Ok, Err, nat_lt, if◌then◌else◌}
use Rattle.std.specs.Int.{w8, w16, cast_signed}
use Rattle.std.specs.Option.{ok_or}
use Rattle.jc_base.specs.declared.fault.LoadFault.{LoadFault}
use Rattle.jc_base.specs.declared.fault.LoadFault.TheVariants.{Malformed}

-- what was read, and the bytes after it
pub record Read (A : Type 0) : Type 0 where
  pub value : A
  pub rest : List ℕ

-- one byte
abbrev pub next_u1 : List ℕ → Option (Read ℕ)
next_u1 [] = None
next_u1 (b ∷ rest) = Some (record { value = b; rest = rest })

-- two bytes, the high one first
abbrev pub next_u2 : List ℕ → Option (Read ℕ)
next_u2 (high ∷ low ∷ rest) = Some (record { value = 256 * high + low; rest = rest })
next_u2 _ = None

-- four bytes, the highest one first
abbrev pub next_u4 : List ℕ → Option (Read ℕ)
next_u4 (a ∷ b ∷ c ∷ d ∷ rest) = Some (record { value = 256 * (256 * (256 * a + b) + c) + d; rest = rest })
next_u4 _ = None

-- one byte, with its sign
abbrev pub next_s1 : List ℕ → Option (Read ℤ)
next_s1 [] = None
next_s1 (b ∷ rest) = Some (record { value = cast_signed w8 b; rest = rest })

-- two bytes, the high one first, with the sign of the whole
abbrev pub next_s2 : List ℕ → Option (Read ℤ)
next_s2 (high ∷ low ∷ rest) = Some (record { value = cast_signed w16 (256 * high + low); rest = rest })
next_s2 _ = None

-- the next n bytes
abbrev pub next_bytes : ℕ → List ℕ → Option (Read (List ℕ))
next_bytes n bytes =
    if nat_lt (length bytes) n then None else Some (record { value = take n bytes; rest = drop n bytes })

-- a field of the component with a tag; without the field the component is malformed
abbrev pub field : {A : Type 0} → ℕ → Option A → Result A LoadFault
field tag found = ok_or found (Malformed tag)

-- what was read, if nothing is left after it; otherwise the fault
abbrev pub whole : {A E : Type 0} → E → Result (Read A) E → Result A E
whole fault (Ok x) = if length x.rest == 0 then Ok x.value else Err fault
whole fault (Err e) = Err e

-- What a call on a cursor returns, compared through view with what reading gives: the value, with the cursor after it,
-- or nothing, with the cursor unmoved.
abbrev pub Takes : {X Y : Type 0} → (X → Y) → Option X → List ℕ → List ℕ → Option (Read Y) → Type 0
Takes view (Some x) old new read = read ≡ Some (record { value = view x; rest = new })
Takes view None old new read = (read ≡ None) × (new ≡ old)

-- What a reader returns, compared through view: a value, or a fault. After a fault the cursor may stand anywhere.
abbrev pub Gives : {X Y E : Type 0} → (X → Y) → Result X E → List ℕ → Result (Read Y) E → Type 0
Gives view (Ok x) new read = read ≡ Ok (record { value = view x; rest = new })
Gives view (Err e) new read = read ≡ Err e
