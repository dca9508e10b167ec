-- Type descriptors (Java Card Virtual Machine Specification, Descriptor component: type_descriptor_info).
use Rattle.std.specs.Prelude.{◌≡◌, ℕ, zero, suc, List, [], ◌∷◌, length, Option, None, Result, Ok, Err, nat_eq}
use Rattle.std.specs.Prelude.{if◌then◌else◌}
use Rattle.std.specs.Option.{option_and_then}
use Rattle.std.specs.Result.{result_ok}
use Rattle.jc_base.specs.Cursor.{Read, next_u1, field}
use Rattle.jc_base.specs.PlacedRows.{placed_rows, row_at}
use Rattle.jc_base.specs.Results.{◌>>=◌}
use Rattle.jc_base.specs.Tag.{descriptor_tag}
use Rattle.jc_base.specs.Signature.{Signature}
use Rattle.jc_base.specs.declared.class_ref.ClassRef.{ClassRef}
use Rattle.jc_base.specs.declared.fault.LoadFault.{LoadFault}
use Rattle.jc_base.specs.declared.fault.LoadFault.TheVariants.{Malformed}
use Rattle.jc_cap.specs.Nibbles.{next_nibbles}
use Rattle.jc_cap.specs.DeclaredType.{next_type, next_return, type_given}
use Rattle.jc_base.specs.declared.declared_type.DeclaredType.{DeclaredType}
use Rattle.jc_base.specs.declared.declared_type.ReturnType.{ReturnType}
use Rattle.jc_base.specs.declared.declared_type.ReturnType.TheVariants.{Void, Value}

-- the nibbles are these parameters, then this result, and nothing more
abbrev pub IsSpelled : List (DeclaredType ClassRef) → ReturnType ClassRef → List ℕ → Type 0
IsSpelled [] result nibbles = next_return nibbles ≡ Ok (record { value = result; rest = [] })
IsSpelled (type ∷ types) result nibbles =
    (rest : List ℕ) × (next_type nibbles ≡ Ok (record { value = type; rest = rest })) × IsSpelled types result rest

-- a signature with one more parameter in front; void is no parameter
abbrev pub with_parameter : ReturnType ClassRef → Result (Signature ClassRef) LoadFault
    → Result (Signature ClassRef) LoadFault
with_parameter Void others = Err (Malformed descriptor_tag)
with_parameter (Value type) others = others >>= λ s. Ok (record { parameters = type ∷ s.parameters; result = s.result })

-- nibbles as a signature, in at most the given number of steps: a result alone, or a parameter and a signature
abbrev pub signature_in : ℕ → List ℕ → Result (Signature ClassRef) LoadFault
signature_in zero nibbles = Err (Malformed descriptor_tag)
signature_in (suc steps) nibbles = do
  next ← next_return nibbles
  if nat_eq (length next.rest) 0 then Ok (record { parameters = []; result = next.value })
      else with_parameter next.value (signature_in steps next.rest)

-- all nibbles as a signature; the steps suffice, since each part takes at least one nibble
unfoldable pub signature_of : List ℕ → Result (Signature ClassRef) LoadFault
signature_of nibbles = signature_in (length nibbles) nibbles

-- the first descriptor in bytes: a byte that counts nibbles, and nibbles that encode a signature
unfoldable pub next_descriptor : List ℕ → Result (Read (Signature ClassRef)) LoadFault
next_descriptor bytes = do
  count ← field descriptor_tag (next_u1 bytes)
  nibbles ← next_nibbles count.value count.rest
  signature ← signature_of nibbles.value
  Ok (record { value = signature; rest = nibbles.rest })

-- the descriptor that begins at an offset of bytes, if the bytes from offset `first` to their end are descriptors
abbrev pub descriptor_at : ℕ → ℕ → List ℕ → Option (Signature ClassRef)
descriptor_at first offset bytes = option_and_then (row_at offset) (result_ok (placed_rows next_descriptor first bytes))

-- a signature without parameters, whose result isn't void, is also the type of a field
abbrev pub field_type_of : Signature ClassRef → Option (DeclaredType ClassRef)
field_type_of s = if nat_eq (length s.parameters) 0 then type_given s.result else None
