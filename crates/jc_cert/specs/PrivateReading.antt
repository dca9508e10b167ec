-- Private. Reading a certificate from left to right; each part gets the least number that the part before it allows. It
-- is what the code reads, and is proved to be the inverse of the encoding.
use Rattle.std.specs.Prelude.{◌≡◌, ℕ, zero, suc, ◌+◌, List, [], ◌∷◌, length, Option, Result, Ok, Err, nat_lt, ◌==◌}
use Rattle.std.specs.Prelude.{◌&&◌, if◌then◌else◌}
use Rattle.std.specs.Option.{ok_or}
use Rattle.jc_base.specs.Cursor.{Read, next_u1, next_u2, next_bytes}
use Rattle.jc_base.specs.Results.{◌>>=◌}
use Rattle.jc_base.specs.declared.fault.LoadFault.{LoadFault}
use Rattle.jc_base.specs.declared.fault.LoadFault.TheVariants as fault
use Rattle.jc_base.specs.Aid.{aid_of}
use Rattle.jc_api.specs.Class.{class_of}
use Rattle.jc_api.specs.declared.class.ApiClass.{ApiClass}
use Rattle.jc_cert.specs.declared.stated_type.SpelledClass.{SpelledClass}
use Rattle.jc_cert.specs.declared.stated_type.SpelledClass.TheVariants.{Own, Api, Other}
use Rattle.jc_cert.specs.declared.stated_type.StatedType.{StatedType}
use Rattle.jc_cert.specs.declared.stated_type.StatedType.TheVariants.{Top, Word, Null, Class, BooleanArray, ByteArray}
use Rattle.jc_cert.specs.declared.stated_type.StatedType.TheVariants.{ShortArray, ReferenceArray}
use Rattle.jc_cert.specs.declared.refusal.NoSpelling.{NoSpelling}
use Rattle.jc_cert.specs.declared.refusal.Refusal.{Refusal}
use Rattle.jc_cert.specs.declared.refusal.Refusal.TheVariants.{Unspelled, Memory}
use Rattle.jc_cert.specs.Cert.{Stated, Row}

abbrev pub no_spelling : NoSpelling
no_spelling = record {}

-- what the cursor returns, or else the bytes encode nothing
abbrev pub spelled : {A : Type 0} → Option A → Result A NoSpelling
spelled found = ok_or found no_spelling

-- a number of two bytes, at or above `least`
unfoldable pub next_number : ℕ → List ℕ → Result (Read ℕ) NoSpelling
next_number least bytes = do
  n ← spelled (next_u2 bytes)
  if nat_lt n.value least then Err no_spelling else Ok n

-- wraps what was read
abbrev pub read_with : {A B : Type 0} → (A → B) → Result (Read A) NoSpelling → Result (Read B) NoSpelling
read_with make read = do
  x ← read
  Ok (record { value = make x.value; rest = x.rest })

-- a class of the API: two bytes 00 and its number
unfoldable pub next_api : List ℕ → Result (Read ApiClass) NoSpelling
next_api bytes = do
  first ← spelled (next_u1 bytes)
  high ← spelled (next_u1 first.rest)
  number ← spelled (next_u1 high.rest)
  class ← spelled (class_of number.value)
  if first.value == 0 && high.value == 0 then Ok (record { value = class; rest = number.rest }) else Err no_spelling

-- an offset in another package after that package's AID, which has `len` bytes
unfoldable pub next_other : ℕ → List ℕ → Result (Read SpelledClass) NoSpelling
next_other len bytes = do
  front ← spelled (next_bytes len bytes)
  aid ← spelled (aid_of front.value)
  offset ← spelled (next_u2 front.rest)
  Ok (record { value = Other aid offset.value; rest = offset.rest })

-- a class's name after its length
unfoldable pub next_class : List ℕ → Result (Read SpelledClass) NoSpelling
next_class bytes = do
  len ← spelled (next_u1 bytes)
  if len.value == 0 then read_with Own (spelled (next_u2 len.rest))
      else (if len.value == 1 then read_with Api (next_api len.rest) else next_other len.value len.rest)

-- a type with its class's name
unfoldable pub next_type : List ℕ → Result (Read StatedType) NoSpelling
next_type bytes = do
  tag ← spelled (next_u1 bytes)
  if tag.value == 0 then Ok (record { value = Top; rest = tag.rest })
      else (if tag.value == 1 then Ok (record { value = Word; rest = tag.rest })
      else (if tag.value == 2 then Ok (record { value = Null; rest = tag.rest })
      else (if tag.value == 3 then read_with Class (next_class tag.rest)
      else (if tag.value == 4 then Ok (record { value = BooleanArray; rest = tag.rest })
      else (if tag.value == 5 then Ok (record { value = ByteArray; rest = tag.rest })
      else (if tag.value == 6 then Ok (record { value = ShortArray; rest = tag.rest })
      else (if tag.value == 7 then read_with ReferenceArray (next_class tag.rest) else Err no_spelling)))))))

-- n parts, one after the other, each read with the state that the one before leaves
unfoldable pub repeat_at : {S A : Type 0} → (S → List ℕ → Result (Read A) NoSpelling) → (A → S) → ℕ → S → List ℕ
    → Result (Read (List A)) NoSpelling
repeat_at read next zero s bytes = Ok (record { value = []; rest = bytes })
repeat_at read next (suc n) s bytes = do
  first ← read s bytes
  others ← repeat_at read next n (next first.value) first.rest
  Ok (record { value = first.value ∷ others.value; rest = others.rest })

abbrev pub next_types : ℕ → List ℕ → Result (Read (List StatedType)) NoSpelling
next_types n bytes = repeat_at (λ (s : ℕ) bs. next_type bs) (λ t. 0) n 0 bytes

-- a state whose pc is at least `least`
unfoldable pub next_stated : ℕ → List ℕ → Result (Read Stated) NoSpelling
next_stated least bytes = do
  pc ← next_number least bytes
  count ← spelled (next_u2 pc.rest)
  locals ← next_types count.value count.rest
  depth ← spelled (next_u1 locals.rest)
  operands ← next_types depth.value depth.rest
  Ok (record {
    value = record { pc = pc.value; locals = locals.value; operands = operands.value };
    rest = operands.rest;
  })

abbrev pub next_states : ℕ → ℕ → List ℕ → Result (Read (List Stated)) NoSpelling
next_states n least bytes = repeat_at next_stated (λ s. s.pc + 1) n least bytes

-- a row with at least one state, whose offset is at least `least`
unfoldable pub next_row : ℕ → List ℕ → Result (Read Row) NoSpelling
next_row least bytes = do
  offset ← next_number least bytes
  count ← next_number 1 offset.rest
  states ← next_states count.value 0 count.rest
  Ok (record { value = record { offset = offset.value; states = states.value }; rest = states.rest })

abbrev pub next_rows : ℕ → ℕ → List ℕ → Result (Read (List Row)) NoSpelling
next_rows n least bytes = repeat_at next_row (λ r. r.offset + 1) n least bytes

-- a certificate that takes all of the bytes
unfoldable pub next_cert : List ℕ → Result (Read (List Row)) NoSpelling
next_cert bytes = do
  count ← spelled (next_u2 bytes)
  rows ← next_rows count.value 0 count.rest
  if length rows.rest == 0 then Ok (record { value = rows.value; rest = [] }) else Err no_spelling

-- why nothing was read: the bytes encode nothing, or memory ran out
abbrev pub Fails : {Y : Type 0} → Refusal → Result Y NoSpelling → Type 0
Fails Unspelled read = read ≡ Err no_spelling
Fails Memory read = Unit {0}

-- what a reader returns, compared through view with what reading gives, unless memory ran out
abbrev pub GivesUnlessMemory : {X Y : Type 0} → (X → Y) → Result X Refusal → List ℕ
    → Result (Read Y) NoSpelling → Type 0
GivesUnlessMemory view (Ok x) new read = read ≡ Ok (record { value = view x; rest = new })
GivesUnlessMemory view (Err refusal) new read = Fails refusal read

-- the reported fault
abbrev pub fault_of : Refusal → LoadFault
fault_of Unspelled = fault.BadCertificate
fault_of Memory = fault.Memory
