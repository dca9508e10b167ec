-- Values with tags (Java Card Virtual Machine Specification, Data Types and Values).
use Rattle.std.specs.Prelude.{ℕ, Bool, true, false, ◌&&◌, List, [], ◌∷◌, Option, Some, None}

-- a word of 16 bits, a reference by the object's number, null, or a local that was never written
pub data TaggedValue : Type 0 where
  Word : (word : ℕ) → TaggedValue
  Ref : (object : ℕ) → TaggedValue
  Null : TaggedValue
  Unset : TaggedValue

-- a local that was never written has no value
abbrev pub is_written : TaggedValue → Bool
is_written (Word n) = true
is_written (Ref n) = true
is_written Null = true
is_written Unset = false

abbrev pub all_written : List TaggedValue → Bool
all_written [] = true
all_written (v ∷ vs) = is_written v && all_written vs

-- a reference, or null
abbrev pub is_tagged_reference : TaggedValue → Bool
is_tagged_reference (Word n) = false
is_tagged_reference (Ref n) = true
is_tagged_reference Null = true
is_tagged_reference Unset = false

-- the number of the object that a value leads to, if it leads to one
abbrev pub object_of : TaggedValue → Option ℕ
object_of (Word n) = None
object_of (Ref n) = Some n
object_of Null = None
object_of Unset = None
