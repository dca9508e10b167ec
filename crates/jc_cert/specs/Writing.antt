-- The encoding of a certificate. Numbers have the high byte first.
use Rattle.std.specs.Prelude.{ℕ, List, [], ◌∷◌, ◌++◌, length}
use Rattle.std.specs.List.{flat_map}
use Rattle.std.specs.Int.{w16, to_be_bytes}
use Rattle.jc_api.specs.Class.{number_of}
use Rattle.jc_cert.specs.declared.stated_type.SpelledClass.{SpelledClass}
use Rattle.jc_cert.specs.declared.stated_type.SpelledClass.TheVariants.{Own, Api, Other}
use Rattle.jc_cert.specs.declared.stated_type.StatedType.{StatedType}
use Rattle.jc_cert.specs.declared.stated_type.StatedType.TheVariants.{Top, Word, Null, Class, BooleanArray, ByteArray}
use Rattle.jc_cert.specs.declared.stated_type.StatedType.TheVariants.{ShortArray, ReferenceArray}
use Rattle.jc_cert.specs.Cert.{Stated, Row}

-- a class's name: an offset in its own package; an API class's number after a byte 00; another package's AID and an
-- offset in it
abbrev pub class_bytes : SpelledClass → List ℕ
class_bytes (Own offset) = 0 ∷ to_be_bytes w16 offset
class_bytes (Api class) = 1 ∷ 0 ∷ to_be_bytes w16 (number_of class)
class_bytes (Other aid offset) = length aid ∷ aid ++ to_be_bytes w16 offset

-- a type by its number; after 3 and 7 a class's name
abbrev pub type_bytes : StatedType → List ℕ
type_bytes Top = 0 ∷ []
type_bytes Word = 1 ∷ []
type_bytes Null = 2 ∷ []
type_bytes (Class class) = 3 ∷ class_bytes class
type_bytes BooleanArray = 4 ∷ []
type_bytes ByteArray = 5 ∷ []
type_bytes ShortArray = 6 ∷ []
type_bytes (ReferenceArray class) = 7 ∷ class_bytes class

-- the pc, the locals after their count in two bytes, the operands after their count in one, bottom first
abbrev pub stated_bytes : Stated → List ℕ
stated_bytes s =
    to_be_bytes w16 s.pc ++ (to_be_bytes w16 (length s.locals)
    ++ (flat_map type_bytes s.locals ++ length s.operands ∷ flat_map type_bytes s.operands))

-- the offset, and the states after their count
abbrev pub row_bytes : Row → List ℕ
row_bytes r = to_be_bytes w16 r.offset ++ (to_be_bytes w16 (length r.states) ++ flat_map stated_bytes r.states)

-- the rows after their count
abbrev pub spelling : List Row → List ℕ
spelling rows = to_be_bytes w16 (length rows) ++ flat_map row_bytes rows
