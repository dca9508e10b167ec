-- The claims of a certificate for a method: the types that it states, with the classes that their names stand for.
use Rattle.std.specs.Prelude.{ℕ, List, [], ◌∷◌, Option, Some, option_map, option_and_then}
use Rattle.jc_cert.specs.Cert.{Stated}
use Rattle.jc_cert.specs.declared.stated_type.SpelledClass.{SpelledClass}
use Rattle.jc_cert.specs.declared.stated_type.StatedType.{StatedType}
use Rattle.jc_cert.specs.declared.stated_type.StatedType.TheVariants as types
use Rattle.jc_names.specs.declared.name.ClassName.{ClassName}
use Rattle.jc_types.specs.declared.ty.Ty.{Ty}
use Rattle.jc_types.specs.declared.ty.Ty.TheVariants.{Top, Word, Null, Class, BooleanArray, ByteArray, ShortArray}
use Rattle.jc_types.specs.declared.ty.Ty.TheVariants.{ReferenceArray}
use Rattle.jc_check.specs.Rules.{Rules}

-- a state of a certificate with its classes resolved, the operands bottom first
pub record Claim : Type 0 where
  pub pc : ℕ
  pub locals : List Ty
  pub operands : List Ty

-- the type that is stated, if its class resolves
abbrev pub type_claimed : (SpelledClass → Option ClassName) → StatedType → Option Ty
type_claimed class_of types.Top = Some Top
type_claimed class_of types.Word = Some Word
type_claimed class_of types.Null = Some Null
type_claimed class_of (types.Class name) = option_map Class (class_of name)
type_claimed class_of types.BooleanArray = Some BooleanArray
type_claimed class_of types.ByteArray = Some ByteArray
type_claimed class_of types.ShortArray = Some ShortArray
type_claimed class_of (types.ReferenceArray name) = option_map ReferenceArray (class_of name)

-- the types that are stated, if all their classes resolve
abbrev pub types_claimed : (SpelledClass → Option ClassName) → List StatedType → Option (List Ty)
types_claimed class_of [] = Some []
types_claimed class_of (t ∷ ts) =
    option_and_then (λ one. option_map (λ more. one ∷ more) (types_claimed class_of ts)) (type_claimed class_of t)

-- the state that is stated, if its classes resolve
unfoldable pub claim_of : Rules → Stated → Option Claim
claim_of rules c =
    option_and_then (λ locals. option_map (λ operands. record { pc = c.pc; locals = locals; operands = operands })
    (types_claimed rules.class_of c.operands))
    (types_claimed rules.class_of c.locals)
