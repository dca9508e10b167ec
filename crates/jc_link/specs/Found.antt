-- Types with their classes resolved: such a type exists if each of its classes resolves. And equality of types.
use Rattle.std.specs.Prelude.{ℕ, ◌==◌, Bool, true, false, ◌&&◌, List, [], ◌∷◌, Option, Some, None}
use Rattle.std.specs.Option.{option_and_then, option_map}
use Rattle.jc_base.specs.Signature.{Signature}
use Rattle.jc_base.specs.declared.declared_type.DeclaredType.{DeclaredType}
use Rattle.jc_base.specs.declared.declared_type.DeclaredType.TheVariants.{Boolean, Byte, Short, Reference, BooleanArray}
use Rattle.jc_base.specs.declared.declared_type.DeclaredType.TheVariants.{ByteArray, ShortArray, ReferenceArray}
use Rattle.jc_base.specs.declared.declared_type.ReturnType.{ReturnType}
use Rattle.jc_base.specs.declared.declared_type.ReturnType.TheVariants.{Void, Value}
use Rattle.jc_names.specs.Names.{is_same_name}
use Rattle.jc_names.specs.declared.name.ClassName.{ClassName}

-- a type with its class resolved, if it resolves
abbrev pub type_found : {C D : Type 0} → (C → Option D) → DeclaredType C → Option (DeclaredType D)
type_found find Boolean = Some Boolean
type_found find Byte = Some Byte
type_found find Short = Some Short
type_found find (Reference c) = option_map Reference (find c)
type_found find BooleanArray = Some BooleanArray
type_found find ByteArray = Some ByteArray
type_found find ShortArray = Some ShortArray
type_found find (ReferenceArray c) = option_map ReferenceArray (find c)

abbrev pub return_found : {C D : Type 0} → (C → Option D) → ReturnType C → Option (ReturnType D)
return_found find Void = Some Void
return_found find (Value type) = option_map Value (type_found find type)

-- types with their classes resolved, if all resolve
abbrev pub types_found : {C D : Type 0} → (C → Option D) → List (DeclaredType C) → Option (List (DeclaredType D))
types_found find [] = Some []
types_found find (type ∷ types) =
    option_and_then (λ t. option_map (λ ts. t ∷ ts) (types_found find types)) (type_found find type)

abbrev pub signature_found : {C D : Type 0} → (C → Option D) → Signature C → Option (Signature D)
signature_found find s =
    option_and_then (λ parameters. option_map (λ result. record { parameters = parameters; result = result })
    (return_found find s.result))
    (types_found find s.parameters)

-- the kind of a type, whatever its class; and its class
abbrev pub kind_of : {C : Type 0} → DeclaredType C → ℕ
kind_of Boolean = 0
kind_of Byte = 1
kind_of Short = 2
kind_of (Reference c) = 3
kind_of BooleanArray = 4
kind_of ByteArray = 5
kind_of ShortArray = 6
kind_of (ReferenceArray c) = 7

abbrev pub class_in : {C : Type 0} → DeclaredType C → Option C
class_in Boolean = None
class_in Byte = None
class_in Short = None
class_in (Reference c) = Some c
class_in BooleanArray = None
class_in ByteArray = None
class_in ShortArray = None
class_in (ReferenceArray c) = Some c

-- whether two optional classes are equal
abbrev pub is_same_class : Option ClassName → Option ClassName → Bool
is_same_class None None = true
is_same_class None (Some d) = false
is_same_class (Some c) None = false
is_same_class (Some c) (Some d) = is_same_name c d

-- whether two types are equal
abbrev pub is_same_type : DeclaredType ClassName → DeclaredType ClassName → Bool
is_same_type one other = kind_of one == kind_of other && is_same_class (class_in one) (class_in other)

abbrev pub are_same_types : List (DeclaredType ClassName) → List (DeclaredType ClassName) → Bool
are_same_types [] [] = true
are_same_types [] (d ∷ others) = false
are_same_types (c ∷ types) [] = false
are_same_types (c ∷ types) (d ∷ others) = is_same_type c d && are_same_types types others

abbrev pub is_same_return : ReturnType ClassName → ReturnType ClassName → Bool
is_same_return Void Void = true
is_same_return Void (Value d) = false
is_same_return (Value c) Void = false
is_same_return (Value c) (Value d) = is_same_type c d

abbrev pub is_same_signature : Signature ClassName → Signature ClassName → Bool
is_same_signature one other = are_same_types one.parameters other.parameters && is_same_return one.result other.result

-- whether both are there, and are equal; what isn't there is equal to nothing
abbrev pub agree : {A : Type 0} → (A → A → Bool) → Option A → Option A → Bool
agree is_same None other = false
agree is_same (Some a) None = false
agree is_same (Some a) (Some b) = is_same a b
