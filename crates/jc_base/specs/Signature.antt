-- Parameters and results of methods (Java Card Virtual Machine Specification, Descriptor component:
-- type_descriptor_info).
use Rattle.std.specs.Prelude.{List, map}
use Rattle.jc_base.specs.declared.declared_type.DeclaredType.{DeclaredType}
use Rattle.jc_base.specs.declared.declared_type.DeclaredType.TheVariants.{Boolean, Byte, Short, Reference, BooleanArray}
use Rattle.jc_base.specs.declared.declared_type.DeclaredType.TheVariants.{ByteArray, ShortArray, ReferenceArray}
use Rattle.jc_base.specs.declared.declared_type.ReturnType.{ReturnType}
use Rattle.jc_base.specs.declared.declared_type.ReturnType.TheVariants.{Void, Value}

-- the types of a method's parameters, without `this`, and of its result; C names classes
pub record Signature (C : Type 0) : Type 0 where
  pub parameters : List (DeclaredType C)
  pub result : ReturnType C

-- a type with its classes renamed
abbrev pub type_map : {C D : Type 0} → (C → D) → DeclaredType C → DeclaredType D
type_map f Boolean = Boolean
type_map f Byte = Byte
type_map f Short = Short
type_map f (Reference c) = Reference (f c)
type_map f BooleanArray = BooleanArray
type_map f ByteArray = ByteArray
type_map f ShortArray = ShortArray
type_map f (ReferenceArray c) = ReferenceArray (f c)

abbrev pub return_map : {C D : Type 0} → (C → D) → ReturnType C → ReturnType D
return_map f Void = Void
return_map f (Value type) = Value (type_map f type)

-- a signature with its classes renamed
abbrev pub signature_map : {C D : Type 0} → (C → D) → Signature C → Signature D
signature_map f s = record { parameters = map (type_map f) s.parameters; result = return_map f s.result }
