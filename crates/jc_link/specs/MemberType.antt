-- The types of members (Java Card Virtual Machine Specification, Descriptor component): those of their rows, with their
-- classes resolved. An interface counts as Object.
use Rattle.std.specs.Prelude.{ℕ, Bool, List, [], Option, if◌then◌else◌}
use Rattle.std.specs.Option.{option_and_then, option_map}
use Rattle.jc_base.specs.Signature.{Signature}
use Rattle.jc_base.specs.declared.class_ref.ClassRef.{ClassRef}
use Rattle.jc_base.specs.declared.declared_type.DeclaredType.{DeclaredType}
use Rattle.jc_base.specs.declared.declared_type.ReturnType.TheVariants.{Value}
use Rattle.jc_cap_desc.specs.Shape.{FieldShape, Shape}
use Rattle.jc_api.specs.declared.class.ApiClass.TheVariants.{Object}
use Rattle.jc_classes.specs.Members.{DeclaredMethod, method_at}
use Rattle.jc_classes.specs.Subtype.{is_interface_at}
use Rattle.jc_names.specs.Names.{home_of}
use Rattle.jc_classes.specs.World.{class_named}
use Rattle.jc_names.specs.declared.name.ClassName.{ClassName}
use Rattle.jc_names.specs.declared.name.ClassName.TheVariants.{Api}
use Rattle.jc_names.specs.declared.name.MethodName.{MethodName}
use Rattle.jc_link.specs.Found.{type_found, signature_found, is_same_signature, agree}

-- a class as types count it
abbrev pub counted : List Shape → ClassName → ClassName
counted world c = if is_interface_at world c then Api Object else c

-- the class of a type that a reference of the package at place `home` resolves to
abbrev pub type_class : List Shape → ℕ → ClassRef → Option ClassName
type_class world home ref = option_map (counted world) (class_named world home ref)

-- the type of a member, from its row
abbrev pub member_type_of : List Shape → ℕ → Signature ClassRef → Option (Signature ClassName)
member_type_of world home s = signature_found (type_class world home) s

abbrev pub field_type_of : List Shape → ℕ → FieldShape → Option (DeclaredType ClassName)
field_type_of world home f = type_found (type_class world home) f.type

-- the type of the method with a name, from its row in the class that declares it
abbrev pub declared_type_of : List Shape → DeclaredMethod → Option (Signature ClassName)
declared_type_of world d = member_type_of world (home_of d.class) d.method.signature

abbrev pub method_type_of : List Shape → MethodName → Option (Signature ClassName)
method_type_of world m = option_and_then (declared_type_of world) (method_at world m)

-- a field's type as a signature: no parameters, and the field's type as the result
abbrev pub as_member : {C : Type 0} → DeclaredType C → Signature C
as_member type = record { parameters = []; result = Value type }

-- whether two members have types, and these are equal
abbrev pub have_same_type : Option (Signature ClassName) → Option (Signature ClassName) → Bool
have_same_type one other = agree is_same_signature one other
