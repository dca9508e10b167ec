-- The result of a method whose type is found anew.
use Rattle.std.proofs.Common.{◌≡◌, List, true, false, Option, None, is_some, arith}
use Rattle.std.specs.Option.{option_and_then}
use Rattle.jc_base.specs.Signature.{Signature}
use Rattle.jc_base.specs.declared.declared_type.DeclaredType.{DeclaredType}
use Rattle.jc_base.specs.declared.declared_type.ReturnType.{ReturnType}
use Rattle.jc_cap_desc.specs.Shape.{Shape}
use Rattle.jc_classes.specs.Members.{DeclaredMethod}
use Rattle.jc_names.specs.Names.{home_of}
use Rattle.jc_names.specs.declared.name.ClassName.{ClassName}
use Rattle.jc_link.specs.Found.{types_found, return_found}
use Rattle.jc_link.specs.MemberType.{type_class, member_type_of}
use Rattle.jc_effects.specs.Method.{returned_type, result_of}
use Rattle.jc_effects.proofs.Spelled.{found}

module _ (world : List Shape) (d : DeclaredMethod) where
  -- where the method's type is found, its result's type is that of the row's
  pub known_result : is_some (member_type_of world (home_of d.class) d.method.signature) ≡ true
      → result_of world d ≡ option_and_then returned_type (return_found (type_class world (home_of d.class)) d.method.signature.result)
  known_result there =
      at (types_found (type_class world (home_of d.class)) d.method.signature.parameters)
      (return_found (type_class world (home_of d.class)) d.method.signature.result) there
    where
      at : (o : Option (List (DeclaredType ClassName))) (q : Option (ReturnType ClassName)) → is_some (found o q) ≡ true
          → option_and_then (λ signature. returned_type signature.result) (found o q) ≡ option_and_then returned_type q
      at o q h1 = grind arith

  pub unknown_result : is_some (member_type_of world (home_of d.class) d.method.signature) ≡ false → result_of world d ≡ None
  unknown_result h = at (member_type_of world (home_of d.class) d.method.signature) h
    where
      at : (o : Option (Signature ClassName)) → is_some o ≡ false
          → option_and_then (λ signature. returned_type signature.result) o ≡ None
      at o h1 = grind arith
