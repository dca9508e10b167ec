-- Private. Equality of types, element by element, each resolved by itself; what doesn't resolve is equal to nothing.
use Rattle.std.specs.Prelude.{Bool, true, false, ◌&&◌, List, [], ◌∷◌, Option}
use Rattle.jc_base.specs.Signature.{Signature}
use Rattle.jc_base.specs.declared.declared_type.DeclaredType.{DeclaredType}
use Rattle.jc_base.specs.declared.declared_type.ReturnType.{ReturnType}
use Rattle.jc_names.specs.declared.name.ClassName.{ClassName}
use Rattle.jc_link.specs.Found.{type_found, return_found, is_same_type, is_same_return, agree}

-- two types
abbrev pub type_agrees : {C D : Type 0} → (C → Option ClassName) → (D → Option ClassName) → DeclaredType C
    → DeclaredType D → Bool
type_agrees find look one other = agree is_same_type (type_found find one) (type_found look other)

-- two lists of types
abbrev pub types_agree : {C D : Type 0} → (C → Option ClassName) → (D → Option ClassName) → List (DeclaredType C)
    → List (DeclaredType D) → Bool
types_agree find look [] [] = true
types_agree find look [] (d ∷ others) = false
types_agree find look (c ∷ types) [] = false
types_agree find look (c ∷ types) (d ∷ others) = type_agrees find look c d && types_agree find look types others

-- two results
abbrev pub return_agrees : {C D : Type 0} → (C → Option ClassName) → (D → Option ClassName) → ReturnType C
    → ReturnType D → Bool
return_agrees find look one other = agree is_same_return (return_found find one) (return_found look other)

-- two members' types
abbrev pub signature_agrees : {C D : Type 0} → (C → Option ClassName) → (D → Option ClassName) → Signature C
    → Signature D → Bool
signature_agrees find look one other =
    types_agree find look one.parameters other.parameters && return_agrees find look one.result other.result
