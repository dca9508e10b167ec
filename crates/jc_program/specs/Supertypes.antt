-- The supertypes of each class, by numbers (Java Card Virtual Machine Specification, checkcast, instanceof).
use Rattle.std.specs.Prelude.{◌≡◌, ℕ, Bool, List, [], Some, slice_get, unwrap_or}
use Rattle.jc_cap_desc.specs.Shape.{Shape}
use Rattle.jc_classes.specs.Subtype.{is_subtype}
use Rattle.jc_names.specs.declared.name.ClassName.{ClassName}
use Rattle.jc_program.specs.BitRow.{has_bit}

-- whether the row of the class with a number has the number `other`
abbrev pub is_listed : List (List ℕ) → ℕ → ℕ → Bool
is_listed rows number other = has_bit (unwrap_or (slice_get rows number) []) other

-- the rows of classes are right: each has the numbers of the class's supertypes, itself included
abbrev pub AreSupertypes : List Shape → List ClassName → List (List ℕ) → Type 0
AreSupertypes world names rows = (number other : ℕ) (c d : ClassName) → slice_get names number ≡ Some c
    → slice_get names other ≡ Some d → is_listed rows number other ≡ is_subtype world c d
