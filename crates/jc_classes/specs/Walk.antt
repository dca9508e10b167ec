-- Look-ups along superclasses (Java Card Virtual Machine Specification, Linking). A walk begins at a class, and goes
-- from superclass to superclass. A class answers a look-up with a result, with the end of the look-up, or by passing it
-- to its superclass.
use Rattle.std.specs.Prelude.{ℕ, zero, suc, ◌*◌, Option, Some, None, List}
use Rattle.std.specs.Option.{option_and_then}
use Rattle.jc_cap_desc.specs.Shape.{ClassShape, Shape}
use Rattle.jc_classes.specs.Limits.{most_packages, most_classes_of_one}
use Rattle.jc_classes.specs.World.{class_at, superclass_of}
use Rattle.jc_names.specs.declared.name.ClassName.{ClassName}
use Rattle.jc_classes.specs.declared.walk.Visit.{Visit}
use Rattle.jc_classes.specs.declared.walk.Visit.TheVariants.{Has, Nothing, Above}

-- the greatest number of classes and interfaces of a world; a longer walk has met a class twice
unfoldable pub most_classes : ℕ
most_classes = most_packages * most_classes_of_one

-- the result of a class's answer, given what is found above it
abbrev pub found_from : {A : Type 0} → Visit A → Option A → Option A
found_from (Has a) above = Some a
found_from Nothing above = None
found_from Above above = above

-- a walk of at most the given number of classes
abbrev pub walk : {A : Type 0} → (ClassName → ClassShape → Visit A) → List Shape → ℕ → ClassName → Option A
walk visit world zero c = None
walk visit world (suc steps) c =
    option_and_then (λ k. found_from (visit c k) (option_and_then (walk visit world steps) (superclass_of world c)))
    (class_at world c)

-- a whole walk
abbrev pub found : {A : Type 0} → (ClassName → ClassShape → Visit A) → List Shape → ClassName → Option A
found visit world c = walk visit world most_classes c
