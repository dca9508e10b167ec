-- Private. Walks step by step.
use Rattle.std.specs.Prelude.{◌≡◌, ℕ, ◌+◌, Option, Some, None, List}
use Rattle.std.specs.Option.{option_map_or}
use Rattle.jc_cap_desc.specs.Shape.{ClassShape, Shape}
use Rattle.jc_classes.specs.World.{class_at, superclass_of}
use Rattle.jc_names.specs.declared.name.ClassName.{ClassName}
use Rattle.jc_classes.specs.declared.walk.WalkStep.{WalkStep}
use Rattle.jc_classes.specs.declared.walk.WalkStep.TheVariants.{Gives, Ends, On}
use Rattle.jc_classes.specs.declared.walk.Visit.{Visit}
use Rattle.jc_classes.specs.declared.walk.Visit.TheVariants.{Has, Nothing, Above}

-- go on to a class, if there is one
abbrev pub step_to : {A : Type 0} → Option ClassName → WalkStep A
step_to None = Ends
step_to (Some c) = On c

abbrev pub step_above : {A : Type 0} → List Shape → ClassName → WalkStep A
step_above world c = step_to (superclass_of world c)

-- the step after a class's answer
abbrev pub step_from : {A : Type 0} → List Shape → ClassName → Visit A → WalkStep A
step_from world c (Has a) = Gives a
step_from world c Nothing = Ends
step_from world c Above = step_above world c

-- the step after the class with a name
abbrev pub step_of : {A : Type 0} → (ClassName → ClassShape → Visit A) → List Shape → ClassName → WalkStep A
step_of visit world c = option_map_or (λ k. step_from world c (visit c k)) (class_at world c) Ends

-- a result, mapped
abbrev pub visit_map : {A B : Type 0} → (A → B) → Visit A → Visit B
visit_map f (Has a) = Has (f a)
visit_map f Nothing = Nothing
visit_map f Above = Above

abbrev pub step_map : {A B : Type 0} → (A → B) → WalkStep A → WalkStep B
step_map f (Gives a) = Gives (f a)
step_map f Ends = Ends
step_map f (On c) = On c

-- a class on the way up, with n classes to go: the look-up from it gives the whole result, and a look-up from the
-- anchor, with the steps between the two added, gives the same as one from it
pub record IsOnWalk {A : Type 0} (look : ℕ → ClassName → A) (anchor at : ClassName) (n : ℕ) (total : A) : Type 0 where
  pub so_far : look n at ≡ total
  pub between : ℕ
  pub anchored : (m : ℕ) → look (m + between) anchor ≡ look m at
