-- Private. The classes right above a class, paths upward, and numbers of classes.
use Rattle.std.specs.Prelude.{ℕ, ◌+◌, ◌*◌, ◌==◌, List, [], ◌∷◌, Option, slice_get}
use Rattle.std.specs.List.{cons_option, position}
use Rattle.std.specs.Option.{option_map, option_and_then}
use Rattle.jc_cap_desc.specs.Shape.{ClassShape, Shape}
use Rattle.jc_classes.specs.Subtype.{IsAmong}
use Rattle.jc_names.specs.Names.{home_of, offset_of}
use Rattle.jc_classes.specs.World.{package_at, superclass_of, interfaces_of}
use Rattle.jc_names.specs.declared.name.ClassName.{ClassName}

-- the classes right above a class: its superclass and what it lists
abbrev pub above : List Shape → ClassName → List ClassName
above world c = cons_option (superclass_of world c) (interfaces_of world c)

-- a path upward from a class to another one: the classes on it, both included
pub data IsWay (world : List Shape) (to : ClassName) : ClassName → List ClassName → Type 0 where
  arrives : IsWay world to to (to ∷ [])
  goes : (c d : ClassName) (way : List ClassName) → IsAmong d (above world c) → IsWay world to d way
      → IsWay world to c (c ∷ way)

-- the number of a class among all classes, 256 for each package
abbrev pub place_in : ℕ → ℕ → Shape → Option ℕ
place_in home offset shape = option_map (λ i. 256 * home + i) (position (λ k. k.offset == offset) shape.classes)

abbrev pub place : List Shape → ClassName → Option ℕ
place world c = option_and_then (place_in (home_of c) (offset_of c)) (package_at world c)

-- the class with an index in the package at place `home`
abbrev pub class_placed : List Shape → ℕ → ℕ → Option ClassShape
class_placed world home index = option_and_then (λ shape. slice_get shape.classes index) (slice_get world home)
