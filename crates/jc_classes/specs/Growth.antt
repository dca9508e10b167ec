-- A world that grows: appending packages changes no look-up in those before them.
use Rattle.std.specs.Prelude.{◌≡◌, ◌↔◌, ℕ, ◌<◌, ◌≤◌, List, [], ◌∷◌, ◌++◌, length, take, slice_get, true, Some}
use Rattle.jc_base.specs.declared.class_ref.ClassRef.{ClassRef}
use Rattle.jc_cap_desc.specs.Shape.{ClassShape, Shape}
use Rattle.jc_names.specs.Names.{method_home}
use Rattle.jc_classes.specs.Members.{DeclaredMethod, method_at}
use Rattle.jc_classes.specs.Methods.{interface_method_of, method_name, virtual_method_of}
use Rattle.jc_classes.specs.Subtype.{IsSubtype, Implements, is_class_at, is_class_below, is_interface_at, is_subtype}
use Rattle.jc_names.specs.Names.{home_of}
use Rattle.jc_classes.specs.World.{class_at, class_named, superclass_of, interfaces_of}
use Rattle.jc_names.specs.declared.name.ClassName.{ClassName}
use Rattle.jc_names.specs.declared.name.MethodName.{MethodName}

-- a world with one more package appended
abbrev pub grown : List Shape → Shape → List Shape
grown world more = world ++ more ∷ []

-- the package of a class is in a world
abbrev pub IsWithin : List Shape → ClassName → Type 0
IsWithin world c = home_of c < length world

-- every look-up from a package of the world gives the same result as before
pub record KeepsLookups (world : List Shape) (more : Shape) : Type 0 where
  pub classes : (c : ClassName) → IsWithin world c → class_at (grown world more) c ≡ class_at world c
  pub references : (home : ℕ) (ref : ClassRef) → home < length world
      → class_named (grown world more) home ref ≡ class_named world home ref
  pub superclasses : (c : ClassName) → IsWithin world c → superclass_of (grown world more) c ≡ superclass_of world c
  pub interfaces : (c : ClassName) → IsWithin world c → interfaces_of (grown world more) c ≡ interfaces_of world c
  pub virtual_methods : (c : ClassName) (token asker : ℕ) → IsWithin world c
      → virtual_method_of (grown world more) c token asker ≡ virtual_method_of world c token asker
  pub interface_methods : (c interface : ClassName) (token : ℕ) → IsWithin world c
      → interface_method_of (grown world more) c interface token ≡ interface_method_of world c interface token
  pub subtypes : (c d : ClassName) → IsWithin world c → IsSubtype (grown world more) c d ↔ IsSubtype world c d
  pub implementations : (c i : ClassName) → IsWithin world c → Implements (grown world more) c i ↔ Implements world c i
  pub methods : (m : MethodName) (home : ℕ) → method_home m ≡ Some home → home < length world
      → method_at (grown world more) m ≡ method_at world m

-- ---- many packages at once

-- the package of a method, if it has one, is in a world
abbrev pub IsMethodWithin : List Shape → MethodName → Type 0
IsMethodWithin world m = (home : ℕ) → method_home m ≡ Some home → home < length world

-- a world lies within a later one: it is a prefix of it
abbrev pub LiesWithin : List Shape → List Shape → Type 0
LiesWithin before after = take (length before) after ≡ before

-- every look-up from a package of the earlier world gives the same result in the later one; and what is below a class
-- stays below it
pub record KeepsAllLookups (before after : List Shape) : Type 0 where
  pub count : length before ≤ length after
  pub packages : (home : ℕ) → home < length before → slice_get after home ≡ slice_get before home
  pub classes : (c : ClassName) → IsWithin before c → class_at after c ≡ class_at before c
  pub are_classes : (c : ClassName) → IsWithin before c → is_class_at after c ≡ is_class_at before c
  pub are_interfaces : (c : ClassName) → IsWithin before c → is_interface_at after c ≡ is_interface_at before c
  pub references : (home : ℕ) (ref : ClassRef) → home < length before
      → class_named after home ref ≡ class_named before home ref
  pub superclasses : (c : ClassName) → IsWithin before c → superclass_of after c ≡ superclass_of before c
  pub interfaces : (c : ClassName) → IsWithin before c → interfaces_of after c ≡ interfaces_of before c
  pub virtual_methods : (c : ClassName) (token asker : ℕ) → IsWithin before c
      → virtual_method_of after c token asker ≡ virtual_method_of before c token asker
  pub interface_methods : (c interface : ClassName) (token : ℕ) → IsWithin before c
      → interface_method_of after c interface token ≡ interface_method_of before c interface token
  pub order : (c d : ClassName) → IsWithin before c → is_class_below after c d ≡ is_class_below before c d
  pub still_below : (c d : ClassName) → is_class_below before c d ≡ true → is_class_below after c d ≡ true
  pub found_subtypes : (c d : ClassName) → IsWithin before c → is_subtype after c d ≡ is_subtype before c d
  pub still_found : (c d : ClassName) → is_subtype before c d ≡ true → is_subtype after c d ≡ true
  pub subtypes : (c d : ClassName) → IsWithin before c → IsSubtype after c d ↔ IsSubtype before c d
  pub implementations : (c i : ClassName) → IsWithin before c → Implements after c i ↔ Implements before c i
  pub methods : (m : MethodName) → IsMethodWithin before m → method_at after m ≡ method_at before m

-- whatever the world has belongs to one of its packages: classes, methods, the classes that declare them, and what a
-- class of the world is below; and, if the API's two packages are there, the method names of its packages
pub record StandWithin (world : List Shape) : Type 0 where
  pub classes : (c : ClassName) (k : ClassShape) → class_at world c ≡ Some k → IsWithin world c
  pub methods : (m : MethodName) (d : DeclaredMethod) → method_at world m ≡ Some d → IsMethodWithin world m
  pub declared : (m : MethodName) (d : DeclaredMethod) → method_at world m ≡ Some d → IsWithin world d.class
  pub names : (home offset : ℕ) → 2 ≤ length world → home < length world
      → IsMethodWithin world (method_name home offset)
  pub above : (c d : ClassName) → IsWithin world c → IsSubtype world c d → IsWithin world d
