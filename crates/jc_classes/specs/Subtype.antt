-- Subtypes of classes and interfaces (Java Card Virtual Machine Specification, Verification types; Java Language
-- Specification, Subtyping).
use Rattle.std.specs.Prelude.{◌≡◌, ◌≢◌, ◌⊎◌, ℕ, zero, suc, ◌<◌, ◌≤◌, Bool, true, false, not, ◌&&◌, ◌||◌, Some, is_some}
use Rattle.std.specs.Prelude.{List, [], ◌∷◌, if◌then◌else◌}
use Rattle.std.specs.List.{list_any}
use Rattle.std.specs.Option.{option_map_or}
use Rattle.jc_cap.specs.ClassComponent.{is_class}
use Rattle.jc_cap_desc.specs.Shape.{Shape}
use Rattle.jc_api.specs.declared.class.ApiClass.TheVariants.{Object}
use Rattle.jc_names.specs.Names.{is_same_name}
use Rattle.jc_classes.specs.Walk.{most_classes}
use Rattle.jc_classes.specs.World.{class_at, superclass_of, interfaces_of}
use Rattle.jc_names.specs.declared.name.ClassName.{ClassName}
use Rattle.jc_names.specs.declared.name.ClassName.TheVariants.{Api}

-- a class is among classes
abbrev pub IsAmong : ClassName → List ClassName → Type 0
IsAmong c [] = ⊥
IsAmong c (d ∷ classes) = (d ≡ c) ⊎ IsAmong c classes

-- a class lists an interface in its own record
abbrev pub Lists : List Shape → ClassName → ClassName → Type 0
Lists world c i = IsAmong i (interfaces_of world c)

-- the least relation in which each class is below itself and below Object, and below everything that its superclass or
-- an interface of it is below
pub data IsSubtype (world : List Shape) : ClassName → ClassName → Type 0 where
  same : (c : ClassName) → IsSubtype world c c
  object : (c : ClassName) → IsSubtype world c (Api Object)
  by_superclass : (c d e : ClassName) → superclass_of world c ≡ Some d → IsSubtype world d e → IsSubtype world c e
  by_interface : (c i e : ClassName) → Lists world c i → IsSubtype world i e → IsSubtype world c e

-- the least relation in which a class implements the interfaces that it lists, and those that its superclass or an
-- interface of it implements
pub data Implements (world : List Shape) : ClassName → ClassName → Type 0 where
  listed : (c i : ClassName) → Lists world c i → Implements world c i
  by_superclass : (c d i : ClassName) → superclass_of world c ≡ Some d → Implements world d i → Implements world c i
  by_interface : (c j i : ClassName) → Lists world c j → Implements world j i → Implements world c i

-- the name is a class's, and not an interface's
abbrev pub is_class_at : List Shape → ClassName → Bool
is_class_at world c = option_map_or (λ k. is_class k.body) (class_at world c) false

abbrev pub is_interface_at : List Shape → ClassName → Bool
is_interface_at world c = option_map_or (λ k. not (is_class k.body)) (class_at world c) false

-- the superclass chain of a class ends within n classes, itself included
abbrev pub comes_to_end : List Shape → ℕ → ClassName → Bool
comes_to_end world zero c = false
comes_to_end world (suc n) c = option_map_or (comes_to_end world n) (superclass_of world c) true

-- a class or an interface has this name, and its superclass chain ends
abbrev pub has_whole_chain : List Shape → ClassName → Bool
has_whole_chain world c = is_some (class_at world c) && comes_to_end world most_classes c

-- no superclass chain has a cycle, and whatever is listed as an interface is one
pub record IsOrderly (world : List Shape) : Type 0 where
  pub ends : (c : ClassName) → comes_to_end world most_classes c ≡ true
  pub interfaces : (c i : ClassName) → Lists world c i → is_interface_at world i ≡ true

-- whether a class is another one or a superclass of it, within n classes
abbrev pub is_at_or_above : List Shape → ℕ → ClassName → ClassName → Bool
is_at_or_above world zero d c = false
is_at_or_above world (suc n) d c =
    is_same_name c d || option_map_or (is_at_or_above world n d) (superclass_of world c) false

-- whether a class is another one or below it, along superclasses; Object is above all
abbrev pub is_class_below : List Shape → ClassName → ClassName → Bool
is_class_below world c d = is_same_name (Api Object) d || is_at_or_above world most_classes d c

-- whether a class or an interface is another one or below it, within n steps: its superclass is, or an interface that
-- it lists
abbrev pub is_subtype_within : List Shape → ℕ → ClassName → ClassName → Bool
is_subtype_within world zero c d = false
is_subtype_within world (suc n) c d =
    is_same_name c d || option_map_or (λ e. is_subtype_within world n e d) (superclass_of world c) false
    || list_any (λ e. is_subtype_within world n e d) (interfaces_of world c)

-- whether a class or an interface is another one or below it; all are below Object. A shortest path upward visits no
-- class twice, even if a chain has a cycle, so these steps suffice in a world of at most that many classes
abbrev pub is_subtype : List Shape → ClassName → ClassName → Bool
is_subtype world c d = is_same_name (Api Object) d || is_subtype_within world most_classes c d

-- an order of classes: reflexive, antisymmetric and transitive
pub record IsOrder (below : ClassName → ClassName → Bool) : Type 0 where
  pub reflexive : (c : ClassName) → below c c ≡ true
  pub antisymmetric : (c d : ClassName) → below c d ≡ true → below d c ≡ true → c ≡ d
  pub transitive : (c d e : ClassName) → below c d ≡ true → below d e ≡ true → below c e ≡ true

-- the first of a class and its superclasses, within n of them, that another class is below too; Object if there is none
abbrev pub common_within : List Shape → ℕ → ClassName → ClassName → ClassName
common_within world zero c d = Api Object
common_within world (suc n) c d =
    if is_class_below world d c then c
    else option_map_or (λ e. common_within world n e d) (superclass_of world c) (Api Object)

-- the nearest class above both of two
abbrev pub common_class : List Shape → ClassName → ClassName → ClassName
common_class world c d = common_within world most_classes c d

-- how many classes are above a class, along its superclasses up to Object, within n of them
abbrev pub above_within : List Shape → ℕ → ClassName → ℕ
above_within world zero c = 0
above_within world (suc n) c =
    if is_same_name (Api Object) c then 0
    else option_map_or (λ e. suc (above_within world n e)) (superclass_of world c) 1

-- how many classes are above a class
abbrev pub classes_above : List Shape → ClassName → ℕ
classes_above world c = above_within world most_classes c

-- an order of classes with Object above all, in which any two have a least class above both, and in which the number of
-- classes above falls with each step upward and is at most `most`
pub record IsClassLattice (below : ClassName → ClassName → Bool) (common : ClassName → ClassName → ClassName)
    (above : ClassName → ℕ) (most : ℕ) : Type 0 where
  pub order : IsOrder below
  pub object : (c : ClassName) → below c (Api Object) ≡ true
  pub first : (c d : ClassName) → below c (common c d) ≡ true
  pub second : (c d : ClassName) → below d (common c d) ≡ true
  pub least : (c d e : ClassName) → below c e ≡ true → below d e ≡ true → below (common c d) e ≡ true
  pub falls : (c d : ClassName) → below c d ≡ true → c ≢ d → above d < above c
  pub bounded : (c : ClassName) → above c ≤ most
