-- Faults of a class that depend on what it inherits: methods that are lost, overridden with another type, or left
-- abstract, and interfaces that aren't implemented (Java Card Virtual Machine Specification, Class component:
-- public_virtual_method_table, package_virtual_method_table, implemented_interface_info).
use Rattle.std.specs.Prelude.{ℕ, zero, suc, ◌==◌, Bool, false, not, ◌&&◌, ◌||◌, List, [], ◌++◌, map, length, Option}
use Rattle.std.specs.Prelude.{is_some, slice_get}
use Rattle.std.specs.List.{list_any, range_with_len}
use Rattle.std.specs.Option.{option_and_then, option_map_or}
use Rattle.jc_cap.specs.ClassComponent.{is_class}
use Rattle.jc_cap.specs.Interfaces.{Implemented}
use Rattle.jc_cap_desc.specs.Shape.{ClassShape, MethodShape, Shape}
use Rattle.jc_classes.specs.Members.{method_at}
use Rattle.jc_classes.specs.Methods.{public_method_of, virtual_method_of}
use Rattle.jc_classes.specs.Record.{interface_rows}
use Rattle.jc_classes.specs.Walk.{most_classes}
use Rattle.jc_names.specs.Names.{home_of}
use Rattle.jc_classes.specs.World.{class_at, class_named, superclass_of}
use Rattle.jc_names.specs.declared.name.ClassName.{ClassName}
use Rattle.jc_names.specs.declared.name.MethodName.{MethodName}
use Rattle.jc_names.specs.declared.name.MethodName.TheVariants.{Api, Loaded}
use Rattle.jc_link.specs.MemberType.{have_same_type, member_type_of, method_type_of}
use Rattle.jc_link.specs.Named.{is_abstract_method, is_concrete, method_above}

-- the virtual tokens: public ones, and from 128 on package-visible ones
unfoldable pub public_tokens : List ℕ
public_tokens = range_with_len 0 128

unfoldable pub package_tokens : List ℕ
package_tokens = range_with_len 128 128

unfoldable pub virtual_tokens : List ℕ
virtual_tokens = range_with_len 0 256

-- the superclass has a method at a token, and the class has none; package-visible ones are looked up for the class's
-- package
abbrev pub loses_at : List Shape → ℕ → ClassName → ℕ → Bool
loses_at world home c token =
    is_some (method_above world home token c) && not (is_some (virtual_method_of world c token home))

abbrev pub loses_method : List Shape → ℕ → ClassName → Bool
loses_method world home c = list_any (loses_at world home c) virtual_tokens

-- whether two names are equal
abbrev pub is_same_method : MethodName → MethodName → Bool
is_same_method (Api a) (Api b) = a == b
is_same_method (Loaded p m) (Loaded q n) = p == q && m == n
is_same_method (Api a) (Loaded q n) = false
is_same_method (Loaded p m) (Api b) = false

-- two methods differ, and have different types
abbrev pub is_other_type : List Shape → MethodName → MethodName → Bool
is_other_type world m above =
    not (is_same_method m above) && not (have_same_type (method_type_of world m) (method_type_of world above))

-- the class and its superclass have methods of different types at a token
abbrev pub retypes_at : List Shape → ℕ → ClassName → ℕ → Bool
retypes_at world home c token =
    option_map_or (λ m. option_map_or (is_other_type world m) (method_above world home token c) false)
    (virtual_method_of world c token home) false

abbrev pub overrides_with_another_type : List Shape → ℕ → ClassName → Bool
overrides_with_another_type world home c = list_any (retypes_at world home c) virtual_tokens

-- whether a method exists and is abstract
abbrev pub is_abstract_at : List Shape → MethodName → Bool
is_abstract_at world m = option_map_or (λ d. is_abstract_method d.method) (method_at world m) false

-- the class leaves a method abstract at a token, looked up for the package at place `asker`
abbrev pub leaves_at : List Shape → ClassName → ℕ → ℕ → Bool
leaves_at world c asker token = option_map_or (is_abstract_at world) (virtual_method_of world c token asker) false

-- a method is left abstract: a public one, or a package-visible one for any package
abbrev pub leaves_package_abstract : List Shape → ClassName → ℕ → Bool
leaves_package_abstract world c asker = list_any (leaves_at world c asker) package_tokens

abbrev pub leaves_abstract : List Shape → ClassName → Bool
leaves_abstract world c =
    list_any (leaves_at world c 0) public_tokens
    || list_any (leaves_package_abstract world c) (range_with_len 0 (length world))

-- a row of an interface, and the place of its class's package
pub record ListedRow : Type 0 where
  pub home : ℕ
  pub row : Implemented

-- the rows of a class and of its superclasses, within n classes
abbrev pub rows_of : List Shape → ClassName → List ListedRow
rows_of world c =
    option_map_or (λ k. map (λ row. record { home = home_of c; row = row }) (interface_rows k.body))
    (class_at world c) []

abbrev pub rows_along : List Shape → ℕ → ClassName → List ListedRow
rows_along world zero c = []
rows_along world (suc n) c = rows_of world c ++ option_map_or (rows_along world n) (superclass_of world c) []

-- an index of a row leads to no method, or to an abstract one; it is looked up from the class itself
abbrev pub misses : List Shape → ClassName → ℕ → Bool
misses world c index = not (option_map_or (is_concrete world) (public_method_of world c index) false)

-- the method of the class for an interface's token, by a row's indexes
abbrev pub method_for : List Shape → ClassName → List ℕ → ℕ → Option MethodName
method_for world c indexes token = option_and_then (public_method_of world c) (slice_get indexes token)

-- a method of an interface has a type, and the class has no method for it, or one of another type
abbrev pub is_unimplemented : List Shape → ClassName → List ℕ → ℕ → MethodShape → Bool
is_unimplemented world c indexes home m =
    is_some (member_type_of world home m.signature)
    && not (have_same_type (member_type_of world home m.signature)
    (option_and_then (method_type_of world) (method_for world c indexes m.token)))

-- an interface has such a method
abbrev pub lacks_methods_of : List Shape → ClassName → List ℕ → ClassName → Bool
lacks_methods_of world c indexes interface =
    option_map_or (λ k. list_any (is_unimplemented world c indexes (home_of interface)) k.methods)
    (class_at world interface) false

-- a row that the class doesn't fulfil
abbrev pub breaks_row : List Shape → ClassName → ListedRow → Bool
breaks_row world c r =
    list_any (misses world c) r.row.indexes
    || option_map_or (lacks_methods_of world c r.row.indexes) (class_named world r.home r.row.interface) false

abbrev pub breaks_interface : List Shape → ClassName → Bool
breaks_interface world c = list_any (breaks_row world c) (rows_along world most_classes c)

-- a class that isn't abstract, and leaves a method abstract or doesn't fulfil an interface's row
abbrev pub is_unfinished : List Shape → ClassName → ClassShape → Bool
is_unfinished world c k = is_class k.body && not k.is_abstract && (leaves_abstract world c || breaks_interface world c)
