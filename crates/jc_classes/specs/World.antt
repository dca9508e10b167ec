-- A world: the shapes of the API's two packages, and of the loaded packages in the order in which they were loaded. The
-- names of its classes, and the resolution of references to classes (Java Card Virtual Machine Specification, CAP file
-- format: class_ref; Linking).
use Rattle.std.specs.Prelude.{ℕ, zero, suc, ◌+◌, ◌==◌, Bool, ◌&&◌, List, [], map, take, drop, Option, Some, None}
use Rattle.std.specs.Prelude.{is_some, slice_get, nat_le, bytes_eq, if◌then◌else◌}
use Rattle.std.specs.List.{find, filter_map, position}
use Rattle.std.specs.Option.{option_and_then, option_map, option_map_or}
use Rattle.jc_base.specs.declared.class_ref.ClassRef.{ClassRef}
use Rattle.jc_base.specs.declared.class_ref.ClassRef.TheVariants.{Internal, External}
use Rattle.jc_base.specs.declared.package_info.PackageInfo.{PackageInfo}
use Rattle.jc_cap.specs.declared.record.RecordBody.{RecordBody}
use Rattle.jc_cap.specs.declared.record.RecordBody.TheVariants.{Interface, Class}
use Rattle.jc_cap_desc.specs.Shape.{ClassShape, Shape}
use Rattle.jc_api.specs.Class.{package_of}
use Rattle.jc_names.specs.Names.{api_home, home_of, name_in, offset_of}
use Rattle.jc_names.specs.declared.name.ClassName.{ClassName}
use Rattle.jc_names.specs.declared.name.ClassName.TheVariants.{Api, Loaded}

-- the class at an offset of a package
abbrev pub class_in : ℕ → Shape → Option ClassShape
class_in offset shape = find (λ k. k.offset == offset) shape.classes

-- the package of a class; loaded ones are numbered from 1 on
abbrev pub package_at : List Shape → ClassName → Option Shape
package_at world (Api class) = slice_get world (api_home (package_of class))
package_at world (Loaded zero offset) = None
package_at world (Loaded (suc n) offset) = slice_get world (suc (suc n))

-- the class with a name
abbrev pub class_at : List Shape → ClassName → Option ClassShape
class_at world c = option_and_then (class_in (offset_of c)) (package_at world c)

-- whether a package meets an import: its AID and its major version are equal, and its minor version isn't smaller
abbrev pub meets : PackageInfo → Shape → Bool
meets wanted shape =
    bytes_eq wanted.aid shape.«package».aid && wanted.major == shape.«package».major
    && nat_le wanted.minor shape.«package».minor

-- the place of the package that meets the import with a token: the first before the importing one
abbrev pub import_of : List Shape → ℕ → ℕ → Option ℕ
import_of world home token =
    option_and_then (λ wanted. position (meets wanted) (take home world))
    (option_and_then (λ shape. slice_get shape.imports token) (slice_get world home))

-- the place of the loaded package with an AID, before a place; the API's two aren't loaded
abbrev pub loaded_with : List Shape → ℕ → List ℕ → Option ℕ
loaded_with world home aid =
    option_map (λ n. 2 + n) (position (λ shape. bytes_eq aid shape.«package».aid) (drop 2 (take home world)))

-- the class that a package exports under a token
abbrev pub exported_class : List Shape → ℕ → ℕ → Option ClassName
exported_class world home token =
    option_and_then (λ row. name_in home row.class)
    (option_and_then (λ shape. slice_get shape.exports token) (slice_get world home))

-- the name that a reference encodes in the package at place `home`
abbrev pub class_spelled : List Shape → ℕ → ClassRef → Option ClassName
class_spelled world home (Internal offset) = name_in home offset
class_spelled world home (External import class) =
    option_and_then (λ there. exported_class world there class) (import_of world home import)

-- the name, if a class has it
abbrev pub if_there : List Shape → ClassName → Option ClassName
if_there world c = if is_some (class_at world c) then Some c else None

-- the class that a reference of the package at place `home` resolves to
abbrev pub class_named : List Shape → ℕ → ClassRef → Option ClassName
class_named world home ref = option_and_then (if_there world) (class_spelled world home ref)

-- the superclass that a record names
abbrev pub superclass_ref : RecordBody → Option ClassRef
superclass_ref (Interface r) = None
superclass_ref (Class r) = r.superclass

-- the interfaces that a record lists
abbrev pub listed_refs : RecordBody → List ClassRef
listed_refs (Interface r) = map (λ i. i.interface) r.superinterfaces
listed_refs (Class r) = map (λ i. i.interface) r.interfaces

-- the superclass of a class, resolved in the world
abbrev pub superclass_of : List Shape → ClassName → Option ClassName
superclass_of world c =
    option_and_then (class_named world (home_of c)) (option_and_then (λ k. superclass_ref k.body) (class_at world c))

-- the interfaces that a class or an interface lists, resolved in the world
abbrev pub interfaces_of : List Shape → ClassName → List ClassName
interfaces_of world c =
    option_map_or (λ k. filter_map (class_named world (home_of c)) (listed_refs k.body)) (class_at world c) []
