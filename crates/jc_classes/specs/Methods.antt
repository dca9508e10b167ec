-- Look-ups of methods (Java Card Virtual Machine Specification, Linking; invokevirtual, invokeinterface).
use Rattle.std.specs.Prelude.{◌≡◌, ℕ, ◌+◌, ◌-◌, ◌==◌, ◌<◌, ◌≤◌, Bool, false, ◌||◌, ◌&&◌, List, length, Option, Some}
use Rattle.std.specs.Prelude.{None, nat_le, slice_get, nat_lt, is_some, slice_index_or, if◌then◌else◌}
use Rattle.std.specs.List.{find, list_any}
use Rattle.std.specs.Option.{option_and_then, option_map_or}
use Rattle.jc_cap.specs.ClassComponent.{is_class}
use Rattle.jc_cap.specs.Interfaces.{Implemented}
use Rattle.jc_cap.specs.declared.record.RecordBody.{RecordBody}
use Rattle.jc_cap.specs.declared.record.RecordBody.TheVariants.{Interface, Class}
use Rattle.jc_cap.specs.declared.record.VirtualTable.{VirtualTable}
use Rattle.jc_cap_desc.specs.Shape.{ClassShape, MethodShape, Shape}
use Rattle.jc_names.specs.Names.{is_same_name}
use Rattle.jc_classes.specs.Walk.{found}
use Rattle.jc_names.specs.Names.{home_of}
use Rattle.jc_classes.specs.World.{class_named, superclass_of}
use Rattle.jc_names.specs.declared.name.ClassName.{ClassName}
use Rattle.jc_classes.specs.declared.walk.Visit.{Visit}
use Rattle.jc_classes.specs.declared.walk.Visit.TheVariants.{Has, Nothing, Above}
use Rattle.jc_classes.specs.declared.extent.Places.{Places}
use Rattle.jc_names.specs.declared.name.MethodName.{MethodName}
use Rattle.jc_names.specs.declared.name.MethodName.TheVariants.{Api, Loaded}

-- the method of a class with a header at an offset; an interface's methods have none
abbrev pub method_of_class : ℕ → ClassShape → Option MethodShape
method_of_class offset k = if is_class k.body then find (λ m. m.offset == offset) k.methods else None

-- whether a package has a method at an offset
abbrev pub has_method : ℕ → Shape → Bool
has_method offset shape = list_any (λ k. is_some (method_of_class offset k)) shape.classes

-- the name of the method at an offset of the package at place `home`; for a member of the API, its number
abbrev pub method_name : ℕ → ℕ → MethodName
method_name home offset = if nat_lt home 2 then Api offset else Loaded (home - 1) offset

-- the method at an offset of the package at place `home`, if there is one
abbrev pub method_there : List Shape → ℕ → ℕ → Visit MethodName
method_there world home offset =
    if option_map_or (has_method offset) (slice_get world home) false then Has (method_name home offset) else Nothing

-- the entry of a table for a method that another package's class declares
abbrev pub declared_above : ℕ
declared_above = 0xFFFF

-- what an entry of a table answers
abbrev pub entry_visit : List Shape → ℕ → Option ℕ → Visit MethodName
entry_visit world home None = Nothing
entry_visit world home (Some offset) = if offset == declared_above then Above else method_there world home offset

-- what a table answers at a token: the superclass is asked below the base, in a table without methods, and if another
-- package's class declares the method; there is nothing after the last entry
abbrev pub table_visit : List Shape → ℕ → VirtualTable → ℕ → Visit MethodName
table_visit world home table token =
    if nat_lt token table.base || length table.methods == 0 then Above
    else entry_visit world home (slice_get table.methods (token - table.base))

-- tokens from this one on are package-visible
abbrev pub package_visible : ℕ
package_visible = 128

-- what a class with a record answers at a virtual token, for the package at place `asker`: a package-visible token
-- skips the classes of other packages
abbrev pub record_visit : List Shape → ℕ → ℕ → ℕ → RecordBody → Visit MethodName
record_visit world asker token home (Interface r) = Nothing
record_visit world asker token home (Class r) =
    if nat_lt token package_visible then table_visit world home r.public_methods token
    else (if home == asker then table_visit world home r.package_methods (token - package_visible) else Above)

abbrev pub virtual_visit : List Shape → ℕ → ℕ → ClassName → ClassShape → Visit MethodName
virtual_visit world asker token c k = record_visit world asker token (home_of c) k.body

-- the virtual method of a class at a token, for the package at place `asker`
abbrev pub virtual_method_of : List Shape → ClassName → ℕ → ℕ → Option MethodName
virtual_method_of world c token asker = found (virtual_visit world asker token) world c

-- whether the result is this class
abbrev pub is_this : ClassName → Option ClassName → Bool
is_this c None = false
is_this c (Some d) = is_same_name d c

-- the first of a class's rows for an interface
abbrev pub row_for : List Shape → ClassName → ℕ → List Implemented → Option Implemented
row_for world interface home rows = find (λ row. is_this interface (class_named world home row.interface)) rows

-- a row for the interface gives the virtual tokens of the interface's methods; without a row the superclass is asked
abbrev pub indexes_visit : Option Implemented → Visit (List ℕ)
indexes_visit None = Above
indexes_visit (Some row) = Has row.indexes

-- what a class with a record answers to the look-up of an interface
abbrev pub listing_visit : List Shape → ClassName → ℕ → RecordBody → Visit (List ℕ)
listing_visit world interface home (Interface r) = Nothing
listing_visit world interface home (Class r) = indexes_visit (row_for world interface home r.interfaces)

abbrev pub interface_visit : List Shape → ClassName → ClassName → ClassShape → Visit (List ℕ)
interface_visit world interface c k = listing_visit world interface (home_of c) k.body

-- the method of a public virtual token; a package-visible one has none
abbrev pub public_method_of : List Shape → ClassName → ℕ → Option MethodName
public_method_of world c token = if nat_lt token package_visible then virtual_method_of world c token 0 else None

-- the method of a list at a token
abbrev pub found_at : List (Option MethodName) → ℕ → Option MethodName
found_at methods token = slice_index_or methods token None

-- the list has the methods of a class at the 128 tokens from `first` on, for the package at place `asker`
abbrev pub AreMethodsOf : List Shape → ClassName → ℕ → ℕ → List (Option MethodName) → Type 0
AreMethodsOf world c first asker methods =
    (i : ℕ) → i < 128 → found_at methods i ≡ virtual_method_of world c (first + i) asker

-- whether a place is in a range of places
abbrev pub is_among : Places → ℕ → Bool
is_among places place = nat_le places.first place && nat_lt place places.end

-- no package outside these places finds a package-visible method of a class
abbrev pub FindsNothingElse : List Shape → ClassName → Places → Type 0
FindsNothingElse world c places = (token place : ℕ) → is_among places place ≡ false → package_visible ≤ token
    → token < 256 → virtual_method_of world c token place ≡ None

-- in a call from the package at this place, a class resolves package-visible tokens as its superclass does
abbrev pub FindsAbove : List Shape → ClassName → ℕ → Type 0
FindsAbove world c asker = (token : ℕ) → package_visible ≤ token → virtual_method_of world c token asker
    ≡ option_and_then (λ d. virtual_method_of world d token asker) (superclass_of world c)

-- the method of an object's class for an interface's token: the nearest class that lists the interface gives the
-- virtual token, which is looked up from the object's class
abbrev pub interface_method_of : List Shape → ClassName → ClassName → ℕ → Option MethodName
interface_method_of world c interface token =
    option_and_then (λ indexes. option_and_then (public_method_of world c) (slice_get indexes token))
    (found (interface_visit world interface) world c)
