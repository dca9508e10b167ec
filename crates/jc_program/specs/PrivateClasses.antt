-- Private. Tables of class numbers by name, and lists of names during their construction.
use Rattle.std.specs.Prelude.{◌≡◌, ℕ, suc, ◌-◌, ◌<◌, ◌==◌, ◌&&◌, ◌++◌, Bool, List, drop, length, Option, Some}
use Rattle.std.specs.Prelude.{slice_get}
use Rattle.std.specs.List.{filter_map, position}
use Rattle.jc_cap_desc.specs.Shape.{ClassShape, Shape}
use Rattle.jc_classes.specs.Growth.{grown}
use Rattle.jc_classes.specs.Members.{name_of}
use Rattle.jc_names.specs.Names.{offset_of}
use Rattle.jc_names.specs.declared.name.ClassName.{ClassName}
use Rattle.jc_names.specs.declared.name.ClassName.TheVariants.{Api, Loaded}
use Rattle.jc_program.specs.Classes.{StandAtWords, class_names, names_from}
use Rattle.jc_program.specs.PrivateLaid.{number_in}

-- the table that has a class: one table for both of the API's packages, since their classes have different numbers, and
-- one for each loaded package
abbrev pub table_of : ClassName → ℕ
table_of (Api class) = 0
table_of (Loaded number offset) = suc number

-- whether a class is the one at an offset of a table
abbrev pub is_placed : ℕ → ℕ → ClassName → Bool
is_placed table offset c = table_of c == table && offset_of c == offset

-- tables have the number of each class, the first one if a class is listed twice
abbrev pub AreClassNumbers : List (List (Option ℕ)) → List ClassName → Type 0
AreClassNumbers tables names = (table offset : ℕ) → number_in tables table offset
    ≡ position (is_placed table offset) names

-- each class has its number, and all numbers have 16 bits
pub record AreNumbered (tables : List (List (Option ℕ))) (names : List ClassName) : Type 0 where
  pub numbers : AreClassNumbers tables names
  pub few : length names < 0x10000

-- ---- lists of names during their construction

-- the names of a package's first `count` classes follow the names of before, and the offsets of these classes have 16
-- bits
pub record AreNamed (home count : ℕ) (classes : List ClassShape) (before now : List ClassName) : Type 0 where
  pub names : now ++ filter_map (name_of home) (drop count classes) ≡ before ++ filter_map (name_of home) classes
  pub offsets : (place : ℕ) (k : ClassShape) → place < count → slice_get classes place ≡ Some k → k.offset < 0x10000

-- the classes of a world's first `count` packages are named, and their offsets have 16 bits
pub record AreAllNamed (count : ℕ) (world : List Shape) (now : List ClassName) : Type 0 where
  pub names : now ++ names_from count (drop count world) ≡ class_names world
  pub offsets : (home : ℕ) (shape : Shape) → home < count → slice_get world home ≡ Some shape
      → StandAtWords shape.classes

-- ---- another package

-- the names are those of the classes of a world without its last package
pub record AreNamesBefore (world : List Shape) (names : List ClassName) : Type 0 where
  pub before : List Shape
  pub more : Shape
  pub world_is : world ≡ grown before more
  pub names_are : names ≡ class_names before

-- the classes of a world's last package have offsets of 16 bits
abbrev pub HaveLastWordOffsets : List Shape → Type 0
HaveLastWordOffsets world = (shape : Shape) → slice_get world (length world - 1) ≡ Some shape
    → StandAtWords shape.classes
