-- Private. Rows of supertypes during their construction.
use Rattle.std.specs.Prelude.{◌≡◌, ◌⊎◌, ℕ, ◌+◌, ◌<◌, ◌≤◌, ◌==◌, ◌&&◌, ◌||◌, true, false, List, [], ◌∷◌, ◌++◌}
use Rattle.std.specs.Prelude.{length, map, Some, slice_get, unwrap_or}
use Rattle.std.specs.Option.{option_to_list}
use Rattle.jc_api.specs.declared.class.ApiClass.TheVariants.{Object}
use Rattle.jc_cap_desc.specs.Shape.{Shape}
use Rattle.jc_classes.specs.Growth.{grown}
use Rattle.jc_classes.specs.Subtype.{is_subtype}
use Rattle.jc_classes.specs.World.{interfaces_of, superclass_of}
use Rattle.jc_names.specs.Names.{is_same_name}
use Rattle.jc_names.specs.declared.name.ClassName.{ClassName}
use Rattle.jc_names.specs.declared.name.ClassName.TheVariants.{Api}
use Rattle.jc_program.specs.BitRow.{has_bit}
use Rattle.jc_program.specs.Classes.{class_names, class_number}
use Rattle.jc_program.specs.Supertypes.{AreSupertypes, is_listed}

-- each of these classes has a number, listed here
abbrev pub AreNumbersOf : List ClassName → List ClassName → List ℕ → Type 0
AreNumbersOf names classes numbers = map Some numbers ≡ map (class_number names) classes

-- a class, its superclass and the interfaces that it lists
abbrev pub itself_and_above : List Shape → ClassName → List ClassName
itself_and_above world c = c ∷ (option_to_list (superclass_of world c) ++ interfaces_of world c)

-- the lists have the numbers of each class, its superclass and its interfaces, for the classes from `first` on
pub record AreAbove (world : List Shape) (names : List ClassName) (first : ℕ) (lists : List (List ℕ)) : Type 0 where
  pub there : (k : ℕ) (c : ClassName) → k < length lists → slice_get names (first + k) ≡ Some c
      → AreNumbersOf names (itself_and_above world c) (unwrap_or (slice_get lists k) [])

-- rows have only numbers below `count`
abbrev pub AreWithin : ℕ → List (List ℕ) → Type 0
AreWithin count rows = (k m : ℕ) → is_listed rows k m ≡ true → m < count

-- of the first `done` numbers a row has those of Object, and no others
pub record HasObjects (names : List ClassName) (done : ℕ) (row : List ℕ) : Type 0 where
  pub before : (m : ℕ) (d : ClassName) → m < done → slice_get names m ≡ Some d
      → has_bit row m ≡ is_same_name (Api Object) d
  pub behind : (m : ℕ) → done ≤ m → has_bit row m ≡ false

-- the rows of the classes from `first` on, as they begin: each has Object's numbers, and the row of the first class
-- with a name has the numbers of all classes with this name, for the first `done` numbers
pub record AreBegun (names : List ClassName) (first done : ℕ) (rows : List (List ℕ)) : Type 0 where
  pub count : first + length rows ≡ length names
  pub object : (k m : ℕ) (d : ClassName) → k < length rows → slice_get names m ≡ Some d
      → is_same_name (Api Object) d ≡ true → is_listed rows k m ≡ true
  pub own : (k m : ℕ) (d : ClassName) → m < done → slice_get names m ≡ Some d
      → class_number names d ≡ Some (first + k) → is_listed rows k m ≡ true
  pub only : (k m : ℕ) (d : ClassName) → is_listed rows k m ≡ true → slice_get names m ≡ Some d
      → (is_same_name (Api Object) d ≡ true) ⊎ (class_number names d ≡ Some (first + k))
  pub within : AreWithin (length names) rows

-- `number` was put into the row of `class`, if that is among the rows; `first` is the class of the first row
pub record IsPut (first class number : ℕ) (old new : List (List ℕ)) : Type 0 where
  pub count : length new ≡ length old
  pub bits : (k m : ℕ) → k < length old
      → is_listed new k m ≡ (is_listed old k m || (first + k == class && m == number))

-- the rows of the first classes have exactly their supertypes
abbrev pub AreRight : List Shape → List ClassName → List (List ℕ) → Type 0
AreRight world names rows = (number other : ℕ) (c d : ClassName) → number < length rows
    → slice_get names number ≡ Some c → slice_get names other ≡ Some d
    → is_listed rows number other ≡ is_subtype world c d

-- the rows are those of a world without its last package
pub record AreRowsBefore (world : List Shape) (names : List ClassName) (rows : List (List ℕ)) : Type 0 where
  pub before : List Shape
  pub more : Shape
  pub world_is : world ≡ grown before more
  pub names_are : names ≡ class_names world
  pub count : length rows ≡ length (class_names before)
  pub right : AreSupertypes before (class_names before) rows
  pub within : AreWithin (length rows) rows
