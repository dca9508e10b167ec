-- Private. The superclass in which a class finds its package-visible methods.
use Rattle.std.specs.Prelude.{◌≡◌, ◌≢◌, ℕ, ◌<◌, ◌≤◌, List, Some, None, Option, slice_get, true}
use Rattle.jc_cap_desc.specs.Shape.{Shape}
use Rattle.jc_classes.specs.Methods.{package_visible, virtual_method_of}
use Rattle.jc_names.specs.Names.{home_of}
use Rattle.jc_names.specs.declared.name.ClassName.{ClassName}
use Rattle.jc_program.specs.declared.nearest.Nearest.{Nearest}

-- for the package at a place, a class finds at package-visible tokens the methods that another class finds
abbrev pub FindsAs : List Shape → ClassName → ClassName → ℕ → Type 0
FindsAs world c d asker = (token : ℕ) → package_visible ≤ token
    → virtual_method_of world c token asker ≡ virtual_method_of world d token asker

-- the same, with the other class given by its number; without a number, the class finds nothing
abbrev pub FindsAsNumber : List Shape → List ClassName → ClassName → Option ℕ → ℕ → Type 0
FindsAsNumber world names c None asker = (token : ℕ) → package_visible ≤ token
    → virtual_method_of world c token asker ≡ None
FindsAsNumber world names c (Some n) asker =
    (d : ClassName) × (slice_get names n ≡ Some d) × FindsAs world c d asker

-- packages other than the class's own find the methods of the nearest class, which is one of the first `count` classes;
-- all packages do, if the class shares its methods
pub record IsNearest (world : List Shape) (names : List ClassName) (count : ℕ) (c : ClassName)
    (nearest : Nearest) : Type 0 where
  pub within : (n : ℕ) → nearest.number ≡ Some n → n < count
  pub others : (asker : ℕ) → home_of c ≢ asker → FindsAsNumber world names c nearest.number asker
  pub all : nearest.shares ≡ true → (asker : ℕ) → FindsAsNumber world names c nearest.number asker
