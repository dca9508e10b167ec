-- Private. The rows of a class and of its superclasses, as a walk tests them that may end when it meets a class again;
-- and when a class fulfils them because its superclass does.
use Rattle.std.specs.Prelude.{◌≡◌, ℕ, ◌+◌, Bool, false, not, ◌&&◌, List}
use Rattle.std.specs.List.{list_any}
use Rattle.std.specs.Option.{option_map_or}
use Rattle.jc_cap.specs.ClassComponent.{is_class}
use Rattle.jc_cap_desc.specs.Shape.{ClassShape, Shape}
use Rattle.jc_classes.specs.Members.{name_of}
use Rattle.jc_classes.specs.Methods.{public_method_of}
use Rattle.jc_names.specs.Names.{is_same_name}
use Rattle.jc_names.specs.declared.name.ClassName.{ClassName}
use Rattle.jc_link.specs.Inherited.{ListedRow, rows_along}

-- a class on the way up, with n classes to go: the test of the rows from it gives the whole result, and the test of the
-- rows from the anchor, with the classes between the two added, gives the same as from it
pub record IsOnRows (test : ListedRow → Bool) (world : List Shape) (anchor at : ClassName) (n : ℕ)
    (total : Bool) : Type 0 where
  pub so_far : list_any test (rows_along world n at) ≡ total
  pub between : ℕ
  pub anchored : (m : ℕ) → list_any test (rows_along world (m + between) anchor) ≡ list_any test (rows_along world m at)

-- the class with a name, not abstract, of the package at place `home`
abbrev pub is_finished_as : ℕ → ClassName → ClassShape → Bool
is_finished_as home c k =
    option_map_or (is_same_name c) (name_of home k) false && is_class k.body && not k.is_abstract

-- two classes have the same public methods
abbrev pub FindSame : List Shape → ClassName → ClassName → Type 0
FindSame world c d = (token : ℕ) → public_method_of world c token ≡ public_method_of world d token
