-- Private. A class of a package with its methods, and those of its superclass.
use Rattle.std.specs.Prelude.{◌≡◌, ℕ, ◌-◌, ◌<◌, List, Option, Some, None, nat_lt, if◌then◌else◌}
use Rattle.jc_cap_desc.specs.Shape.{Shape}
use Rattle.jc_classes.specs.Methods.{found_at, package_visible, virtual_method_of}
use Rattle.jc_link.specs.Named.{method_above}
use Rattle.jc_names.specs.declared.name.ClassName.{ClassName}
use Rattle.jc_names.specs.declared.name.MethodName.{MethodName}
use Rattle.jc_link.specs.declared.methods.MethodsByToken.{MethodsByToken}

-- a class, the place of its package, and the world
pub record Asked : Type 0 where
  pub world : List Shape
  pub home : ℕ
  pub class : ClassName

-- the method at a token
abbrev pub method_in : MethodsByToken → ℕ → Option MethodName
method_in methods token =
    if nat_lt token package_visible then found_at methods.public token
    else found_at methods.visible (token - package_visible)

-- the methods of a class, for the package at place `asker`; a public method is the same for all packages
pub record AreAllMethodsOf (world : List Shape) (c : ClassName) (asker : ℕ) (methods : MethodsByToken) : Type 0 where
  pub all : (token : ℕ) → token < 256 → method_in methods token ≡ virtual_method_of world c token asker
  pub public : (token : ℕ) → token < package_visible
      → found_at methods.public token ≡ virtual_method_of world c token 0

-- the methods of the superclass, if there is one
abbrev pub above_at : Option MethodsByToken → ℕ → Option MethodName
above_at None token = None
above_at (Some methods) token = method_in methods token

abbrev pub AreMethodsAbove : List Shape → ℕ → ClassName → Option MethodsByToken → Type 0
AreMethodsAbove world home c methods =
    (token : ℕ) → token < 256 → above_at methods token ≡ method_above world home token c
