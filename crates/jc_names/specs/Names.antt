-- Names of classes and methods, which are unique in a world of packages, and their places there (Java Card Virtual
-- Machine Specification, CAP file format: class_ref; Linking).
use Rattle.std.specs.Prelude.{ℕ, zero, suc, ◌-◌, ◌==◌, Bool, false, ◌&&◌, Option, Some, None, nat_lt, if◌then◌else◌}
use Rattle.std.specs.Option.{option_and_then, option_map}
use Rattle.jc_api.specs.Class.{class_of, number_of, package_of}
use Rattle.jc_api.specs.Member.{member_of}
use Rattle.jc_api.specs.declared.class.ApiPackage.{ApiPackage}
use Rattle.jc_api.specs.declared.class.ApiPackage.TheVariants.{Lang, Framework}
use Rattle.jc_names.specs.declared.name.ClassName.{ClassName}
use Rattle.jc_names.specs.declared.name.ClassName.TheVariants.{Api, Loaded}
use Rattle.jc_names.specs.declared.name.MethodName.{MethodName}
use Rattle.jc_names.specs.declared.name.MethodName.TheVariants as methods

-- ---- packages: a world has those of the API first, and after them the loaded ones, with numbers from 1 on

-- the place of a package of the API
abbrev pub api_home : ApiPackage → ℕ
api_home Lang = 0
api_home Framework = 1

-- the place of the loaded package with a number, and the number of the package at a place, if it is a loaded one
abbrev pub home_at : ℕ → ℕ
home_at number = suc number

abbrev pub number_at : ℕ → Option ℕ
number_at home = if nat_lt home 2 then None else Some (home - 1)

-- ---- classes

-- the place of a class's package
abbrev pub home_of : ClassName → ℕ
home_of (Api class) = api_home (package_of class)
home_of (Loaded number offset) = home_at number

-- the offset of a class in its package; for a class of the API, its number
abbrev pub offset_of : ClassName → ℕ
offset_of (Api class) = number_of class
offset_of (Loaded number offset) = offset

-- the class of the API with a number, if it is in the package at this place
abbrev pub api_name : ℕ → ℕ → Option ClassName
api_name home number =
    option_and_then (λ class. if api_home (package_of class) == home then Some (Api class) else None) (class_of number)

-- the name of the class at an offset of the package at this place
abbrev pub name_in : ℕ → ℕ → Option ClassName
name_in home offset = if nat_lt home 2 then api_name home offset else Some (Loaded (home - 1) offset)

-- whether two names are equal
abbrev pub is_same_name : ClassName → ClassName → Bool
is_same_name (Api a) (Api b) = number_of a == number_of b
is_same_name (Loaded p m) (Loaded q n) = p == q && m == n
is_same_name (Api a) (Loaded q n) = false
is_same_name (Loaded p m) (Api b) = false

-- ---- methods

-- the place of a method's package, if it has one
abbrev pub method_home : MethodName → Option ℕ
method_home (methods.Api member) = option_map (λ m. api_home (package_of m.class)) (member_of member)
method_home (methods.Loaded zero offset) = None
method_home (methods.Loaded (suc n) offset) = Some (suc (suc n))

-- the offset of a method in its package; for a member of the API, its number
abbrev pub method_offset : MethodName → ℕ
method_offset (methods.Api member) = member
method_offset (methods.Loaded number offset) = offset
