-- Packages that are linked to those before them, and the world of these (Java Card Virtual Machine Specification,
-- Linking).
use Rattle.std.specs.Prelude.{◌≡◌, ◌⊎◌, ℕ, ◌+◌, ◌<◌, ◌-◌, List, [], ◌∷◌, ◌++◌, map, length, take, true, Option, Some}
use Rattle.std.specs.Prelude.{Result, Ok, Err, is_some, slice_get}
use Rattle.jc_base.specs.declared.fault.LoadFault.{LoadFault}
use Rattle.jc_base.specs.declared.fault.LoadFault.TheVariants.{Memory}
use Rattle.jc_base.specs.Parts.{Infos}
use Rattle.jc_cap.specs.declared.applets.Applet.{Applet}
use Rattle.jc_cap_desc.specs.Across.{is_install_signature}
use Rattle.jc_cap_desc.specs.Package.{package_of}
use Rattle.jc_cap_desc.specs.Shape.{HasBody, HaveBodies, HaveHeaders, InstallMethods, IsConcrete, MethodBody}
use Rattle.jc_cap_desc.specs.Shape.{Package, Shape, StandApart}
use Rattle.jc_classes.specs.Growth.{grown}
use Rattle.jc_classes.specs.Limits.{most_packages}
use Rattle.jc_classes.specs.Members.{DeclaredMethod, method_at}
use Rattle.jc_classes.specs.Methods.{method_name}
use Rattle.jc_link.specs.Built.{IsBuilt}
use Rattle.jc_link.specs.Kept.{Kept, kept_of}
use Rattle.jc_link.specs.Target.{pool_targets}
use Rattle.jc_link.specs.WellFormed.{IsWellFormed, fault_behind}
use Rattle.jc_link.specs.declared.target.PoolTarget.{PoolTarget}

-- the rest of a linked package besides its shape: the part of its body that is kept, and the target of each entry of
-- its pool
pub record LinkedBody : Type 0 where
  pub kept : Kept
  pub targets : List PoolTarget

-- a package in the world to which it was linked: it is the last one there
pub record Linked : Type 0 where
  pub world : List Shape
  pub body : LinkedBody

-- the most packages of a world: the API's two and 64 loaded ones; a package that is being linked comes on top
abbrev pub most_in_world : ℕ
most_in_world = 66

-- the shapes of a world, the API's first, and the rest of its loaded packages
pub record World : Type 0 where
  pub shapes : List Shape
  pub bodies : List LinkedBody

-- the entries of a kept pool have its targets, at the place of its package
abbrev pub IsResolved : List Shape → ℕ → LinkedBody → Type 0
IsResolved world home body = map Some body.targets ≡ pool_targets world home body.kept.pool

-- each method of a class of the package at place `home` has its header
abbrev pub AreHeaded : List Shape → ℕ → Type 0
AreHeaded world home =
    (offset : ℕ) (d : DeclaredMethod) → method_at world (method_name home offset) ≡ Some d
    → is_some d.method.header ≡ true

-- each method of a class of the package at place `home`, unless it is abstract, has code
abbrev pub AreCoded : List Shape → ℕ → List MethodBody → Type 0
AreCoded world home methods = (offset : ℕ) (d : DeclaredMethod) → method_at world (method_name home offset) ≡ Some d
    → IsConcrete d.method → HasBody methods offset

-- a method that isn't abstract is declared at an offset of the package at place `home`
pub record HasDeclared (world : List Shape) (home offset : ℕ) : Type 0 where
  pub declared : DeclaredMethod
  pub there : method_at world (method_name home offset) ≡ Some declared
  pub concrete : IsConcrete declared.method

-- each method with code is declared by a class of the package at place `home`
abbrev pub AreDeclared : List Shape → ℕ → List MethodBody → Type 0
AreDeclared world home methods = (n : ℕ) (b : MethodBody) → slice_get methods n ≡ Some b
    → HasDeclared world home b.offset

-- a static method with code and the signature of an install method is declared at an offset of the package at place
-- `home`
pub record HasInstall (world : List Shape) (home : ℕ) (methods : List MethodBody) (offset : ℕ) : Type 0 where
  pub declared : DeclaredMethod
  pub there : method_at world (method_name home offset) ≡ Some declared
  pub static : declared.method.is_static ≡ true
  pub installs : is_install_signature declared.method.signature ≡ true
  pub coded : HasBody methods offset

-- each applet of the package at place `home` names such a method
abbrev pub AreInstallable : List Shape → ℕ → Kept → Type 0
AreInstallable world home kept = (applets : List Applet) (n : ℕ) (a : Applet) → kept.applets ≡ Some applets
    → slice_get applets n ≡ Some a → HasInstall world home kept.methods a.install

-- a loaded package at its place, with the part that is kept: it was read from an image, and it is well-formed in the
-- world of those before it. So it has all properties of linked packages: of its pool's types, its static image, its
-- classes
pub record IsLoadedAt (world : List Shape) (home : ℕ) (kept : Kept) : Type 0 where
  pub «package» : Package
  pub there : slice_get world home ≡ Some «package».shape
  pub fine : IsWellFormed (take home world) «package»
  pub kept_is : kept ≡ kept_of «package».body
  pub apart : StandApart «package».body.methods
  pub headers : HaveHeaders «package».shape
  pub bodies : HaveBodies «package»
  pub installs : InstallMethods «package»

-- what is known of a loaded package at its place: it was read and linked there; its pool is resolved; its classes'
-- methods have headers and, unless they are abstract, code; each method with code is one of them; its applets can be
-- installed
pub record IsKnown (world : List Shape) (home : ℕ) (body : LinkedBody) : Type 0 where
  pub loaded : IsLoadedAt world home body.kept
  pub resolved : IsResolved world home body
  pub headed : AreHeaded world home
  pub coded : AreCoded world home body.kept.methods
  pub declared : AreDeclared world home body.kept.methods
  pub installs : AreInstallable world home body.kept

-- an invariant of each linked package: it is the last of a world that is built of well-formed packages
pub record IsLast (l : Linked) : Type 0 where
  pub built : IsBuilt l.world
  pub known : IsKnown l.world (length l.world - 1) l.body

-- an invariant of each world: it is built of well-formed packages, and the loaded ones stand after the API's two
pub record IsWorld (w : World) : Type 0 where
  pub built : IsBuilt w.shapes
  pub count : length w.shapes ≡ 2 + length w.bodies
  pub known : (n : ℕ) (body : LinkedBody) → slice_get w.bodies n ≡ Some body → IsKnown w.shapes (2 + n) body

-- this package, linked to the packages of a world: it is well-formed there, and each entry of its pool has its target
pub record IsLinked (before : List Shape) (p : Package) (l : Linked) : Type 0 where
  pub fine : IsWellFormed before p
  pub world : l.world ≡ grown before p.shape
  pub kept : l.body.kept ≡ kept_of p.body
  pub targets : IsResolved l.world (length before) l.body

-- the parts of an image are a package, and this is it, linked to the packages of a world
pub record IsLinkedFrom (before : List Shape) (parts : Infos) (l : Linked) : Type 0 where
  pub «package» : Package
  pub read : package_of parts ≡ Ok «package»
  pub linked : IsLinked before «package» l

-- why a package isn't linked: the refusal of its reading, or the fault of its linking
abbrev pub refusal_of : List Shape → Result Package LoadFault → Option LoadFault
refusal_of before (Err fault) = Some fault
refusal_of before (Ok p) = fault_behind before p

-- a refusal: the refusal of reading, if there is no package; for a package its fault of linking, or out of memory
abbrev pub IsLinkRefusal : List Shape → Result Package LoadFault → LoadFault → Type 0
IsLinkRefusal before (Err why) fault = fault ≡ why
IsLinkRefusal before (Ok p) fault = (fault ≡ Memory) ⊎ (fault_behind before p ≡ Some fault)

-- a package was linked to a world as it is now
abbrev pub IsBoundTo : World → Linked → Type 0
IsBoundTo w l = (shape : Shape) × (l.world ≡ grown w.shapes shape)

-- the world with a linked package appended
abbrev pub with_linked : World → Linked → World
with_linked w l = record { shapes = l.world; bodies = w.bodies ++ l.body ∷ [] }

-- a world has these packages and one more, which was added last
pub record WasAdded (after : World) (shapes : List Shape) : Type 0 where
  pub before : World
  pub world : IsWorld before
  pub few : length before.shapes < most_packages
  pub shapes_are : shapes ≡ before.shapes
  pub linked : Linked
  pub added : after ≡ with_linked before linked
