-- The classes and members of the API in the world of a card, by the API's tables (Java Card API Specification).
use Rattle.std.specs.Prelude.{◌≡◌, ℕ, zero, suc, ◌+◌, ◌==◌, ◌<◌, not, List, Some, None, if◌then◌else◌}
use Rattle.std.specs.List.{position}
use Rattle.std.specs.Option.{option_map, option_map_or}
use Rattle.jc_base.specs.Signature.{signature_map}
use Rattle.jc_cap.specs.ClassComponent.{is_class}
use Rattle.jc_cap_desc.specs.Shape.{ClassShape, Shape}
use Rattle.jc_api.specs.Bound.{Bound}
use Rattle.jc_api.specs.Class as tables
use Rattle.jc_api.specs.Member.{ApiMember, member_of}
use Rattle.jc_api.specs.declared.class.ApiClass.{ApiClass}
use Rattle.jc_api.specs.declared.class.ApiClass.TheVariants.{Object}
use Rattle.jc_api.specs.declared.member.MemberKind.TheVariants.{Virtual}
use Rattle.jc_classes.specs.Api.{class_in_api, method_in, record_in}
use Rattle.jc_classes.specs.Members.{DeclaredMethod, method_at}
use Rattle.jc_classes.specs.Methods.{package_visible, virtual_method_of}
use Rattle.jc_classes.specs.Record.{public_entries}
use Rattle.jc_classes.specs.Walk.{most_classes}
use Rattle.jc_classes.specs.World.{class_at, superclass_of}
use Rattle.jc_names.specs.declared.name.ClassName.{ClassName}
use Rattle.jc_names.specs.declared.name.ClassName.TheVariants.{Api}
use Rattle.jc_names.specs.declared.name.MethodName.{MethodName}
use Rattle.jc_names.specs.declared.name.MethodName.TheVariants as methods
use Rattle.jc_link.specs.MemberType.{method_type_of}
use Rattle.jc_link.specs.Named.{cells_above, size_of}
use Rattle.jc_link.specs.Sound.{IsHeir}
use Rattle.jc_link.specs.Target.{instance_type_of}

-- the number of cells of an object: those that its class and its superclasses declare, within n classes
abbrev pub cells_within : ℕ → ApiClass → ℕ
cells_within zero c = 0
cells_within (suc n) c = tables.size_of c + option_map_or (cells_within n) (tables.superclass_of c) 0

-- the API has 22 classes
abbrev pub cells_of : ApiClass → ℕ
cells_of c = cells_within 22 c

-- a class of the API in a world: it is a class or an interface, abstract or not, and has its superclass. Its objects
-- have these many cells; no field is declared for any of them
pub record StandsThere (world : List Shape) (c : ApiClass) : Type 0 where
  pub shape : ClassShape
  pub there : class_at world (Api c) ≡ Some shape
  pub class_or_not : is_class shape.body ≡ not (tables.is_interface c)
  pub abstract_or_not : shape.is_abstract ≡ tables.is_abstract c
  pub superclass : superclass_of world (Api c) ≡ option_map Api (tables.superclass_of c)
  pub size : size_of world (Api c) ≡ tables.size_of c
  pub cells : size_of world (Api c) + cells_above world most_classes (Api c) ≡ cells_of c
  pub fields : (token : ℕ) → instance_type_of world (Api c) token ≡ None

-- a class of the API as types count it
abbrev pub counted_name : ApiClass → ClassName
counted_name c = if tables.is_interface c then Api Object else Api c

-- a virtual member of the API in a world, by its number: its class's table has it at a public token, at which its class
-- finds it. If any class finds a method there that this class or a superclass of it declares, it is this member
pub record StandsAtToken (world : List Shape) (bound : Bound) (number : ℕ) (c : ApiClass) : Type 0 where
  pub token : ℕ
  pub public : token < package_visible
  pub listed : position (λ n. n == number) (public_entries (record_in bound c)) ≡ Some token
  pub found : virtual_method_of world (Api c) token 0 ≡ Some (methods.Api number)
  pub only : (d : ClassName) (name : MethodName) (m : DeclaredMethod) → virtual_method_of world d token 0 ≡ Some name
      → method_at world name ≡ Some m → IsHeir world (Api c) m.class → name ≡ methods.Api number

-- a world stands on the API, with a binding: it has each class and each member, with its type. Every method that a
-- class of the API finds is a member of the API, and no member is in its class's table at a token that isn't public
pub record StandsOnApi (world : List Shape) : Type 0 where
  pub stands : (c : ApiClass) → StandsThere world c
  pub bound : Bound
  pub classes : (c : ApiClass) → class_at world (Api c) ≡ Some (class_in_api bound c)
  pub members : (number : ℕ) (m : ApiMember) → member_of number ≡ Some m → method_at world (methods.Api number)
      ≡ Some (record { class = Api m.class; method = method_in bound number m })
  pub types : (number : ℕ) (m : ApiMember) → member_of number ≡ Some m
      → method_type_of world (methods.Api number) ≡ Some (signature_map counted_name m.signature)
  pub found : (c : ApiClass) (token asker : ℕ) (name : MethodName)
      → virtual_method_of world (Api c) token asker ≡ Some name → (number : ℕ) × (name ≡ methods.Api number)
  pub public : (c : ApiClass) (number token : ℕ) (m : ApiMember) → member_of number ≡ Some m
      → position (λ n. n == number) (public_entries (record_in bound c)) ≡ Some token → token < package_visible
  pub virtual : (number : ℕ) (m : ApiMember) → member_of number ≡ Some m → m.kind ≡ Virtual
      → StandsAtToken world bound number m.class
