-- What the members of the API are in a world: what a native member's own calls rely on.
use Rattle.std.proofs.Common.{◌≡◌, ℕ, ◌<◌, true, List, Some}
use Rattle.jc_api.specs.Member.{ApiMember, member_of}
use Rattle.jc_api.specs.declared.class.ApiClass.{ApiClass}
use Rattle.jc_api.specs.declared.class.ApiClass.TheVariants.{Applet}
use Rattle.jc_api.specs.declared.member.MemberKind.TheVariants.{Static, Virtual}
use Rattle.jc_cap_desc.specs.Shape.{Shape}
use Rattle.jc_classes.specs.Members.{DeclaredMethod, method_at}
use Rattle.jc_classes.specs.Methods.{virtual_method_of}
use Rattle.jc_classes.specs.Subtype.{is_class_below}
use Rattle.jc_link.specs.Sound.{IsHeir}
use Rattle.jc_names.specs.declared.name.ClassName.{ClassName}
use Rattle.jc_names.specs.declared.name.ClassName.TheVariants as classes
use Rattle.jc_names.specs.declared.name.MethodName.{MethodName}
use Rattle.jc_names.specs.declared.name.MethodName.TheVariants.{Api}
use Rattle.jc_machine.specs.Calls.{virtual_member}

-- a virtual member stands in its class's table; what a class below finds there is declared by that class or below it.
-- If it is Applet's, no other member of the API is found there
pub record HasVirtual (world : List Shape) (number : ℕ) (class : ApiClass) : Type 0 where
  pub token : ℕ
  pub small : token < 256
  pub listed : virtual_member world number ≡ Some (record { class = classes.Api class; token = token })
  pub found : virtual_method_of world (classes.Api class) token 0 ≡ Some (Api number)
  pub below : (c : ClassName) (name : MethodName) (d : DeclaredMethod) → IsHeir world c (classes.Api class)
      → virtual_method_of world c token 0 ≡ Some name → method_at world name ≡ Some d
      → is_class_below world d.class (classes.Api class) ≡ true
  pub only : class ≡ Applet → (c : ClassName) (other : ℕ) → IsHeir world c (classes.Api class)
      → virtual_method_of world c token 0 ≡ Some (Api other) → other ≡ number

pub record HaveMembers (world : List Shape) : Type 0 where
  pub virtual : (number : ℕ) (x : ApiMember) → member_of number ≡ Some x → x.kind ≡ Virtual
      → HasVirtual world number x.class
  pub static : (number : ℕ) (x : ApiMember) (d : DeclaredMethod) → member_of number ≡ Some x → x.kind ≡ Static
      → method_at world (Api number) ≡ Some d → d.method.is_static ≡ true
