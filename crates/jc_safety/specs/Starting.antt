-- When a runtime call may begin (Java Card Runtime Environment Specification, Applet lifetime): what is kept beside
-- frames is typed, and the called method exists and may begin with the arguments.
use Rattle.std.specs.Prelude.{◌≡◌, ℕ, true, false, List, ◌∷◌, Option, Some, None}
use Rattle.std.specs.Option.{option_and_then}
use Rattle.jc_api.specs.Member.{ApiMember, member_of}
use Rattle.jc_api.specs.declared.member.MemberKind.TheVariants.{Virtual}
use Rattle.jc_base.specs.Signature.{Signature}
use Rattle.jc_cap_desc.specs.Shape.{Shape}
use Rattle.jc_cap.specs.declared.method_header.MethodHeader.{MethodHeader}
use Rattle.jc_classes.specs.Members.{DeclaredMethod, method_at}
use Rattle.jc_classes.specs.Methods.{virtual_method_of}
use Rattle.jc_names.specs.declared.name.ClassName.{ClassName}
use Rattle.jc_names.specs.declared.name.ClassName.TheVariants as classes
use Rattle.jc_names.specs.declared.name.MethodName.{MethodName}
use Rattle.jc_names.specs.declared.name.MethodName.TheVariants.{Api, Loaded}
use Rattle.jc_store.specs.Heap.{Object, object_at}
use Rattle.jc_machine.specs.Calls.{VirtualMember, frame_of, native_may_begin, type_of_member, virtual_member}
use Rattle.jc_machine.specs.Lookup.{are_of_types, class_of, declared_at, is_of_class}
use Rattle.jc_machine.specs.Machine.{Frame, MethodPlace, Surroundings}
use Rattle.jc_machine.specs.Step.{Start, may_begin, no_frame, standing}
use Rattle.jc_machine.specs.Typed.{IsTypedBeside}
use Rattle.jc_words.specs.Values.{Ref, TaggedValue}

-- a method of a loaded package that isn't abstract, on arguments of its types, as many as its header says
pub record MethodCanBegin {C : Type 0} (s : Surroundings C) (start : Start C) (place : MethodPlace) : Type 0 where
  pub declared : DeclaredMethod
  pub found : declared_at s.world place ≡ Some declared
  pub header : MethodHeader
  pub header_is : declared.method.header ≡ Some header
  pub begins : may_begin s start declared header ≡ true

-- a native member on arguments of its types, and no static one: only static ones make calls
pub record MemberCanBegin {C : Type 0} (s : Surroundings C) (start : Start C) (member : ℕ) : Type 0 where
  pub declared : DeclaredMethod
  pub found : method_at s.world.shapes (Api member) ≡ Some declared
  pub instance : declared.method.is_static ≡ false
  pub begins : native_may_begin s.world.shapes start.heap member start.arguments ≡ true

abbrev pub CanBegin : {C : Type 0} → Surroundings C → Start C → MethodName → Type 0
CanBegin s start (Loaded number offset) = MethodCanBegin s start (record { number = number; offset = offset })
CanBegin s start (Api member) = MemberCanBegin s start member

-- the first frame, of a method of a loaded package
abbrev pub first_frame : {C : Type 0} → Start C → MethodPlace → MethodHeader → Frame
first_frame start place header = frame_of place header start.arguments start.owner None

pub record IsTypedStart {C : Type 0} (s : Surroundings C) (start : Start C) : Type 0 where
  pub beside : IsTypedBeside s (standing start (no_frame start.owner))
  pub can_begin : CanBegin s start start.method

-- ---- virtual members of the API, called on an object

-- the method of an object's class in the place of a member, if it has one
abbrev pub method_for : List Shape → Object TaggedValue → ℕ → Option MethodName
method_for world object member =
    option_and_then (λ (m : VirtualMember). virtual_method_of world (class_of object.kind.object_type) m.token 0)
    (virtual_member world member)

-- a virtual member and an object of its class, followed by arguments of the member's types
pub record IsMemberCall {C : Type 0} (s : Surroundings C) (start : Start C) (member : ℕ) (object : Object TaggedValue)
    : Type 0 where
  pub of : ApiMember
  pub of_is : member_of member ≡ Some of
  pub virtual : of.kind ≡ Virtual
  pub number : ℕ
  pub there : object_at start.heap number ≡ Some object
  pub below : is_of_class s.world.shapes (classes.Api of.class) object.kind.object_type ≡ true
  pub arguments : List TaggedValue
  pub arguments_are : start.arguments ≡ Ref number ∷ arguments
  pub signature : Signature ClassName
  pub declared : type_of_member s.world.shapes member ≡ Some signature
  pub fit : are_of_types s.world.shapes start.heap signature.parameters arguments ≡ true

-- its class has a method in the member's place, and the call can begin
pub record FindsMethod {C : Type 0} (s : Surroundings C) (start : Start C) (member : ℕ) (object : Object TaggedValue)
    : Type 0 where
  pub name : MethodName
  pub found : method_for s.world.shapes object member ≡ Some name
  pub can_begin : CanBegin s start name
