-- Well-typed defensive machines: values have the types with which the code was checked, and declared types elsewhere.
use Rattle.std.specs.Prelude.{⊤, ◌≡◌, ℕ, ◌<◌, Bool, true, false, List, [], ◌∷◌, length, Option, Some, None, IsSome, Ok}
use Rattle.std.specs.List.{AllByRecursion}
use Rattle.std.specs.Option.{option_and_then, option_map_or}
use Rattle.jc_base.specs.declared.declared_type.DeclaredType.{DeclaredType}
use Rattle.jc_cap_desc.specs.Shape.{MethodBody, Shape}
use Rattle.jc_check.specs.Package.{method_of, package_rules}
use Rattle.jc_check.specs.Typing.{IsShaped, IsTyping, Leads, Typing}
use Rattle.jc_classes.specs.Subtype.{is_class_below}
use Rattle.jc_names.specs.declared.name.ClassName.{ClassName}
use Rattle.jc_code.specs.declared.instr.Instr.{Instr}
use Rattle.jc_code.specs.declared.instr.Operation.TheVariants.{Object as OnObjects}
use Rattle.jc_code.specs.declared.object.Invocation.{Invocation}
use Rattle.jc_code.specs.declared.object.ObjectOperation.TheVariants.{Invoke}
use Rattle.jc_link.specs.Linked.{LinkedBody, World}
use Rattle.jc_link.specs.MemberType.{counted}
use Rattle.jc_link.specs.Target.{static_type_of}
use Rattle.jc_link.specs.declared.named.StaticPlace.{StaticPlace}
use Rattle.jc_effects.specs.Method.{result_of}
use Rattle.jc_effects.specs.Objects.{has_objects}
use Rattle.jc_store.specs.Heap as heaps
use Rattle.jc_store.specs.Heap.{Heap}
use Rattle.jc_store.specs.declared.kind.ObjectType.{ObjectType}
use Rattle.jc_store.specs.declared.kind.ObjectType.TheVariants.{Instance, BooleanArray, ByteArray, ShortArray}
use Rattle.jc_store.specs.declared.kind.ObjectType.TheVariants.{ReferenceArray}
use Rattle.jc_types.specs.State.{Types}
use Rattle.jc_types.specs.declared.ty.Ty.{Ty}
use Rattle.jc_types.specs.declared.ty.Ty.TheVariants as types
use Rattle.jc_machine.specs.Accepted.{linked_as}
use Rattle.jc_machine.specs.Reading.{Pointwise}
use Rattle.jc_machine.specs.Fields.{static_at}
use Rattle.jc_names.specs.Names.{home_at}
use Rattle.jc_machine.specs.Lookup.{body_at, code_at, component_class, declared_at, fields_of, instruction_at, is_array}
use Rattle.jc_machine.specs.Lookup.{is_boolean_array, is_byte, is_byte_array, is_instance, is_kept_as, is_of_class}
use Rattle.jc_machine.specs.Lookup.{is_short_array, is_word, leads_to, of_package}
use Rattle.jc_machine.specs.Machine.{Frame, Machine, StaticValue, Surroundings}
use Rattle.jc_machine.specs.Objects.{is_null}
use Rattle.jc_machine.specs.Runtime.{HasRuntimeObjects}
use Rattle.jc_words.specs.Values.{TaggedValue, is_written}

-- ---- values

-- whether a value has a verification type. Any value, even an unset one, has the type Top
abbrev pub has_type : List Shape → Heap TaggedValue → TaggedValue → Ty → Bool
has_type world heap v types.Top = true
has_type world heap v types.Word = is_word v
has_type world heap v types.Null = is_null v
has_type world heap v (types.Class c) = leads_to heap (is_of_class world c) v
has_type world heap v types.BooleanArray = leads_to heap is_boolean_array v
has_type world heap v types.ByteArray = leads_to heap is_byte_array v
has_type world heap v types.ShortArray = leads_to heap is_short_array v
has_type world heap v (types.ReferenceArray c) =
    leads_to heap
    (λ object. option_map_or (λ e. is_class_below world (counted world e) c) (component_class object) false) v

-- local variables of these types
abbrev pub HaveTypes : List Shape → Heap TaggedValue → List TaggedValue → List Ty → Type 0
HaveTypes world heap vs ts = Pointwise (λ v t. has_type world heap v t ≡ true) vs ts

-- an operand of a type: it was written, whatever the type
pub record IsOperand (world : List Shape) (heap : Heap TaggedValue) (v : TaggedValue) (t : Ty) : Type 0 where
  pub type : has_type world heap v t ≡ true
  pub written : is_written v ≡ true

-- operands of these types
abbrev pub HoldTypes : List Shape → Heap TaggedValue → List TaggedValue → List Ty → Type 0
HoldTypes world heap vs ts = Pointwise (IsOperand world heap) vs ts

-- ---- objects and static fields

-- whether a cell of an object may hold a value: the cell of a field a value of the field's type, any other cell a word
abbrev pub is_cell : List Shape → Heap TaggedValue → Option (DeclaredType ClassName) → TaggedValue → Bool
is_cell world heap None v = is_word v
is_cell world heap (Some declared) v = is_kept_as world heap declared v

-- cells hold what the object's type says: components of booleans and bytes are low bytes; components of an array of
-- references are null or references to instances of its class or interface
abbrev pub CellsTyped : List Shape → Heap TaggedValue → List TaggedValue → ObjectType → Type 0
CellsTyped world heap cells (Instance c) =
    Pointwise (λ v field. is_cell world heap field v ≡ true) cells (fields_of world c)
CellsTyped world heap cells BooleanArray = AllByRecursion (λ v. is_byte v ≡ true) cells
CellsTyped world heap cells ByteArray = AllByRecursion (λ v. is_byte v ≡ true) cells
CellsTyped world heap cells ShortArray = AllByRecursion (λ v. is_word v ≡ true) cells
CellsTyped world heap cells (ReferenceArray c) =
    AllByRecursion (λ v. leads_to heap (is_instance world c) v ≡ true) cells

-- an object may have this type: an instance's class exists and isn't abstract
abbrev pub may_be_made : List Shape → ObjectType → Bool
may_be_made world (Instance c) = has_objects world c
may_be_made world BooleanArray = true
may_be_made world ByteArray = true
may_be_made world ShortArray = true
may_be_made world (ReferenceArray c) = true

-- an object whose cells are typed; the length of an array is a word
pub record ObjectTyped (world : List Shape) (heap : Heap TaggedValue) (o : heaps.Object TaggedValue) : Type 0 where
  pub made : may_be_made world o.kind.object_type ≡ true
  pub cells : CellsTyped world heap o.cells o.kind.object_type
  pub counted : is_array o.kind.object_type ≡ true → length o.cells < 65536

abbrev pub HeapTyped : List Shape → Heap TaggedValue → Type 0
HeapTyped world heap = AllByRecursion (ObjectTyped world heap) heap

-- the value of a static field is one that the field may hold, by its declared type
pub record StaticTyped (world : List Shape) (heap : Heap TaggedValue) (home : ℕ) (s : StaticValue) : Type 0 where
  pub declared : DeclaredType ClassName
  pub found : static_type_of world (record { home = home; offset = s.offset }) ≡ Some declared
  pub typed : is_kept_as world heap declared s.value ≡ true

-- each loaded package has its static fields, and each declared field has a value
pub record StaticsTyped (w : World) (heap : Heap TaggedValue) (statics : List (List StaticValue)) : Type 0 where
  pub count : length statics ≡ length w.bodies
  pub typed : (number : ℕ) (fields : List StaticValue) → of_package statics number ≡ Some fields
      → AllByRecursion (StaticTyped w.shapes heap (home_at number)) fields
  pub present : (place : StaticPlace) (declared : DeclaredType ClassName)
      → static_type_of w.shapes place ≡ Some declared → IsSome (static_at statics place.home place.offset)

-- ---- frames

-- a frame's method as the check sees it, with a typing whose states have the method's shape and include one at the
-- frame's pc, which types the frame's locals
pub record IsPlaced (w : World) (heap : Heap TaggedValue) (f : Frame) : Type 0 where
  pub body : LinkedBody
  pub loaded : body_at w f.method.number ≡ Some body
  pub code : MethodBody
  pub there : code_at w f.method ≡ Some code
  pub typing : Typing
  pub typed : IsTyping (package_rules (linked_as w f.method.number body))
      (method_of (linked_as w f.method.number body) code) typing
  pub shaped : IsShaped (method_of (linked_as w f.method.number body) code) typing
  pub state : Types
  pub stated : typing f.pc ≡ Some state
  pub locals_typed : HaveTypes w.shapes heap f.locals state.locals

-- the running frame: its operands also have the types of this state
pub record RunsTyped (w : World) (heap : Heap TaggedValue) (f : Frame) : Type 0 where
  pub placed : IsPlaced w heap f
  pub operands_typed : HoldTypes w.shapes heap f.operands placed.state.operands

-- the declared result of a frame's method
abbrev pub given_by : World → Frame → Option Ty
given_by w f = option_and_then (result_of w.shapes) (declared_at w f.method)

-- operand types with a result on top, if there is one
abbrev pub with_result_type : Option Ty → List Ty → List Ty
with_result_type None ts = ts
with_result_type (Some t) ts = t ∷ ts

-- an instruction of a frame's method leads from one state to another, as the check sees it
abbrev pub IsEffect : World → Frame → LinkedBody → MethodBody → Instr → Types → Types → Type 0
IsEffect w f body code instr before after =
    let linked = linked_as w f.method.number body in
    let method = method_of linked code in
    (package_rules linked).effect method.max_stack method.returned instr.operation before ≡ Ok after

-- a frame that waits for a result is at a call. Its remaining operands have types that, with the result on top, are
-- those of a state after the call, from which the call leads to the next pc
pub record WaitsTyped (w : World) (heap : Heap TaggedValue) (result : Option Ty) (f : Frame) : Type 0 where
  pub placed : IsPlaced w heap f
  pub call : Instr
  pub stands : instruction_at placed.code.code f.pc ≡ Some call
  pub invocation : Invocation
  pub invokes : call.operation ≡ OnObjects (Invoke invocation)
  pub left : List Ty
  pub after : Types
  pub after_is : after ≡ record { locals = placed.state.locals; operands = with_result_type result left }
  pub effect : IsEffect w f placed.body placed.code call placed.state after
  pub leads : Leads (package_rules (linked_as w f.method.number placed.body)) placed.typing after call.next_pc
  pub operands_typed : HoldTypes w.shapes heap f.operands left

-- waiting frames, each waiting for the result of the frame inside it
abbrev pub WaitTyped : World → Heap TaggedValue → Option Ty → List Frame → Type 0
WaitTyped w heap result [] = ⊤
WaitTyped w heap result (f ∷ waiting) = WaitsTyped w heap result f × WaitTyped w heap (given_by w f) waiting

-- ---- machines

-- all of a machine but its frames is typed: the objects and the static fields are typed, the runtime's own objects
-- exist, and what the runtime keeps fits the objects
pub record IsTypedBeside {C : Type 0} (s : Surroundings C) (m : Machine C) : Type 0 where
  pub heap : HeapTyped s.world.shapes m.heap
  pub statics : StaticsTyped s.world m.heap m.statics
  pub runtime_objects : HasRuntimeObjects m.heap
  pub fits : s.natives.fits s.world m.heap m.runtime ≡ true

-- a machine is typed: all but its frames, the running frame, and the waiting frames
pub record IsTyped {C : Type 0} (s : Surroundings C) (m : Machine C) : Type 0 where
  pub beside : IsTypedBeside s m
  pub top : RunsTyped s.world m.heap m.top
  pub waiting : WaitTyped s.world m.heap (given_by s.world m.top) m.waiting
