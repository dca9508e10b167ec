-- Which object an instruction accesses, and by which access (Java Card Virtual Machine Specification, Instruction Set;
-- Java Card Runtime Environment Specification, Class and Object Access Behavior). A table gives each instruction a row:
-- the access, and the place of the reference to the object. The law says that a step lists the access of its
-- instruction's row, followed only by those of native members that it calls, or the runtime's own.
use Rattle.std.specs.Prelude.{◌≡◌, ℕ, ◌-◌, true, List, [], ◌∷◌, ◌++◌, length, Option, Some, None, slice_get}
use Rattle.std.specs.List.{AllByRecursion}
use Rattle.std.specs.Option.{option_and_then}
use Rattle.jc_code.specs.declared.instr.Operation.{Operation}
use Rattle.jc_code.specs.declared.instr.Operation.TheVariants as operations
use Rattle.jc_code.specs.declared.object.Creation.{Creation}
use Rattle.jc_code.specs.declared.object.FieldAction.{FieldAction}
use Rattle.jc_code.specs.declared.object.FieldAction.TheVariants.{Get, Put}
use Rattle.jc_code.specs.declared.object.Form.{Form}
use Rattle.jc_code.specs.declared.object.Form.TheVariants as Forms
use Rattle.jc_code.specs.declared.object.Holder.{Holder}
use Rattle.jc_code.specs.declared.object.Holder.TheVariants as Holders
use Rattle.jc_code.specs.declared.object.Invocation.{Invocation}
use Rattle.jc_code.specs.declared.object.Invocation.TheVariants.{Virtual, Special, Static, Interface}
use Rattle.jc_code.specs.declared.object.ObjectOperation.{ObjectOperation}
use Rattle.jc_code.specs.declared.object.ObjectOperation.TheVariants as objects
use Rattle.jc_code.specs.declared.object.TestedType.{TestedType}
use Rattle.jc_code.specs.declared.object.TestedType.TheVariants as Tested
use Rattle.jc_effects.specs.Objects.{class_target}
use Rattle.jc_firewall.specs.declared.access.Access.{Access}
use Rattle.jc_firewall.specs.declared.access.Access.TheVariants as accesses
use Rattle.jc_link.specs.Linked.{World}
use Rattle.jc_names.specs.declared.name.ClassName.{ClassName}
use Rattle.jc_machine.specs.Calls.{VirtualTarget, native_may_begin, virtual_target}
use Rattle.jc_machine.specs.Going.{runtime_touch}
use Rattle.jc_machine.specs.Guarded.{StandsAt, frame_answer}
use Rattle.jc_machine.specs.Lookup.{target_at}
use Rattle.jc_machine.specs.Machine.{ByCode, Callback, Calls, Frame, Machine, NativeEnd, Outcome, Stuck, Surroundings}
use Rattle.jc_machine.specs.Machine.{Touch}
use Rattle.jc_machine.specs.Natives.{IsOfReceiver}
use Rattle.jc_machine.specs.Runtime.{system_exception}
use Rattle.jc_machine.specs.Step.{defensive_step}
use Rattle.jc_words.specs.Values.{Null, Ref, TaggedValue}

-- ---- the table

-- a place in a frame: an operand by number, where the top operand is number 0; or a local variable
pub data FramePlace : Type 0 where
  Operand : (number : ℕ) → FramePlace
  Local : (number : ℕ) → FramePlace

-- the value at a place
abbrev pub value_at : Frame → FramePlace → Option TaggedValue
value_at f (Operand number) = slice_get f.operands number
value_at f (Local number) = slice_get f.locals number

-- a row of the table: the access; the place of the reference to the object that the instruction accesses; the place of
-- the stored value, if the access names it; and the class or interface that it calls or casts to, if it names one
pub record Row : Type 0 where
  pub access : Access
  pub object : FramePlace
  pub stored : Option FramePlace
  pub wanted : Option ClassName

-- an access that stores no reference and names no class
abbrev pub uses : Access → FramePlace → Option Row
uses access object = Some (record { access = access; object = object; stored = None; wanted = None })

-- an access that stores the top operand
abbrev pub stores : Access → FramePlace → Option Row
stores access object = Some (record { access = access; object = object; stored = Some (Operand 0); wanted = None })

-- an access that stores no reference, and names a class or an interface
abbrev pub names : Access → FramePlace → Option ClassName → Option Row
names access object wanted = Some (record { access = access; object = object; stored = None; wanted = wanted })

-- the class or interface that an entry of a package's constant pool names
abbrev pub class_named : World → ℕ → ℕ → Option ClassName
class_named w number index = option_and_then class_target (target_at w number index)

-- aastore, bastore and sastore: the array is below the index and the value
abbrev pub store_row : Form → Option Row
store_row Forms.Reference = stores accesses.StoreReference (Operand 2)
store_row Forms.Byte = uses accesses.StoreComponent (Operand 2)
store_row Forms.Short = uses accesses.StoreComponent (Operand 2)

-- getfield and putfield: the object is an operand, below the value of a putfield, or `this` in local variable 0.
-- getstatic accesses no object. putstatic accesses the object whose reference it stores
abbrev pub field_row : FieldAction → Holder → Form → Option Row
field_row Get Holders.Operand form = uses accesses.GetField (Operand 0)
field_row Get Holders.This form = uses accesses.GetField (Local 0)
field_row Get Holders.Class form = None
field_row Put Holders.Operand Forms.Reference = stores accesses.PutReferenceField (Operand 1)
field_row Put Holders.Operand Forms.Byte = stores accesses.PutField (Operand 1)
field_row Put Holders.Operand Forms.Short = stores accesses.PutField (Operand 1)
field_row Put Holders.This Forms.Reference = stores accesses.PutReferenceField (Local 0)
field_row Put Holders.This Forms.Byte = stores accesses.PutField (Local 0)
field_row Put Holders.This Forms.Short = stores accesses.PutField (Local 0)
field_row Put Holders.Class Forms.Reference = stores accesses.PutStaticReference (Operand 0)
field_row Put Holders.Class Forms.Byte = None
field_row Put Holders.Class Forms.Short = None

-- invokevirtual: the object is below the arguments, one for each parameter of the method's type
abbrev pub virtual_row : VirtualTarget → Option Row
virtual_row target = uses accesses.InvokeVirtual (Operand (length target.signature.parameters))

-- calls. invokeinterface counts its arguments, the object included, and names the interface. The firewall has no rule
-- for invokespecial and invokestatic
abbrev pub call_row : World → ℕ → Invocation → Option Row
call_row w number (Virtual index) =
    option_and_then virtual_row (option_and_then virtual_target (target_at w number index))
call_row w number (Special index) = None
call_row w number (Static index) = None
call_row w number (Interface arguments index token) =
    names accesses.InvokeInterface (Operand (arguments - 1)) (class_named w number index)

-- checkcast and instanceof: the type is a class or an interface, or an array type
abbrev pub cast_row : World → ℕ → Access → TestedType → Option Row
cast_row w number access (Tested.Class index) = names access (Operand 0) (class_named w number index)
cast_row w number access (Tested.WordArray kind) = uses access (Operand 0)
cast_row w number access (Tested.ReferenceArray index) = uses access (Operand 0)

-- the instructions on references in the code of the package with a number
abbrev pub object_row : World → ℕ → ObjectOperation → Option Row
object_row w number objects.PushNull = None
object_row w number (objects.Load local) = None
object_row w number (objects.Store local) = None
object_row w number (objects.LoadComponent form) = uses accesses.LoadComponent (Operand 1)
object_row w number (objects.StoreComponent form) = store_row form
object_row w number objects.ArrayLength = uses accesses.ArrayLength (Operand 0)
object_row w number (objects.Branch when offset) = None
object_row w number (objects.Field access index) = field_row access.action access.holder access.form
object_row w number (objects.Invoke invocation) = call_row w number invocation
object_row w number (objects.Create creation) = None
object_row w number (objects.CheckCast type) = cast_row w number accesses.CheckCast type
object_row w number (objects.InstanceOf type) = cast_row w number accesses.InstanceOf type
object_row w number objects.Throw = uses accesses.Throw (Operand 0)
object_row w number objects.ReturnReference = None
object_row w number objects.ReturnVoid = None

-- all instructions: those on words access no object
abbrev pub row_of : {C : Type 0} → Surroundings C → Machine C → Operation → Option Row
row_of s m (operations.Word operation) = None
row_of s m (operations.Object operation) = object_row s.world m.top.method.number operation

-- ---- the accesses of a step

-- an access matches a row: the code makes it, it is the row's access, to the object whose reference is at the row's
-- place, and it stores and names what the row says
pub record IsByRow (f : Frame) (row : Row) (t : Touch) : Type 0 where
  pub by : t.by ≡ ByCode
  pub access : t.access ≡ row.access
  pub object : value_at f row.object ≡ Some (Ref t.object)
  pub stored : t.stored ≡ option_and_then (value_at f) row.stored
  pub wanted : t.wanted ≡ row.wanted

-- the accesses of what a native member calls: none if it calls nothing, or a method of a package; if it calls a native
-- member of an object, that one accesses only that object
pub data AreCalledBack (ends : NativeEnd) : List Touch → Type 0 where
  no_native : AreCalledBack ends []
  of_receiver : (callback : Callback) (touches : List Touch) → ends ≡ Calls callback
      → AllByRecursion (IsOfReceiver callback.object) touches → AreCalledBack ends touches

-- the accesses after the one of the instruction's row: none; for an instruction that creates an object, the runtime's
-- own, to its SystemException; for a call, those of a native member that may begin, followed by those of what this
-- member calls. That the instruction calls this member isn't stated
pub data AreFurther {C : Type 0} (s : Surroundings C) (m : Machine C) : Operation → List Touch → Type 0 where
  none : (operation : Operation) → AreFurther s m operation []
  by_runtime : (creation : Creation)
      → AreFurther s m (operations.Object (objects.Create creation))
      (runtime_touch accesses.PutField system_exception ∷ [])
  by_native : (invocation : Invocation) (member : ℕ) (arguments : List TaggedValue) (called : List Touch)
      → native_may_begin s.world.shapes m.heap member arguments ≡ true
      → AreCalledBack (frame_answer s m member arguments).ends called
      → AreFurther s m (operations.Object (objects.Invoke invocation))
      ((frame_answer s m member arguments).touches ++ called)

-- the accesses of a step with an outcome: first, the one of the instruction's row. It is missing only if the
-- instruction has no row, the reference is null, or the machine is stuck
pub data AreOwn {C : Type 0} (s : Surroundings C) (m : Machine C) (outcome : Outcome C) : List Touch → Type 0 where
  by_row : (operation : Operation) (row : Row) (t : Touch) (further : List Touch) → StandsAt s m operation
      → row_of s m operation ≡ Some row → IsByRow m.top row t → AreFurther s m operation further
      → AreOwn s m outcome (t ∷ further)
  without_row : (operation : Operation) (further : List Touch) → StandsAt s m operation → row_of s m operation ≡ None
      → AreFurther s m operation further → AreOwn s m outcome further
  of_null : (operation : Operation) (row : Row) → StandsAt s m operation → row_of s m operation ≡ Some row
      → value_at m.top row.object ≡ Some Null → AreOwn s m outcome []
  where_stuck : outcome ≡ Stuck → AreOwn s m outcome []

-- the law for one step
abbrev pub AccessesAreOwn : {C : Type 0} → Surroundings C → Machine C → Type 0
AccessesAreOwn s m = AreOwn s m (defensive_step s m).outcome (defensive_step s m).touches
