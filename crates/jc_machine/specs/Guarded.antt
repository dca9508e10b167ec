-- What the firewall guarantees in any step: it judges each access, no denied access takes effect, and no component
-- changes without an access.
use Rattle.std.specs.Prelude.{◌≡◌, ◌⊎◌, ℕ, ◌==◌, ◌&&◌, ◌||◌, Bool, true, false, not, List, [], ◌∷◌, ◌++◌, Option, Some}
use Rattle.std.specs.Prelude.{None, slice_get}
use Rattle.std.specs.List.{AllByRecursion, list_all}
use Rattle.std.specs.Option.{option_map_or}
use Rattle.jc_base.specs.declared.declared_type.DeclaredType.{DeclaredType}
use Rattle.jc_cap_desc.specs.Shape.{MethodBody, Shape}
use Rattle.jc_code.specs.declared.instr.Instr.{Instr}
use Rattle.jc_code.specs.declared.instr.Operation.{Operation}
use Rattle.jc_code.specs.declared.instr.Operation.TheVariants as operations
use Rattle.jc_code.specs.declared.object.FieldAccess.{FieldAccess}
use Rattle.jc_code.specs.declared.object.FieldAction.TheVariants.{Put}
use Rattle.jc_code.specs.declared.object.Holder.TheVariants.{Class}
use Rattle.jc_code.specs.declared.object.ObjectOperation.TheVariants.{Field}
use Rattle.jc_firewall.specs.Verdict.{is_allowed, runtime_context, verdict_of}
use Rattle.jc_firewall.specs.declared.access.Access.{Access}
use Rattle.jc_firewall.specs.declared.access.Access.TheVariants.{ArrayLength, CheckCast, GetField, InstanceOf}
use Rattle.jc_firewall.specs.declared.access.Access.TheVariants.{InvokeInterface, InvokeVirtual, LoadComponent}
use Rattle.jc_firewall.specs.declared.access.Access.TheVariants.{PutField, PutReferenceField, PutStaticReference}
use Rattle.jc_firewall.specs.declared.access.Access.TheVariants.{StoreComponent, StoreReference, Throw}
use Rattle.jc_firewall.specs.declared.access.Verdict.{Verdict}
use Rattle.jc_link.specs.declared.named.StaticPlace.{StaticPlace}
use Rattle.jc_link.specs.declared.target.PoolTarget.TheVariants.{StaticField}
use Rattle.jc_names.specs.declared.name.ClassName.{ClassName}
use Rattle.jc_names.specs.declared.owner.Owner.{Owner}
use Rattle.jc_store.specs.Heap.{Heap, Object, object_at}
use Rattle.jc_store.specs.declared.kind.Mark.TheVariants.{Plain}
use Rattle.jc_machine.specs.Calls.{native_call, native_may_begin}
use Rattle.jc_machine.specs.Fields.{with_static}
use Rattle.jc_machine.specs.Going.{facts_for}
use Rattle.jc_machine.specs.Lookup.{code_at, instruction_at, target_at}
use Rattle.jc_machine.specs.Machine.{Asked, By, ByCode, ByRuntime, Callback, Calls, Ends, Machine, NativeAnswer, Next}
use Rattle.jc_machine.specs.Machine.{Outcome, Stepped, Stuck, Surroundings, Throws, Touch, UsedUp}
use Rattle.jc_machine.specs.Runtime.{apdu_buffer, apdu_exception, iso_exception, security_exception, system_exception}
use Rattle.jc_machine.specs.Step.{defensive_step, settled}
use Rattle.jc_words.specs.Values.{Null, Ref, TaggedValue, Unset, Word}

-- ---- an access, and how it is judged

-- the setting of accesses: the packages, the context of the selected applet, the objects, the active context, and the
-- AID object of the instance being installed
pub record Setting : Type 0 where
  pub shapes : List Shape
  pub selected : Option ℕ
  pub heap : Heap TaggedValue
  pub active : ℕ
  pub registers : Option ℕ

-- the setting of a step's accesses: the context is that of the running frame
abbrev pub setting_of : {C : Type 0} → Surroundings C → Machine C → Setting
setting_of s m = record {
  shapes = s.world.shapes;
  selected = s.selected;
  heap = m.heap;
  active = m.top.active.context;
  registers = s.natives.registers m.runtime;
}

-- the objects that the runtime accesses in its own name during a step: its exceptions with a reason, the APDU buffer,
-- and the AID object of the instance being installed
abbrev pub is_runtimes : Option ℕ → ℕ → Bool
is_runtimes registers number =
    number == iso_exception || number == system_exception || number == apdu_exception || number == apdu_buffer
    || option_map_or (λ n. n == number) registers false

-- the active context of an access: that of the code, or the runtime's for its own objects
abbrev pub IsActive : Setting → Touch → By → Type 0
IsActive g t ByCode = t.active ≡ g.active
IsActive g t ByRuntime = (t.active ≡ runtime_context) × (is_runtimes g.registers t.object ≡ true)

-- what the access asked for
abbrev pub asked_by : Touch → Asked
asked_by t = record { access = t.access; object = t.object; stored = t.stored; wanted = t.wanted }

-- an access is to an existing object, and its verdict is the firewall's for this object
pub record IsJudged (g : Setting) (t : Touch) : Type 0 where
  pub active : IsActive g t t.by
  pub object : Object TaggedValue
  pub found : object_at g.heap t.object ≡ Some object
  pub verdict : t.verdict ≡ verdict_of t.access t.active (facts_for g.shapes g.selected g.heap (asked_by t) object)

-- ---- the accesses of a step

-- the setting in which an object's owner is active
abbrev pub as_owner : Setting → Object TaggedValue → Setting
as_owner g object = record g { active = object.owner.context }

-- an access by a native member called on this object as its owner: it accesses the object as the receiver of a member
pub record IsCalledBack (g : Setting) (number : ℕ) (t : Touch) : Type 0 where
  pub object : Object TaggedValue
  pub found : object_at g.heap number ≡ Some object
  pub is : t.object ≡ number
  pub access : t.access ≡ InvokeVirtual
  pub by : t.by ≡ ByCode
  pub judged : IsJudged (as_owner g object) t

-- the answer of a native member that the frame calls
abbrev pub frame_answer : {C : Type 0} → Surroundings C → Machine C → ℕ → List TaggedValue → NativeAnswer C
frame_answer s m member arguments =
    s.natives.answer s.world (native_call s m m.top.active m.top.previous member arguments)

-- each access of a step is made in the context of the running frame, or by the runtime. Accesses in another context
-- only follow those of a native member that may begin there and calls back a member of another object. That the
-- instruction calls this member isn't stated
pub data AreMade {C : Type 0} (s : Surroundings C) (m : Machine C) : List Touch → Type 0 where
  by_frame : (touches : List Touch) → AllByRecursion (IsJudged (setting_of s m)) touches → AreMade s m touches
  by_callback : (member : ℕ) (arguments : List TaggedValue) (callback : Callback) (before called : List Touch)
      → native_may_begin s.world.shapes m.heap member arguments ≡ true
      → (frame_answer s m member arguments).ends ≡ Calls callback
      → AllByRecursion (IsJudged (setting_of s m)) (before ++ (frame_answer s m member arguments).touches)
      → AllByRecursion (IsCalledBack (setting_of s m) callback.object) called
      → AreMade s m ((before ++ (frame_answer s m member arguments).touches) ++ called)

-- each access is allowed
abbrev pub are_allowed : List Touch → Bool
are_allowed touches = list_all (λ (t : Touch). is_allowed t.verdict) touches

-- the last access is denied, and each before it is allowed
abbrev pub is_last_denied : List Touch → Bool
is_last_denied [] = false
is_last_denied (t ∷ []) = not (is_allowed t.verdict)
is_last_denied (t ∷ u ∷ touches) = is_allowed t.verdict && is_last_denied (u ∷ touches)

-- each access is allowed; or the last is denied, and then `Refused` holds
pub data AreGuarded (touches : List Touch) (Refused : Type 0) : Type 0 where
  allowed : are_allowed touches ≡ true → AreGuarded touches Refused
  denied : is_last_denied touches ≡ true → Refused → AreGuarded touches Refused

-- ---- what changes

-- the accesses that may change components: stores to fields and components, and calls of native members on an object
abbrev pub may_change : Access → Bool
may_change PutStaticReference = false
may_change PutReferenceField = true
may_change PutField = true
may_change GetField = false
may_change LoadComponent = false
may_change StoreComponent = true
may_change StoreReference = true
may_change ArrayLength = false
may_change InvokeVirtual = true
may_change InvokeInterface = false
may_change Throw = false
may_change CheckCast = false
may_change InstanceOf = false

-- the list has an allowed access to the object that may change it: it was made in this context, or by the runtime; and
-- a plain object belongs to this context, unless the runtime made the access
pub record IsAccessed (active : ℕ) (touches : List Touch) (number : ℕ) (object : Object TaggedValue) : Type 0 where
  pub place : ℕ
  pub touch : Touch
  pub listed : slice_get touches place ≡ Some touch
  pub is : touch.object ≡ number
  pub changes : may_change touch.access ≡ true
  pub allowed : is_allowed touch.verdict ≡ true
  pub who : (touch.active ≡ active) ⊎ (touch.active ≡ runtime_context)
  pub own : object.kind.mark ≡ Plain → (active ≡ object.owner.context) ⊎ (touch.active ≡ runtime_context)

-- of the existing objects, only those so accessed have changed components
abbrev pub ChangesAccessed : ℕ → List Touch → Heap TaggedValue → Heap TaggedValue → Type 0
ChangesAccessed active touches before after = (number : ℕ) (o p : Object TaggedValue)
    → object_at before number ≡ Some o → object_at after number ≡ Some p
    → (p.cells ≡ o.cells) ⊎ IsAccessed active touches number o

-- whether a value is what the components of a new object hold: zero, or null
abbrev pub is_blank : TaggedValue → Bool
is_blank (Word n) = n == 0
is_blank (Ref n) = false
is_blank Null = true
is_blank Unset = false

-- a new object of an owner: it is plain, and each component is zero or null
pub record IsNewOf (owner : Owner) (o : Object TaggedValue) : Type 0 where
  pub whose : o.owner ≡ owner
  pub plain : o.kind.mark ≡ Plain
  pub blank : AllByRecursion (λ (v : TaggedValue). is_blank v ≡ true) o.cells

-- all objects that didn't exist before are new objects of an owner
abbrev pub AddsFor : Owner → Heap TaggedValue → Heap TaggedValue → Type 0
AddsFor owner before after = (number : ℕ) (o : Object TaggedValue) → object_at after number ≡ Some o
    → object_at before number ≡ None → IsNewOf owner o

-- ---- a step

-- the machine after a step, unless it is stuck
abbrev pub machine_of : {C : Type 0} → Outcome C → Option (Machine C)
machine_of (Next m) = Some m
machine_of (Throws m object) = Some m
machine_of (Ends m value) = Some m
machine_of (UsedUp m) = Some m
machine_of Stuck = None

-- the step throws the security exception, with the machine unchanged
abbrev pub IsRefused : {C : Type 0} → Surroundings C → Machine C → Stepped C → Type 0
IsRefused s m stepped = stepped.outcome ≡ settled s (Throws m security_exception)

-- the machine is at an instruction
pub record StandsAt {C : Type 0} (s : Surroundings C) (m : Machine C) (operation : Operation) : Type 0 where
  pub body : MethodBody
  pub instr : Instr
  pub has_code : code_at s.world m.top.method ≡ Some body
  pub stands : instruction_at body.code m.top.pc ≡ Some instr
  pub is : instr.operation ≡ operation

-- the machine is at a putstatic whose constant pool entry names this static field
pub record PutsStatic {C : Type 0} (s : Surroundings C) (m : Machine C) (place : StaticPlace) : Type 0 where
  pub access : FieldAccess
  pub index : ℕ
  pub declared : DeclaredType ClassName
  pub stands : StandsAt s m (operations.Object (Field access index))
  pub puts : access.action ≡ Put
  pub of_class : access.holder ≡ Class
  pub named : target_at s.world m.top.method.number index ≡ Some (StaticField place declared)

-- static fields don't change, or a putstatic gives the one that it names another value
pub data KeepsStatics {C : Type 0} (s : Surroundings C) (m after : Machine C) : Type 0 where
  as_they_were : m.statics ≡ after.statics → KeepsStatics s m after
  one_written : (place : StaticPlace) (v : TaggedValue) → PutsStatic s m place
      → with_static m.statics place.home place.offset v ≡ after.statics → KeepsStatics s m after

-- the law of accesses for one step
pub record IsGuarded {C : Type 0} (s : Surroundings C) (m : Machine C) : Type 0 where
  pub made : AreMade s m (defensive_step s m).touches
  pub accesses : AreGuarded (defensive_step s m).touches (IsRefused s m (defensive_step s m))
  pub changes : (after : Machine C) → machine_of (defensive_step s m).outcome ≡ Some after
      → ChangesAccessed m.top.active.context (defensive_step s m).touches m.heap after.heap
  pub adds : (after : Machine C) → machine_of (defensive_step s m).outcome ≡ Some after
      → AddsFor m.top.active m.heap after.heap
  pub statics : (after : Machine C) → machine_of (defensive_step s m).outcome ≡ Some after → KeepsStatics s m after

-- ---- consequences

-- a plain object keeps its components, or its owner's context is this one
abbrev pub KeepsPlain : ℕ → Heap TaggedValue → Heap TaggedValue → Type 0
KeepsPlain active before after = (number : ℕ) (o p : Object TaggedValue) → object_at before number ≡ Some o
    → object_at after number ≡ Some p → o.kind.mark ≡ Plain → (p.cells ≡ o.cells) ⊎ (active ≡ o.owner.context)
