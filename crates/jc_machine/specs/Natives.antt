-- The law of native members: what the machine requires of all of them (Java Card API Specification; Java Card Runtime
-- Environment Specification, Applet Isolation and Object Sharing).
use Rattle.std.specs.Prelude.{◌≡◌, ℕ, ◌≤◌, ◌∷◌, length, List, Some, true}
use Rattle.std.specs.List.{AllByRecursion}
use Rattle.jc_api.specs.Member.{ApiMember, member_of}
use Rattle.jc_api.specs.declared.member.MemberKind.TheVariants.{Static, Virtual}
use Rattle.jc_base.specs.Signature.{Signature}
use Rattle.jc_names.specs.declared.name.ClassName.{ClassName}
use Rattle.jc_names.specs.declared.name.ClassName.TheVariants as classes
use Rattle.jc_firewall.specs.declared.access.Access.TheVariants.{InvokeVirtual}
use Rattle.jc_link.specs.Found.{is_same_return}
use Rattle.jc_link.specs.Linked.{World}
use Rattle.jc_store.specs.Heap.{Heap, Object, cells_in, object_at}
use Rattle.jc_machine.specs.Accepted.{IsAccepted}
use Rattle.jc_machine.specs.Calls.{native_may_begin, native_type, type_of_member}
use Rattle.jc_machine.specs.Guarded.{AddsFor, AreGuarded, ChangesAccessed, IsJudged, Setting}
use Rattle.jc_machine.specs.Lookup.{are_of_types, is_given, is_of_class, is_throwable}
use Rattle.jc_machine.specs.Machine.{Callback, Calls, Gives, IsStuck, Limits, NativeAnswer, NativeCall, NativeEnd}
use Rattle.jc_machine.specs.Machine.{ByCode, Natives, ThrowsObject, Touch}
use Rattle.jc_machine.specs.Runtime.{HasRuntimeObjects, security_exception}
use Rattle.jc_machine.specs.Typed.{HeapTyped}
use Rattle.jc_words.specs.Values.{Ref, TaggedValue}

-- ---- objects stay

-- an object still exists, with the same kind, the same owner and the same number of components
pub record IsStill (heap : Heap TaggedValue) (number : ℕ) (o : Object TaggedValue) : Type 0 where
  pub object : Object TaggedValue
  pub found : object_at heap number ≡ Some object
  pub kind : object.kind ≡ o.kind
  pub owner : object.owner ≡ o.owner
  pub size : length object.cells ≡ length o.cells

-- each object still exists
abbrev pub KeepsObjects : Heap TaggedValue → Heap TaggedValue → Type 0
KeepsObjects before after =
    (number : ℕ) (o : Object TaggedValue) → object_at before number ≡ Some o → IsStill after number o

-- ---- accesses of any call

-- nothing changed
pub record IsUnchanged {C : Type 0} (call : NativeCall C) (a : NativeAnswer C) : Type 0 where
  pub heap : a.heap ≡ call.heap
  pub runtime : a.runtime ≡ call.runtime

-- after a denied access, the security exception is thrown and nothing has changed
pub record IsRefusedAnswer {C : Type 0} (call : NativeCall C) (a : NativeAnswer C) : Type 0 where
  pub unchanged : IsUnchanged call a
  pub throws : a.ends ≡ ThrowsObject security_exception

-- the setting of a native member's accesses: the context is its caller's
abbrev pub setting_for : {C : Type 0} → Natives C → World → NativeCall C → Setting
setting_for natives w call = record {
  shapes = w.shapes;
  selected = call.selected;
  heap = call.heap;
  active = call.active.context;
  registers = natives.registers call.runtime;
}

-- objects are within limits
pub record IsWithin (limits : Limits) (heap : Heap TaggedValue) : Type 0 where
  pub objects : length heap ≤ limits.objects
  pub cells : cells_in heap ≤ limits.cells

-- the virtual member of Applet that native members call: getShareableInterfaceObject
abbrev pub shareable_member : ℕ
shareable_member = 40

-- an access by a member called on an object: it is to that object only
pub record IsOfReceiver (number : ℕ) (t : Touch) : Type 0 where
  pub is : t.object ≡ number
  pub access : t.access ≡ InvokeVirtual
  pub by : t.by ≡ ByCode

-- a member called on an object accesses only that object, and changes nothing
pub record IsModest {C : Type 0} (number : ℕ) (call : NativeCall C) (a : NativeAnswer C) : Type 0 where
  pub touches : AllByRecursion (IsOfReceiver number) a.touches
  pub unchanged : IsUnchanged call a

-- each access is judged, and made by the caller or the runtime; each is allowed, or the last is denied; objects change
-- only by these accesses; new objects belong to the caller, and are made only if there is room. A native member that
-- calls another changes nothing, and calls only getShareableInterfaceObject, which is modest
pub record IsGuardedAnswer {C : Type 0} (natives : Natives C) (w : World) (call : NativeCall C) (a : NativeAnswer C)
    : Type 0 where
  pub touches : AllByRecursion (IsJudged (setting_for natives w call)) a.touches
  pub guarded : AreGuarded a.touches (IsRefusedAnswer call a)
  pub kept : KeepsObjects call.heap a.heap
  pub changes : ChangesAccessed call.active.context a.touches call.heap a.heap
  pub adds : AddsFor call.active call.heap a.heap
  pub room : IsWithin call.limits call.heap → IsWithin call.limits a.heap
  pub calls : (callback : Callback) → a.ends ≡ Calls callback → IsUnchanged call a
  pub asks : (callback : Callback) → a.ends ≡ Calls callback → callback.member ≡ shareable_member
  pub modest : (number : ℕ) (rest : List TaggedValue) → call.member ≡ shareable_member
      → call.arguments ≡ Ref number ∷ rest → IsModest number call a

-- each answer is guarded, in any world and for any call
abbrev pub AreNativesGuarded : {C : Type 0} → Natives C → Type 0
AreNativesGuarded {C} natives =
    (w : World) (call : NativeCall C) → IsGuardedAnswer natives w call (natives.answer w call)

-- ---- types of a valid call

-- a valid call is of a native member, on arguments of its types; the objects are typed, the runtime's own exist, and
-- what the runtime keeps fits them
pub record IsFitCall {C : Type 0} (natives : Natives C) (w : World) (call : NativeCall C) : Type 0 where
  pub begins : native_may_begin w.shapes call.heap call.member call.arguments ≡ true
  pub heap : HeapTyped w.shapes call.heap
  pub runtime_objects : HasRuntimeObjects call.heap
  pub fits : natives.fits w call.heap call.runtime ≡ true

-- a thrown object exists and may be thrown
pub record IsThrown (w : World) (heap : Heap TaggedValue) (number : ℕ) : Type 0 where
  pub object : Object TaggedValue
  pub found : object_at heap number ≡ Some object
  pub throwable : is_throwable w.shapes object.kind.object_type ≡ true

-- a valid call by a native member, which must be static. It calls getShareableInterfaceObject, which is virtual, on an
-- existing object of its class with arguments of its types, and the result has the type that the native member returns
pub record IsFitCallback {C : Type 0} (w : World) (call : NativeCall C) (a : NativeAnswer C)
    (given : Signature ClassName) (callback : Callback) : Type 0 where
  pub caller : ApiMember
  pub caller_is : member_of call.member ≡ Some caller
  pub static : caller.kind ≡ Static
  pub shareable : callback.member ≡ shareable_member
  pub member : ApiMember
  pub member_is : member_of callback.member ≡ Some member
  pub virtual : member.kind ≡ Virtual
  pub object : Object TaggedValue
  pub there : object_at a.heap callback.object ≡ Some object
  pub below : is_of_class w.shapes (classes.Api member.class) object.kind.object_type ≡ true
  pub signature : Signature ClassName
  pub declared : type_of_member w.shapes callback.member ≡ Some signature
  pub arguments : are_of_types w.shapes a.heap signature.parameters callback.arguments ≡ true
  pub result : is_same_return given.result signature.result ≡ true

-- how a native member ends: with a result of its declared type, with an object that may be thrown, or with a call;
-- never stuck
abbrev pub EndsFit : {C : Type 0} → World → NativeCall C → NativeAnswer C → Signature ClassName → NativeEnd → Type 0
EndsFit w call a given (Gives value) = is_given w.shapes a.heap given.result value ≡ true
EndsFit w call a given (ThrowsObject number) = IsThrown w a.heap number
EndsFit w call a given (Calls callback) = IsFitCallback w call a given callback
EndsFit w call a given IsStuck = ⊥

-- after the call, the objects are typed, and what the runtime keeps fits them; and it ends as declared
pub record IsFitAnswer {C : Type 0} (natives : Natives C) (w : World) (call : NativeCall C) (a : NativeAnswer C)
    : Type 0 where
  pub heap : HeapTyped w.shapes a.heap
  pub fits : natives.fits w a.heap a.runtime ≡ true
  pub given : Signature ClassName
  pub declared : native_type w.shapes call.member ≡ Some given
  pub ends : EndsFit w call a given a.ends

-- ---- the law

-- each answer is guarded; the answer to a valid call in an accepted world is valid; and what the runtime keeps fits as
-- long as the objects stay
pub record IsLawful {C : Type 0} (natives : Natives C) : Type 0 where
  pub guarded : AreNativesGuarded natives
  pub fit : (w : World) (call : NativeCall C) → IsAccepted w → IsFitCall natives w call
      → IsFitAnswer natives w call (natives.answer w call)
  pub stable : (w : World) (before after : Heap TaggedValue) (kept : C) → KeepsObjects before after
      → natives.fits w before kept ≡ true → natives.fits w after kept ≡ true
