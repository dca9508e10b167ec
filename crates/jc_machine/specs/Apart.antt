-- The runtime alone acts in its own name. Code of packages never runs as the runtime: frames are active as applets, and
-- objects of the runtime aren't instances of a package's class. So no step accesses a plain object in the runtime's
-- name (Java Card Runtime Environment Specification, Contexts and Context Switching; JCRE Privileges).
use Rattle.std.specs.Prelude.{◌≡◌, ◌≢◌, ℕ, ◌==◌, Bool, true, false, not, List, ◌∷◌, Some}
use Rattle.std.specs.List.{AllByRecursion, list_all}
use Rattle.jc_api.specs.Token.{is_same_class}
use Rattle.jc_api.specs.declared.class.ApiClass.{ApiClass}
use Rattle.jc_api.specs.declared.class.ApiClass.TheVariants.{Applet}
use Rattle.jc_cap_desc.specs.Shape.{Shape}
use Rattle.jc_classes.specs.Methods.{virtual_method_of}
use Rattle.jc_classes.specs.Subtype.{is_class_below}
use Rattle.jc_firewall.specs.Verdict.{runtime_context}
use Rattle.jc_link.specs.Linked.{World}
use Rattle.jc_names.specs.declared.name.ClassName.TheVariants as classes
use Rattle.jc_names.specs.declared.name.MethodName.{MethodName}
use Rattle.jc_names.specs.declared.name.MethodName.TheVariants.{Api, Loaded}
use Rattle.jc_names.specs.declared.owner.Owner.{Owner}
use Rattle.jc_store.specs.Heap.{Heap, Object, object_at}
use Rattle.jc_store.specs.declared.kind.Mark.TheVariants.{Plain}
use Rattle.jc_store.specs.declared.kind.ObjectType.{ObjectType}
use Rattle.jc_store.specs.declared.kind.ObjectType.TheVariants.{BooleanArray, ByteArray, Instance, ReferenceArray}
use Rattle.jc_store.specs.declared.kind.ObjectType.TheVariants.{ShortArray}
use Rattle.jc_machine.specs.Guarded.{KeepsPlain, machine_of}
use Rattle.jc_machine.specs.Machine.{Frame, Machine, NativeAnswer, NativeCall, Natives, Surroundings, Touch}
use Rattle.jc_machine.specs.Runtime.{HasRuntimeObjects}
use Rattle.jc_machine.specs.Step.{defensive_step}
use Rattle.jc_machine.specs.Storable.{FieldsHoldStorable, HoldStorable}
use Rattle.jc_words.specs.Values.{TaggedValue}

-- ---- objects and frames

-- an array, or an object of a class of the API other than Applet: it has no methods of a package
abbrev pub has_no_code : ObjectType → Bool
has_no_code (Instance (classes.Api c)) = not (is_same_class c Applet)
has_no_code (Instance (classes.Loaded number offset)) = false
has_no_code BooleanArray = true
has_no_code ByteArray = true
has_no_code ShortArray = true
has_no_code (ReferenceArray c) = true

-- an object in the runtime's context belongs to no applet instance, and has no code of a package
pub record IsRuntimes (o : Object TaggedValue) : Type 0 where
  pub instance : o.owner.instance ≡ 0
  pub codeless : has_no_code o.kind.object_type ≡ true

-- the runtime's own objects exist; no object in its context has code of a package; and each object that isn't plain is
-- in its context, so a call of such an object switches to the runtime. No component holds a reference that may not be
-- stored
pub record IsSetApart (heap : Heap TaggedValue) : Type 0 where
  pub own : HasRuntimeObjects heap
  pub others : (number : ℕ) (o : Object TaggedValue) → object_at heap number ≡ Some o
      → o.owner.context ≡ runtime_context → IsRuntimes o
  pub marked : (number : ℕ) (o : Object TaggedValue) → object_at heap number ≡ Some o → o.kind.mark ≢ Plain
      → o.owner.context ≡ runtime_context
  pub stored : HoldStorable heap

-- whether an owner's context is that of a package
abbrev pub is_applets : Owner → Bool
is_applets owner = not (owner.context == runtime_context)

-- the objects of a machine are set apart; its static fields hold only references that may be stored there; its frames
-- are active as applets; and what the runtime keeps passes a test
pub record IsApart {C : Type 0} (keeps : C → Bool) (m : Machine C) : Type 0 where
  pub objects : IsSetApart m.heap
  pub statics : FieldsHoldStorable m.heap m.statics
  pub frames : list_all (λ (f : Frame). is_applets f.active) (m.top ∷ m.waiting) ≡ true
  pub kept : keeps m.runtime ≡ true

-- ---- classes of the API

abbrev pub is_member : MethodName → Bool
is_member (Api member) = true
is_member (Loaded number offset) = false

-- the virtual methods of the API's classes are members of the API, and only Applet is a subclass of Applet
pub record HaveApiMembers (world : List Shape) : Type 0 where
  pub methods : (c : ApiClass) (token asker : ℕ) (name : MethodName)
      → virtual_method_of world (classes.Api c) token asker ≡ Some name → is_member name ≡ true
  pub applets : (c : ApiClass) → is_class_below world (classes.Api c) (classes.Api Applet) ≡ true
      → is_same_class c Applet ≡ true

-- ---- accesses

-- an access in the runtime's name isn't to a plain object
abbrev pub SparesPlain : Heap TaggedValue → Touch → Type 0
SparesPlain heap touch = touch.active ≡ runtime_context → (o : Object TaggedValue)
    → object_at heap touch.object ≡ Some o → o.kind.mark ≢ Plain

-- ---- native members

-- a native member accesses no plain object in the runtime's name; no component holds a reference that may not be
-- stored; and what the runtime keeps still passes the test
pub record IsApartAnswer {C : Type 0} (keeps : C → Bool) (call : NativeCall C) (a : NativeAnswer C) : Type 0 where
  pub spares : AllByRecursion (SparesPlain call.heap) a.touches
  pub stored : HoldStorable a.heap
  pub kept : keeps a.runtime ≡ true

-- this holds for each answer to a call by an applet
abbrev pub AreNativesApart : {C : Type 0} → (C → Bool) → Natives C → Type 0
AreNativesApart {C} keeps natives = (w : World) (call : NativeCall C) → IsSetApart call.heap
    → is_applets call.active ≡ true → keeps call.runtime ≡ true → IsApartAnswer keeps call (natives.answer w call)

-- ---- a step

-- a step accesses no plain object in the runtime's name; so the components of a plain object change only if its owner's
-- context is that of the running frame; and after the step the machine is apart again
pub record StaysApart {C : Type 0} (keeps : C → Bool) (s : Surroundings C) (m : Machine C) : Type 0 where
  pub spares : AllByRecursion (SparesPlain m.heap) (defensive_step s m).touches
  pub plain : (after : Machine C) → machine_of (defensive_step s m).outcome ≡ Some after
      → KeepsPlain m.top.active.context m.heap after.heap
  pub after : (after : Machine C) → machine_of (defensive_step s m).outcome ≡ Some after → IsApart keeps after
