-- Native members are safe: they give what they are declared to give, throw, or make a call that may be made.
use Rattle.std.proofs.Common.{◌≡◌, ℕ, ◌<◌, List, [], ◌∷◌, length, Bool, true, false, cond, not, ◌&&◌, Option, Some}
use Rattle.std.proofs.Common.{None, nat_lt, refl, sym, ap, ◌∙◌, subst, arith}
use Rattle.std.proofs.lemmas.Bool.{eq-eqb, lt-ltb}
use Rattle.std.specs.Option.{option_and_then, option_map_or}
use Rattle.jc_api.specs.declared.class.ApiClass.TheVariants as api
use Rattle.jc_api.specs.declared.class.ApiClass.TheVariants.{Applet}
use Rattle.jc_base.specs.Signature.{Signature}
use Rattle.jc_base.specs.declared.declared_type.DeclaredType.{DeclaredType}
use Rattle.jc_base.specs.declared.declared_type.DeclaredType.TheVariants as Declared
use Rattle.jc_base.specs.declared.declared_type.ReturnType.{ReturnType}
use Rattle.jc_cap.specs.ClassComponent.{is_class}
use Rattle.jc_cap_desc.specs.Shape.{ClassShape, Shape}
use Rattle.jc_classes.specs.Members.{DeclaredMethod, method_at}
use Rattle.jc_classes.specs.Methods.{virtual_method_of}
use Rattle.jc_classes.specs.Subtype.{IsSubtype, is_class_at, is_class_below}
use Rattle.jc_classes.specs.Subtype.IsSubtype.{by_superclass, same}
use Rattle.jc_classes.specs.World.{class_at}
use Rattle.jc_link.specs.Found.{are_same_types, is_same_class, is_same_return, is_same_signature, is_same_type}
use Rattle.jc_link.specs.MemberType.{declared_type_of, method_type_of}
use Rattle.jc_link.specs.Named.{is_abstract_method, is_concrete}
use Rattle.jc_link.specs.Sound.{IsFinished, IsHeir}
use Rattle.jc_link.specs.Sound.IsHeir.{behind, itself}
use Rattle.jc_names.specs.Names.{is_same_name}
use Rattle.jc_names.specs.declared.name.ClassName.{ClassName}
use Rattle.jc_names.specs.declared.name.ClassName.TheVariants as classes
use Rattle.jc_names.specs.declared.name.MethodName.{MethodName}
use Rattle.jc_names.specs.declared.name.MethodName.TheVariants.{Api, Loaded}
use Rattle.jc_names.specs.declared.owner.Owner.{Owner}
use Rattle.jc_effects.specs.Method.{result_of, returned_type}
use Rattle.jc_store.specs.Heap as heaps
use Rattle.jc_store.specs.Heap.{Heap, object_at}
use Rattle.jc_store.specs.declared.kind.ObjectType.{ObjectType}
use Rattle.jc_types.specs.State.{Types, all_below}
use Rattle.jc_types.specs.declared.ty.Ty.{Ty}
use Rattle.jc_machine.specs.Calls.{callback_fits, called_as, calls_back, inner_native_ends, invokes, is_in_place_of}
use Rattle.jc_machine.specs.Calls.{is_member_or_loaded, native_ends, native_gives, native_may_begin, native_type}
use Rattle.jc_machine.specs.Calls.{on_native, type_of_member, virtual_member, with_given}
use Rattle.jc_machine.specs.Going.{StepContext, leaves_operands, moved}
use Rattle.jc_machine.specs.Lookup.{are_of_types, class_of, is_given, is_object_of, is_of_class}
use Rattle.jc_machine.specs.Lookup.{is_of_type, may_begin_with}
use Rattle.jc_machine.specs.Machine.{Callback, Calls, Gives, IsStuck, Machine, NativeAnswer, NativeCall}
use Rattle.jc_machine.specs.Machine.{NativeEnd, Surroundings, ThrowsObject}
use Rattle.jc_machine.specs.Natives.{EndsFit, IsFitCall, IsFitCallback, IsThrown}
use Rattle.jc_machine.specs.Typed.{HaveTypes, HoldTypes, IsOperand, IsTyped, given_by, may_be_made, with_result_type}
use Rattle.jc_words.specs.Values.{Ref, TaggedValue, is_written}
use Rattle.jc_safety.proofs.Below.{interface_object}
use Rattle.jc_safety.proofs.Callees.{MayCall}
use Rattle.jc_safety.proofs.Entering as entering
use Rattle.jc_safety.proofs.Entering.{Beside, Site, beside_now, enters_safe}
use Rattle.jc_safety.proofs.Goes.{placed}
use Rattle.jc_safety.proofs.Ground.{Ground, heir_there}
use Rattle.jc_safety.proofs.Growing.{keeps_through, operands_still, statics_still, types_still, waiting_still}
use Rattle.jc_safety.proofs.Lists.{and_true, both, same_length}
use Rattle.jc_safety.proofs.Members.{HasVirtual, HaveMembers}
use Rattle.jc_safety.proofs.References.{leads_written}
use Rattle.jc_safety.proofs.Returning.{IsResult, as_declared_type}
use Rattle.jc_safety.proofs.Safe.{IsSafe, safe_check, safe_some, safe_touched}
use Rattle.jc_safety.proofs.Upward.{holds_below, operands_up, types_up}
use Rattle.jc_safety.proofs.Writing.{typed_at}

-- ---- results

word_written : (v : TaggedValue) → is_of_type [] [] Declared.Short v ≡ true → is_written v ≡ true
word_written v h1 = grind arith

-- a value of a declared type was written
pub declared_written : (world : List Shape) (heap : Heap TaggedValue) (d : DeclaredType ClassName) (v : TaggedValue)
    → is_of_type world heap d v ≡ true → is_written v ≡ true
declared_written world heap d v h1 = grind (arith, word_written, leads_written, holds_below)

pub given_result : (world : List Shape) (heap : Heap TaggedValue) (r : ReturnType ClassName)
    (value : Option TaggedValue)
    → is_given world heap r value ≡ true → IsResult world heap value (returned_type r)
given_result world heap r value h1 = grind (arith, as_declared_type, declared_written)

-- what a native member is declared to give
native_result : (world : List Shape) (concrete : Bool) (o : Option DeclaredMethod) (d : DeclaredMethod)
    → (given : Signature ClassName) → o ≡ Some d
    → cond concrete (option_and_then (declared_type_of world) o) None ≡ Some given
    → result_of world d ≡ returned_type given.result
native_result world concrete o d given h1 h2 = grind arith

-- a member that isn't abstract may begin
pub begins_if : (world : List Shape) (heap : Heap TaggedValue) (o : Option DeclaredMethod) (d : DeclaredMethod)
    → (arguments : List TaggedValue) → o ≡ Some d → is_abstract_method d.method ≡ false
    → may_begin_with world heap d arguments ≡ true
    → (option_map_or (λ (x : DeclaredMethod). not (is_abstract_method x.method)) o false && option_map_or (λ
    (x : DeclaredMethod). may_begin_with world heap x arguments) o false) ≡ true
begins_if world heap o d arguments h1 h2 h3 = grind (arith, not, and_true)

-- ---- types that are the same

same_class_itself : (c : Option ClassName) → ((d : ClassName) → is_same_name d d ≡ true) → is_same_class c c ≡ true
same_class_itself c h1 = grind arith

name_itself : (c : ClassName) → is_same_name c c ≡ true
name_itself c = grind (arith, eq-eqb, and_true)

type_itself : (d : DeclaredType ClassName) → is_same_type d d ≡ true
type_itself d = grind (arith, and_true, eq-eqb, same_class_itself, name_itself)

types_themselves : (ds : List (DeclaredType ClassName)) → are_same_types ds ds ≡ true
types_themselves [] = refl
types_themselves (d ∷ ds) = grind (arith, and_true, type_itself, types_themselves ds)

return_itself : (r : ReturnType ClassName) → is_same_return r r ≡ true
return_itself r = grind (arith, type_itself)

signature_itself : (x : Signature ClassName) → is_same_signature x x ≡ true
signature_itself x = grind (arith, and_true, types_themselves, return_itself)

abbrev giving : ReturnType ClassName → Signature ClassName
giving r = record { parameters = []; result = r }

-- ---- classes of objects

module _ {C : Type 0} (s : Surroundings C) (ground : Ground s) where
  pub heir : (c d : ClassName) → IsSubtype s.world.shapes c d → is_class_at s.world.shapes c ≡ true
      → is_class_at s.world.shapes d ≡ true → IsHeir s.world.shapes c d
  heir c d h1 h2 h3 = grind (arith, interface_object)

  pub heir_below : (c d : ClassName) → is_class_below s.world.shapes c d ≡ true → is_class_at s.world.shapes c ≡ true
      → is_class_at s.world.shapes d ≡ true → IsHeir s.world.shapes c d
  heir_below c d e at_c at_d = heir c d (ground.found c d (ground.below_subtypes c d e)) at_c at_d

  subtype_of : (c d : ClassName) → IsHeir s.world.shapes c d → IsSubtype s.world.shapes c d
  subtype_of _ _ (itself k) = same k
  subtype_of _ _ (behind k e f up h) = by_superclass k e f up (subtype_of e f h)

  pub below_heir : (c d : ClassName) → IsHeir s.world.shapes c d → is_class_at s.world.shapes d ≡ true
      → is_class_below s.world.shapes c d ≡ true
  below_heir c d h at_d = ground.heirs c d at_d (subtype_of c d h)

  pub some_world : 0 < length s.world.shapes
  some_world = let count = ground.accepted.world.count in omega (arith, count)

  -- the class of an object has all methods
  pub record IsMade (c : ClassName) : Type 0 where
    pub class : is_class_at s.world.shapes c ≡ true
    pub finished : IsFinished s.world.shapes c

  by_shape : (c : ClassName) (o : Option ClassShape) → class_at s.world.shapes c ≡ o
      → option_map_or (λ (k : ClassShape). is_class k.body && not k.is_abstract) o false ≡ true → IsMade c
  by_shape c o h1 h2 = grind (arith, both, not)

  object_made : IsMade (classes.Api api.Object)
  object_made =
      let there = ground.api api.Object in record {
        class = ground.names.object;
        finished = ground.sound.finished (classes.Api api.Object) there.shape there.there there.class_or_not
            there.abstract_or_not;
      }

  pub class_made : (o : ObjectType) → may_be_made s.world.shapes o ≡ true → IsMade (class_of o)
  class_made o h1 = grind (arith, by_shape, object_made)

-- ---- calls

three_true : (a b c : Bool) → a ≡ true → b ≡ true → c ≡ true → (a && b && c) ≡ true
three_true a b c e f g = and_true (a && b) c (and_true a b e f) g

-- a method that was found on an object's class, and what it is called on
pub instance_begins : (world : List Shape) (heap : Heap TaggedValue) (d : DeclaredMethod) (x : Signature ClassName)
    → (v : TaggedValue) (vs : List TaggedValue) → declared_type_of world d ≡ Some x → d.method.is_static ≡ false
    → is_object_of world heap d.class v ≡ true → are_of_types world heap x.parameters vs ≡ true
    → may_begin_with world heap d (v ∷ vs) ≡ true
instance_begins world heap d x v vs type instance on arguments = grind (arith, and_true)

pub static_begins : (world : List Shape) (heap : Heap TaggedValue) (d : DeclaredMethod) (x : Signature ClassName)
    → (vs : List TaggedValue) → declared_type_of world d ≡ Some x → d.method.is_static ≡ true
    → are_of_types world heap x.parameters vs ≡ true → may_begin_with world heap d vs ≡ true
static_begins world heap d x vs type static arguments = grind arith

pub gives_by : (world : List Shape) (d : DeclaredMethod) (x : Signature ClassName) → declared_type_of world d ≡ Some x
    → result_of world d ≡ returned_type x.result
gives_by world d x e = ap (option_and_then (λ (y : Signature ClassName). returned_type y.result)) e

pub concrete_is : (world : List Shape) (name : MethodName) (d : DeclaredMethod) → method_at world name ≡ Some d
    → is_concrete world name ≡ true → is_abstract_method d.method ≡ false
concrete_is world name d e f = grind (arith, not)

-- the type of a method that is there
pub type_there : (world : List Shape) (name : MethodName) (d : DeclaredMethod) (x : Signature ClassName)
    → method_at world name ≡ Some d → method_type_of world name ≡ Some x → declared_type_of world d ≡ Some x
type_there world name d x e f = sym (ap (option_and_then (declared_type_of world)) e) ∙ f

module _ {C : Type 0} (s : Surroundings C) (ground : Ground s) where
  abbrev its_shapes : List Shape
  its_shapes = s.world.shapes

  -- an object as a reference to it
  pub is_object : (heap : Heap TaggedValue) (n : ℕ) (o : heaps.Object TaggedValue) (c : ClassName)
      → object_at heap n ≡ Some o → is_of_class its_shapes c o.kind.object_type ≡ true → is_object_of its_shapes heap c
      (Ref n) ≡ true
  is_object heap n o c found is = grind arith

  -- a method that an object's class finds at a virtual token may be called on the object
  pub found_method : (heap : Heap TaggedValue) (n : ℕ) (o : heaps.Object TaggedValue) (token asker : ℕ)
      → (name : MethodName) (x : Signature ClassName) (arguments : List TaggedValue) → object_at heap n ≡ Some o
      → virtual_method_of its_shapes (class_of o.kind.object_type) token asker ≡ Some name
      → is_concrete its_shapes name ≡ true → method_type_of its_shapes name ≡ Some x
      → are_of_types its_shapes heap x.parameters arguments ≡ true
      → MayCall its_shapes heap name (returned_type x.result) (Ref n ∷ arguments)
  found_method heap n o token asker name x arguments there finds concrete type fit =
      let f = ground.sound.virtual_methods.found (class_of o.kind.object_type) token asker name finds in
      let type_is = type_there its_shapes name f.declared x f.there type in
      let at_d = ground.names.declared name f.declared f.there in
      let below = below_heir s ground (class_of o.kind.object_type) f.declared.class f.heir at_d in record {
        declared = f.declared;
        there = f.there;
        concrete = concrete_is its_shapes name f.declared f.there concrete;
        begins =
            instance_begins its_shapes heap f.declared x (Ref n) arguments type_is f.instance
            (is_object heap n o f.declared.class there below) fit;
        given = gives_by its_shapes f.declared x type_is;
      }

module _ {C : Type 0} (s : Surroundings C) (ground : Ground s) (m : Machine C) (t : IsTyped s m) where
  abbrev shapes : List Shape
  shapes = s.world.shapes

  -- ---- the answer of a native member

  abbrev native_call : ℕ → List TaggedValue → Owner → Option Owner → Heap TaggedValue → C → NativeCall C
  native_call member arguments active previous heap runtime = record {
    member = member;
    arguments = arguments;
    active = active;
    previous = previous;
    heap = heap;
    runtime = runtime;
    selected = s.selected;
    limits = s.limits;
  }

  record Answered (member : ℕ) (result : Option Ty) (call : NativeCall C) : Type 0 where
    begins : native_may_begin shapes call.heap member call.arguments ≡ true
    beside : Beside s ground m t (s.natives.answer s.world call).heap (s.natives.answer s.world call).runtime
    given : Signature ClassName
    declared : native_type shapes member ≡ Some given
    result_is : returned_type given.result ≡ result
    ends : EndsFit s.world call (s.natives.answer s.world call) given (s.natives.answer s.world call).ends

  answered : (heap : Heap TaggedValue) (runtime : C) → Beside s ground m t heap runtime → (member : ℕ)
      → (result : Option Ty) (arguments : List TaggedValue) → MayCall shapes heap (Api member) result arguments
      → (active : Owner) (previous : Option Owner)
      → Answered member result (native_call member arguments active previous heap runtime)
  answered heap runtime b member result arguments may active previous =
      let call = native_call member arguments active previous heap runtime in
      let fit : IsFitCall s.natives s.world call =
      record {
        begins = begins_if shapes heap (method_at shapes (Api member)) may.declared arguments may.there may.concrete
            may.begins;
        heap = b.typed;
        runtime_objects = b.runtime_objects;
        fits = b.fits;
      } in
      let a = ground.lawful.fit s.world call ground.accepted fit in
      let kept = (ground.lawful.guarded s.world call).kept in
      let after = (s.natives.answer s.world call).heap in record {
        begins = fit.begins;
        beside = record {
          typed = a.heap;
          statics = statics_still s.world heap after kept m.statics b.statics;
          runtime_objects = ground.objects_stay heap after kept b.runtime_objects;
          fits = a.fits;
          keeps = keeps_through m.heap heap after b.keeps kept;
        };
        given = a.given;
        declared = a.declared;
        result_is =
            sym (native_result shapes (is_concrete shapes (Api member)) (method_at shapes
            (Api member)) may.declared a.given may.there a.declared)
            ∙ may.given;
        ends = a.ends;
      }

  module _ (d : DeclaredMethod) (next : ℕ) where
    abbrev spot : (heap : Heap TaggedValue) (runtime : C) → Beside s ground m t heap runtime → List TaggedValue → StepContext C
    spot heap runtime b us = entering.at s ground m t d next heap runtime b us

    module _ (heap : Heap TaggedValue) (runtime : C) (b : Beside s ground m t heap runtime) where
      -- the frame goes on behind the call
      goes_on_typed : (result : Option Ty) (vs operands : List TaggedValue) (site : Site s ground m t result vs next)
          → HoldTypes shapes heap operands (with_result_type result site.left)
          → IsTyped s (record {
            heap = heap;
            statics = m.statics;
            runtime = runtime;
            top = moved m.top next m.top.locals operands;
            waiting = m.waiting;
          })
      goes_on_typed result vs operands site holds =
          let p = placed s ground m t in
          let leads = site.leads in
          let stands = ground.packages m.top.method.number p.body p.loaded in
          let up = stands.orders.states site.after leads.state leads.below in
          let e = both (all_below (is_class_below shapes) site.after.locals leads.state.locals)
          (all_below (is_class_below shapes) site.after.operands leads.state.operands) up in
          let has = subst (λ (x : Types). HaveTypes shapes heap m.top.locals x.locals) (sym site.after_is)
          (types_still m.heap heap b.keeps shapes m.top.locals p.state.locals p.locals_typed) in
          let held = subst (λ (x : Types). HoldTypes shapes heap operands x.operands)
          (sym site.after_is) holds in record {
            beside = beside_now s ground m t d next heap runtime b (moved m.top next m.top.locals operands) m.waiting;
            top = record {
              placed = record {
                body = p.body;
                loaded = p.loaded;
                code = p.code;
                there = p.there;
                typing = p.typing;
                typed = p.typed;
                shaped = p.shaped;
                state = leads.state;
                stated = leads.typed;
                locals_typed =
                    types_up shapes ground.order heap m.top.locals site.after.locals leads.state.locals e.0 has;
              };
              operands_typed =
                  operands_up shapes ground.order heap operands site.after.operands leads.state.operands e.1 held;
            };
            waiting = waiting_still s.world m.heap heap b.keeps (given_by s.world m.top) m.waiting t.waiting;
          }

      gives_safe : (value : Option TaggedValue) (result : Option Ty) (us vs : List TaggedValue)
          → Site s ground m t result vs next → IsResult shapes heap value result
          → IsSafe s (with_given (spot heap runtime b us) value vs)
      gives_safe None None us vs site is =
          record {
            fine = goes_on_typed None vs vs site (operands_still m.heap heap b.keeps shapes vs site.left site.holds);
          }
      gives_safe (Some v) (Some u) us vs site is =
          let count = same_length (IsOperand shapes m.heap) vs site.left site.holds in
          let few = site.room in
          safe_check s (nat_lt (length vs) (entering.most s ground m t)) (leaves_operands (spot heap runtime b us)
          (v ∷ vs))
          (lt-ltb (length vs) (entering.most s ground m t) (omega (arith, count, few)))
          (record {
            fine =
                goes_on_typed (Some u) vs (v ∷ vs) site
                (is, operands_still m.heap heap b.keeps shapes vs site.left site.holds);
          })
      gives_safe None (Some u) us vs site is = absurd is
      gives_safe (Some v) None us vs site is = absurd is

      native_gives_safe : (given : Signature ClassName) (result : Option Ty) → returned_type given.result ≡ result
          → (value : Option TaggedValue) (us vs : List TaggedValue) → Site s ground m t result vs next
          → is_given shapes heap given.result value ≡ true
          → IsSafe s (native_gives (spot heap runtime b us) given value vs)
      native_gives_safe given result result_is value us vs site is =
          safe_check s (is_given shapes heap given.result value) (with_given (spot heap runtime b us) value vs) is
          (gives_safe value result us vs site
          (subst (λ (r : Option Ty). IsResult shapes heap value r) result_is
          (given_result shapes heap given.result value is)))

      -- the end of a native member that makes no call
      inner_ends : (call : NativeCall C) (a : NativeAnswer C) → a.heap ≡ heap
          → (given : Signature ClassName) (result : Option Ty) → returned_type given.result ≡ result
          → (us vs : List TaggedValue) → Site s ground m t result vs next → (end : NativeEnd)
          → EndsFit s.world call a given end
          → ((callback : Callback) → IsFitCallback s.world call a given callback → ⊥)
          → IsSafe s (inner_native_ends vs (spot heap runtime b us) given end)
      inner_ends call a is given result result_is us vs site (Gives value) fit none =
          native_gives_safe given result result_is value us vs site
          (subst (λ (h : Heap TaggedValue). is_given shapes h given.result value ≡ true) is fit)
      inner_ends call a is given result result_is us vs site (ThrowsObject number) fit none =
          entering.throws_now s ground m t d next heap runtime b us number
          (subst (λ (h : Heap TaggedValue). IsThrown s.world h number) is fit)
      inner_ends call a is given result result_is us vs site (Calls callback) fit none = absurd (none callback fit)
      inner_ends call a is given result result_is us vs site IsStuck fit none = absurd fit

    -- ---- a native member that another one calls

    -- only static members make calls
    no_calls : HaveMembers shapes → (heap : Heap TaggedValue) (runtime : C) (member : ℕ) (active : Owner)
        (previous : Option Owner)
        → (x : DeclaredMethod) (arguments : List TaggedValue) → method_at shapes (Api member) ≡ Some x
        → x.method.is_static ≡ false → (a : NativeAnswer C) (given : Signature ClassName) (callback : Callback)
        → IsFitCallback s.world (native_call member arguments active previous heap runtime) a given callback → ⊥
    no_calls members heap runtime member active previous x arguments there instance a given callback fit =
        let static = members.static member fit.caller x fit.caller_is fit.static there in
        absurd cc

    inner_native : HaveMembers shapes → (heap : Heap TaggedValue) (runtime : C) (b : Beside s ground m t heap runtime)
        → (member : ℕ) (result : Option Ty) (arguments : List TaggedValue) (may : MayCall shapes heap
        (Api member) result arguments)
        → may.declared.method.is_static ≡ false → (active : Owner) (previous : Option Owner) (us vs : List TaggedValue)
        → Site s ground m t result vs next
        → IsSafe s (on_native (spot heap runtime b us) active previous member arguments (inner_native_ends vs))
    inner_native members heap runtime b member result arguments may instance active previous us vs site =
        let call = native_call member arguments active previous heap runtime in
        let a = s.natives.answer s.world call in
        let x = answered heap runtime b member result arguments may active previous in
        safe_check s (native_may_begin shapes heap member arguments) _ x.begins
        (safe_some s (native_type shapes member) x.given _ x.declared
        (safe_touched s a.touches (inner_native_ends vs (spot a.heap a.runtime x.beside us) x.given a.ends)
        (inner_ends a.heap a.runtime x.beside call a refl x.given result x.result_is us vs site a.ends x.ends
        (λ callback fit.
        no_calls members heap runtime member active previous may.declared arguments may.there instance a x.given
        callback fit))))

    -- ---- a call that a native member makes

    called : HaveMembers shapes → (heap : Heap TaggedValue) (runtime : C) (b : Beside s ground m t heap runtime)
        → (name : MethodName) (result : Option Ty) (arguments : List TaggedValue)
        (may : MayCall shapes heap name result arguments)
        → may.declared.method.is_static ≡ false → (owner : Owner) (us vs : List TaggedValue)
        → Site s ground m t result vs next
        → IsSafe s (called_as (spot heap runtime b us) owner name arguments vs)
    called members heap runtime b (Loaded number offset) result arguments may instance owner us vs site =
        enters_safe s ground m t d next heap runtime b number offset result arguments may us vs site (Some owner)
    called members heap runtime b (Api member) result arguments may instance owner us vs site =
        inner_native members heap runtime b member result arguments may instance owner (Some m.top.active) us vs site

    in_place : (member : ℕ) (c : ClassName) (x : Signature ClassName) (name : MethodName) (y : DeclaredMethod)
        → is_member_or_loaded member name ≡ true
        → method_at shapes name ≡ Some y → is_class_below shapes y.class c ≡ true
        → method_type_of shapes name ≡ Some x → is_in_place_of shapes member c x name ≡ true
    in_place member c x name y its there below type = grind (arith, its, there, and_true, signature_itself)

    -- the method that is found in place of the member
    module _ (members : HaveMembers shapes) (heap : Heap TaggedValue) (runtime : C)
        (b : Beside s ground m t heap runtime)
        (call : NativeCall C) (a : NativeAnswer C) (is : a.heap ≡ heap) (given : Signature ClassName)
        (callback : Callback) (fit : IsFitCallback s.world call a given callback) where
      abbrev class : ClassName
      class = classes.Api fit.member.class

      abbrev on : ClassName
      on = class_of fit.object.kind.object_type

      its : HasVirtual shapes callback.member fit.member.class
      its = members.virtual callback.member fit.member fit.member_is fit.virtual

      there : object_at heap callback.object ≡ Some fit.object
      there = subst (λ (h : Heap TaggedValue). object_at h callback.object ≡ Some fit.object) is fit.there

      arguments_fit : are_of_types shapes heap fit.signature.parameters callback.arguments ≡ true
      arguments_fit = grind arith

      made : IsMade s ground on
      made =
          class_made s ground fit.object.kind.object_type
          (typed_at shapes heap b.typed callback.object fit.object there).made

      class_there : is_class_at shapes class ≡ true
      class_there = grind (arith, its, heir_there, heir, there)

      on_heir : IsHeir shapes on class
      on_heir = heir_below s ground on class fit.below made.class class_there

      -- it is that member, or a package's
      of_applet : fit.member.class ≡ Applet
      of_applet = grind arith

      stands_there : (name : MethodName) → virtual_method_of shapes on its.token 0 ≡ Some name
          → is_member_or_loaded callback.member name ≡ true
      stands_there (Api j) e = eq-eqb j callback.member (its.only of_applet on j on_heir e)
      stands_there (Loaded number offset) e = refl

      calls_back_safe : (result : Option Ty) → returned_type given.result ≡ result → (us vs : List TaggedValue)
          → Site s ground m t result vs next → IsSafe s (calls_back (spot heap runtime b us) given callback vs)
      unfolding found_method
      calls_back_safe result result_is us vs site =
          let kept = ground.sound.virtual_methods.kept on class its.token 0
          (Api callback.member) on_heir its.small its.found in
          let f = ground.sound.virtual_methods.found on its.token 0 kept.method kept.found in
          let type = kept.type ∙ fit.declared in
          let concrete = made.finished.concrete its.token 0 kept.method its.small (some_world s ground) kept.found in
          let same_result = ap (λ (x : Signature ClassName). x.result)
          (ground.sound.same_types (giving given.result) (giving fit.signature.result) fit.result) in
          let may = found_method s ground heap callback.object fit.object its.token 0 kept.method fit.signature
          callback.arguments there
          kept.found concrete type arguments_fit in
          let gives = sym (ap returned_type same_result) ∙ result_is in
          safe_some s (object_at heap callback.object) fit.object _ there
          (safe_some s (type_of_member shapes callback.member) fit.signature _ fit.declared
          (safe_some s (virtual_member shapes callback.member)
          (record { class = class; token = its.token }) _ its.listed
          (safe_check s (callback_fits (spot heap runtime b us) given fit.signature class fit.object
          callback.arguments) _
          (three_true (is_of_class shapes class fit.object.kind.object_type)
          (is_same_return given.result fit.signature.result)
          (are_of_types shapes heap fit.signature.parameters callback.arguments) fit.below fit.result arguments_fit)
          (safe_some s (virtual_method_of shapes on its.token 0) kept.method _ kept.found
          (safe_check s (is_in_place_of shapes callback.member class fit.signature kept.method) _
          (in_place callback.member class fit.signature kept.method f.declared (stands_there kept.method kept.found)
          f.there
          (its.below on kept.method f.declared on_heir kept.found f.there) type)
          (called members heap runtime b kept.method result (Ref callback.object ∷ callback.arguments)
          (record {
            declared = may.declared;
            there = may.there;
            concrete = may.concrete;
            begins = may.begins;
            given = may.given ∙ gives;
          })
          f.instance fit.object.owner us vs site))))))

    -- ---- a native member that code calls

    ends_safe : HaveMembers shapes → (heap : Heap TaggedValue) (runtime : C) (b : Beside s ground m t heap runtime)
        → (call : NativeCall C) (a : NativeAnswer C) → a.heap ≡ heap → (given : Signature ClassName)
        → (result : Option Ty) → returned_type given.result ≡ result → (us vs : List TaggedValue)
        → Site s ground m t result vs next → (end : NativeEnd) → EndsFit s.world call a given end
        → IsSafe s (native_ends vs (spot heap runtime b us) given end)
    ends_safe members heap runtime b call a is given result result_is us vs site (Gives value) fit =
        native_gives_safe heap runtime b given result result_is value us vs site
        (subst (λ (h : Heap TaggedValue). is_given shapes h given.result value ≡ true) is fit)
    ends_safe members heap runtime b call a is given result result_is us vs site (ThrowsObject number) fit =
        entering.throws_now s ground m t d next heap runtime b us number
        (subst (λ (h : Heap TaggedValue). IsThrown s.world h number) is fit)
    ends_safe members heap runtime b call a is given result result_is us vs site (Calls callback) fit =
        calls_back_safe members heap runtime b call a is given callback fit result result_is us vs site
    ends_safe members heap runtime b call a is given result result_is us vs site IsStuck fit = absurd fit

    pub invokes_safe : HaveMembers shapes → (heap : Heap TaggedValue) (runtime : C)
        (b : Beside s ground m t heap runtime)
        → (name : MethodName) (result : Option Ty) (arguments : List TaggedValue)
        → MayCall shapes heap name result arguments
        → (switch : Option Owner) (us vs : List TaggedValue) → Site s ground m t result vs next
        → IsSafe s (invokes (spot heap runtime b us) switch name arguments vs)
    invokes_safe members heap runtime b (Loaded number offset) result arguments may switch us vs site =
        enters_safe s ground m t d next heap runtime b number offset result arguments may us vs site switch
    invokes_safe members heap runtime b (Api member) result arguments may switch us vs site =
        let call = native_call member arguments m.top.active m.top.previous heap runtime in
        let a = s.natives.answer s.world call in
        let x = answered heap runtime b member result arguments may m.top.active m.top.previous in
        safe_check s (native_may_begin shapes heap member arguments) _ x.begins
        (safe_some s (native_type shapes member) x.given _ x.declared
        (safe_touched s a.touches (native_ends vs (spot a.heap a.runtime x.beside us) x.given a.ends)
        (ends_safe members a.heap a.runtime x.beside call a refl x.given result x.result_is us vs site a.ends x.ends)))
