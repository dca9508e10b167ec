-- Calls of the runtime are safe where they can begin; and they can begin where a virtual member of the API is called on
-- an object.
use Rattle.std.proofs.Common.{◌≡◌, ℕ, zero, suc, List, ◌∷◌, length, Option, Some, None, Bool, true, arith}
use Rattle.std.proofs.Common.{false, cond, not, sym, ap, ◌∙◌, subst}
use Rattle.std.specs.Option.{option_and_then, option_map_or}
use Rattle.jc_base.specs.Signature.{Signature}
use Rattle.jc_cap_desc.specs.Shape.{Shape}
use Rattle.jc_cap.specs.declared.method_header.MethodHeader.{MethodHeader}
use Rattle.jc_check.specs.Package.{arguments_of}
use Rattle.jc_classes.specs.Members.{DeclaredMethod, method_at}
use Rattle.jc_classes.specs.Methods.{virtual_method_of}
use Rattle.jc_names.specs.declared.name.ClassName.{ClassName}
use Rattle.jc_names.specs.declared.name.ClassName.TheVariants as classes
use Rattle.jc_names.specs.declared.name.MethodName.{MethodName}
use Rattle.jc_names.specs.declared.name.MethodName.TheVariants.{Api, Loaded}
use Rattle.jc_effects.specs.Method.{returned_type}
use Rattle.jc_store.specs.Heap.{Object}
use Rattle.jc_types.specs.declared.ty.Ty.{Ty}
use Rattle.jc_machine.specs.Calls.{VirtualMember, native_may_begin, native_type, takes}
use Rattle.jc_machine.specs.Lookup.{class_of, code_at, declared_at, is_given, is_throwable, may_begin_with}
use Rattle.jc_machine.specs.Machine.{Calls, Frame, Gives, IsStuck, Machine, MethodPlace, NativeAnswer, NativeCall}
use Rattle.jc_machine.specs.Machine.{NativeEnd, Surroundings, ThrowsObject, last_denied}
use Rattle.jc_machine.specs.Natives.{EndsFit, IsFitCall}
use Rattle.jc_machine.specs.Step.{Called, Start, Threw, WasStuck, after_first_native, begun}
use Rattle.jc_machine.specs.Step.{ended_by, native_called, native_ended, native_started}
use Rattle.jc_machine.specs.Step.{no_frame, runtime_call, standing, started, started_by, first_native_call}
use Rattle.jc_machine.specs.Typed.{HaveTypes, IsTyped, IsTypedBeside}
use Rattle.jc_machine.specs.declared.stop.DeniedAccess.{DeniedAccess}
use Rattle.jc_words.specs.Values.{Ref, TaggedValue}
use Rattle.jc_safety.specs.Safety.{EndsTyped}
use Rattle.jc_safety.specs.Starting.{CanBegin, FindsMethod, IsMemberCall, IsTypedStart, MemberCanBegin, MethodCanBegin}
use Rattle.jc_safety.specs.Starting.{first_frame}
use Rattle.jc_safety.proofs.Callees.{MayCall, abstract_is, begins_typed, its_body, its_header, runs, same_declared}
use Rattle.jc_safety.proofs.Callees.{the_some}
use Rattle.jc_safety.proofs.Counted.{isnt_abstract, takes_them}
use Rattle.jc_safety.proofs.Ground.{Ground, heir_there, method_of_code}
use Rattle.jc_safety.proofs.Growing.{statics_still}
use Rattle.jc_safety.proofs.Lists.{and_true, both}
use Rattle.jc_safety.proofs.Members.{HasVirtual, HaveMembers}
use Rattle.jc_safety.proofs.Natives.{begins_if, class_made, found_method, given_result, heir_below, some_world}
use Rattle.jc_safety.proofs.Returning.{result_written}
use Rattle.jc_safety.proofs.Stepping.{runs_safely}
use Rattle.jc_safety.proofs.Writing.{typed_at}

not_true : (b : Bool) → not b ≡ true → b ≡ false
not_true b h1 = grind arith

same_header : (o : Option MethodHeader) (x y : MethodHeader) → o ≡ Some x → o ≡ Some y → x ≡ y
same_header o x y e f = cc

module _ {C : Type 0} (s : Surroundings C) (ground : Ground s) (members : HaveMembers s.world.shapes)
    (start : Start C) where
  abbrev shapes : List Shape
  shapes = s.world.shapes

  -- what is kept beside the frames, whichever frame stands there
  beside_with : (f : Frame) → IsTypedBeside s (standing start (no_frame start.owner)) → IsTypedBeside s (standing start f)
  beside_with f b = grind arith

  -- ---- a method of a loaded package

  pub first_typed : (place : MethodPlace) (k : MethodCanBegin s start place)
      → IsTypedBeside s (standing start (no_frame start.owner))
      → IsTyped s (standing start (first_frame start place k.header))
  first_typed place k beside =
      let l = its_body s.world ground.accepted.world place.number place.offset k.declared k.found in
      let stands = ground.packages place.number l.0 l.1 in
      let parts = both (takes k.header start.arguments)
      (may_begin_with shapes start.heap k.declared start.arguments) k.begins in
      let no = not_true (k.header).is_abstract (isnt_abstract k.header start.arguments parts.0) in
      let c = the_some (code_at s.world place) (ground.code place k.declared k.header k.found k.header_is no) in
      let typed = ground.typed_methods place l.0 c.0 l.1 c.1 in
      let of = method_of_code s.world place.offset l.0 c.0 place.number l.1 stands c.1 in
      let same = same_declared (declared_at s.world place) k.declared of.declared k.found of.found in
      let fit = subst (λ (x : DeclaredMethod). HaveTypes shapes start.heap start.arguments (arguments_of shapes x)) same
      (begins_typed shapes start.heap k.declared start.arguments parts.1) in
      let header = same_header k.declared.method.header of.header k.header
      (ap (λ (x : DeclaredMethod). x.method.header) same ∙ of.header_is) k.header_is in
      subst (λ (h : MethodHeader). IsTyped s (standing start (first_frame start place h))) header
      (record {
        beside = beside_with (first_frame start place of.header) beside;
        top = runs s ground start.heap place l.0 l.1 c.0 c.1 typed of start.arguments fit start.owner None;
        waiting = tt;
      })

  if_typed : (b : Bool) (x y : Called C) → EndsTyped s x.ends → EndsTyped s y.ends → EndsTyped s (cond b x y).ends
  if_typed b x y h1 h2 = grind arith

  if_so : (b : Bool) (x y : Called C) → b ≡ true → EndsTyped s x.ends → EndsTyped s (cond b x y).ends
  if_so b x y h1 h2 = grind arith

  begun_typed : (steps : ℕ) (place : MethodPlace) (k : MethodCanBegin s start place)
      → IsTypedBeside s (standing start (no_frame start.owner)) → EndsTyped s (begun s steps start place k.header).ends
  begun_typed steps place k beside = grind (arith, if_typed, length, runs_safely, first_typed, beside_with)

  method_called : (steps : ℕ) (place : MethodPlace) (k : MethodCanBegin s start place)
      → IsTypedBeside s (standing start (no_frame start.owner))
      → EndsTyped s (started s steps start place (declared_at s.world place)).ends
  method_called steps place k beside = grind (arith, Option, if_so, begun_typed)

  -- ---- a native member

  module _ (member : ℕ) (k : MemberCanBegin s start member)
      (beside : IsTypedBeside s (standing start (no_frame start.owner))) where
    abbrev call : NativeCall C
    call = first_native_call s start member

    abbrev a : NativeAnswer C
    a = s.natives.answer s.world call

    abbrev after : Machine C
    after = after_first_native start a

    its_call : IsFitCall s.natives s.world call
    its_call = grind arith

    after_typed : IsTypedBeside s after
    after_typed =
        let fit = ground.lawful.fit s.world call ground.accepted its_call in
        let kept = (ground.lawful.guarded s.world call).kept in record {
          heap = fit.heap;
          statics = statics_still s.world start.heap a.heap kept start.statics beside.statics;
          runtime_objects = ground.objects_stay start.heap a.heap kept beside.runtime_objects;
          fits = fit.fits;
        }

    -- the last access of the member, if it was denied
    abbrev denied : Option DeniedAccess
    denied = last_denied a.touches

    gives_typed : (given : Signature ClassName) → native_type shapes member ≡ Some given → (value : Option TaggedValue)
        → is_given shapes a.heap given.result value ≡ true → EndsTyped s (native_ended s after member denied (Gives value))
    gives_typed given declared value is = grind (arith, Option, Bool, after_typed, result_written, given_result)

    native_typed : (given : Signature ClassName) → native_type shapes member ≡ Some given → (end : NativeEnd)
        → EndsFit s.world call a given end → EndsTyped s (native_ended s after member denied end)
    native_typed given declared (Gives value) fit = gives_typed given declared value fit
    native_typed given declared (ThrowsObject number) fit =
        let P : Option (Object TaggedValue) → Type 0 =
        λ o. EndsTyped s (cond (option_map_or (λ (x : Object TaggedValue). is_throwable shapes x.kind.object_type) o false)
        (Threw after number None denied) WasStuck) in
        let Q : Bool → Type 0 = λ b. EndsTyped s (cond b (Threw after number None denied) WasStuck) in
        subst P (sym fit.found) (subst Q (sym fit.throwable) after_typed)
    native_typed given declared (Calls callback) fit =
        let static = members.static member fit.caller k.declared fit.caller_is fit.static k.found in
        let instance = k.instance in
        absurd cc
    native_typed given declared IsStuck fit = absurd fit

    member_called : (steps : ℕ) → EndsTyped s (native_started s steps start member).ends
    member_called zero = beside
    member_called (suc n) =
        let fit = ground.lawful.fit s.world call ground.accepted its_call in
        if_so (native_may_begin shapes start.heap member start.arguments) (native_called s start member a)
        (ended_by WasStuck) k.begins (native_typed fit.given fit.declared a.ends fit.ends)

  -- ---- any call

  by_name : (steps : ℕ) (name : MethodName) → CanBegin s start name
      → IsTypedBeside s (standing start (no_frame start.owner)) → EndsTyped s (started_by s steps start name).ends
  by_name steps (Loaded number offset) k beside = search (arith, method_called, member_called)
  by_name steps (Api member) k beside = member_called member k beside steps

  pub called_safely : (steps : ℕ) → IsTypedStart s start → EndsTyped s (runtime_call s steps start).ends
  unfolding runtime_call
  called_safely steps k = by_name steps start.method k.can_begin k.beside

  -- ---- a virtual member of the API that is called on an object

  can_begin : (name : MethodName) (result : Option Ty) (vs : List TaggedValue) → start.arguments ≡ vs
      → (k : MayCall shapes start.heap name result vs) → k.declared.method.is_static ≡ false → CanBegin s start name
  can_begin (Loaded number offset) result vs is k instance =
      let l = its_body s.world ground.accepted.world number offset k.declared k.there in
      let stands = ground.packages number l.0 l.1 in
      let h = the_some k.declared.method.header (its_header s.world number offset l.0 stands k.declared k.there) in
      let no = abstract_is k.declared.method h.0 h.1 k.concrete in record {
        declared = k.declared;
        found = k.there;
        header = h.0;
        header_is = h.1;
        begins =
            let begins = subst (λ (us : List TaggedValue). may_begin_with shapes start.heap k.declared us ≡ true)
            (sym is) k.begins in
            and_true (takes h.0 start.arguments) (may_begin_with shapes start.heap k.declared start.arguments)
            (takes_them shapes start.heap ground.sound.methods (Loaded number offset) k.declared h.0 start.arguments
            k.there h.1 no begins) begins;
      }
  can_begin (Api member) result vs is k instance = grind (arith, begins_if)

  pub finds_method : IsTypedBeside s (standing start (no_frame start.owner)) → (member : ℕ) (object : Object TaggedValue)
      → IsMemberCall s start member object → FindsMethod s start member object
  finds_method beside member object k =
      let its : HasVirtual shapes member (k.of).class = members.virtual member k.of k.of_is k.virtual in
      let class : ClassName = classes.Api k.of.class in
      let on : ClassName = class_of object.kind.object_type in
      let made = class_made s ground object.kind.object_type
      (typed_at shapes start.heap beside.heap k.number object k.there).made in
      let first = ground.sound.virtual_methods.found class its.token 0 (Api member) its.found in
      let class_there = heir_there s ground class first.declared.class first.heir
      (ground.names.declared (Api member) first.declared first.there) in
      let heir = heir_below s ground on class k.below made.class class_there in
      let kept = ground.sound.virtual_methods.kept on class its.token 0 (Api member) heir its.small its.found in
      let f = ground.sound.virtual_methods.found on its.token 0 kept.method kept.found in
      let type = kept.type ∙ k.declared in
      let concrete = made.finished.concrete its.token 0 kept.method its.small (some_world s ground) kept.found in
      let may = found_method s ground start.heap k.number object its.token 0 kept.method k.signature k.arguments
      k.there kept.found concrete type k.fit in
      let same = same_declared (method_at shapes kept.method) f.declared may.declared f.there may.there in
      let instance = ap (λ (x : DeclaredMethod). x.method.is_static) (sym same) ∙ f.instance in record {
        name = kept.method;
        found =
            ap (option_and_then (λ (m : VirtualMember). virtual_method_of shapes on m.token 0)) its.listed
            ∙ kept.found;
        can_begin =
            can_begin kept.method (returned_type (k.signature).result) (Ref k.number ∷ k.arguments) k.arguments_are may
            instance;
      }
