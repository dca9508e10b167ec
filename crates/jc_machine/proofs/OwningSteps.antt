-- Each step keeps frames and their owners, but by calls, returns and catches.
use Rattle.std.proofs.Common.{◌≡◌, ℕ, zero, suc, ◌+◌, ◌-◌, ◌==◌, ◌&&◌, Bool, true, false, cond}
use Rattle.std.proofs.Common.{List, []}
use Rattle.std.proofs.Common.{◌∷◌, ◌++◌, length, drop, nat_lt, Option, Some, None, refl, sym, ap, ◌∙◌}
use Rattle.std.proofs.Common.{subst}
use Rattle.std.proofs.Common.{take, append-nil, reverse, slice_get, slice_set}
use Rattle.std.specs.List.{list_all}
use Rattle.std.specs.Option.{option_and_then, option_map_or}
use Rattle.jc_base.specs.Signature.{Signature}
use Rattle.jc_cap.specs.declared.handler.Handler.{Handler}
use Rattle.jc_cap_desc.specs.Shape.{MethodBody}
use Rattle.jc_cap.specs.declared.method_header.MethodHeader.{MethodHeader}
use Rattle.jc_classes.specs.Members.{DeclaredMethod}
use Rattle.jc_code.specs.declared.instr.Instr.{Instr}
use Rattle.jc_classes.specs.Methods.{interface_method_of, virtual_method_of}
use Rattle.jc_code.specs.declared.instr.Operation.{Operation}
use Rattle.jc_code.specs.declared.instr.Operation.TheVariants as operations
use Rattle.jc_code.specs.declared.object.Invocation.{Invocation}
use Rattle.jc_code.specs.declared.object.Invocation.TheVariants.{Virtual, Special, Static, Interface}
use Rattle.jc_code.specs.declared.object.ObjectOperation.{ObjectOperation}
use Rattle.jc_code.specs.declared.object.ObjectOperation.TheVariants as objects
use Rattle.jc_effects.specs.Objects.{class_target}
use Rattle.jc_firewall.specs.declared.access.Access.TheVariants as accesses
use Rattle.jc_machine.specs.Lookup.{is_of_class}
use Rattle.jc_machine.specs.Runtime.{class_cast_exception}
use Rattle.jc_machine.specs.Objects.{bit}
use Rattle.jc_machine.specs.Lookup.{class_of, code_at, declared_at, instruction_at, is_given, is_throwable, target_at}
use Rattle.jc_machine.specs.Calls.{accepts, callback_fits, found_for, has_interface, is_in_place_of, native_may_begin}
use Rattle.jc_machine.specs.Calls.{native_type, takes, type_of_member, virtual_member}
use Rattle.jc_effects.specs.Objects.{interface_method_type}
use Rattle.jc_machine.specs.Lookup.{are_of_types}
use Rattle.jc_link.specs.declared.target.PoolTarget.{PoolTarget}
use Rattle.jc_names.specs.declared.name.ClassName.{ClassName}
use Rattle.jc_names.specs.declared.name.MethodName.{MethodName}
use Rattle.jc_names.specs.declared.name.MethodName.TheVariants.{Api, Loaded}
use Rattle.jc_names.specs.declared.owner.Owner.{Owner}
use Rattle.jc_store.specs.Heap.{Heap, Object, object_at}
use Rattle.jc_machine.specs.Calls.{MethodTarget, VirtualTarget, act_call, act_interface, act_of_interface, act_special}
use Rattle.jc_machine.specs.Calls.{act_static_call, act_virtual, active_in, after_native, called_as, calls_back}
use Rattle.jc_machine.specs.Calls.{entered}
use Rattle.jc_machine.specs.Calls.{enters, frame_of, has_room, inner_native_ends, invokes, native_answer, native_call}
use Rattle.jc_machine.specs.Calls.{native_ends, native_gives, on_native, previous_in, special_target, static_target}
use Rattle.jc_machine.specs.Calls.{virtual_target, with_arguments, with_given, with_receiver}
use Rattle.jc_machine.specs.Fields.{field_target}
use Rattle.jc_machine.specs.Going.{StepContext, asking}
use Rattle.jc_machine.specs.Going.{gives, moved, on_object}
use Rattle.jc_machine.specs.Going.{on_reference}
use Rattle.jc_machine.specs.Going.{on_some, on_target, plain}
use Rattle.jc_machine.specs.Going.{require}
use Rattle.jc_machine.specs.Going.{wanting, with_machine}
use Rattle.jc_machine.specs.Guarded.{frame_answer}
use Rattle.jc_machine.specs.Machine.{Callback, Calls, Frame, Gives, IsStuck, Machine, MethodPlace, NativeAnswer}
use Rattle.jc_machine.specs.Machine.{NativeEnd, Next, Outcome, Stepped, Stuck, Surroundings, Throws, ThrowsObject}
use Rattle.jc_machine.specs.Machine.{Touch}
use Rattle.jc_machine.specs.Machine.{Ends, UsedUp}
use Rattle.jc_machine.specs.Natives.{AreNativesGuarded, IsGuardedAnswer}
use Rattle.jc_machine.specs.Objects.{act_object}
use Rattle.jc_machine.specs.Owning.{AsksFor, FramesGo, IsCalledBy, OwnersGo, StepsOwned, Waits}
use Rattle.jc_machine.specs.Owning.{back, called, called_back, switch_in}
use Rattle.jc_machine.specs.Returns.{room_of}
use Rattle.jc_machine.specs.Step.{act, act_at, caught_in, covering, defensive_step, handler_for, here, is_found}
use Rattle.jc_machine.specs.Step.{settled}
use Rattle.jc_machine.specs.Step.{settled_object, through, unwound}
use Rattle.jc_words.specs.Values.{Null, Ref, TaggedValue, Word, is_tagged_reference}
use Rattle.jc_machine.proofs.OwningRules.{Owned, same_call, stays, at_check, at_some, at_reference, at_reference_local}
use Rattle.jc_machine.proofs.OwningRules.{at_require, at_object, gives_owned, behind, at_accessed, at_called}
use Rattle.jc_machine.proofs.OwningRules.{load_owned, length_owned, store_owned, target_owned, create_owned}
use Rattle.jc_machine.proofs.OwningRules.{tested_owned, branch_owned, returns_owned, goes_owned, word_owned}

-- ---- frames

-- the caller waits with operands below its own
waits_at : {C : Type 0} (h : StepContext C) (taken : ℕ) (vs : List TaggedValue) → vs ≡ drop taken h.machine.top.operands
    → Waits h.machine.top (moved h.machine.top h.machine.top.pc h.machine.top.locals vs)
waits_at h taken vs e =
    record { call = same_call refl refl refl; pc = refl; locals = refl; taken = taken; operands = e }

called_so : (f : Frame) (switch : Option Owner) (place : MethodPlace) (header : MethodHeader)
    (arguments : List TaggedValue)
    → IsCalledBy f (frame_of place header arguments (active_in f switch) (previous_in f switch)) switch
called_so f None place header arguments = record { active = refl; previous = refl }
called_so f (Some owner) place header arguments = record { active = refl; previous = refl }

-- a place with other objects, and with something else that the runtime keeps, has the same frames
abbrev beside : {C : Type 0} → StepContext C → Heap TaggedValue → C → StepContext C
beside h heap runtime = with_machine h (record {
  heap = heap;
  statics = h.machine.statics;
  runtime = runtime;
  top = h.machine.top;
  waiting = h.machine.waiting;
})

module _ {C : Type 0} (h : StepContext C) (before : List Touch) (heap : Heap TaggedValue) (runtime : C) where
  entered_owned : (f : Frame) (max_stack : ℕ) (vs : List TaggedValue)
      → FramesGo h.around h.machine before
      (f ∷ moved h.machine.top h.machine.top.pc h.machine.top.locals vs ∷ h.machine.waiting)
      → Owned h before (entered (beside h heap runtime) f max_stack vs)
  entered_owned f max_stack vs k =
      by_room (has_room h.around (h.machine.top ∷ h.machine.waiting) (length f.locals + max_stack))
    where
      by_room : (b : Bool) → Owned h before (cond b (plain (Next (record {
        heap = heap;
        statics = h.machine.statics;
        runtime = runtime;
        top = f;
        waiting = moved h.machine.top h.machine.top.pc h.machine.top.locals vs ∷ h.machine.waiting;
      }))) (plain (UsedUp (beside h heap runtime).machine)))
      by_room true = record {
        owned = subst (λ (xs : List Touch). FramesGo h.around h.machine xs
            (f ∷ moved h.machine.top h.machine.top.pc h.machine.top.locals vs ∷ h.machine.waiting))
            (sym (append-nil before)) k;
      }
      by_room false = record { owned = tt }

  enters_owned : (switch : Option Owner) (place : MethodPlace) (arguments vs : List TaggedValue) (taken : ℕ)
      → vs ≡ drop taken h.machine.top.operands
      → ((top caller : Frame) → Waits h.machine.top caller → IsCalledBy h.machine.top top switch
      → FramesGo h.around h.machine before (top ∷ caller ∷ h.machine.waiting))
      → Owned h before (enters (beside h heap runtime) switch place arguments vs)
  enters_owned switch place arguments vs taken e k =
      at_some h before (option_and_then (λ d. d.method.header) (declared_at h.around.world place)) _ (λ header f.
      at_check h before (takes header arguments && accepts (beside h heap runtime) place arguments) _
      (entered_owned (frame_of place header arguments (active_in h.machine.top switch)
      (previous_in h.machine.top switch)) header.max_stack vs
      (k _ _ (waits_at h taken vs e) (called_so h.machine.top switch place header arguments))))

-- ---- native members: a place with other objects, and with something else that the runtime keeps, has the same frames

module _ {C : Type 0} (h : StepContext C) (before : List Touch) (a : NativeAnswer C) where
  gave_owned : (signature : Signature ClassName) (value : Option TaggedValue) (vs : List TaggedValue)
      → Owned h before (native_gives (after_native h a) signature value vs)
  gave_owned signature value vs =
      at_check h before (is_given h.around.world.shapes a.heap signature.result value) _ (by_value value)
    where
      by_value : (v : Option TaggedValue) → Owned h before (with_given (after_native h a) v vs)
      by_value None = record { owned = stays _ _ _ }
      by_value (Some v) = at_check h before (nat_lt (length vs) h.max_stack) _ (record { owned = stays _ _ _ })

  inner_owned : (signature : Signature ClassName) (vs : List TaggedValue) (ends : NativeEnd)
      → Owned h before (inner_native_ends vs (after_native h a) signature ends)
  inner_owned signature vs (Gives value) = gave_owned signature value vs
  inner_owned signature vs (ThrowsObject n) = record { owned = refl }
  inner_owned signature vs (Calls callback) = record { owned = tt }
  inner_owned signature vs IsStuck = record { owned = tt }

module _ {C : Type 0} (h : StepContext C) (guarded : AreNativesGuarded h.around.natives) (member : ℕ)
    (arguments : List TaggedValue) where
  abbrev a : NativeAnswer C
  a = frame_answer h.around h.machine member arguments

  -- one that was called by another one
  inner_native : (before : List Touch) (active : Owner) (previous : Option Owner) (other : ℕ)
      (values vs : List TaggedValue)
      → Owned h before (on_native (after_native h a) active previous other values (inner_native_ends vs))
  inner_native before active previous other values vs =
      let b : NativeAnswer C = native_answer (after_native h a) active previous other values in
      at_check h before (native_may_begin h.around.world.shapes a.heap other values) _
      (at_some h before (native_type h.around.world.shapes other) _ (λ signature e.
      behind h before b.touches _ (inner_owned h (before ++ b.touches) b signature vs b.ends)))

  called_as_owned : (before : List Touch) (owner : Owner) → AsksFor h.around h.machine owner → (method : MethodName)
      (values vs : List TaggedValue) (taken : ℕ) → vs ≡ drop taken h.machine.top.operands
      → Owned h before (called_as (after_native h a) owner method values vs)
  called_as_owned before owner asks (Loaded number offset) values vs taken e =
      enters_owned h before a.heap a.runtime (Some owner) (record { number = number; offset = offset }) values vs taken
      e
      (λ top caller waits is. called_back top caller owner waits asks is)
  called_as_owned before owner asks (Api other) values vs taken e =
      inner_native before owner (Some h.machine.top.active) other values vs

  calls_back_owned : (before : List Touch) (given : Signature ClassName) (callback : Callback) → a.ends ≡ Calls callback
      → (vs : List TaggedValue) (taken : ℕ) → vs ≡ drop taken h.machine.top.operands
      → Owned h before (calls_back (after_native h a) given callback vs)
  calls_back_owned before given callback e vs taken rest =
      at_some h before (object_at a.heap callback.object) _ (λ object there.
      at_some h before (type_of_member h.around.world.shapes callback.member) _ (λ signature f.
      at_some h before (virtual_member h.around.world.shapes callback.member) _ (λ found g.
      at_check h before (callback_fits (after_native h a) given signature found.class object callback.arguments) _
      (at_some h before (virtual_method_of h.around.world.shapes (class_of object.kind.object_type) found.token 0) _
      (λ method d.
      at_check h before (is_in_place_of h.around.world.shapes callback.member found.class signature method) _
      (called_as_owned before object.owner (asks object (was object there)) method
      (Ref callback.object ∷ callback.arguments) vs taken rest))))))
    where
      answer : IsGuardedAnswer h.around.natives h.around.world
          (native_call h.around h.machine h.machine.top.active h.machine.top.previous member arguments) a
      answer =
          guarded h.around.world
          (native_call h.around h.machine h.machine.top.active h.machine.top.previous member arguments)

      asks : (object : Object TaggedValue) → object_at h.machine.heap callback.object ≡ Some object
          → AsksFor h.around h.machine object.owner
      asks object there = record {
        member = member;
        arguments = arguments;
        callback = callback;
        ends = e;
        asks = answer.asks callback e;
        object = object;
        there = there;
        whose = refl;
      }

      was : (object : Object TaggedValue) → object_at a.heap callback.object ≡ Some object
          → object_at h.machine.heap callback.object ≡ Some object
      was object there =
          sym (ap (λ (heap : Heap TaggedValue). object_at heap callback.object) (answer.calls callback e).heap) ∙ there

  native_owned : (before : List Touch) (vs : List TaggedValue) (taken : ℕ) → vs ≡ drop taken h.machine.top.operands
      → Owned h before (on_native h h.machine.top.active h.machine.top.previous member arguments (native_ends vs))
  native_owned before vs taken rest =
      at_check h before (native_may_begin h.around.world.shapes h.machine.heap member arguments) _
      (at_some h before (native_type h.around.world.shapes member) _ (λ signature e.
      behind h before a.touches _ (by_end (before ++ a.touches) signature a.ends refl)))
    where
      by_end : (ts : List Touch) (signature : Signature ClassName) (ends : NativeEnd) → a.ends ≡ ends
          → Owned h ts (native_ends vs (after_native h a) signature ends)
      by_end ts signature (Gives value) e = gave_owned h ts a signature value vs
      by_end ts signature (ThrowsObject n) e = record { owned = refl }
      by_end ts signature (Calls callback) e = calls_back_owned ts signature callback e vs taken rest
      by_end ts signature IsStuck e = record { owned = tt }

-- ---- calls

-- what stands behind the first of what is left
rest_of : {A : Type 0} (k : ℕ) (ys : List A) (x : A) (xs : List A) → x ∷ xs ≡ drop k ys → xs ≡ drop (suc k) ys
rest_of zero [] x xs e = absurd cc
rest_of {A = A} zero (y ∷ ys) x xs e = ap rest e
  where
    rest : List A → List A
    rest [] = []
    rest (z ∷ zs) = zs
rest_of (suc k) [] x xs e = absurd cc
rest_of (suc k) (y ∷ ys) x xs e = rest_of k ys x xs e

module _ {C : Type 0} (h : StepContext C) (guarded : AreNativesGuarded h.around.natives) where
  invokes_owned : (before : List Touch) (switch : Option Owner) → switch_in before ≡ switch → (method : MethodName)
      (arguments vs : List TaggedValue) (taken : ℕ) → vs ≡ drop taken h.machine.top.operands
      → Owned h before (invokes h switch method arguments vs)
  invokes_owned before switch e (Loaded number offset) arguments vs taken rest =
      enters_owned h before h.machine.heap h.machine.runtime switch (record { number = number; offset = offset })
      arguments
      vs taken rest
      (λ top caller waits is. called top caller waits (subst (IsCalledBy h.machine.top top) (sym e) is))
  invokes_owned before switch e (Api member) arguments vs taken rest =
      native_owned h guarded member arguments before vs taken rest

  arguments_owned : (signature : Signature ClassName) (go : List TaggedValue → List TaggedValue → Stepped C)
      → ((arguments vs : List TaggedValue) (taken : ℕ) → vs ≡ drop taken h.machine.top.operands
      → Owned h [] (go arguments vs)) → Owned h [] (with_arguments h signature go)
  arguments_owned signature go k =
      at_check h [] (are_of_types h.around.world.shapes h.machine.heap signature.parameters
      (reverse (take (length signature.parameters) h.machine.top.operands))) _
      (k _ _ (length signature.parameters) refl)

  receiver_owned : (signature : Signature ClassName)
      (go : List TaggedValue → ℕ → Object TaggedValue → List TaggedValue → Stepped C)
      → ((arguments : List TaggedValue) (n : ℕ) (o : Object TaggedValue) (vs : List TaggedValue) (taken : ℕ)
      → vs ≡ drop taken h.machine.top.operands → Owned h [] (go arguments n o vs))
      → Owned h [] (with_receiver h signature go)
  receiver_owned signature go k =
      arguments_owned signature _ (λ arguments us taken e. by_operands arguments us taken e)
    where
      by_operands : (arguments us : List TaggedValue) (taken : ℕ) → us ≡ drop taken h.machine.top.operands
          → Owned h [] (on_reference us (λ receiver vs.
          on_object h receiver (λ number object. go (receiver ∷ arguments) number object vs)))
      by_operands arguments [] taken e = record { owned = tt }
      by_operands arguments (v ∷ vs) taken e =
          at_check h [] (is_tagged_reference v) _
          (at_object h [] v (λ number object. go (v ∷ arguments) number object vs)
          (λ n o. k (v ∷ arguments) n o vs (suc taken) (rest_of taken h.machine.top.operands v vs e)))

  virtual_owned : (target : VirtualTarget) → Owned h [] (act_virtual h target)
  virtual_owned target =
      receiver_owned target.signature _ (λ arguments n o vs taken rest.
      at_check h [] (is_of_class h.around.world.shapes target.class o.kind.object_type) _
      (at_called h (asking accesses.InvokeVirtual n) o _ (λ ts switch e.
      at_some h ts (found_for h target.token o) _ (λ method d.
      invokes_owned ts switch e method arguments vs taken rest))))

  special_owned : (target : MethodTarget) → Owned h [] (act_special h target)
  special_owned target =
      receiver_owned target.signature _ (λ arguments n o vs taken rest.
      at_check h [] (is_of_class h.around.world.shapes target.class o.kind.object_type) _
      (invokes_owned [] None refl target.method arguments vs taken rest))

  static_call_owned : (target : MethodTarget) → Owned h [] (act_static_call h target)
  static_call_owned target =
      arguments_owned target.signature _
      (λ arguments vs taken rest. invokes_owned [] None refl target.method arguments vs taken rest)

  of_interface_owned : (interface : ClassName) (token : ℕ) (signature : Signature ClassName)
      → Owned h [] (act_of_interface h interface token signature)
  of_interface_owned interface token signature =
      receiver_owned signature _ (λ arguments n o vs taken rest.
      at_called h (wanting accesses.InvokeInterface n (Some interface)) o _ (λ ts switch e.
      at_require h ts class_cast_exception (has_interface h.around.world.shapes interface o) _
      (at_some h ts (interface_method_of h.around.world.shapes (class_of o.kind.object_type) interface token) _ (λ method d.
      invokes_owned ts switch e method arguments vs taken rest))))

  interface_owned : (count token : ℕ) (interface : ClassName) → Owned h [] (act_interface h count token interface)
  interface_owned count token interface =
      at_some h [] (interface_method_type h.around.world.shapes interface token) _ (λ signature e.
      at_check h [] (count == 1 + length signature.parameters) _ (of_interface_owned interface token signature))

  at_target : {A : Type 0} (index : ℕ) (wanted : PoolTarget → Option A) (go : A → Stepped C)
      → ((x : A) → Owned h [] (go x)) → Owned h [] (on_target h index wanted go)
  at_target index wanted go k =
      at_some h [] (option_and_then wanted (target_at h.around.world h.machine.top.method.number index)) go (λ x e. k x)

  call_owned : (invocation : Invocation) → Owned h [] (act_call h invocation)
  call_owned (Virtual index) = at_target index virtual_target _ virtual_owned
  call_owned (Special index) = at_target index special_target _ special_owned
  call_owned (Static index) = at_target index static_target _ static_call_owned
  call_owned (Interface count index token) = at_target index class_target _ (interface_owned count token)

  object_owned : (operation : ObjectOperation) → Owned h [] (act_object h operation)
  unfolding act_object
  object_owned objects.PushNull = gives_owned h [] Null h.machine.top.operands
  object_owned (objects.Load local) =
      at_reference_local h [] (slice_get h.machine.top.locals local) _ (λ v. gives_owned h [] v h.machine.top.operands)
  object_owned (objects.Store local) =
      at_reference h [] h.machine.top.operands _ (λ v vs. at_check h [] (nat_lt local (length h.machine.top.locals)) _
      (goes_owned h h.next_pc (slice_set h.machine.top.locals local v) vs))
  object_owned (objects.LoadComponent form) = load_owned h form
  object_owned (objects.StoreComponent form) = store_owned h form
  object_owned objects.ArrayLength = length_owned h
  object_owned (objects.Branch when offset) = branch_owned h when offset
  object_owned (objects.Field access index) = at_target index field_target _ (target_owned h access)
  object_owned (objects.Invoke invocation) = call_owned invocation
  object_owned (objects.Create creation) = create_owned h creation
  object_owned (objects.CheckCast type) =
      at_reference h [] h.machine.top.operands _ (λ v vs.
      tested_owned h accesses.CheckCast type v (gives h v vs) (λ passes. require h class_cast_exception passes
      (gives h v vs))
      (gives_owned h [] v vs) (λ ts passes. at_require h ts class_cast_exception passes _ (gives_owned h ts v vs)))
  object_owned (objects.InstanceOf type) =
      at_reference h [] h.machine.top.operands _ (λ v vs.
      tested_owned h accesses.InstanceOf type v (gives h (bit false) vs) (λ passes. gives h (bit passes) vs)
      (gives_owned h [] (bit false) vs) (λ ts passes. gives_owned h ts (bit passes) vs))
  object_owned objects.Throw =
      at_reference h [] h.machine.top.operands _ (λ v vs. at_object h [] v _ (λ n o.
      at_check h [] (is_throwable h.around.world.shapes o.kind.object_type) _
      (at_accessed h [] accesses.Throw n o _ (λ ts. record { owned = refl }))))
  object_owned objects.ReturnReference = at_reference h [] h.machine.top.operands _ (λ v vs. returns_owned h (Some v))
  object_owned objects.ReturnVoid = returns_owned h None

  act_owned : (operation : Operation) → Owned h [] (act h operation)
  act_owned (operations.Word operation) = word_owned h operation
  act_owned (operations.Object operation) = object_owned operation

-- ---- what is thrown, and a step

module _ {C : Type 0} (s : Surroundings C) (m0 : Machine C) (touches : List Touch) where
  either_owned : (b : Bool) (o : Outcome C) → OwnersGo s m0 touches o → OwnersGo s m0 touches (cond b o Stuck)
  either_owned true o k = k
  either_owned false o k = tt

  module _ (m : Machine C) (same : (m.top ∷ m.waiting) ≡ (m0.top ∷ m0.waiting)) (object : ℕ) (class : ClassName) where
    caught_owned : (f : Frame) (waiting : List Frame) (body : MethodBody) (room : Option ℕ) (o : Outcome C)
        (handler : Option Handler) (k : ℕ) → f ∷ waiting ≡ drop k (m0.top ∷ m0.waiting)
        → OwnersGo s m0 touches o → OwnersGo s m0 touches (caught_in m object f waiting body room o handler)
    caught_owned f waiting body room o None k e rest = rest
    caught_owned f waiting body room o (Some handler) k e rest =
        either_owned (option_map_or (nat_lt 0) room false) _
        (back k f _ waiting (sym e) (record { call = same_call refl refl refl; locals = refl }))

    through_owned : (f : Frame) (waiting : List Frame) (o : Outcome C) (body : Option MethodBody) (k : ℕ)
        → f ∷ waiting ≡ drop k (m0.top ∷ m0.waiting) → OwnersGo s m0 touches o
        → OwnersGo s m0 touches (through s m object class f waiting o body)
    through_owned f waiting o None k e rest = tt
    through_owned f waiting o (Some body) k e rest =
        either_owned (list_all (is_found s.world f.method.number) (covering body f.pc)) _
        (caught_owned f waiting body (room_of s f) o (handler_for s.world f class body) k e rest)

    unwound_owned : (frames : List Frame) (k : ℕ) → frames ≡ drop k (m0.top ∷ m0.waiting)
        → OwnersGo s m0 touches (unwound s m object class frames)
    unwound_owned [] k e = same
    unwound_owned (f ∷ waiting) k e =
        through_owned f waiting (unwound s m object class waiting) (code_at s.world f.method) k e
        (unwound_owned waiting (suc k) (rest_of k (m0.top ∷ m0.waiting) f waiting e))

  object_owned_by : (m : Machine C) → (m.top ∷ m.waiting) ≡ (m0.top ∷ m0.waiting) → (object : ℕ)
      (o : Option (Object TaggedValue)) → OwnersGo s m0 touches (settled_object s m object o)
  object_owned_by m same object None = tt
  object_owned_by m same object (Some o) =
      either_owned (is_throwable s.world.shapes o.kind.object_type) _
      (unwound_owned m same object (class_of o.kind.object_type) (m.top ∷ m.waiting) 0 same)

  settles_owned : (o : Outcome C) → OwnersGo s m0 touches o → OwnersGo s m0 touches (settled s o)
  settles_owned (Next m) k = k
  settles_owned (Throws m object) k = object_owned_by m k object (object_at m.heap object)
  settles_owned (Ends m value) k = tt
  settles_owned (UsedUp m) k = tt
  settles_owned Stuck k = tt

pub steps_owned : {C : Type 0} (s : Surroundings C) → AreNativesGuarded s.natives → (m : Machine C) → StepsOwned s m
unfolding defensive_step act_at
steps_owned {C = C} s guarded m =
    settles_owned s m (act_at s m).touches (act_at s m).outcome
    (by_method (declared_at s.world m.top.method))
  where
    by_instr : (method : DeclaredMethod) (header : MethodHeader) (o : Option Instr)
        → OwnersGo s m (on_some {C = C} o (λ instr. act (here s m method header instr) instr.operation)).touches
        (on_some {C = C} o (λ instr. act (here s m method header instr) instr.operation)).outcome
    by_instr method header None = tt
    by_instr method header (Some instr) = (act_owned (here s m method header instr) guarded instr.operation).owned

    by_body : (method : DeclaredMethod) (header : MethodHeader) (o : Option MethodBody)
        → OwnersGo s m (on_some {C = C} o (λ body. on_some (instruction_at body.code m.top.pc)
        (λ instr. act (here s m method header instr) instr.operation))).touches
        (on_some {C = C} o (λ body. on_some (instruction_at body.code m.top.pc)
        (λ instr. act (here s m method header instr) instr.operation))).outcome
    by_body method header None = tt
    by_body method header (Some body) = by_instr method header (instruction_at body.code m.top.pc)

    by_header : (method : DeclaredMethod) (o : Option MethodHeader)
        → OwnersGo s m (on_some {C = C} o (λ header. on_some (code_at s.world m.top.method) (λ body.
        on_some (instruction_at body.code m.top.pc)
        (λ instr. act (here s m method header instr) instr.operation)))).touches
        (on_some {C = C} o (λ header. on_some (code_at s.world m.top.method) (λ body.
        on_some (instruction_at body.code m.top.pc)
        (λ instr. act (here s m method header instr) instr.operation)))).outcome
    by_header method None = tt
    by_header method (Some header) = by_body method header (code_at s.world m.top.method)

    by_method : (o : Option DeclaredMethod)
        → OwnersGo s m (on_some {C = C} o (λ method. on_some method.method.header (λ header.
        on_some (code_at s.world m.top.method) (λ body. on_some (instruction_at body.code m.top.pc)
        (λ instr. act (here s m method header instr) instr.operation))))).touches
        (on_some {C = C} o (λ method. on_some method.method.header (λ header.
        on_some (code_at s.world m.top.method) (λ body. on_some (instruction_at body.code m.top.pc)
        (λ instr. act (here s m method header instr) instr.operation))))).outcome
    by_method None = tt
    by_method (Some method) = by_header method method.method.header
