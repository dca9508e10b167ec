-- Calls are safe: each instruction that calls a method.
use Rattle.std.proofs.Common.{◌≡◌, ℕ, zero, suc, ◌+◌, ◌<◌, ◌≤◌, ◌==◌, List, [], ◌∷◌, ◌++◌, length, map, take, drop}
use Rattle.std.proofs.Common.{reverse, Bool, true, false, Option, Some, None, slice_get, refl, sym, ap, ◌∙◌}
use Rattle.std.proofs.Common.{subst, arith, length-drop}
use Rattle.std.proofs.lemmas.Bool.{ltb-false}
use Rattle.std.proofs.lemmas.List.{reverse-append}
use Rattle.std.specs.Option.{option_and_then}
use Rattle.jc_base.specs.Signature.{Signature}
use Rattle.jc_base.specs.declared.declared_type.DeclaredType.{DeclaredType}
use Rattle.jc_base.specs.declared.declared_type.ReturnType.{ReturnType}
use Rattle.jc_cap_desc.specs.Shape.{Shape}
use Rattle.jc_cap.specs.declared.entry.PoolEntry.{PoolEntry}
use Rattle.jc_classes.specs.Members.{DeclaredMethod}
use Rattle.jc_classes.specs.Methods.{interface_method_of, virtual_method_of}
use Rattle.jc_classes.specs.Walk.{found}
use Rattle.jc_code.specs.declared.instr.Instr.{Instr}
use Rattle.jc_code.specs.declared.instr.Operation.TheVariants.{Object as OnObjects}
use Rattle.jc_code.specs.declared.object.Invocation.{Invocation}
use Rattle.jc_code.specs.declared.object.Invocation.TheVariants.{Interface, Special, Static, Virtual}
use Rattle.jc_code.specs.declared.object.ObjectOperation.TheVariants.{Invoke}
use Rattle.jc_firewall.specs.declared.access.Access.TheVariants.{InvokeInterface, InvokeVirtual}
use Rattle.jc_link.specs.Linked.{LinkedBody}
use Rattle.jc_link.specs.Sound.IsHeir.{behind}
use Rattle.jc_link.specs.Target.{pool_target_of}
use Rattle.jc_link.specs.declared.target.PoolTarget.{PoolTarget}
use Rattle.jc_link.specs.declared.target.PoolTarget.TheVariants as To
use Rattle.jc_names.specs.Names.{home_at}
use Rattle.jc_names.specs.declared.name.ClassName.{ClassName}
use Rattle.jc_names.specs.declared.name.MethodName.{MethodName}
use Rattle.jc_names.specs.declared.owner.Owner.{Owner}
use Rattle.jc_effects.specs.Method.{returned_type}
use Rattle.jc_effects.specs.Objects.{Setting, call, class_target, interface_method_type, interface_row}
use Rattle.jc_effects.specs.Objects.{interface_target_row}
use Rattle.jc_effects.specs.Objects.{invocation_row, result_given, special_row, static_call_row, virtual_row}
use Rattle.jc_effects.specs.Row.{Row, after}
use Rattle.jc_effects.specs.Words.{takes}
use Rattle.jc_effects.specs.declared.row.Demand.{Demand}
use Rattle.jc_effects.specs.declared.row.Demand.TheVariants.{Below, Reference}
use Rattle.jc_store.specs.Heap as heaps
use Rattle.jc_store.specs.Heap.{Heap, object_at}
use Rattle.jc_store.specs.declared.kind.ObjectType.{ObjectType}
use Rattle.jc_types.specs.State.{Types}
use Rattle.jc_types.specs.Ty.{type_of_declared}
use Rattle.jc_types.specs.declared.ty.Ty.{Ty}
use Rattle.jc_types.specs.declared.ty.Ty.TheVariants as types
use Rattle.jc_machine.specs.Reading.{Pointwise}
use Rattle.jc_machine.specs.Calls.{act_call, act_interface, act_of_interface, act_special, act_static_call, act_virtual}
use Rattle.jc_machine.specs.Calls.{found_for, has_interface, invokes, special_target, static_target, virtual_target}
use Rattle.jc_machine.specs.Calls.{with_arguments, with_receiver}
use Rattle.jc_machine.specs.Going.{StepContext, asking, check, judged, on_object, on_reference, on_some, require, wanting}
use Rattle.jc_machine.specs.Lookup.{are_of_types, body_at, class_of, instruction_at, is_of_class, leads_to}
use Rattle.jc_machine.specs.Machine.{Machine, Stepped, Surroundings}
use Rattle.jc_machine.specs.Runtime.{class_cast_exception}
use Rattle.jc_machine.specs.Typed.{HoldTypes, IsEffect, IsOperand, IsTyped, with_result_type}
use Rattle.jc_words.specs.Values.{Ref, TaggedValue, is_tagged_reference}
use Rattle.jc_safety.proofs.Callees.{MayCall, and_then, got_within}
use Rattle.jc_safety.proofs.Entering.{Site, as_it_was}
use Rattle.jc_safety.proofs.Goes.{placed, throws_at}
use Rattle.jc_safety.proofs.Ground.{Ground}
use Rattle.jc_safety.proofs.Lists.{and_true, drop_points, same_length}
use Rattle.jc_safety.proofs.Members.{HaveMembers}
use Rattle.jc_safety.proofs.Natives.{IsMade, class_made, concrete_is, found_method, gives_by, heir_below, below_heir}
use Rattle.jc_safety.proofs.Natives.{instance_begins, invokes_safe, is_object, static_begins, type_there}
use Rattle.jc_safety.proofs.References.{leads_reference}
use Rattle.jc_safety.proofs.Returning.{of_declared}
use Rattle.jc_safety.proofs.Rows as rows
use Rattle.jc_safety.proofs.Safe.{IsSafe, safe_check, safe_judged, safe_some}
use Rattle.jc_safety.proofs.Taking.{Applied, Meets, any_object}
use Rattle.jc_safety.proofs.Upward.{leads_up}
use Rattle.jc_safety.proofs.Thrown.{class_cast, security}
use Rattle.jc_safety.proofs.Writing.{ref_case, typed_at}
use Rattle.jc_safety.proofs.CallTargets.{IsOfInterface, IsStaticMethod, IsSuper, IsVirtual, if_so, is_of_interface}
use Rattle.jc_safety.proofs.CallTargets.{is_static_method, is_super, is_virtual, then_so}

-- ---- arguments

-- the arguments that a signature asks for
abbrev pub asked : List (DeclaredType ClassName) → List Demand
asked ds = map (λ (declared : DeclaredType ClassName). Below (type_of_declared declared)) ds

mapped_length : {A B : Type 0} (f : A → B) (xs : List A) → length (map f xs) ≡ length xs
mapped_length f [] = refl
mapped_length f (x ∷ xs) = ap suc (mapped_length f xs)

arguments_are : (world : List Shape) (heap : Heap TaggedValue) (ds : List (DeclaredType ClassName))
    (vs : List TaggedValue)
    → Pointwise (Meets world heap) vs (asked ds) → are_of_types world heap ds vs ≡ true
arguments_are world heap [] [] h = refl
arguments_are world heap [] (v ∷ vs) h = absurd h
arguments_are world heap (d ∷ ds) [] h = absurd h
arguments_are world heap (d ∷ ds) (v ∷ vs) h = grind (arith, and_true, of_declared, arguments_are world heap ds vs h.1)

-- the value below so many of a list
record Split {A : Type 0} (n : ℕ) (xs : List A) : Type 0 where
  value : A
  rest : List A
  below : drop n xs ≡ value ∷ rest
  taken : reverse (take (suc n) xs) ≡ value ∷ reverse (take n xs)
  left : drop (suc n) xs ≡ rest

split_at : {A : Type 0} (n : ℕ) (xs : List A) → n < length xs
    → (v : A) × (rest : List A) × (drop n xs ≡ v ∷ rest) × (take (suc n) xs ≡ take n xs ++ v ∷ []) × (drop
    (suc n) xs ≡ rest)
split_at n [] lt = absurd (omega arith)
split_at zero (x ∷ xs) lt = (x, xs, refl, refl, refl)
split_at (suc n) (x ∷ xs) lt = grind (arith, split_at n xs (omega arith))

split : {A : Type 0} (n : ℕ) (xs : List A) → n < length xs → Split n xs
split n xs lt =
    let k = split_at n xs lt in record {
      value = k.0;
      rest = k.1;
      below = k.2;
      taken = ap reverse k.3 ∙ reverse-append (take n xs) (k.0 ∷ []);
      left = k.4;
    }

-- ---- the instructions

module _ {C : Type 0} (s : Surroundings C) (ground : Ground s) (m : Machine C) (t : IsTyped s m) where
  -- the instruction where the frame that runs stands is a call, behind which the check saw this state
  pub record IsCall (invocation : Invocation) (later : Types) (next : ℕ) : Type 0 where
    pub call : Instr
    pub stands : instruction_at (placed s ground m t).code.code m.top.pc ≡ Some call
    pub invokes : call.operation ≡ OnObjects (Invoke invocation)
    pub behind : call.next_pc ≡ next
    pub effect : IsEffect s.world m.top (placed s ground m t).body (placed s ground m t).code call
        (rows.state s ground m t) later
    pub leads : rows.LeadsTo s ground m t later next

  abbrev shapes : List Shape
  shapes = s.world.shapes

  abbrev most : ℕ
  most = rows.most s ground m t

  abbrev state : Types
  state = rows.state s ground m t

  abbrev below : ClassName → ClassName → Bool
  below = rows.below s ground m t

  abbrev ops : List TaggedValue
  ops = m.top.operands

  abbrev home : ℕ
  home = home_at m.top.method.number

  home_within : home < length shapes
  home_within = grind (arith, placed, got_within)

  -- what a call leaves
  record IsLeft (ds : List Demand) (r : ReturnType ClassName) (later : Types) : Type 0 where
    is : later ≡ record {
      locals = state.locals;
      operands = with_result_type (returned_type r) (drop (length ds) state.operands);
    }
    room : length (with_result_type (returned_type r) (drop (length ds) state.operands)) ≤ most

  is_left : (ds : List Demand) (r : ReturnType ClassName) (later : Types)
      → Applied below most (takes ds (result_given r)) state later → IsLeft ds r later
  unfolding after
  is_left ds r later h1 = grind (arith, ltb-false, length-drop)

  module _ (next : ℕ) (invocation : Invocation) (later : Types) (stands : IsCall invocation later next)
      (signature : Signature ClassName) where
    -- the place of a call behind which these operands are left
    site : (object : List Demand) → Applied below most (call object signature) state later → (vs : List TaggedValue)
        → HoldTypes shapes m.heap vs (drop (length (object ++ asked signature.parameters)) state.operands)
        → Site s ground m t (returned_type signature.result) vs next
    site object a vs holds = grind (arith, is_left)

  abbrev given_to : Signature ClassName → List TaggedValue
  given_to signature = reverse (take (length signature.parameters) ops)

  asked_count : (signature : Signature ClassName) → length (asked signature.parameters) ≡ length signature.parameters
  asked_count signature = grind (arith, mapped_length)

  module _ (d : DeclaredMethod) (next : ℕ) where
    abbrev at : List TaggedValue → StepContext C
    at us = rows.here s ground m t d next us

    -- a call without an object
    arguments_safe : (signature : Signature ClassName) (later : Types) → Applied below most
        (call [] signature) state later
        → (go : List TaggedValue → List TaggedValue → Stepped C)
        → (are_of_types shapes m.heap signature.parameters (given_to signature) ≡ true
        → HoldTypes shapes m.heap (drop (length signature.parameters) ops) (drop (length
        (asked signature.parameters)) state.operands)
        → IsSafe s (go (given_to signature) (drop (length signature.parameters) ops)))
        → IsSafe s (with_arguments (at ops) signature go)
    arguments_safe signature later a go each =
        let count = asked_count signature in
        let met = subst (λ (j : ℕ). Pointwise (Meets shapes m.heap) (reverse (take j ops))
        (asked signature.parameters)) count
        (rows.met_by s ground m t (call [] signature) later a) in
        let fit = arguments_are shapes m.heap signature.parameters (given_to signature) met in
        let rest = subst (λ (j : ℕ). HoldTypes shapes m.heap (drop j ops) (drop (length
        (asked signature.parameters)) state.operands)) count
        (drop_points (IsOperand shapes m.heap) (length (asked signature.parameters)) ops state.operands
        t.top.operands_typed) in
        safe_check s (are_of_types shapes m.heap signature.parameters (given_to signature)) _ fit (each fit rest)

    -- a call of an object
    receiver_safe : (e : Demand) (test : ObjectType → Bool)
        → ((v : TaggedValue) → Meets shapes m.heap v e → leads_to m.heap test v ≡ true)
        → (signature : Signature ClassName) (later : Types) → Applied below most (call (e ∷ []) signature) state later
        → (go : List TaggedValue → ℕ → heaps.Object TaggedValue → List TaggedValue → Stepped C)
        → ((n : ℕ) (o : heaps.Object TaggedValue) (vs : List TaggedValue) → object_at m.heap n ≡ Some o
        → test o.kind.object_type ≡ true → are_of_types shapes m.heap signature.parameters (given_to signature) ≡ true
        → HoldTypes shapes m.heap vs (drop (suc (length (asked signature.parameters))) state.operands)
        → IsSafe s (go (Ref n ∷ given_to signature) n o vs))
        → IsSafe s (with_receiver (at ops) signature go)
    receiver_safe e test leads signature later a go each =
        let count = asked_count signature in
        let k = length signature.parameters in
        let same = same_length (IsOperand shapes m.heap) ops state.operands t.top.operands_typed in
        let enough = ltb-false (length state.operands) (suc (length (asked signature.parameters))) a.enough in
        let sp = split k ops (omega (arith, count, same, enough)) in
        let met = subst (λ (j : ℕ). Pointwise (Meets shapes m.heap) (reverse (take (suc j) ops))
        (e ∷ asked signature.parameters)) count
        (rows.met_by s ground m t (call (e ∷ []) signature) later a) in
        let met_all = subst (λ (xs : List TaggedValue). Pointwise (Meets shapes m.heap) xs
        (e ∷ asked signature.parameters)) sp.taken met in
        let fit = arguments_are shapes m.heap signature.parameters (given_to signature) met_all.1 in
        let dropped = subst (λ (j : ℕ). HoldTypes shapes m.heap (drop (suc j) ops) (drop (suc (length
        (asked signature.parameters))) state.operands)) count
        (drop_points (IsOperand shapes m.heap) (suc (length (asked signature.parameters))) ops state.operands
        t.top.operands_typed) in
        let rest = subst (λ (xs : List TaggedValue). HoldTypes shapes m.heap xs (drop (suc (length
        (asked signature.parameters))) state.operands)) sp.left dropped in
        let lead = leads sp.value met_all.0 in
        let P : List TaggedValue → Type 0 =
        λ us. IsSafe s (on_reference us (λ receiver operands. on_object (at ops) receiver (λ number object. go
        (receiver ∷ given_to signature) number object operands))) in
        safe_check s (are_of_types shapes m.heap signature.parameters (given_to signature)) _ fit
        (subst P (sym sp.below)
        (safe_check s (is_tagged_reference sp.value) _
        (leads_reference m.heap sp.value (leads_up m.heap test any_object sp.value (λ o x. refl) lead))
        (ref_case m.heap test
        (λ x. IsSafe s (on_object (at ops) x (λ number object. go
        (x ∷ given_to signature) number object sp.rest))) sp.value lead
        (rows.safe_null s ground m t d next ops)
        (λ n o found is.
        safe_some s (object_at m.heap n) o (λ object. go (Ref n ∷ given_to signature) n object sp.rest) found
        (each n o sp.rest found is fit rest)))))

    module _ (members : HaveMembers shapes) where
      invoked : (name : MethodName) (result : Option Ty) (arguments : List TaggedValue)
          → MayCall shapes m.heap name result arguments → (switch : Option Owner) (vs : List TaggedValue)
          → Site s ground m t result vs next → IsSafe s (invokes (at ops) switch name arguments vs)
      invoked name result arguments may switch vs site = search (arith, site, invokes_safe, as_it_was)

      object_made : (n : ℕ) (o : heaps.Object TaggedValue) → object_at m.heap n ≡ Some o
          → IsMade s ground (class_of o.kind.object_type)
      object_made n o found = class_made s ground o.kind.object_type (typed_at shapes m.heap t.beside.heap n o found).made

      -- ---- a method that is looked up from the object's class

      virtual_safe : (invocation : Invocation) (entry : PoolEntry) (class : ClassName) (token : ℕ)
          → (signature : Signature ClassName) (later : Types) → IsCall invocation later next
          → Applied below most (call (Below (types.Class class) ∷ []) signature) state later
          → IsVirtual shapes home entry class token signature → token < 256
          → IsSafe s (act_virtual (at ops) (record { class = class; token = token; signature = signature }))
      virtual_safe invocation entry class token signature later stands a v small =
          receiver_safe (Below (types.Class class)) (is_of_class shapes class) (λ u is. is.type) signature later a
          (λ arguments n o vs.
          check (is_of_class shapes class o.kind.object_type) (judged (at ops) (asking InvokeVirtual n) o (λ switch. on_some (found_for (at ops) token o) (λ method. invokes
          (at ops) switch method arguments vs))))
          (λ n o vs there is fit rest.
          let made = object_made n o there in
          let kept = ground.sound.virtual_methods.kept (class_of o.kind.object_type) class token home v.method
          (heir_below s ground (class_of o.kind.object_type) class is made.class v.class_there) small v.finds in
          let concrete = made.finished.concrete token home kept.method small home_within kept.found in
          let may = found_method s ground m.heap n o token home kept.method signature (given_to signature) there
          kept.found concrete (kept.type ∙ v.type) fit in
          safe_check s (is_of_class shapes class o.kind.object_type) _ is
          (safe_judged s (at ops) (asking InvokeVirtual n) o _
          (throws_at s ground m t ops _ (security s ground m.heap t.beside.runtime_objects))
          (λ switch.
          safe_some s (found_for (at ops) token o) kept.method
          (λ method. invokes (at ops) switch method (Ref n ∷ given_to signature) vs) kept.found
          (invoked kept.method (returned_type signature.result) (Ref n ∷ given_to signature) may switch vs
          (site next invocation later stands signature (Below (types.Class class) ∷ []) a vs rest)))))

      -- ---- a method as it stands

      special_safe : (invocation : Invocation) (class : ClassName) (method : MethodName)
          → (signature : Signature ClassName) (later : Types) → IsCall invocation later next
          → Applied below most (call (Below (types.Class class) ∷ []) signature) state later
          → ((n : ℕ) (o : heaps.Object TaggedValue) → object_at m.heap n ≡ Some o
          → is_of_class shapes class o.kind.object_type ≡ true
          → are_of_types shapes m.heap signature.parameters (given_to signature) ≡ true
          → MayCall shapes m.heap method (returned_type signature.result) (Ref n ∷ given_to signature))
          → IsSafe s (act_special (at ops) (record { class = class; method = method; signature = signature }))
      special_safe invocation class method signature later stands a may =
          receiver_safe (Below (types.Class class)) (is_of_class shapes class) (λ u is. is.type) signature later a
          (λ arguments n o vs. check (is_of_class shapes class o.kind.object_type) (invokes
          (at ops) None method arguments vs))
          (λ n o vs there is fit rest.
          safe_check s (is_of_class shapes class o.kind.object_type) _ is
          (invoked method (returned_type signature.result) (Ref n ∷ given_to signature) (may n o there is fit) None vs
          (site next invocation later stands signature (Below (types.Class class) ∷ []) a vs rest)))

      may_super : (class : ClassName) (method : MethodName) (signature : Signature ClassName)
          → IsSuper shapes home class method signature → (n : ℕ) (o : heaps.Object TaggedValue)
          → object_at m.heap n ≡ Some o → is_of_class shapes class o.kind.object_type ≡ true
          → are_of_types shapes m.heap signature.parameters (given_to signature) ≡ true
          → MayCall shapes m.heap method (returned_type signature.result) (Ref n ∷ given_to signature)
      may_super class method signature x n o there is fit =
          let f = ground.sound.virtual_methods.found x.above x.token home method x.finds in
          let type = type_there shapes method f.declared signature f.there x.type in
          let at_d = ground.names.declared method f.declared f.there in
          let above = below_heir s ground class f.declared.class
          (behind class x.above f.declared.class x.up f.heir) at_d in
          let is_below = ground.order.transitive (class_of o.kind.object_type) class f.declared.class is above in record {
            declared = f.declared;
            there = f.there;
            concrete = concrete_is shapes method f.declared f.there x.concrete;
            begins =
                instance_begins shapes m.heap f.declared signature (Ref n) (given_to signature) type f.instance
                (is_object s ground m.heap n o f.declared.class there is_below) fit;
            given = gives_by shapes f.declared signature type;
          }

      may_special : (class : ClassName) (method : MethodName) (signature : Signature ClassName)
          → IsStaticMethod shapes class method false signature → (n : ℕ) (o : heaps.Object TaggedValue)
          → object_at m.heap n ≡ Some o → is_of_class shapes class o.kind.object_type ≡ true
          → are_of_types shapes m.heap signature.parameters (given_to signature) ≡ true
          → MayCall shapes m.heap method (returned_type signature.result) (Ref n ∷ given_to signature)
      may_special class method signature x n o there is fit =
          let of_it = subst (λ (c : ClassName). is_of_class shapes c o.kind.object_type ≡ true)
          (sym x.class_is) is in record {
            declared = x.declared;
            there = x.there;
            concrete = concrete_is shapes method x.declared x.there x.concrete;
            begins =
                instance_begins shapes m.heap x.declared signature (Ref n) (given_to signature) x.type x.static_is
                (is_object s ground m.heap n o x.declared.class there of_it) fit;
            given = gives_by shapes x.declared signature x.type;
          }

      static_safe : (invocation : Invocation) (class : ClassName) (method : MethodName)
          → (signature : Signature ClassName) (later : Types) → IsCall invocation later next
          → Applied below most (call [] signature) state later → IsStaticMethod shapes class method true signature
          → IsSafe s (act_static_call (at ops) (record { class = class; method = method; signature = signature }))
      static_safe invocation class method signature later stands a x =
          arguments_safe signature later a (invokes (at ops) None method)
          (λ fit rest.
          invoked method (returned_type signature.result) (given_to signature)
          (record {
            declared = x.declared;
            there = x.there;
            concrete = concrete_is shapes method x.declared x.there x.concrete;
            begins = static_begins shapes m.heap x.declared signature (given_to signature) x.type x.static_is fit;
            given = gives_by shapes x.declared signature x.type;
          })
          None (drop (length signature.parameters) ops)
          (site next invocation later stands signature [] a (drop (length signature.parameters) ops) rest))

      -- ---- a method of an interface

      public_of : (c : ClassName) (interface : ClassName) (token : ℕ) (method : MethodName)
          → interface_method_of shapes c interface token ≡ Some method
          → (virtual : ℕ) × (virtual_method_of shapes c virtual 0 ≡ Some method)
      public_of c interface token method e = grind (arith, and_then, then_so)

      of_interface_safe : (invocation : Invocation) (interface : ClassName) (token : ℕ)
          → (signature : Signature ClassName) (later : Types) → IsCall invocation later next
          → Applied below most (call (Reference ∷ []) signature) state later
          → IsOfInterface shapes interface token signature
          → IsSafe s (act_of_interface (at ops) interface token signature)
      of_interface_safe invocation interface token signature later stands a x =
          receiver_safe Reference any_object (λ u is. is) signature later a
          (λ arguments n o vs.
          judged (at ops) (wanting InvokeInterface n (Some interface)) o
          (λ switch. require (at ops) class_cast_exception (has_interface shapes interface o) (on_some
          (interface_method_of shapes (class_of o.kind.object_type) interface token) (λ method. invokes
          (at ops) switch method arguments vs))))
          (λ n o vs there is fit rest.
          let made = object_made n o there in
          safe_judged s (at ops) (wanting InvokeInterface n (Some interface)) o _
          (throws_at s ground m t ops _ (security s ground m.heap t.beside.runtime_objects))
          (λ switch.
          rows.safe_required s ground m t d next ops class_cast_exception (has_interface shapes interface o)
          (on_some (interface_method_of shapes (class_of o.kind.object_type) interface token) (λ method. invokes
          (at ops) switch method (Ref n ∷ given_to signature) vs))
          (class_cast s ground m.heap t.beside.runtime_objects)
          (λ has.
          let h = made.finished.interfaces interface x.class x.place x.row has x.there x.row_there in
          let finds = ap (interface_method_of shapes (class_of o.kind.object_type) interface) (sym x.token_is) ∙ h.found in
          let v = public_of (class_of o.kind.object_type) interface token h.method finds in
          let may = found_method s ground m.heap n o v.0 0 h.method signature
          (given_to signature) there v.1 h.concrete
          (h.type ∙ x.type) fit in
          safe_some s (interface_method_of shapes (class_of o.kind.object_type) interface token) h.method
          (λ method. invokes (at ops) switch method (Ref n ∷ given_to signature) vs) finds
          (invoked h.method (returned_type signature.result) (Ref n ∷ given_to signature) may switch vs
          (site next invocation later stands signature (Reference ∷ []) a vs rest)))))

      -- ---- by the entry of the constant pool

      record LedFrom (index : ℕ) (target : PoolTarget) : Type 0 where
        body : LinkedBody
        loaded : body_at s.world m.top.method.number ≡ Some body
        entry : PoolEntry
        there : slice_get body.kept.pool index ≡ Some entry
        leads : pool_target_of shapes home entry ≡ Some target

      led_from : (index : ℕ) (target : PoolTarget) → slice_get (placed s ground m t).body.targets index ≡ Some target
          → LedFrom index target
      led_from index target e =
          let a = and_then (pool_target_of shapes home)
          (option_and_then (λ (b : LinkedBody). slice_get b.kept.pool index)
          (body_at s.world m.top.method.number)) target
          (rows.entry s ground m t index target e) in
          let b = and_then (λ (b : LinkedBody). slice_get b.kept.pool index)
          (body_at s.world m.top.method.number) a.0 a.1 in
          record { body = b.0; loaded = b.1; entry = a.0; there = b.2; leads = a.2 }

      abbrev RowFor : Row → Types → Type 0
      RowFor r later = Applied below most r state later

      by_virtual : (index : ℕ) (r : Row) (later : Types) → IsCall (Virtual index) later next → RowFor r later
          → (target : PoolTarget) → slice_get (placed s ground m t).body.targets index ≡ Some target
          → virtual_row target ≡ Some r → IsSafe s (act_call (at ops) (Virtual index))
      by_virtual index r later stands a (To.Class c) e f = absurd cc
      by_virtual index r later stands a (To.InstanceField c k declared) e f = absurd cc
      by_virtual index r later stands a (To.StaticField place declared) e f = absurd cc
      by_virtual index r later stands a (To.VirtualMethod class token signature) e f =
          let l = led_from index (To.VirtualMethod class token signature) e in
          let v = is_virtual shapes home l.entry class token signature l.leads in
          let small = ground.tokens m.top.method.number l.body index v.ref l.loaded (l.there ∙ ap Some v.entry_is) in
          let is : r ≡ call (Below (types.Class class) ∷ []) signature = cc in
          rows.safe_target s ground m t d next ops index virtual_target (To.VirtualMethod class token signature)
          (record { class = class; token = token; signature = signature }) (act_virtual (at ops)) e refl
          (virtual_safe (Virtual index) l.entry class token signature later stands
          (subst (λ (x : Row). RowFor x later) is a) v (subst (λ (x : ℕ). x < 256) v.token_is small))
      by_virtual index r later stands a (To.SuperMethod c method signature) e f = absurd cc
      by_virtual index r later stands a (To.StaticMethod c method static signature) e f = absurd cc

      by_special : (index : ℕ) (r : Row) (later : Types) → IsCall (Special index) later next → RowFor r later
          → (target : PoolTarget) → slice_get (placed s ground m t).body.targets index ≡ Some target
          → special_row target ≡ Some r → IsSafe s (act_call (at ops) (Special index))
      by_special index r later stands a (To.Class c) e f = absurd cc
      by_special index r later stands a (To.InstanceField c k declared) e f = absurd cc
      by_special index r later stands a (To.StaticField place declared) e f = absurd cc
      by_special index r later stands a (To.VirtualMethod c token signature) e f = absurd cc
      by_special index r later stands a (To.SuperMethod class method signature) e f =
          let l = led_from index (To.SuperMethod class method signature) e in
          let x = is_super shapes home l.entry class method signature l.leads in
          let is : r ≡ call (Below (types.Class class) ∷ []) signature = cc in
          rows.safe_target s ground m t d next ops index special_target (To.SuperMethod class method signature)
          (record { class = class; method = method; signature = signature }) (act_special (at ops)) e refl
          (special_safe (Special index) class method signature later stands (subst (λ (x : Row). RowFor x later) is a)
          (may_super class method signature x))
      by_special index r later stands a (To.StaticMethod class method true signature) e f = absurd cc
      by_special index r later stands a (To.StaticMethod class method false signature) e f =
          let l = led_from index (To.StaticMethod class method false signature) e in
          let x = is_static_method shapes home l.entry class method false signature l.leads in
          let is : r ≡ call (Below (types.Class class) ∷ []) signature = cc in
          rows.safe_target s ground m t d next ops index special_target (To.StaticMethod class method false signature)
          (record { class = class; method = method; signature = signature }) (act_special (at ops)) e refl
          (special_safe (Special index) class method signature later stands (subst (λ (x : Row). RowFor x later) is a)
          (may_special class method signature x))

      by_static : (index : ℕ) (r : Row) (later : Types) → IsCall (Static index) later next → RowFor r later
          → (target : PoolTarget) → slice_get (placed s ground m t).body.targets index ≡ Some target
          → static_call_row target ≡ Some r → IsSafe s (act_call (at ops) (Static index))
      by_static index r later stands a (To.Class c) e f = absurd cc
      by_static index r later stands a (To.InstanceField c k declared) e f = absurd cc
      by_static index r later stands a (To.StaticField place declared) e f = absurd cc
      by_static index r later stands a (To.VirtualMethod c token signature) e f = absurd cc
      by_static index r later stands a (To.SuperMethod c method signature) e f = absurd cc
      by_static index r later stands a (To.StaticMethod class method true signature) e f =
          let l = led_from index (To.StaticMethod class method true signature) e in
          let x = is_static_method shapes home l.entry class method true signature l.leads in
          let is : r ≡ call [] signature = cc in
          rows.safe_target s ground m t d next ops index static_target (To.StaticMethod class method true signature)
          (record { class = class; method = method; signature = signature }) (act_static_call (at ops)) e refl
          (static_safe (Static index) class method signature later stands (subst (λ (x : Row). RowFor x later) is a) x)
      by_static index r later stands a (To.StaticMethod class method false signature) e f = absurd cc

      by_interface : (count index token : ℕ) (r : Row) (later : Types) → IsCall (Interface count index token) later next
          → RowFor r later → (target : PoolTarget) → slice_get (placed s ground m t).body.targets index ≡ Some target
          → interface_target_row (rows.before s ground m t) count token target ≡ Some r
          → IsSafe s (act_call (at ops) (Interface count index token))
      by_interface count index token r later stands a (To.Class interface) e f =
          let before = rows.before s ground m t in
          let b = and_then (interface_row count) (interface_method_type before interface token) r f in
          let c = if_so (count == 1 + length (b.0).parameters) (call (Reference ∷ []) b.0) r b.2 in
          let x = is_of_interface before interface token b.0 b.1 in
          let linked = ground.packages m.top.method.number (placed s ground m t).body (placed s ground m t).loaded in
          let within = linked.within.classes interface x.class x.there in
          let there = linked.members.interface_types interface token within ∙ b.1 in
          rows.safe_target s ground m t d next ops index class_target (To.Class interface) interface
          (act_interface (at ops) count token) e refl
          (safe_some s (interface_method_type shapes interface token) b.0 _ there
          (safe_check s (count == 1 + length (b.0).parameters) _ c.0
          (of_interface_safe (Interface count index token) interface token b.0 later stands
          (subst (λ (y : Row). RowFor y later) (sym c.1) a) (is_of_interface shapes interface token b.0 there))))
      by_interface count index token r later stands a (To.InstanceField c k declared) e f = absurd cc
      by_interface count index token r later stands a (To.StaticField place declared) e f = absurd cc
      by_interface count index token r later stands a (To.VirtualMethod c k signature) e f = absurd cc
      by_interface count index token r later stands a (To.SuperMethod c method signature) e f = absurd cc
      by_interface count index token r later stands a (To.StaticMethod c method static signature) e f = absurd cc

      -- a call is safe
      pub call_safe : (set : Setting) → set.world ≡ rows.before s ground m t
          → set.targets ≡ (placed s ground m t).body.targets → (invocation : Invocation) (r : Row) (later : Types)
          → invocation_row set invocation ≡ Some r → Applied below most r state later → IsCall invocation later next
          → IsSafe s (act_call (at ops) invocation)
      call_safe set world targets (Virtual index) r later e a stands =
          let x = and_then virtual_row (slice_get set.targets index) r e in
          by_virtual index r later stands a x.0
          (ap (λ (xs : List PoolTarget). slice_get xs index) (sym targets) ∙ x.1) x.2
      call_safe set world targets (Special index) r later e a stands =
          let x = and_then special_row (slice_get set.targets index) r e in
          by_special index r later stands a x.0
          (ap (λ (xs : List PoolTarget). slice_get xs index) (sym targets) ∙ x.1) x.2
      call_safe set world targets (Static index) r later e a stands =
          let x = and_then static_call_row (slice_get set.targets index) r e in
          by_static index r later stands a x.0
          (ap (λ (xs : List PoolTarget). slice_get xs index) (sym targets) ∙ x.1) x.2
      call_safe set world targets (Interface count index token) r later e a stands =
          let x = and_then (interface_target_row set.world count token) (slice_get set.targets index) r e in
          by_interface count index token r later stands a x.0
          (ap (λ (xs : List PoolTarget). slice_get xs index) (sym targets) ∙ x.1)
          (ap (λ (w : List Shape). interface_target_row w count token x.0) (sym world) ∙ x.2)
