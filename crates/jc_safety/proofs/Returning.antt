-- Returns are safe: to the frame that waits, or out of the call.
use Rattle.std.proofs.Common.{◌≡◌, ℕ, List, [], ◌∷◌, length, Option, Some, None, Bool}
use Rattle.std.proofs.Common.{true, not, nat_lt, is_some, refl, sym, ap, ◌∙◌, subst, arith}
use Rattle.std.proofs.lemmas.Bool.{lt-ltb}
use Rattle.std.specs.Option.{option_and_then, option_map, option_map_or}
use Rattle.jc_base.specs.Signature.{Signature}
use Rattle.jc_base.specs.declared.declared_type.DeclaredType.{DeclaredType}
use Rattle.jc_base.specs.declared.declared_type.ReturnType.{ReturnType}
use Rattle.jc_cap_desc.specs.Shape.{Shape}
use Rattle.jc_classes.specs.Members.{DeclaredMethod}
use Rattle.jc_classes.specs.Subtype.{is_class_below}
use Rattle.jc_link.specs.MemberType.{declared_type_of}
use Rattle.jc_names.specs.declared.name.ClassName.{ClassName}
use Rattle.jc_effects.specs.Method.{result_of, returned_type}
use Rattle.jc_effects.specs.Objects.{if_form, return_row}
use Rattle.jc_effects.specs.Words.{takes}
use Rattle.jc_effects.specs.declared.row.Demand.TheVariants.{Below}
use Rattle.jc_effects.specs.declared.row.Given.TheVariants.{Nothing}
use Rattle.jc_store.specs.Heap.{Heap}
use Rattle.jc_types.specs.State.{Types, all_below}
use Rattle.jc_types.specs.Ty.{type_of_declared}
use Rattle.jc_types.specs.declared.ty.Ty.{Ty}
use Rattle.jc_machine.specs.Going.{StepContext, on_reference}
use Rattle.jc_machine.specs.Lookup.{declared_at, is_given, is_of_type}
use Rattle.jc_machine.specs.Machine.{Frame, Machine, Surroundings}
use Rattle.jc_machine.specs.Returns as returns
use Rattle.jc_machine.specs.Returns.{pc_behind_call, resumed, returns_to, room_of}
use Rattle.jc_machine.specs.Typed.{HaveTypes, HoldTypes, IsOperand, IsTyped, IsTypedBeside, WaitTyped, WaitsTyped}
use Rattle.jc_machine.specs.Typed.{given_by, has_type, with_result_type}
use Rattle.jc_words.specs.Values.{TaggedValue, is_tagged_reference, is_written}
use Rattle.jc_names.specs.declared.name.MethodName.TheVariants.{Loaded}
use Rattle.jc_safety.proofs.Goes.{method}
use Rattle.jc_safety.proofs.Ground.{Ground, MethodOf, method_of_code}
use Rattle.jc_safety.proofs.Lists.{both, same_length}
use Rattle.jc_safety.proofs.References.{leads_reference}
use Rattle.jc_safety.proofs.Rows as rows
use Rattle.jc_safety.proofs.Taking.{Applied, meets_reference, take_one}
use Rattle.jc_safety.proofs.Safe.{IsSafe, safe_check, safe_some}
use Rattle.jc_safety.proofs.Unwinding.{below_lengths}
use Rattle.jc_safety.proofs.Upward.{operands_up, types_up}

-- a value of the type that a declared one is checked as is of the declared type
pub of_declared : (world : List Shape) (heap : Heap TaggedValue) (d : DeclaredType ClassName) (v : TaggedValue)
    → has_type world heap v (type_of_declared d) ≡ true → is_of_type world heap d v ≡ true
of_declared world heap d v h1 = grind arith

pub as_declared_type : (world : List Shape) (heap : Heap TaggedValue) (d : DeclaredType ClassName) (v : TaggedValue)
    → is_of_type world heap d v ≡ true → has_type world heap v (type_of_declared d) ≡ true
as_declared_type world heap d v h1 = grind arith

-- a result, if there is one, of a type, if there is one
abbrev pub IsResult : List Shape → Heap TaggedValue → Option TaggedValue → Option Ty → Type 0
IsResult world heap None None = Unit {0}
IsResult world heap (Some v) (Some t) = IsOperand world heap v t
IsResult world heap None (Some t) = ⊥
IsResult world heap (Some v) None = ⊥

pub result_written : (world : List Shape) (heap : Heap TaggedValue) (value : Option TaggedValue) (r : Option Ty)
    → IsResult world heap value r → option_map_or is_written value true ≡ true
result_written world heap value r h1 = grind arith

-- what a method that gives this is declared to give
pub record Gives (world : List Shape) (d : DeclaredMethod) (t : Option Ty) : Type 0 where
  pub signature : Signature ClassName
  pub declared : declared_type_of world d ≡ Some signature
  pub type : returned_type signature.result ≡ t

module _ {C : Type 0} (s : Surroundings C) (ground : Ground s) where
  abbrev shapes : List Shape
  shapes = s.world.shapes

  -- on the operands of the frame that waited for it
  module _ (m : Machine C) (beside : IsTypedBeside s m) (f : Frame) (fs : List Frame) (result : Option Ty)
      (w : WaitsTyped s.world m.heap result f) (rest : WaitTyped s.world m.heap (given_by s.world f) fs) where
    -- the operands with the result
    abbrev with_it : Option TaggedValue → List TaggedValue
    with_it None = f.operands
    with_it (Some v) = v ∷ f.operands

    holds_with : (value : Option TaggedValue) (r : Option Ty) → IsResult shapes m.heap value r
        → HoldTypes shapes m.heap f.operands w.left
        → HoldTypes shapes m.heap (with_it value) (with_result_type r w.left)
    holds_with value r h1 h2 = grind arith

    resumed_typed : (value : Option TaggedValue) → IsResult shapes m.heap value result
        → IsTyped s (resumed m f fs w.call.next_pc (with_it value))
    resumed_typed value is =
        let p = w.placed in
        let stands = ground.packages f.method.number p.body p.loaded in
        let up = stands.orders.states w.after w.leads.state w.leads.below in
        let b = both (all_below (is_class_below shapes) w.after.locals w.leads.state.locals)
        (all_below (is_class_below shapes) w.after.operands w.leads.state.operands) up in
        let has = subst (λ (x : Types). HaveTypes shapes m.heap f.locals x.locals) (sym w.after_is) p.locals_typed in
        let holds = subst (λ (x : Types). HoldTypes shapes m.heap (with_it value) x.operands) (sym w.after_is)
        (holds_with value result is w.operands_typed) in record {
          beside = record {
            heap = beside.heap;
            statics = beside.statics;
            runtime_objects = beside.runtime_objects;
            fits = beside.fits;
          };
          top = record {
            placed = record {
              body = p.body;
              loaded = p.loaded;
              code = p.code;
              there = p.there;
              typing = p.typing;
              typed = p.typed;
              shaped = p.shaped;
              state = w.leads.state;
              stated = w.leads.typed;
              locals_typed = types_up shapes ground.order m.heap f.locals w.after.locals w.leads.state.locals b.0 has;
            };
            operands_typed =
                operands_up shapes ground.order m.heap (with_it value) w.after.operands w.leads.state.operands b.1
                holds;
          };
          waiting = rest;
        }

    its_method : MethodOf s.world f.method w.placed.body w.placed.code
    its_method =
        method_of_code s.world f.method.offset w.placed.body w.placed.code f.method.number w.placed.loaded
        (ground.packages f.method.number w.placed.body w.placed.loaded) w.placed.there

    -- a value has room
    value_fits : (v : TaggedValue) → IsResult shapes m.heap (Some v) result
        → nat_lt (length f.operands) (its_method.header.max_stack) ≡ true
    value_fits v is =
        let p = w.placed in
        let shape = p.shaped w.call.next_pc w.leads.state w.leads.typed in
        let stands = ground.packages f.method.number p.body p.loaded in
        let up = stands.orders.states w.after w.leads.state w.leads.below in
        let b = both (all_below (is_class_below shapes) w.after.locals w.leads.state.locals)
        (all_below (is_class_below shapes) w.after.operands w.leads.state.operands) up in
        let same = below_lengths (is_class_below shapes) w.after.operands w.leads.state.operands b.1 in
        let held = subst (λ (x : Types). HoldTypes shapes m.heap (v ∷ f.operands) x.operands) (sym w.after_is)
        (holds_with (Some v) result is w.operands_typed) in
        let count = same_length (IsOperand shapes m.heap) (v ∷ f.operands) w.after.operands held in
        let few = shape.operands in
        let most = its_method.max_stack in
        lt-ltb (length f.operands) its_method.header.max_stack (omega (arith, same, count, few, most))

    room_is : room_of s f ≡ Some its_method.header.max_stack
    room_is = grind (arith, Option, method, its_method)

    behind_is : pc_behind_call s f ≡ Some w.call.next_pc
    behind_is = grind arith

  module _ (m : Machine C) (t : IsTyped s m) (d : DeclaredMethod) (next : ℕ) where
    abbrev at : List TaggedValue → StepContext C
    at vs = rows.here s ground m t d next vs

    -- to the frames that wait
    returns_safe : (vs : List TaggedValue) (value : Option TaggedValue) (result : Option Ty) (fs : List Frame)
        → WaitTyped s.world m.heap result fs → IsResult shapes m.heap value result
        → IsSafe s (returns_to (at vs) value fs)
    returns_safe vs value result [] wait is = record {
      fine = record {
        beside = record {
          heap = t.beside.heap;
          statics = t.beside.statics;
          runtime_objects = t.beside.runtime_objects;
          fits = t.beside.fits;
        };
        written = result_written shapes m.heap value result is;
      };
    }
    returns_safe vs None result (f ∷ fs) wait is =
        safe_some s (pc_behind_call s f) (wait.0).call.next_pc _ (behind_is m t.beside f fs result wait.0 wait.1)
        (safe_some s (room_of s f) (its_method m t.beside f fs result wait.0 wait.1).header.max_stack _
        (room_is m t.beside f fs result wait.0 wait.1)
        (record { fine = resumed_typed m t.beside f fs result wait.0 wait.1 None is }))
    returns_safe vs (Some v) result (f ∷ fs) wait is =
        safe_some s (pc_behind_call s f) (wait.0).call.next_pc _ (behind_is m t.beside f fs result wait.0 wait.1)
        (safe_some s (room_of s f) (its_method m t.beside f fs result wait.0 wait.1).header.max_stack _
        (room_is m t.beside f fs result wait.0 wait.1)
        (safe_check s (nat_lt (length f.operands) (its_method m t.beside f fs result wait.0 wait.1).header.max_stack) _
        (value_fits m t.beside f fs result wait.0 wait.1 v is)
        (record { fine = resumed_typed m t.beside f fs result wait.0 wait.1 (Some v) is })))

    module _ (found : declared_at s.world m.top.method ≡ Some d)
        (returned : (method s ground m t).returned ≡ result_of shapes d) where
      abbrev most : ℕ
      most = rows.most s ground m t

      abbrev state : Types
      state = rows.state s ground m t

      abbrev below : ClassName → ClassName → Bool
      below = rows.below s ground m t

      -- what the method gives is what the frames that wait are given
      given_is : given_by s.world m.top ≡ (method s ground m t).returned
      given_is = ap (option_and_then (result_of shapes)) found ∙ sym returned

      signature_of : (o : Option (Signature ClassName)) (u : Ty)
          → option_and_then (λ (x : Signature ClassName). returned_type x.result) o ≡ Some u
          → (x : Signature ClassName) × (o ≡ Some x) × (returned_type x.result ≡ Some u)
      signature_of None u e = absurd cc
      signature_of (Some x) u e = (x, refl, e)

      given_value : (r : ReturnType ClassName) (u : Ty) (v : TaggedValue) → returned_type r ≡ Some u
          → has_type shapes m.heap v u ≡ true → is_given shapes m.heap r (Some v) ≡ true
      given_value r u v h1 h2 = grind (arith, of_declared)

      -- a value of the type that the method gives
      pub gives_back : (vs : List TaggedValue) (v : TaggedValue) (u : Ty) → (method s ground m t).returned ≡ Some u
          → IsOperand shapes m.heap v u → IsSafe s (returns.returns_value (at vs) v)
      gives_back vs v u is has = grind (arith, signature_of, safe_some, safe_check, given_value, returns_safe, given_is)

      nothing_given : (r : ReturnType ClassName) → returned_type r ≡ None → is_given shapes m.heap r None ≡ true
      nothing_given r h1 = grind arith

      no_type : (o : Option (Signature ClassName)) → is_some o ≡ true
          → option_and_then (λ (x : Signature ClassName). returned_type x.result) o ≡ None
          → (x : Signature ClassName) × (o ≡ Some x) × (returned_type x.result ≡ None)
      no_type None e f = absurd cc
      no_type (Some x) e f = (x, refl, f)

      pub gives_nothing : (vs : List TaggedValue) → (method s ground m t).returned ≡ None
          → IsSafe s (returns.returns_nothing (at vs))
      gives_nothing vs is =
          let typed = ground.sound.methods.types (Loaded m.top.method.number m.top.method.offset) d found in
          let g = no_type (declared_type_of shapes d) typed (sym returned ∙ is) in
          let R : Option Ty → Type 0 = λ r. IsResult shapes m.heap None r in
          safe_some s (returns.result_of (at vs)) (g.0).result _
          (ap (option_map (λ (x : Signature ClassName). x.result)) g.1)
          (safe_check s (is_given shapes m.heap (g.0).result None) _ (nothing_given (g.0).result g.2)
          (returns_safe vs None (given_by s.world m.top) m.waiting t.waiting (subst R (sym (given_is ∙ is)) tt)))

      -- ---- the instructions

      no_result : (r : Option Ty) → not (is_some r) ≡ true → r ≡ None
      no_result r h1 = grind arith

      pub return_void : (after : Types)
          → Applied below most (if_form (not (is_some (method s ground m t).returned)) (takes [] Nothing)) state after
          → IsSafe s (returns.returns_nothing (at m.top.operands))
      return_void after a = gives_nothing m.top.operands (no_result (method s ground m t).returned a.fits)

      by_returned : (r : Option Ty) → (method s ground m t).returned ≡ r → (after : Types)
          → Applied below most (return_row r) state after
          → IsSafe s (on_reference m.top.operands (λ v vs. returns.returns_value (at m.top.operands) v))
      by_returned None is after a = let no = a.fits in absurd cc
      by_returned (Some u) is after a =
          take_one shapes m.heap
          (λ us. IsSafe s (on_reference us (λ v vs. returns.returns_value (at m.top.operands) v))) (Below u)
          m.top.operands state.operands t.top.operands_typed a.enough
          (rows.met_by s ground m t (return_row (Some u)) after a)
          (λ v vs has rest.
          safe_check s (is_tagged_reference v) _
          (leads_reference m.heap v
          (meets_reference shapes (rows.before s ground m t) (rows.orders s ground m t) m.heap v u a.fits has.type))
          (gives_back m.top.operands v u is has))

      pub return_reference : (after : Types)
          → Applied below most (return_row (method s ground m t).returned) state after
          → IsSafe s (on_reference m.top.operands (λ v vs. returns.returns_value (at m.top.operands) v))
      return_reference after a = by_returned (method s ground m t).returned refl after a
