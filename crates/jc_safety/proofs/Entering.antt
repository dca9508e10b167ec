-- A call that is entered: its caller waits, and the frame of the method that is called runs.
use Rattle.std.proofs.Common.{◌≡◌, ℕ, ◌+◌, ◌≤◌, List, ◌∷◌, length, Bool, true, false, cond, ◌&&◌, Option, Some, arith}
use Rattle.std.proofs.Common.{sym, ap, ◌∙◌, subst}
use Rattle.std.specs.Option.{option_and_then, option_map_or}
use Rattle.jc_cap_desc.specs.Shape.{MethodBody, Shape}
use Rattle.jc_check.specs.Checked.{IsMethodTyped}
use Rattle.jc_check.specs.Package.{arguments_of}
use Rattle.jc_classes.specs.Members.{DeclaredMethod, method_at}
use Rattle.jc_code.specs.declared.instr.Instr.{Instr}
use Rattle.jc_code.specs.declared.instr.Operation.TheVariants.{Object as OnObjects}
use Rattle.jc_code.specs.declared.object.Invocation.{Invocation}
use Rattle.jc_code.specs.declared.object.ObjectOperation.TheVariants.{Invoke}
use Rattle.jc_link.specs.Linked.{LinkedBody}
use Rattle.jc_names.specs.declared.name.MethodName.TheVariants.{Loaded}
use Rattle.jc_names.specs.declared.owner.Owner.{Owner}
use Rattle.jc_effects.specs.Method.{result_of}
use Rattle.jc_store.specs.Heap.{Heap}
use Rattle.jc_types.specs.State.{Types}
use Rattle.jc_types.specs.declared.ty.Ty.{Ty}
use Rattle.jc_machine.specs.Accepted.{linked_as}
use Rattle.jc_machine.specs.Calls.{accepts, active_in, entered, enters, frame_of, has_room, previous_in, takes}
use Rattle.jc_machine.specs.Going.{StepContext, check, moved, plain, throws}
use Rattle.jc_machine.specs.Lookup.{body_at, code_at, declared_at, instruction_at, may_begin_with}
use Rattle.jc_machine.specs.Machine.{Frame, Machine, MethodPlace, Next, Stepped, Surroundings, UsedUp}
use Rattle.jc_machine.specs.Natives.{IsThrown, KeepsObjects}
use Rattle.jc_machine.specs.Runtime.{HasRuntimeObjects}
use Rattle.jc_machine.specs.Typed.{HaveTypes, HeapTyped, HoldTypes, IsEffect, IsPlaced, IsTyped, IsTypedBeside}
use Rattle.jc_machine.specs.Typed.{StaticsTyped, WaitsTyped, given_by, with_result_type}
use Rattle.jc_words.specs.Values.{TaggedValue}
use Rattle.jc_safety.proofs.Callees.{MayCall, abstract_is, begins_typed, its_body, its_header, runs, same_declared}
use Rattle.jc_safety.proofs.Callees.{the_some}
use Rattle.jc_safety.proofs.Counted.{takes_them}
use Rattle.jc_safety.proofs.Goes.{placed}
use Rattle.jc_safety.proofs.Ground.{Ground, MethodOf, method_of_code}
use Rattle.jc_safety.proofs.Growing.{keeps_self, operands_still, types_still, waiting_still}
use Rattle.jc_safety.proofs.Lists.{and_true}
use Rattle.jc_safety.proofs.Rows as rows
use Rattle.jc_safety.proofs.Safe.{IsSafe, safe_check, safe_some}

pub safe_if : {C : Type 0} (s : Surroundings C) (b : Bool) (x y : Stepped C) → IsSafe s x → IsSafe s y
    → IsSafe s (cond b x y)
safe_if s b x y h1 h2 = grind arith

module _ {C : Type 0} (s : Surroundings C) (ground : Ground s) (m : Machine C) (t : IsTyped s m) where
  abbrev pub shapes : List Shape
  shapes = s.world.shapes

  abbrev pub most : ℕ
  most = rows.most s ground m t

  abbrev pub state : Types
  state = rows.state s ground m t

  -- the frame that runs stands at a call, behind which these operands are left, and the call's result beside
  pub record Site (result : Option Ty) (vs : List TaggedValue) (next : ℕ) : Type 0 where
    pub call : Instr
    pub stands : instruction_at (placed s ground m t).code.code m.top.pc ≡ Some call
    pub invocation : Invocation
    pub invokes : call.operation ≡ OnObjects (Invoke invocation)
    pub behind : call.next_pc ≡ next
    pub left : List Ty
    pub after : Types
    pub after_is : after ≡ record { locals = state.locals; operands = with_result_type result left }
    pub effect : IsEffect s.world m.top (placed s ground m t).body (placed s ground m t).code call state after
    pub leads : rows.LeadsTo s ground m t after next
    pub room : length (with_result_type result left) ≤ most
    pub holds : HoldTypes shapes m.heap vs left

  -- what is kept beside the frames, with other objects, and where the runtime keeps something else
  pub record Beside (heap : Heap TaggedValue) (runtime : C) : Type 0 where
    pub typed : HeapTyped shapes heap
    pub statics : StaticsTyped s.world heap m.statics
    pub runtime_objects : HasRuntimeObjects heap
    pub fits : s.natives.fits s.world heap runtime ≡ true
    pub keeps : KeepsObjects m.heap heap

  pub as_it_was : Beside m.heap m.runtime
  as_it_was = grind (arith, keeps_self)

  module _ (d : DeclaredMethod) (next : ℕ) (heap : Heap TaggedValue) (runtime : C) (b : Beside heap runtime) where
    abbrev pub now : Frame → List Frame → Machine C
    now top waiting = record { heap = heap; statics = m.statics; runtime = runtime; top = top; waiting = waiting }

    -- the frame that runs, where it is, with other operands
    abbrev pub still : List TaggedValue → Frame
    still vs = moved m.top m.top.pc m.top.locals vs

    abbrev pub at : List TaggedValue → StepContext C
    at us = record { around = s; machine = now (still us) m.waiting; method = d; max_stack = most; next_pc = next }

    pub beside_now : (top : Frame) (waiting : List Frame) → IsTypedBeside s (now top waiting)
    beside_now top waiting = grind arith

    abbrev again : (vs : List TaggedValue) → IsPlaced s.world heap (still vs)
    again vs = record {
      body = (placed s ground m t).body;
      loaded = (placed s ground m t).loaded;
      code = (placed s ground m t).code;
      there = (placed s ground m t).there;
      typing = (placed s ground m t).typing;
      typed = (placed s ground m t).typed;
      shaped = (placed s ground m t).shaped;
      state = (placed s ground m t).state;
      stated = (placed s ground m t).stated;
      locals_typed =
          types_still m.heap heap b.keeps shapes m.top.locals (placed s ground m t).state.locals
          (placed s ground m t).locals_typed;
    }

    pub throws_now : (us : List TaggedValue) (number : ℕ) → IsThrown s.world heap number
        → IsSafe s (throws (at us) number)
    throws_now us number thrown = record {
      fine = record {
        beside = beside_now (still us) m.waiting;
        placed = again us;
        waiting = waiting_still s.world m.heap heap b.keeps (given_by s.world m.top) m.waiting t.waiting;
        thrown = thrown;
      };
    }

    -- the caller waits
    waits : (result : Option Ty) (vs : List TaggedValue) → Site result vs next
        → WaitsTyped s.world heap result (still vs)
    waits result vs site = record {
      placed = again vs;
      call = site.call;
      stands = site.stands;
      invocation = site.invocation;
      invokes = site.invokes;
      left = site.left;
      after = site.after;
      after_is = site.after_is;
      effect = site.effect;
      leads = subst (λ (pc : ℕ). rows.LeadsTo s ground m t site.after pc) (sym site.behind) site.leads;
      operands_typed = operands_still m.heap heap b.keeps shapes vs site.left site.holds;
    }

    -- ---- a method of a loaded package

    module _ (place : MethodPlace) (body : LinkedBody) (loaded : body_at s.world place.number ≡ Some body)
        (code : MethodBody) (there : code_at s.world place ≡ Some code)
        (typed : IsMethodTyped (linked_as s.world place.number body) code)
        (of : MethodOf s.world place body code) (arguments : List TaggedValue)
        (fit : HaveTypes shapes heap arguments (arguments_of shapes of.declared)) where
      entered_safe : (result : Option Ty) → result_of shapes of.declared ≡ result → (us vs : List TaggedValue)
          → Site result vs next → (active : Owner) (previous : Option Owner)
          → IsSafe s (entered (at us) (frame_of place of.header arguments active previous) of.header.max_stack vs)
      entered_safe result given us vs site active previous =
          let f = frame_of place of.header arguments active previous in
          let gives : given_by s.world f ≡ result = ap (option_and_then (result_of shapes)) of.found ∙ given in
          safe_if s (has_room s (still us ∷ m.waiting) (length f.locals + of.header.max_stack))
          (plain (Next (now f (still vs ∷ m.waiting)))) (plain (UsedUp (now (still us) m.waiting)))
          (record {
            fine = record {
              beside = beside_now f (still vs ∷ m.waiting);
              top = runs s ground heap place body loaded code there typed of arguments fit active previous;
              waiting = (
                waits (given_by s.world f) vs (subst (λ (r : Option Ty). Site r vs next) (sym gives) site),
                waiting_still s.world m.heap heap b.keeps (given_by s.world m.top) m.waiting t.waiting,
              );
            };
          })
          (record { fine = beside_now (still us) m.waiting })

    pub enters_safe : (number offset : ℕ) (result : Option Ty) (arguments : List TaggedValue)
        → MayCall shapes heap (Loaded number offset) result arguments → (us vs : List TaggedValue)
        → Site result vs next → (switch : Option Owner)
        → IsSafe s (enters (at us) switch (record { number = number; offset = offset }) arguments vs)
    enters_safe number offset result arguments may us vs site switch =
        let place : MethodPlace = record { number = number; offset = offset } in
        let l = its_body s.world ground.accepted.world number offset may.declared may.there in
        let stands = ground.packages number l.0 l.1 in
        let h = the_some may.declared.method.header
        (its_header s.world number offset l.0 stands may.declared may.there) in
        let no = abstract_is may.declared.method h.0 h.1 may.concrete in
        let c = the_some (code_at s.world place) (ground.code place may.declared h.0 may.there h.1 no) in
        let typed = ground.typed_methods place l.0 c.0 l.1 c.1 in
        let of = method_of_code s.world offset l.0 c.0 number l.1 stands c.1 in
        let same = same_declared (method_at shapes (Loaded number offset)) may.declared of.declared may.there
        of.found in
        let fit = subst (λ (x : DeclaredMethod). HaveTypes shapes heap arguments (arguments_of shapes x)) same
        (begins_typed shapes heap may.declared arguments may.begins) in
        let begins = subst (λ (x : DeclaredMethod). may_begin_with shapes heap x arguments ≡ true) same may.begins in
        let given = sym (ap (result_of shapes) same) ∙ may.given in
        safe_some s (option_and_then (λ (x : DeclaredMethod). x.method.header) (declared_at s.world place)) of.header
        (λ header.
        check (takes header arguments && accepts (at us) place arguments)
        (entered (at us)
        (frame_of place header arguments (active_in (still us) switch) (previous_in (still us) switch))
        header.max_stack vs))
        (ap (option_and_then (λ (x : DeclaredMethod). x.method.header)) of.found ∙ of.header_is)
        (safe_check s (takes of.header arguments && accepts (at us) place arguments)
        (entered (at us) (frame_of place of.header arguments (active_in (still us) switch) (previous_in
        (still us) switch)) of.header.max_stack vs)
        (and_true (takes of.header arguments) (accepts (at us) place arguments)
        (takes_them shapes heap ground.sound.methods (Loaded number offset) of.declared of.header arguments of.found
        of.header_is of.concrete begins)
        (ap (λ (o : Option DeclaredMethod). option_map_or (λ (d : DeclaredMethod). may_begin_with shapes heap d arguments)
        o false) may.there ∙ may.begins))
        (entered_safe place l.0 l.1 c.0 c.1 typed of arguments fit result given us vs site
        (active_in (still us) switch) (previous_in (still us) switch)))
