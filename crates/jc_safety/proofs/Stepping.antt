-- A step of a well-typed machine is safe, whichever instruction it makes.
use Rattle.std.proofs.Common.{◌≡◌, ℕ, zero, suc, ℤ, List, [], ◌∷◌, map, Bool, true, Option, Some, Ok, refl, ap, subst}
use Rattle.std.proofs.Common.{arith}
use Rattle.std.proofs.lemmas.Bool.{lt-ltb}
use Rattle.std.proofs.lemmas.List.Elements.{All-contains, All-from_recursion}
use Rattle.std.specs.Int.{w16}
use Rattle.std.specs.Int.RustNames.{FitsSigned}
use Rattle.std.specs.List.{AllByRecursion}
use Rattle.jc_check.specs.Typing.{BranchLeads, IsFineAt}
use Rattle.jc_classes.specs.Members.{DeclaredMethod}
use Rattle.jc_code.specs.Targets.{falls_of, offsets_of, target_of, targets_of}
use Rattle.jc_code.specs.declared.instr.Operation.{Operation}
use Rattle.jc_code.specs.declared.instr.Operation.TheVariants as operations
use Rattle.jc_code.specs.declared.instr.WordOperation.{WordOperation}
use Rattle.jc_code.specs.declared.instr.WordOperation.TheVariants as ops
use Rattle.jc_code.specs.declared.object.Form.TheVariants as Forms
use Rattle.jc_code.specs.declared.object.Invocation.{Invocation}
use Rattle.jc_code.specs.declared.object.ObjectOperation.{ObjectOperation}
use Rattle.jc_code.specs.declared.object.ObjectOperation.TheVariants as objects
use Rattle.jc_effects.specs.Effect.{effect_of}
use Rattle.jc_effects.specs.Objects.{Setting, invocation_row, object_row}
use Rattle.jc_effects.specs.Row.{applied}
use Rattle.jc_effects.specs.Words.{word_effect}
use Rattle.jc_effects.specs.Method.{result_of}
use Rattle.jc_types.specs.State.{Types}
use Rattle.jc_types.specs.declared.ty.Ty.{Ty}
use Rattle.jc_types.specs.declared.ty.Ty.TheVariants as types
use Rattle.jc_words.specs.Values.{Word}
use Rattle.jc_names.specs.declared.name.ClassName.{ClassName}
use Rattle.jc_machine.specs.Going.{StepContext}
use Rattle.jc_machine.specs.Lookup.{code_at, declared_at, instruction_at}
use Rattle.jc_machine.specs.Machine.{Machine, Outcome, Stepped, Surroundings}
use Rattle.jc_machine.specs.Objects.{act_object}
use Rattle.jc_machine.specs.Step.{Called, act, act_at, continued, defensive_step, settled, steps_of}
use Rattle.jc_machine.specs.declared.stop.Budget.{Budget}
use Rattle.jc_machine.specs.declared.stop.CodePoint.{CodePoint}
use Rattle.jc_machine.specs.declared.stop.DeniedAccess.{DeniedAccess}
use Rattle.jc_machine.specs.Runtime.{arithmetic_exception}
use Rattle.jc_machine.specs.Typed.{IsTyped}
use Rattle.jc_machine.specs.TypedWords.{LeavesTyped, branching, going, returning, throwing}
use Rattle.jc_machine.specs.Words.{act_word}
use Rattle.jc_safety.proofs.Arrays as arrays
use Rattle.jc_safety.proofs.Calling.{IsCall, call_safe}
use Rattle.jc_safety.proofs.Casting as casts
use Rattle.jc_safety.proofs.FieldRows.{field_safe}
use Rattle.jc_safety.proofs.Goes as goes
use Rattle.jc_safety.proofs.Goes.{method, placed}
use Rattle.jc_safety.proofs.Ground.{Ground, MethodOf, method_of_code}
use Rattle.jc_safety.proofs.Making.{create, setting}
use Rattle.jc_safety.proofs.Members.{HaveMembers}
use Rattle.jc_safety.proofs.References as references
use Rattle.jc_safety.proofs.Returning as returns
use Rattle.jc_safety.proofs.Rows as rows
use Rattle.jc_safety.proofs.Safe.{IsSafe, safe_some}
use Rattle.jc_safety.proofs.Safe as safe
use Rattle.jc_safety.proofs.Taking.{has_row, row_applied}
use Rattle.jc_safety.proofs.Unwinding.{settles}
use Rattle.jc_safety.proofs.Thrown.{arithmetic}
use Rattle.jc_safety.specs.Safety.{EndsTyped, StaysTyped}

unmapped : {A B : Type 0} (P : B → Type 0) (f : A → B) (xs : List A) → AllByRecursion P (map f xs)
    → AllByRecursion (λ x. P (f x)) xs
unmapped P f [] h = tt
unmapped P f (x ∷ xs) h = (h.0, unmapped P f xs h.1)

module _ {C : Type 0} (s : Surroundings C) (ground : Ground s) (m : Machine C) (t : IsTyped s m) (d : DeclaredMethod)
    (next : ℕ) where
  abbrev at : StepContext C
  at = rows.here s ground m t d next m.top.operands

  abbrev most : ℕ
  most = rows.most s ground m t

  abbrev state : Types
  state = rows.state s ground m t

  abbrev below : ClassName → ClassName → Bool
  below = rows.below s ground m t

  abbrev returned : Option Ty
  returned = (method s ground m t).returned

  abbrev LeadsTo : Types → ℕ → Type 0
  LeadsTo after pc = rows.LeadsTo s ground m t after pc

  abbrev BranchesTo : Types → ℤ → Type 0
  BranchesTo after offset = rows.BranchesTo s ground m t after offset

  module _ (members : HaveMembers s.world.shapes) (found : declared_at s.world m.top.method ≡ Some d)
      (gives : returned ≡ result_of s.world.shapes d) (after : Types) where
    -- ---- instructions on words

    word_comes : (operation : WordOperation)
        → AllByRecursion (BranchesTo after) (offsets_of (operations.Word operation))
        → (falls_of (operations.Word operation) ≡ true → LeadsTo after next) → (x : Stepped C)
        → LeavesTyped s.world.shapes m.heap at returned operation after x → IsSafe s x
    word_comes operation branches falls _ (going locals operands on has holds) =
        goes.safe_on s ground m t d most next m.top.operands after locals operands has holds (falls on)
    word_comes operation branches falls _ (branching offset operands there has holds) =
        goes.safe_jumps s ground m t d most next m.top.operands after operands offset has holds
        (All-contains (BranchesTo after) (offsets_of (operations.Word operation)) offset
        (All-from_recursion (BranchesTo after) (offsets_of (operations.Word operation)) branches) there)
    word_comes operation branches falls _ throwing =
        record {
          fine =
              goes.throws_at s ground m t m.top.operands arithmetic_exception
              (arithmetic s ground m.heap t.beside.runtime_objects);
        }
    word_comes operation branches falls _ (returning word small is) =
        returns.gives_back s ground m t d next found gives m.top.operands (Word word) types.Word is
        (record { type = lt-ltb word 65536 small; written = refl })

    word_safe : (operation : WordOperation) → ((value : ℤ) → operation ≡ ops.Push value → FitsSigned w16 value)
        → word_effect below most returned operation state ≡ Ok after
        → AllByRecursion (BranchesTo after) (offsets_of (operations.Word operation))
        → (falls_of (operations.Word operation) ≡ true → LeadsTo after next) → IsSafe s (act_word at operation)
    word_safe operation short e branches falls =
        word_comes operation branches falls (act_word at operation)
        (ground.words s.world.shapes m.heap below at returned state after (placed s ground m t).locals_typed
        t.top.operands_typed operation short e)

    -- ---- instructions on objects

    abbrev set : Setting
    set = setting s ground m t d next

    object_safe : (operation : ObjectOperation)
        → ((invocation : Invocation) → operation ≡ objects.Invoke invocation
        → IsCall s ground m t invocation after next)
        → applied below most (object_row set operation) state ≡ Ok after
        → AllByRecursion (BranchesTo after) (offsets_of (operations.Object operation))
        → (falls_of (operations.Object operation) ≡ true → LeadsTo after next) → IsSafe s (act_object at operation)
    unfolding object_row act_object
    object_safe (objects.Load local) called e branches falls =
        references.load s ground m t d next local after (row_applied below most _ state after e) (falls refl)
    object_safe (objects.Store local) called e branches falls =
        references.store s ground m t d next local after (row_applied below most _ state after e) (falls refl)
    object_safe (objects.LoadComponent Forms.Reference) called e branches falls =
        arrays.load_reference s ground m t d next m.top.operands state.operands after t.top.operands_typed
        (row_applied below most _ state after e) (falls refl)
    object_safe (objects.LoadComponent Forms.Byte) called e branches falls =
        arrays.load_number s ground m t d next Forms.Byte after refl (row_applied below most _ state after e)
        (falls refl)
    object_safe (objects.LoadComponent Forms.Short) called e branches falls =
        arrays.load_number s ground m t d next Forms.Short after refl (row_applied below most _ state after e)
        (falls refl)
    object_safe (objects.StoreComponent Forms.Reference) called e branches falls =
        arrays.store_reference s ground m t d next after (row_applied below most _ state after e) (falls refl)
    object_safe (objects.StoreComponent Forms.Byte) called e branches falls =
        arrays.store_number s ground m t d next Forms.Byte after refl (row_applied below most _ state after e)
        (falls refl)
    object_safe (objects.StoreComponent Forms.Short) called e branches falls =
        arrays.store_number s ground m t d next Forms.Short after refl (row_applied below most _ state after e)
        (falls refl)
    object_safe (objects.Invoke invocation) called e branches falls =
        let h = has_row below most (invocation_row set invocation) state after e in
        call_safe s ground m t d next members set refl refl invocation h.found after h.is h.applied
        (called invocation refl)
    object_safe objects.ReturnReference called e branches falls =
        returns.return_reference s ground m t d next found gives after (row_applied below most _ state after e)
    object_safe objects.ReturnVoid called e branches falls =
        returns.return_void s ground m t d next found gives after (row_applied below most _ state after e)
    object_safe operation called e branches falls =
        search (
          arith,
          row_applied,
          has_row,
          references.push_null,
          references.branch,
          references.throw,
          arrays.array_length,
          field_safe,
          create,
          casts.check_cast,
          casts.instance_of,
        )

    -- ---- any instruction

    act_safe : (operation : Operation)
        → ((value : ℤ) → operation ≡ operations.Word (ops.Push value) → FitsSigned w16 value)
        → ((invocation : Invocation) → operation ≡ operations.Object (objects.Invoke invocation)
        → IsCall s ground m t invocation after next)
        → effect_of set most operation state ≡ Ok after → AllByRecursion (BranchesTo after) (offsets_of operation)
        → (falls_of operation ≡ true → LeadsTo after next) → IsSafe s (act at operation)
    unfolding effect_of
    act_safe operation h1 h2 h3 h4 h5 = grind (arith, word_safe, object_safe)

-- ---- a step

module _ {C : Type 0} (s : Surroundings C) (ground : Ground s) (members : HaveMembers s.world.shapes) where
  -- what an instruction came to, with what it throws caught
  settled_fine : (outcome : Outcome C) → safe.IsFine s outcome → StaysTyped s (settled s outcome)
  settled_fine outcome h1 = grind (arith, settles)

  module _ (m : Machine C) (t : IsTyped s m) where
    its_method : MethodOf s.world m.top.method (placed s ground m t).body (placed s ground m t).code
    its_method =
        let p = placed s ground m t in
        method_of_code s.world m.top.method.offset p.body p.code m.top.method.number p.loaded
        (ground.packages m.top.method.number p.body p.loaded) p.there

    its_instruction : IsFineAt (goes.rules s ground m t) (method s ground m t) (placed s ground m t).typing
        (placed s ground m t).typed.listing m.top.pc (placed s ground m t).state
    its_instruction = (placed s ground m t).typed.each m.top.pc (placed s ground m t).state (placed s ground m t).stated

    acts : IsSafe s (act_at s m)
    unfolding act_at
    acts =
        let p = placed s ground m t in
        let me = its_method in
        let x = its_instruction in
        let listing = p.typed.listing in
        let listed = ground.listed p.code.code listing m.top.pc x.instr p.typed.whole x.stands in
        let has = ground.listing.has p.code.code listing m.top.pc x.instr p.typed.whole x.stands in
        let constant = λ (value : ℤ) (is : x.instr.instr.operation ≡ operations.Word (ops.Push value)).
        ground.listing.pushes p.code.code m.top.pc x.instr.instr value has.1 is in
        let called : (invocation : Invocation) → x.instr.instr.operation ≡ operations.Object (objects.Invoke invocation)
        → IsCall s ground m t invocation x.fine.after x.instr.instr.next_pc =
        λ invocation is. record {
          call = x.instr.instr;
          stands = listed;
          invokes = is;
          behind = refl;
          effect = x.fine.effect;
          leads = x.fine.falls (ap falls_of is);
        } in
        let branches = subst
        (λ (pc : ℕ). AllByRecursion (BranchLeads (goes.rules s ground m t) p.typing x.fine.after)
        (targets_of pc x.instr.instr.operation))
        has.0 x.fine.branches in
        let S : ℕ → Type 0 = λ most. IsSafe s (act (record {
          around = s;
          machine = m;
          method = me.declared;
          max_stack = most;
          next_pc = x.instr.instr.next_pc;
        }) x.instr.instr.operation) in
        safe_some s (declared_at s.world m.top.method) me.declared _ me.found
        (safe_some s me.declared.method.header me.header _ me.header_is
        (safe_some s (code_at s.world m.top.method) p.code _ p.there
        (safe_some s (instruction_at p.code.code m.top.pc) x.instr.instr _ listed
        (subst S me.max_stack
        (act_safe s ground m t me.declared x.instr.instr.next_pc members me.found me.returned x.fine.after
        x.instr.instr.operation constant called x.fine.effect
        (unmapped (BranchLeads (goes.rules s ground m t) p.typing x.fine.after) (target_of m.top.pc)
        (offsets_of x.instr.instr.operation) branches)
        x.fine.falls)))))

    pub steps_safely : StaysTyped s (defensive_step s m).outcome
    unfolding defensive_step
    steps_safely = settled_fine (act_at s m).outcome acts.fine

  -- ---- many steps

  goes_on_safely : (lacking : Budget) (at : Option CodePoint) (denied : Option DeniedAccess) (go : Machine C → Called C)
      (outcome : Outcome C)
      → ((m : Machine C) → IsTyped s m → EndsTyped s (go m).ends) → StaysTyped s outcome
      → EndsTyped s (continued lacking at denied go outcome).ends
  goes_on_safely lacking at denied go outcome h1 h2 = grind arith

  pub runs_safely : (n : ℕ) (m : Machine C) → IsTyped s m → EndsTyped s (steps_of s n m).ends
  unfolding steps_of
  runs_safely zero m t = t.beside
  runs_safely (suc n) m t = search (arith, goes_on_safely, steps_safely, runs_safely n)
