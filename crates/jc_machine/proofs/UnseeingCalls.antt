-- Calls, returns, native members, and a whole step: none sees the components of plain objects of a context that isn't
-- active.
use Rattle.std.proofs.Common.{◌≡◌, ℕ, ℤ, ◌+◌, ◌-◌, ◌&&◌, Bool, true, false, cond, not, List, ◌∷◌, [], length, take}
use Rattle.std.proofs.Common.{drop, reverse, nat_le, nat_lt, Option, Some, None, refl, sym, ap, ◌∙◌, subst}
use Rattle.std.proofs.Common.{slice_get, slice_set}
use Rattle.std.specs.List.{list_all}
use Rattle.std.specs.Option.{option_and_then, option_map_or}
use Rattle.jc_base.specs.Signature.{Signature}
use Rattle.jc_cap.specs.declared.handler.Handler.{Handler}
use Rattle.jc_cap_desc.specs.Shape.{MethodBody}
use Rattle.jc_classes.specs.Members.{DeclaredMethod}
use Rattle.jc_classes.specs.Methods.{interface_method_of, virtual_method_of}
use Rattle.jc_code.specs.declared.instr.Operation.{Operation}
use Rattle.jc_code.specs.declared.instr.Operation.TheVariants as operations
use Rattle.jc_code.specs.declared.instr.Shuffle as shuffles
use Rattle.jc_code.specs.declared.instr.Shuffle.TheVariants.{Pop, Duplicate, Swap}
use Rattle.jc_code.specs.declared.instr.When.TheVariants.{Always, Zero, Compare}
use Rattle.jc_code.specs.declared.instr.WordOperation.{WordOperation}
use Rattle.jc_code.specs.declared.instr.WordOperation.TheVariants as words
use Rattle.jc_code.specs.declared.object.Creation.{Creation}
use Rattle.jc_code.specs.declared.object.Creation.TheVariants as Creations
use Rattle.jc_code.specs.declared.object.Invocation.{Invocation}
use Rattle.jc_code.specs.declared.object.Invocation.TheVariants.{Virtual, Special, Static, Interface}
use Rattle.jc_code.specs.declared.object.ObjectOperation.{ObjectOperation}
use Rattle.jc_code.specs.declared.object.ObjectOperation.TheVariants as objects
use Rattle.jc_code.specs.declared.object.ReferenceCondition.{ReferenceCondition}
use Rattle.jc_code.specs.declared.object.ReferenceCondition.TheVariants as Conditions
use Rattle.jc_code.specs.declared.object.TestedType.{TestedType}
use Rattle.jc_code.specs.declared.object.TestedType.TheVariants as Tested
use Rattle.jc_base.specs.Stack.{duplicated, swapped}
use Rattle.jc_effects.specs.Objects.{class_target, has_objects, interface_method_type}
use Rattle.jc_firewall.specs.Verdict.{runtime_context}
use Rattle.jc_firewall.specs.declared.access.Access.{Access}
use Rattle.jc_firewall.specs.declared.access.Access.TheVariants as accesses
use Rattle.jc_names.specs.declared.name.ClassName.{ClassName}
use Rattle.jc_names.specs.declared.name.MethodName.{MethodName}
use Rattle.jc_names.specs.declared.name.MethodName.TheVariants.{Api, Loaded}
use Rattle.jc_names.specs.declared.owner.Owner.{Owner}
use Rattle.jc_store.specs.Heap.{Heap, Object, object_at}
use Rattle.jc_store.specs.declared.kind.ObjectType.TheVariants.{Instance, ReferenceArray}
use Rattle.jc_machine.specs.Arrays.{is_there}
use Rattle.jc_machine.specs.Calls.{MethodTarget, VirtualTarget, accepts, act_call, act_interface, act_of_interface}
use Rattle.jc_machine.specs.Calls.{act_special, act_static_call, act_virtual, after_native, called_as, callback_fits}
use Rattle.jc_machine.specs.Calls.{calls_back, entered, enters, found_for, has_interface, has_room}
use Rattle.jc_machine.specs.Calls.{inner_native_ends, invokes, is_in_place_of, native_answer, native_call, native_ends}
use Rattle.jc_machine.specs.Calls.{native_gives, native_may_begin, native_type, on_native, special_target}
use Rattle.jc_machine.specs.Calls.{static_target, takes, type_of_member, virtual_member, virtual_target, with_arguments}
use Rattle.jc_machine.specs.Calls.{with_given, with_receiver}
use Rattle.jc_machine.specs.Going.{StepContext, asking, check, moved}
use Rattle.jc_machine.specs.Going.{judged, on_some, plain, require, throws, touched, wanting, with_heap, with_machine}
use Rattle.jc_machine.specs.Lookup.{class_of, code_at, declared_at, instruction_at}
use Rattle.jc_machine.specs.Lookup.{is_given, is_of_class, is_throwable, may_begin_with}
use Rattle.jc_machine.specs.Machine.{Callback, Calls, Frame, Gives, IsStuck, Machine, MethodPlace, NativeAnswer}
use Rattle.jc_machine.specs.Machine.{NativeEnd, Next, Outcome, Stepped, Stuck, Surroundings}
use Rattle.jc_machine.specs.Machine.{ThrowsObject, Touch, UsedUp}
use Rattle.jc_machine.specs.Apart.{is_applets}
use Rattle.jc_machine.specs.Calls.{is_member_or_loaded}
use Rattle.jc_machine.specs.Natives.{AreNativesGuarded, shareable_member}
use Rattle.jc_machine.specs.Runtime.{HasRuntimeObjects}
use Rattle.jc_link.specs.Found.{is_same_return}
use Rattle.jc_machine.proofs.StayingApart.{applets_not}
use Rattle.std.proofs.lemmas.Bool.{and_parts}
use Rattle.std.proofs.Common.{eqb-true}
use Rattle.jc_machine.specs.Objects.{InstanceTest, act_branch, act_check_cast, act_create, act_instance_of, act_object, bit}
use Rattle.jc_machine.specs.Objects.{cells_of, is_null, is_same, on_class, on_known}
use Rattle.jc_machine.specs.Objects.{on_test, tested, word_array}
use Rattle.jc_machine.specs.Returns.{pc_behind_call, result_of, resumed, returns, returns_to, room_of, with_result}
use Rattle.jc_machine.specs.Runtime.{arithmetic_exception, class_cast_exception, negative_size_exception}
use Rattle.jc_machine.specs.Step.{act, act_at, caught_in, covering, defensive_step, handler_for, here, is_found}
use Rattle.jc_machine.specs.Step.{settled}
use Rattle.jc_machine.specs.Step.{settled_object, through, unwound}
use Rattle.jc_machine.specs.Unseen as unseen
use Rattle.jc_machine.specs.Unseen.{AreAlike, AreNativesBlind, ComesAlike, IsBlindAnswer, IsSeen, StepsAlike}
use Rattle.jc_machine.specs.Unseen.{next, stuck_both}
use Rattle.jc_machine.specs.Words.{act_word, on_result, shuffled}
use Rattle.jc_words.specs.Shorts.{binary_of, holds}
use Rattle.jc_words.specs.Values.{Null, Ref, TaggedValue, Unset, Word}
use Rattle.jc_machine.proofs.Unseeing.{at_check, at_heap, at_judged, at_known, at_object, at_reference}
use Rattle.jc_machine.proofs.Unseeing.{at_reference_local}
use Rattle.jc_machine.proofs.Unseeing.{at_require, at_same, at_some, at_target, at_word, at_word_local, behind}
use Rattle.jc_machine.proofs.Unseeing.{both_stuck, branches_both, gives_both, goes_both, leaves_both, throws_both}
use Rattle.jc_machine.proofs.Unseeing.{throws_own}
use Rattle.jc_machine.proofs.Staying.{they_stay}
use Rattle.jc_machine.proofs.AlikeLaws.{AlikeAt, as_cells, at_alike, begins_both, given_both, leads_both}
use Rattle.jc_machine.proofs.AlikeLaws.{native_begins_both}
use Rattle.jc_machine.proofs.AlikeLaws.{types_both, with_cells}
use Rattle.jc_machine.proofs.UnseeingRules.{creates_both, field_both, length_both, load_both, store_both, throw_both}

module _ {C : Type 0} (context : ℕ) (h : StepContext C) (H K : Heap TaggedValue) (alike : AreAlike context H K)
    (own : HasRuntimeObjects H) (applet : h.machine.top.active.context ≡ runtime_context → ⊥)
    (other : h.machine.top.active.context ≡ context → ⊥) where
  abbrev one : StepContext C
  one = at_heap h H

  abbrev two : StepContext C
  two = at_heap h K

  -- ---- returns

  returns_to_both : (result : Option TaggedValue) (waiting : List Frame)
      → StepsAlike context (returns_to one result waiting) (returns_to two result waiting)
  returns_to_both result [] =
      record { touches = refl; outcome = unseen.ends (with_heap h.machine H) K result alike }
  returns_to_both result (f ∷ waiting) =
      at_some (pc_behind_call h.around f) _ _ (λ pc. at_some (room_of h.around f) _ _ (λ room.
      by_result pc room result))
    where
      resumed_both : (pc : ℕ) (operands : List TaggedValue)
          → StepsAlike context (plain (Next (resumed (with_heap h.machine H) f waiting pc operands)))
          (plain (Next (resumed (with_heap h.machine K) f waiting pc operands)))
      resumed_both pc operands = record {
        touches = refl;
        outcome = next (resumed (with_heap h.machine H) f waiting pc operands) K alike;
      }

      by_result : (pc room : ℕ) (v : Option TaggedValue)
          → StepsAlike context (with_result one room v f.operands
          (λ operands. plain (Next (resumed (with_heap h.machine H) f waiting pc operands))))
          (with_result two room v f.operands
          (λ operands. plain (Next (resumed (with_heap h.machine K) f waiting pc operands))))
      by_result pc room None = resumed_both pc f.operands
      by_result pc room (Some v) = at_check (nat_lt (length f.operands) room) _ _ (resumed_both pc (v ∷ f.operands))

  returns_both : (value : Option TaggedValue) → StepsAlike context (returns one value) (returns two value)
  returns_both value =
      at_some (result_of h) _ _ (λ result.
      at_same (is_given h.around.world.shapes H result value) (is_given h.around.world.shapes K result value) _ _
      (given_both context H K alike h.around.world.shapes result value) (returns_to_both value h.machine.waiting))

  -- ---- words

  result_both : (result : Option ℕ) (f g : ℕ → Stepped C) → ((n : ℕ) → StepsAlike context (f n) (g n))
      → StepsAlike context (on_result one result f) (on_result two result g)
  result_both None f g k = throws_own context h H K alike own arithmetic_exception refl
  result_both (Some n) f g k = k n

  shuffled_both : (shuffle : shuffles.Shuffle) (vs : List TaggedValue)
      → StepsAlike context (shuffled one shuffle vs) (shuffled two shuffle vs)
  shuffled_both (Pop count) vs = at_check _ _ _ (leaves_both context h H K alike (drop count vs))
  shuffled_both (Duplicate count below) vs =
      at_check _ _ _ (at_check (nat_le (length vs + count) h.max_stack) _ _
      (leaves_both context h H K alike (duplicated count below vs)))
  shuffled_both (Swap upper lower) vs = at_check _ _ _ (leaves_both context h H K alike (swapped upper lower vs))

  pub word_both : (operation : WordOperation) → StepsAlike context (act_word one operation) (act_word two operation)
  unfolding act_word
  word_both words.Nop = leaves_both context h H K alike h.machine.top.operands
  word_both (words.Push value) = gives_both context h H K alike _ h.machine.top.operands
  word_both (words.Load local) =
      at_word_local (slice_get h.machine.top.locals local) _ _
      (λ n. gives_both context h H K alike (Word n) h.machine.top.operands)
  word_both (words.Store local) =
      at_word h.machine.top.operands _ _ (λ n vs. at_check (nat_lt local (length h.machine.top.locals)) _ _
      (goes_both context h H K alike h.next_pc (slice_set h.machine.top.locals local (Word n)) vs))
  word_both (words.Increment local by) =
      at_word_local (slice_get h.machine.top.locals local) _ _
      (λ n. goes_both context h H K alike h.next_pc _ h.machine.top.operands)
  word_both (words.Shuffle shuffle) = shuffled_both shuffle h.machine.top.operands
  word_both (words.Binary operator) =
      at_word h.machine.top.operands _ _ (λ b us. at_word us _ _ (λ a vs.
      result_both (binary_of operator a b) _ _ (λ n. gives_both context h H K alike (Word n) vs)))
  word_both (words.Unary operator) =
      at_word h.machine.top.operands _ _ (λ a vs. gives_both context h H K alike _ vs)
  word_both (words.Branch Always offset) = branches_both context h H K alike true offset h.machine.top.operands
  word_both (words.Branch (Zero condition) offset) =
      at_word h.machine.top.operands _ _ (λ a vs. branches_both context h H K alike (holds condition a 0) offset vs)
  word_both (words.Branch (Compare condition) offset) =
      at_word h.machine.top.operands _ _ (λ b us. at_word us _ _ (λ a vs.
      branches_both context h H K alike (holds condition a b) offset vs))
  word_both (words.StableSwitch default low offsets) =
      at_word h.machine.top.operands _ _ (λ key vs. branches_both context h H K alike true _ vs)
  word_both (words.LookupSwitch default cases) =
      at_word h.machine.top.operands _ _ (λ key vs. branches_both context h H K alike true _ vs)
  word_both words.ReturnWord = at_word h.machine.top.operands _ _ (λ n vs. returns_both (Some (Word n)))

  -- ---- references that are moved and compared, casts, and what is made

  known_both : (vs : List TaggedValue) (f g : TaggedValue → List TaggedValue → Stepped C)
      → ((v : TaggedValue) (rest : List TaggedValue) → StepsAlike context (f v rest) (g v rest))
      → StepsAlike context (on_known one vs f) (on_known two vs g)
  known_both vs f g k =
      at_reference vs _ _ (λ v rest.
      at_same (is_there one v) (is_there two v) (f v rest) (g v rest) (leads_both context H K alike (λ object. true) v)
      (k v rest))

  branch_both : (when : ReferenceCondition) (offset : ℤ)
      → StepsAlike context (act_branch one when offset) (act_branch two when offset)
  branch_both Conditions.Null offset =
      known_both h.machine.top.operands _ _ (λ v vs. branches_both context h H K alike (is_null v) offset vs)
  branch_both Conditions.NotNull offset =
      known_both h.machine.top.operands _ _ (λ v vs. branches_both context h H K alike (not (is_null v)) offset vs)
  branch_both Conditions.Same offset =
      known_both h.machine.top.operands _ _ (λ w us. known_both us _ _ (λ v vs.
      branches_both context h H K alike (is_same v w) offset vs))
  branch_both Conditions.Different offset =
      known_both h.machine.top.operands _ _ (λ w us. known_both us _ _ (λ v vs.
      branches_both context h H K alike (not (is_same v w)) offset vs))

  at_class : (index : ℕ) (f g : ClassName → Stepped C) → ((c : ClassName) → StepsAlike context (f c) (g c))
      → StepsAlike context (on_class one index f) (on_class two index g)
  at_class index f g k = at_target context h H K index class_target f g k

  at_test : (type : TestedType) (f g : InstanceTest → Stepped C) → ((test : InstanceTest) → StepsAlike context (f test) (g test))
      → StepsAlike context (on_test one type f) (on_test two type g)
  at_test (Tested.Class index) f g k = at_class index _ _ (λ c. k _)
  at_test (Tested.WordArray kind) f g k = k _
  at_test (Tested.ReferenceArray index) f g k = at_class index _ _ (λ c. k _)

  tested_both : (access : Access) (type : TestedType) (v : TaggedValue) (s t : Stepped C) (f g : Bool → Stepped C)
      → StepsAlike context s t → ((passes : Bool) → StepsAlike context (f passes) (g passes))
      → StepsAlike context (tested one access type v s f) (tested two access type v t g)
  tested_both access type (Word n) s t f g k l = both_stuck
  tested_both access type (Ref n) s t f g k l =
      at_test type _ _ (λ test. at_object context h H K alike own (Ref n)
      (λ number object. judged one (wanting access number test.wanted) object
      (λ switch. f (test.passes object.kind.object_type)))
      (λ number object. judged two (wanting access number test.wanted) object
      (λ switch. g (test.passes object.kind.object_type)))
      (λ number o cells a.
      at_judged context h H K alike own (wanting access number test.wanted) o cells _ _
      (λ fine switch. l (test.passes o.kind.object_type))))
  tested_both access type Null s t f g k l = at_test type _ _ (λ test. k)
  tested_both access type Unset s t f g k l = both_stuck

  check_cast_both : (type : TestedType) → StepsAlike context (act_check_cast one type) (act_check_cast two type)
  check_cast_both type =
      at_reference h.machine.top.operands _ _ (λ v vs.
      tested_both accesses.CheckCast type v _ _ _ _ (gives_both context h H K alike v vs) (λ passes.
      at_require context h H K alike own class_cast_exception refl passes _ _ (gives_both context h H K alike v vs)))

  instance_of_both : (type : TestedType) → StepsAlike context (act_instance_of one type) (act_instance_of two type)
  instance_of_both type =
      at_reference h.machine.top.operands _ _ (λ v vs.
      tested_both accesses.InstanceOf type v _ _ _ _ (gives_both context h H K alike (bit false) vs) (λ passes.
      gives_both context h H K alike (bit passes) vs))

  create_both : (creation : Creation) → StepsAlike context (act_create one creation) (act_create two creation)
  create_both (Creations.Object index) =
      at_class index _ _ (λ c. at_check (has_objects h.around.world.shapes c) _ _
      (creates_both context h H K alike own applet other (Instance c) (cells_of h.around.world.shapes c)
      h.machine.top.operands))
  create_both (Creations.WordArray kind) =
      at_word h.machine.top.operands _ _ (λ count vs.
      at_require context h H K alike own negative_size_exception refl _ _ _
      (creates_both context h H K alike own applet other (word_array kind) _ vs))
  create_both (Creations.ReferenceArray index) =
      at_class index _ _ (λ c. at_word h.machine.top.operands _ _ (λ count vs.
      at_require context h H K alike own negative_size_exception refl _ _ _
      (creates_both context h H K alike own applet other (ReferenceArray c) _ vs)))

-- ---- frames

module _ {C : Type 0} (context : ℕ) (h : StepContext C) (H K : Heap TaggedValue) (alike : AreAlike context H K) where
  abbrev first : StepContext C
  first = at_heap h H

  abbrev second : StepContext C
  second = at_heap h K

  accepts_both : (place : MethodPlace) (values : List TaggedValue)
      → accepts first place values ≡ accepts second place values
  accepts_both place values = by_method (declared_at h.around.world place)
    where
      by_method : (o : Option DeclaredMethod)
          → option_map_or (λ d. may_begin_with h.around.world.shapes H d values) o false
          ≡ option_map_or (λ d. may_begin_with h.around.world.shapes K d values) o false
      by_method None = refl
      by_method (Some d) = begins_both context H K alike h.around.world.shapes d values

  entered_both : (f : Frame) (max_stack : ℕ) (operands : List TaggedValue)
      → StepsAlike context (entered first f max_stack operands) (entered second f max_stack operands)
  entered_both f max_stack operands = by_room (has_room h.around (h.machine.top ∷ h.machine.waiting)
      (length f.locals + max_stack))
    where
      above : Heap TaggedValue → Machine C
      above heap = record {
        heap = heap;
        statics = h.machine.statics;
        runtime = h.machine.runtime;
        top = f;
        waiting = moved h.machine.top h.machine.top.pc h.machine.top.locals operands ∷ h.machine.waiting;
      }

      by_room : (b : Bool)
          → StepsAlike context (cond b (plain (Next (above H))) (plain (UsedUp (with_heap h.machine H))))
          (cond b (plain (Next (above K))) (plain (UsedUp (with_heap h.machine K))))
      by_room true = record { touches = refl; outcome = next (above H) K alike }
      by_room false = record { touches = refl; outcome = unseen.used_up (with_heap h.machine H) K alike }

  enters_both : (switch : Option Owner) (place : MethodPlace) (arguments operands : List TaggedValue)
      → StepsAlike context (enters first switch place arguments operands)
      (enters second switch place arguments operands)
  enters_both switch place arguments operands =
      at_some (option_and_then (λ d. d.method.header) (declared_at h.around.world place)) _ _ (λ header.
      at_same (takes header arguments && accepts first place arguments) (takes header arguments && accepts second place
      arguments) _ _
      (ap (λ (b : Bool). takes header arguments && b) (accepts_both place arguments))
      (entered_both _ header.max_stack operands))

-- ---- native members

touches_both : {C : Type 0} {context : ℕ} (ts us : List Touch) (s t : Stepped C) → ts ≡ us → StepsAlike context s t
    → StepsAlike context (touched ts s) (touched us t)
touches_both {context = context} ts us s t e k =
    subst (λ (xs : List Touch). StepsAlike context (touched ts s) (touched xs t)) e (behind ts s t k)

-- a place with something else that the runtime keeps
abbrev keeping : {C : Type 0} → StepContext C → C → StepContext C
keeping h runtime = with_machine h (record {
  heap = h.machine.heap;
  statics = h.machine.statics;
  runtime = runtime;
  top = h.machine.top;
  waiting = h.machine.waiting;
})

after_both : {C : Type 0} (context : ℕ) (h : StepContext C) (H K : Heap TaggedValue) (a b : NativeAnswer C)
    → IsBlindAnswer context a b → (P : StepContext C → NativeEnd → Stepped C)
    → StepsAlike context (P (at_heap (keeping h a.runtime) a.heap) a.ends)
    (P (at_heap (keeping h a.runtime) b.heap) a.ends)
    → StepsAlike context (P (after_native (at_heap h H) a) a.ends) (P (after_native (at_heap h K) b) b.ends)
after_both {C = C} context h H K a b same P k =
    subst (λ (r : C). StepsAlike context (P (at_heap (keeping h a.runtime) a.heap) a.ends)
    (P (at_heap (keeping h r) b.heap) b.ends)) same.runtime
    (subst (λ (e : NativeEnd). StepsAlike context (P (at_heap (keeping h a.runtime) a.heap) a.ends)
    (P (at_heap (keeping h a.runtime) b.heap) e)) same.ends k)

-- what it throws isn't hidden
abbrev ThrowsSeen : ℕ → Heap TaggedValue → NativeEnd → Type 0
ThrowsSeen context heap ends = (number : ℕ) → ends ≡ ThrowsObject number → IsSeen context heap number

native_both : {C : Type 0} (context : ℕ) (h : StepContext C) (H K : Heap TaggedValue) → AreAlike context H K
    → HasRuntimeObjects H → AreNativesGuarded h.around.natives
    → (active : Owner) (previous : Option Owner) (member : ℕ) (arguments : List TaggedValue)
    → (go : StepContext C → Signature ClassName → NativeEnd → Stepped C)
    → IsBlindAnswer context (native_answer (at_heap h H) active previous member arguments)
    (native_answer (at_heap h K) active previous member arguments)
    → ((H2 K2 : Heap TaggedValue) (runtime : C) → AreAlike context H2 K2 → HasRuntimeObjects H2
    → (signature : Signature ClassName) (ends : NativeEnd)
    → (native_answer (at_heap h H) active previous member arguments).ends ≡ ends → ThrowsSeen context H2 ends
    → StepsAlike context (go (at_heap (keeping h runtime) H2) signature ends)
    (go (at_heap (keeping h runtime) K2) signature ends))
    → StepsAlike context (on_native (at_heap h H) active previous member arguments go)
    (on_native (at_heap h K) active previous member arguments go)
native_both context h H K alike own guarded active previous member arguments go same k =
    let a = native_answer (at_heap h H) active previous member arguments in
    let b = native_answer (at_heap h K) active previous member arguments in
    at_same (native_may_begin h.around.world.shapes H member arguments)
    (native_may_begin h.around.world.shapes K member arguments) _ _
    (native_begins_both context H K alike h.around.world.shapes member arguments)
    (at_some (native_type h.around.world.shapes member) _ _ (λ signature.
    touches_both a.touches b.touches _ _ same.touches
    (after_both context h H K a b same (λ x e. go x signature e)
    (k a.heap b.heap a.runtime same.heap (they_stay H a.heap
    (guarded h.around.world (native_call h.around (with_heap h.machine H) active previous member arguments)).kept own)
    signature a.ends refl same.thrown))))

module _ {C : Type 0} (context : ℕ) (h : StepContext C) (H K : Heap TaggedValue) (alike : AreAlike context H K) where
  given_so : (value : Option TaggedValue) (operands : List TaggedValue)
      → StepsAlike context (with_given (at_heap h H) value operands) (with_given (at_heap h K) value operands)
  given_so None operands = leaves_both context h H K alike operands
  given_so (Some v) operands = gives_both context h H K alike v operands

  native_gives_both : (signature : Signature ClassName) (value : Option TaggedValue) (operands : List TaggedValue)
      → StepsAlike context (native_gives (at_heap h H) signature value operands)
      (native_gives (at_heap h K) signature value operands)
  native_gives_both signature value operands =
      at_same (is_given h.around.world.shapes H signature.result value)
      (is_given h.around.world.shapes K signature.result value) _ _
      (given_both context H K alike h.around.world.shapes signature.result value) (given_so value operands)

  inner_both : (operands : List TaggedValue) (signature : Signature ClassName) (ends : NativeEnd)
      → ThrowsSeen context H ends → StepsAlike context (inner_native_ends operands (at_heap h H) signature ends)
      (inner_native_ends operands (at_heap h K) signature ends)
  inner_both operands signature (Gives value) seen = native_gives_both signature value operands
  inner_both operands signature (ThrowsObject number) seen = throws_both context h H K alike number (seen number refl)
  inner_both operands signature (Calls callback) seen = both_stuck
  inner_both operands signature IsStuck seen = both_stuck

module _ {C : Type 0} (context : ℕ) (h : StepContext C) (guarded : AreNativesGuarded h.around.natives)
    (blind : AreNativesBlind h.around.natives) (H K : Heap TaggedValue) (alike : AreAlike context H K)
    (own : HasRuntimeObjects H) where
  called_as_both : (callback : Callback) → callback.member ≡ shareable_member → (owner : Owner) (method : MethodName)
      → is_member_or_loaded callback.member method ≡ true → (arguments operands : List TaggedValue)
      → StepsAlike context (called_as (at_heap h H) owner method arguments operands)
      (called_as (at_heap h K) owner method arguments operands)
  called_as_both callback asks owner (Loaded number offset) in_place arguments operands =
      enters_both context h H K alike (Some owner) (record { number = number; offset = offset }) arguments operands
  called_as_both callback asks owner (Api member) in_place arguments operands =
      native_both context h H K alike own guarded owner (Some h.machine.top.active) member arguments
      (inner_native_ends operands)
      (blind.modest context h.around.world
      (native_call h.around (with_heap h.machine H) owner (Some h.machine.top.active) member arguments) K own
      (eqb-true member callback.member in_place ∙ asks) alike)
      (λ H2 K2 runtime alike2 own2 signature ends e seen.
      inner_both context (keeping h runtime) H2 K2 alike2 operands signature ends seen)

  fits_both : (given signature : Signature ClassName) (class : ClassName) (o : Object TaggedValue)
      (cells arguments : List TaggedValue)
      → callback_fits (at_heap h H) given signature class o arguments
      ≡ callback_fits (at_heap h K) given signature class (with_cells o cells) arguments
  fits_both given signature class o cells arguments =
      ap (λ (b : Bool). is_of_class h.around.world.shapes class o.kind.object_type
      && is_same_return given.result signature.result && b)
      (types_both context H K alike h.around.world.shapes signature.parameters arguments)

  checked_both : (b : Bool) (s t : Stepped C) → (b ≡ true → StepsAlike context s t)
      → StepsAlike context (check b s) (check b t)
  checked_both true s t k = k refl
  checked_both false s t k = both_stuck

  first_part : (a b c : Bool) → (a && b && c) ≡ true → a ≡ true
  first_part a b c e = (and_parts a b (and_parts (a && b) c e).0).0

  calls_back_both : (given : Signature ClassName) (callback : Callback) → callback.member ≡ shareable_member
      → (operands : List TaggedValue)
      → StepsAlike context (calls_back (at_heap h H) given callback operands)
      (calls_back (at_heap h K) given callback operands)
  calls_back_both given callback asks operands =
      at_known context h H K alike callback.object _ _ (λ o cells there a.
      at_some (type_of_member h.around.world.shapes callback.member) _ _ (λ signature.
      at_some (virtual_member h.around.world.shapes callback.member) _ _ (λ member.
      at_same _ _ _ _ (fits_both given signature member.class o cells callback.arguments)
      (at_some (virtual_method_of h.around.world.shapes (class_of o.kind.object_type) member.token 0) _ _ (λ method.
      checked_both (is_in_place_of h.around.world.shapes callback.member member.class signature method) _ _ (λ in_place.
      called_as_both callback asks o.owner method
      (first_part (is_member_or_loaded callback.member method) _ _ in_place) (Ref callback.object ∷ callback.arguments)
      operands))))))

-- what a step may rely on: the frame isn't the context's, nor the runtime's, whose objects are there
pub record IsBlind {C : Type 0} (context : ℕ) (s : Surroundings C) (m : Machine C) : Type 0 where
  pub guarded : AreNativesGuarded s.natives
  pub blind : AreNativesBlind s.natives
  pub own : HasRuntimeObjects m.heap
  pub applet : is_applets m.top.active ≡ true
  pub other : m.top.active.context ≡ context → ⊥

module _ {C : Type 0} (context : ℕ) (h : StepContext C) (H K : Heap TaggedValue) (alike : AreAlike context H K)
    (rely : IsBlind context h.around (with_heap h.machine H)) where
  isnt_runtime : h.machine.top.active.context ≡ runtime_context → ⊥
  isnt_runtime e = applets_not h.machine.top.active rely.applet e

  ends_both : (operands : List TaggedValue) (h2 : StepContext C) → AreNativesGuarded h2.around.natives
      → AreNativesBlind h2.around.natives → (H2 K2 : Heap TaggedValue) → AreAlike context H2 K2 → HasRuntimeObjects H2
      → (signature : Signature ClassName) (ends : NativeEnd) → ThrowsSeen context H2 ends
      → ((callback : Callback) → ends ≡ Calls callback → callback.member ≡ shareable_member)
      → StepsAlike context (native_ends operands (at_heap h2 H2) signature ends)
      (native_ends operands (at_heap h2 K2) signature ends)
  ends_both operands h2 guarded blind H2 K2 alike2 own2 signature (Gives value) seen asks =
      native_gives_both context h2 H2 K2 alike2 signature value operands
  ends_both operands h2 guarded blind H2 K2 alike2 own2 signature (ThrowsObject number) seen asks =
      throws_both context h2 H2 K2 alike2 number (seen number refl)
  ends_both operands h2 guarded blind H2 K2 alike2 own2 signature (Calls callback) seen asks =
      calls_back_both context h2 guarded blind H2 K2 alike2 own2 signature callback (asks callback refl) operands
  ends_both operands h2 guarded blind H2 K2 alike2 own2 signature IsStuck seen asks = both_stuck

  invokes_both : (switch : Option Owner) (method : MethodName) (arguments operands : List TaggedValue)
      → StepsAlike context (invokes (at_heap h H) switch method arguments operands)
      (invokes (at_heap h K) switch method arguments operands)
  invokes_both switch (Loaded number offset) arguments operands =
      enters_both context h H K alike switch (record { number = number; offset = offset }) arguments operands
  invokes_both switch (Api member) arguments operands =
      native_both context h H K alike rely.own rely.guarded h.machine.top.active h.machine.top.previous member arguments
      (native_ends operands)
      (rely.blind.members context h.around.world
      (native_call h.around (with_heap h.machine H) h.machine.top.active h.machine.top.previous member arguments) K
      rely.own rely.applet rely.other alike)
      (λ H2 K2 runtime alike2 own2 signature ends e seen.
      ends_both operands (keeping h runtime) rely.guarded rely.blind H2 K2 alike2 own2 signature ends seen
      (λ callback f.
      (rely.guarded h.around.world
      (native_call h.around (with_heap h.machine H) h.machine.top.active h.machine.top.previous member arguments)).asks
      callback (e ∙ f)))

  -- ---- calls

  arguments_both : (signature : Signature ClassName) (f g : List TaggedValue → List TaggedValue → Stepped C)
      → ((arguments operands : List TaggedValue) → StepsAlike context (f arguments operands) (g arguments operands))
      → StepsAlike context (with_arguments (at_heap h H) signature f) (with_arguments (at_heap h K) signature g)
  arguments_both signature f g k =
      at_same _ _ _ _ (types_both context H K alike h.around.world.shapes signature.parameters
      (reverse (take (length signature.parameters) h.machine.top.operands))) (k _ _)

  receiver_both : (signature : Signature ClassName)
      (f g : List TaggedValue → ℕ → Object TaggedValue → List TaggedValue → Stepped C)
      → ((arguments : List TaggedValue) (n : ℕ) (o : Object TaggedValue) (cells operands : List TaggedValue)
      → StepsAlike context (f arguments n o operands) (g arguments n (with_cells o cells) operands))
      → StepsAlike context (with_receiver (at_heap h H) signature f) (with_receiver (at_heap h K) signature g)
  receiver_both signature f g k =
      arguments_both signature _ _ (λ arguments us. at_reference us _ _ (λ receiver operands.
      at_object context h H K alike rely.own receiver (λ number object. f (receiver ∷ arguments) number object operands)
      (λ number object. g (receiver ∷ arguments) number object operands)
      (λ n o cells a. k (receiver ∷ arguments) n o cells operands)))

  virtual_both : (target : VirtualTarget)
      → StepsAlike context (act_virtual (at_heap h H) target) (act_virtual (at_heap h K) target)
  virtual_both target =
      receiver_both target.signature
      (λ arguments number object operands. check (is_of_class h.around.world.shapes target.class object.kind.object_type)
      (judged (at_heap h H) (asking accesses.InvokeVirtual number) object
      (λ switch. on_some (found_for h target.token object)
      (λ method. invokes (at_heap h H) switch method arguments operands))))
      (λ arguments number object operands. check (is_of_class h.around.world.shapes target.class object.kind.object_type)
      (judged (at_heap h K) (asking accesses.InvokeVirtual number) object
      (λ switch. on_some (found_for h target.token object)
      (λ method. invokes (at_heap h K) switch method arguments operands))))
      (λ arguments n o cells operands.
      at_check (is_of_class h.around.world.shapes target.class o.kind.object_type) _ _
      (at_judged context h H K alike rely.own (asking accesses.InvokeVirtual n) o cells _ _ (λ fine switch.
      at_some (found_for h target.token o) _ _ (λ method. invokes_both switch method arguments operands))))

  special_both : (target : MethodTarget)
      → StepsAlike context (act_special (at_heap h H) target) (act_special (at_heap h K) target)
  special_both target =
      receiver_both target.signature
      (λ arguments number object operands. check (is_of_class h.around.world.shapes target.class object.kind.object_type)
      (invokes (at_heap h H) None target.method arguments operands))
      (λ arguments number object operands. check (is_of_class h.around.world.shapes target.class object.kind.object_type)
      (invokes (at_heap h K) None target.method arguments operands))
      (λ arguments n o cells operands.
      at_check (is_of_class h.around.world.shapes target.class o.kind.object_type) _ _
      (invokes_both None target.method arguments operands))

  static_call_both : (target : MethodTarget)
      → StepsAlike context (act_static_call (at_heap h H) target) (act_static_call (at_heap h K) target)
  static_call_both target =
      arguments_both target.signature _ _ (λ arguments operands. invokes_both None target.method arguments operands)

  of_interface_both : (interface : ClassName) (token : ℕ) (signature : Signature ClassName)
      → StepsAlike context (act_of_interface (at_heap h H) interface token signature)
      (act_of_interface (at_heap h K) interface token signature)
  of_interface_both interface token signature =
      receiver_both signature
      (λ arguments number object operands. judged (at_heap h H)
      (wanting accesses.InvokeInterface number (Some interface)) object (λ switch.
      require (at_heap h H) class_cast_exception (has_interface h.around.world.shapes interface object)
      (on_some (interface_method_of h.around.world.shapes (class_of object.kind.object_type) interface token)
      (λ method. invokes (at_heap h H) switch method arguments operands))))
      (λ arguments number object operands. judged (at_heap h K)
      (wanting accesses.InvokeInterface number (Some interface)) object (λ switch.
      require (at_heap h K) class_cast_exception (has_interface h.around.world.shapes interface object)
      (on_some (interface_method_of h.around.world.shapes (class_of object.kind.object_type) interface token)
      (λ method. invokes (at_heap h K) switch method arguments operands))))
      (λ arguments n o cells operands.
      at_judged context h H K alike rely.own (wanting accesses.InvokeInterface n (Some interface)) o cells _ _
      (λ fine switch.
      at_require context h H K alike rely.own class_cast_exception refl
      (has_interface h.around.world.shapes interface o) _ _
      (at_some (interface_method_of h.around.world.shapes (class_of o.kind.object_type) interface token) _ _ (λ method.
      invokes_both switch method arguments operands))))

  interface_both : (count token : ℕ) (interface : ClassName)
      → StepsAlike context (act_interface (at_heap h H) count token interface)
      (act_interface (at_heap h K) count token interface)
  interface_both count token interface =
      at_some (interface_method_type h.around.world.shapes interface token) _ _ (λ signature.
      at_check _ _ _ (of_interface_both interface token signature))

  call_both : (invocation : Invocation)
      → StepsAlike context (act_call (at_heap h H) invocation) (act_call (at_heap h K) invocation)
  call_both (Virtual index) = at_target context h H K index virtual_target _ _ virtual_both
  call_both (Special index) = at_target context h H K index special_target _ _ special_both
  call_both (Static index) = at_target context h H K index static_target _ _ static_call_both
  call_both (Interface count index token) =
      at_target context h H K index class_target _ _ (interface_both count token)

  -- ---- an instruction

  object_both : (operation : ObjectOperation)
      → StepsAlike context (act_object (at_heap h H) operation) (act_object (at_heap h K) operation)
  unfolding act_object
  object_both objects.PushNull = gives_both context h H K alike Null h.machine.top.operands
  object_both (objects.Load local) =
      at_reference_local (slice_get h.machine.top.locals local) _ _
      (λ v. gives_both context h H K alike v h.machine.top.operands)
  object_both (objects.Store local) =
      at_reference h.machine.top.operands _ _ (λ v vs. at_check (nat_lt local (length h.machine.top.locals)) _ _
      (goes_both context h H K alike h.next_pc (slice_set h.machine.top.locals local v) vs))
  object_both (objects.LoadComponent form) = load_both context h H K alike rely.own isnt_runtime rely.other form
  object_both (objects.StoreComponent form) = store_both context h H K alike rely.own isnt_runtime rely.other form
  object_both objects.ArrayLength = length_both context h H K alike rely.own isnt_runtime rely.other
  object_both (objects.Branch when offset) = branch_both context h H K alike rely.own isnt_runtime rely.other when
      offset
  object_both (objects.Field access index) = field_both context h H K alike rely.own isnt_runtime rely.other access
      index
  object_both (objects.Invoke invocation) = call_both invocation
  object_both (objects.Create creation) = create_both context h H K alike rely.own isnt_runtime rely.other creation
  object_both (objects.CheckCast type) = check_cast_both context h H K alike rely.own isnt_runtime rely.other type
  object_both (objects.InstanceOf type) = instance_of_both context h H K alike rely.own isnt_runtime rely.other type
  object_both objects.Throw = throw_both context h H K alike rely.own isnt_runtime rely.other
  object_both objects.ReturnReference =
      at_reference h.machine.top.operands _ _ (λ v vs. returns_both context h H K alike rely.own isnt_runtime rely.other
      (Some v))
  object_both objects.ReturnVoid = returns_both context h H K alike rely.own isnt_runtime rely.other None

  act_both : (operation : Operation) → StepsAlike context (act (at_heap h H) operation) (act (at_heap h K) operation)
  act_both (operations.Word operation) = word_both context h H K alike rely.own isnt_runtime rely.other operation
  act_both (operations.Object operation) = object_both operation

-- ---- what is thrown, and a step

module _ {C : Type 0} (context : ℕ) (s : Surroundings C) where
  either_both : (b : Bool) (o p : Outcome C) → ComesAlike context o p
      → ComesAlike context (cond b o Stuck) (cond b p Stuck)
  either_both true o p k = k
  either_both false o p k = stuck_both

  module _ (m : Machine C) (heap : Heap TaggedValue) (alike : AreAlike context m.heap heap) (object : ℕ)
      (seen : IsSeen context m.heap object) (class : ClassName) where
    caught_both : (f : Frame) (waiting : List Frame) (body : MethodBody) (room : Option ℕ) (o p : Outcome C)
        (handler : Option Handler) → ComesAlike context o p
        → ComesAlike context (caught_in m object f waiting body room o handler)
        (caught_in (with_heap m heap) object f waiting body room p handler)
    caught_both f waiting body room o p None k = k
    caught_both f waiting body room o p (Some handler) k =
        either_both (option_map_or (nat_lt 0) room false) _ _ (next (record {
          heap = m.heap;
          statics = m.statics;
          runtime = m.runtime;
          top = moved f (handler.handler - body.code_offset) f.locals (Ref object ∷ []);
          waiting = waiting;
        }) heap alike)

    through_both : (f : Frame) (waiting : List Frame) (o p : Outcome C) (body : Option MethodBody)
        → ComesAlike context o p
        → ComesAlike context (through s m object class f waiting o body)
        (through s (with_heap m heap) object class f waiting p body)
    through_both f waiting o p None k = stuck_both
    through_both f waiting o p (Some body) k =
        either_both (list_all (is_found s.world f.method.number) (covering body f.pc)) _ _
        (caught_both f waiting body (room_of s f) o p (handler_for s.world f class body) k)

    unwound_both : (frames : List Frame)
        → ComesAlike context (unwound s m object class frames) (unwound s (with_heap m heap) object class frames)
    unwound_both [] = unseen.throws m heap object alike seen
    unwound_both (f ∷ waiting) = through_both f waiting _ _ (code_at s.world f.method) (unwound_both waiting)

  object_settles : (m : Machine C) (heap : Heap TaggedValue) → AreAlike context m.heap heap → (object : ℕ)
      → IsSeen context m.heap object → (x y : Option (Object TaggedValue)) → AlikeAt context x y
      → ComesAlike context (settled_object s m object x) (settled_object s (with_heap m heap) object y)
  object_settles m heap alike object seen None None a = stuck_both
  object_settles m heap alike object seen (Some o) (Some p) a =
      subst (λ (q : Object TaggedValue). ComesAlike context (settled_object s m object (Some o))
      (settled_object s (with_heap m heap) object (Some q))) (sym (as_cells context o p a))
      (either_both (is_throwable s.world.shapes o.kind.object_type) _ _
      (unwound_both m heap alike object seen (class_of o.kind.object_type) (m.top ∷ m.waiting)))
  object_settles m heap alike object seen None (Some p) a = absurd a
  object_settles m heap alike object seen (Some o) None a = absurd a

  settles_both : (o p : Outcome C) → ComesAlike context o p → ComesAlike context (settled s o) (settled s p)
  settles_both o p (next m heap a) = next m heap a
  settles_both o p (unseen.throws m heap object a seen) =
      object_settles m heap a object seen (object_at m.heap object) (object_at heap object)
      (at_alike context m.heap heap a object)
  settles_both o p (unseen.ends m heap value a) = unseen.ends m heap value a
  settles_both o p (unseen.used_up m heap a) = unseen.used_up m heap a
  settles_both o p stuck_both = stuck_both

  acts_both : (m : Machine C) (H K : Heap TaggedValue) → AreAlike context H K → IsBlind context s (with_heap m H)
      → StepsAlike context (act_at s (with_heap m H)) (act_at s (with_heap m K))
  unfolding act_at
  acts_both m H K alike rely =
      at_some (declared_at s.world m.top.method) _ _ (λ method. at_some method.method.header _ _ (λ header.
      at_some (code_at s.world m.top.method) _ _ (λ body. at_some (instruction_at body.code m.top.pc) _ _ (λ instr.
      act_both context (here s m method header instr) H K alike rely instr.operation))))

  -- a step sees no component of a plain object of a context that isn't active
  pub steps_are_blind : (m : Machine C) (heap : Heap TaggedValue) → AreAlike context m.heap heap → IsBlind context s m
      → StepsAlike context (defensive_step s m) (defensive_step s (with_heap m heap))
  unfolding defensive_step
  steps_are_blind m heap alike rely =
      let k = acts_both m m.heap heap alike rely in record {
        touches = k.touches;
        outcome = settles_both (act_at s m).outcome (act_at s (with_heap m heap)).outcome k.outcome;
      }
