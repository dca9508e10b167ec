-- Objects that are made, cast and thrown, and references that are moved, keep the law of accesses.
use Rattle.std.proofs.Common.{ℕ, ℤ, Bool, true, false, cond, not, List, [], ◌∷◌, None, ◌≡◌, inr, arith}
use Rattle.std.proofs.Common.{int_lt, refl, replicate}
use Rattle.std.proofs.lemmas.Option.{same_Some}
use Rattle.jc_code.specs.declared.object.Creation.{Creation}
use Rattle.jc_code.specs.declared.object.Creation.TheVariants as Creations
use Rattle.jc_code.specs.declared.instr.Operation.TheVariants as operations
use Rattle.jc_code.specs.declared.object.ObjectOperation.{ObjectOperation}
use Rattle.jc_code.specs.declared.object.ObjectOperation.TheVariants.{Field, Invoke}
use Rattle.jc_code.specs.declared.object.ReferenceCondition.{ReferenceCondition}
use Rattle.jc_code.specs.declared.object.ReferenceCondition.TheVariants as Conditions
use Rattle.jc_code.specs.declared.object.TestedType.{TestedType}
use Rattle.jc_code.specs.declared.object.TestedType.TheVariants as Tested
use Rattle.jc_firewall.specs.declared.access.Access.{Access}
use Rattle.jc_firewall.specs.declared.access.Access.TheVariants as accesses
use Rattle.jc_names.specs.declared.name.ClassName.{ClassName}
use Rattle.jc_effects.specs.Objects.{class_target, has_objects}
use Rattle.jc_store.specs.Heap.{Heap, Object, next_number, object_at}
use Rattle.jc_store.specs.declared.kind.Mark.{Mark}
use Rattle.jc_store.specs.declared.kind.Mark.TheVariants.{Plain, TemporaryEntryPoint}
use Rattle.jc_store.specs.declared.kind.ObjectType.{ObjectType}
use Rattle.jc_store.specs.declared.kind.ObjectType.TheVariants.{Instance, ReferenceArray}
use Rattle.jc_words.specs.Values.{Null, Ref, TaggedValue, Unset, Word}
use Rattle.jc_machine.specs.Apart.{SparesPlain}
use Rattle.jc_machine.specs.Going.{StepContext, gives, no_resource, runtime_touch, stored_in, throws, throws_system}
use Rattle.jc_machine.specs.Guarded.{IsAccessed, StandsAt, is_blank}
use Rattle.jc_machine.specs.Machine.{Machine, Stepped, Surroundings, Throws, Touch}
use Rattle.jc_machine.specs.Natives.{AreNativesGuarded}
use Rattle.jc_machine.specs.Objects.{InstanceTest, act_branch, act_check_cast, act_create, act_instance_of, act_object}
use Rattle.jc_machine.specs.Objects.{act_throw, cells_of, creates, creates_array, has_space, is_array_of_words}
use Rattle.jc_machine.specs.Objects.{made, on_class, on_known, on_test, tested, word_array}
use Rattle.jc_machine.specs.Arrays.{is_there}
use Rattle.jc_machine.specs.Runtime.{HasRuntimeObjects, system_exception}
use Rattle.jc_machine.proofs.Guarding.{KeepsLaw, at_accessed, at_check, at_judged, at_object, at_reference}
use Rattle.jc_machine.proofs.Guarding.{at_reference_local, at_require, at_some, at_target, at_word, behind_allowed}
use Rattle.jc_machine.proofs.Guarding.{branches_still, gives_changed, gives_still, goes_behind, is_stuck, leaves}
use Rattle.jc_machine.proofs.Guarding.{throws_still}
use Rattle.jc_machine.proofs.GuardingArrays.{length_keeps, load_keeps, store_keeps}
use Rattle.jc_machine.proofs.GuardingCalls.{call_keeps}
use Rattle.jc_machine.proofs.GuardingFields.{field_keeps}
use Rattle.jc_machine.proofs.GuardingReturns.{at_returns}
use Rattle.jc_machine.proofs.GuardingWrites.{more_changes, new_apart, one_changes, stored_apart}
use Rattle.jc_machine.proofs.Storing.{all_replicate, blanks_held, cells_blank}
use Rattle.std.specs.List.{AllByRecursion}

-- ---- new objects

-- the runtime's own write of the reason
abbrev reason_touch : Touch
reason_touch = runtime_touch accesses.PutField system_exception

not_plain_too : (mark : Mark) → mark ≡ TemporaryEntryPoint → mark ≡ Plain → ⊥
not_plain_too mark e f = cc

reason_accessed : (active : ℕ) (object : Object TaggedValue)
    → IsAccessed active (reason_touch ∷ []) system_exception object
reason_accessed active object = record {
  place = 0;
  touch = reason_touch;
  listed = refl;
  is = refl;
  changes = refl;
  allowed = refl;
  who = inr refl;
  own = λ plain. inr refl;
}

-- to an object that isn't plain
reason_spares : (heap : Heap TaggedValue) → HasRuntimeObjects heap → SparesPlain heap reason_touch
reason_spares heap own e o there plain = grind (arith, not_plain_too, same_Some)

system_keeps : {C : Type 0} (h : StepContext C) (reason : ℕ) → KeepsLaw h.around h.machine [] (throws_system h reason)
system_keeps h reason =
    at_some (object_at h.machine.heap system_exception) _ (λ object there.
    behind_allowed reason_touch (throws (stored_in h system_exception object 0 (Word reason)) system_exception)
    (record {
      active = (refl, refl);
      object = object;
      found = there;
      verdict = refl;
    }) refl (λ keeps p. reason_spares h.machine.heap p.machine.objects.own)
    (leaves (Throws (stored_in h system_exception object 0 (Word reason)).machine system_exception)
    (stored_in h system_exception object 0 (Word reason)).machine refl
    (one_changes h.machine.top.active (reason_touch ∷ []) h.machine.heap object 0 (Word reason) system_exception
    (reason_accessed h.machine.top.active.context object) there) (stored_apart h system_exception object 0 (Word reason)
    there
    (λ keeps p. refl))))

-- components that are zero or null
abbrev AreBlank : List TaggedValue → Type 0
AreBlank cells = AllByRecursion (λ (v : TaggedValue). is_blank v ≡ true) cells

made_keeps : {C : Type 0} (h : StepContext C) (object : ObjectType) (cells vs : List TaggedValue) → AreBlank cells
    → KeepsLaw h.around h.machine [] (gives (made h object cells) (Ref (next_number h.machine.heap)) vs)
made_keeps h object cells vs blank =
    gives_changed (made h object cells) (Ref (next_number h.machine.heap)) vs
    (more_changes h.machine.top.active [] h.machine.heap (record {
      kind = record { object_type = object; mark = Plain; clears = None };
      owner = h.machine.top.active;
      cells = cells;
    }) (record { whose = refl; plain = refl; blank = blank })) (new_apart h (record {
      kind = record { object_type = object; mark = Plain; clears = None };
      owner = h.machine.top.active;
      cells = cells;
    }) (record { whose = refl; plain = refl; blank = blank }) (blanks_held _ cells blank))

by_space : {C : Type 0} (h : StepContext C) (object : ObjectType) (cells vs : List TaggedValue) (space : Bool) → AreBlank cells
    → KeepsLaw h.around h.machine []
    (cond space (gives (made h object cells) (Ref (next_number h.machine.heap)) vs) (throws_system h no_resource))
by_space h object cells vs true blank = made_keeps h object cells vs blank
by_space h object cells vs false blank = system_keeps h no_resource

creates_keeps : {C : Type 0} (h : StepContext C) (object : ObjectType) (cells vs : List TaggedValue) → AreBlank cells
    → KeepsLaw h.around h.machine [] (creates h object cells vs)
creates_keeps h object cells vs blank = by_space h object cells vs (has_space h cells) blank

array_keeps : {C : Type 0} (h : StepContext C) (object : ObjectType) (v : TaggedValue) (count : ℕ) (vs : List TaggedValue)
    → is_blank v ≡ true → KeepsLaw h.around h.machine [] (creates_array h object v count vs)
array_keeps h object v count vs blank = search (arith, at_require, not, int_lt, creates_keeps, replicate, all_replicate)

at_class : {C : Type 0} {around : Surroundings C} {m : Machine C} {before : List Touch} (h : StepContext C) (index : ℕ)
    (go : ClassName → Stepped C)
    → ((c : ClassName) → KeepsLaw around m before (go c)) → KeepsLaw around m before (on_class h index go)
at_class h index go k = at_target h index class_target go k

create_keeps : {C : Type 0} (h : StepContext C) (creation : Creation) → KeepsLaw h.around h.machine [] (act_create h creation)
create_keeps h (Creations.Object index) =
    at_class h index _ (λ c. at_check (has_objects h.around.world.shapes c) _
    (creates_keeps h (Instance c) (cells_of h.around.world.shapes c) h.machine.top.operands
    (cells_blank h.around.world.shapes c)))
create_keeps h (Creations.WordArray kind) =
    at_word h.machine.top.operands _ (λ count vs. array_keeps h (word_array kind) (Word 0) count vs refl)
create_keeps h (Creations.ReferenceArray index) =
    at_class h index _ (λ c. at_word h.machine.top.operands _ (λ count vs.
    array_keeps h (ReferenceArray c) Null count vs refl))

-- ---- casts

at_test : {C : Type 0} {around : Surroundings C} {m : Machine C} {before : List Touch} (h : StepContext C) (type : TestedType)
    (go : InstanceTest → Stepped C)
    → ((test : InstanceTest) → KeepsLaw around m before (go test)) → KeepsLaw around m before (on_test h type go)
at_test h (Tested.Class index) go k = search (arith, at_class)
at_test h (Tested.WordArray kind) go k = k (record { wanted = None; passes = is_array_of_words kind })
at_test h (Tested.ReferenceArray index) go k = search (arith, at_class)

at_tested : {C : Type 0} (h : StepContext C) (access : Access) (type : TestedType) (v : TaggedValue) (of_null : Stepped C)
    (go : Bool → Stepped C) → KeepsLaw h.around h.machine [] of_null
    → ((before : List Touch) (passes : Bool) → KeepsLaw h.around h.machine before (go passes))
    → KeepsLaw h.around h.machine [] (tested h access type v of_null go)
at_tested h access type (Word n) of_null go k l = is_stuck
at_tested h access type (Ref n) of_null go k l = search (arith, is_stuck, at_test, at_object, at_judged)
at_tested h access type Null of_null go k l = at_test h type _ (λ test. k)
at_tested h access type Unset of_null go k l = is_stuck

check_cast_keeps : {C : Type 0} (h : StepContext C) (type : TestedType) → KeepsLaw h.around h.machine []
    (act_check_cast h type)
check_cast_keeps h type = search (arith, at_reference, at_tested, gives_still, at_require)

instance_of_keeps : {C : Type 0} (h : StepContext C) (type : TestedType) → KeepsLaw h.around h.machine []
    (act_instance_of h type)
instance_of_keeps h type = search (arith, at_reference, at_tested, gives_still)

-- ---- exceptions

throw_keeps : {C : Type 0} (h : StepContext C) → KeepsLaw h.around h.machine [] (act_throw h)
throw_keeps h = search (arith, at_reference, at_object, at_check, at_accessed, throws_still)

-- ---- references that are moved and compared

at_known : {C : Type 0} {around : Surroundings C} {m : Machine C} {before : List Touch} (h : StepContext C)
    (vs : List TaggedValue) (go : TaggedValue → List TaggedValue → Stepped C)
    → ((v : TaggedValue) (rest : List TaggedValue) → KeepsLaw around m before (go v rest))
    → KeepsLaw around m before (on_known h vs go)
at_known h vs go k = at_reference vs _ (λ v rest. at_check (is_there h v) (go v rest) (k v rest))

branch_keeps : {C : Type 0} (h : StepContext C) (when : ReferenceCondition) (offset : ℤ)
    → KeepsLaw h.around h.machine [] (act_branch h when offset)
branch_keeps h Conditions.Null offset = search (arith, at_known, branches_still, not)
branch_keeps h Conditions.NotNull offset = search (arith, at_known, branches_still, not)
branch_keeps h Conditions.Same offset = search (arith, at_known, branches_still, not)
branch_keeps h Conditions.Different offset = search (arith, at_known, branches_still, not)

-- ---- instructions on references

pub object_keeps : {C : Type 0} (h : StepContext C) → AreNativesGuarded h.around.natives → (operation : ObjectOperation)
    → StandsAt h.around h.machine (operations.Object operation)
    → KeepsLaw h.around h.machine [] (act_object h operation)
unfolding act_object
object_keeps h natives (Field access index) at = field_keeps h access index at
object_keeps h natives (Invoke invocation) at = call_keeps h natives invocation
object_keeps h natives operation at =
    search (
      arith,
      gives_still,
      goes_behind,
      at_reference_local,
      at_reference,
      at_check,
      at_returns,
      load_keeps,
      store_keeps,
      length_keeps,
      branch_keeps,
      create_keeps,
      check_cast_keeps,
      instance_of_keeps,
      throw_keeps,
    )
