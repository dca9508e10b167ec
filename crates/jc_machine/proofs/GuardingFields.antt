-- Instructions on fields keep the law of accesses.
use Rattle.std.proofs.Common.{◌≡◌, ℕ, List, [], length, nat_lt, slice_get, inl, refl, ap, Option, Some, None, arith}
use Rattle.std.proofs.Common.{true, false}
use Rattle.jc_base.specs.declared.declared_type.DeclaredType.{DeclaredType}
use Rattle.jc_code.specs.declared.instr.Operation.TheVariants as operations
use Rattle.jc_code.specs.declared.object.FieldAccess.{FieldAccess}
use Rattle.jc_code.specs.declared.object.FieldAction.{FieldAction}
use Rattle.jc_code.specs.declared.object.FieldAction.TheVariants.{Get, Put}
use Rattle.jc_code.specs.declared.object.Form.{Form}
use Rattle.jc_code.specs.declared.object.Holder.{Holder}
use Rattle.jc_code.specs.declared.object.Holder.TheVariants as Holders
use Rattle.jc_code.specs.declared.object.ObjectOperation.TheVariants as objects
use Rattle.jc_firewall.specs.Verdict.{fields, is_allowed, row_of}
use Rattle.jc_firewall.specs.declared.access.Access.TheVariants.{PutStaticReference}
use Rattle.jc_firewall.specs.declared.access.Facts.{Facts}
use Rattle.jc_link.specs.declared.named.StaticPlace.{StaticPlace}
use Rattle.jc_link.specs.declared.target.PoolTarget.{PoolTarget}
use Rattle.jc_link.specs.declared.target.PoolTarget.TheVariants as To
use Rattle.jc_names.specs.declared.name.ClassName.{ClassName}
use Rattle.jc_effects.specs.Objects.{is_form_of}
use Rattle.jc_machine.specs.Arrays.{stored_as}
use Rattle.jc_machine.specs.Fields.{FieldTarget, InstanceField, act_field, act_get_static, act_instance, act_on_target}
use Rattle.jc_machine.specs.Fields.{act_put_static, act_static, field_target, gets, of_class, of_objects, on_holder}
use Rattle.jc_machine.specs.Fields.{put_static, puts, putting, static_at, stored_in_static}
use Rattle.jc_machine.specs.Going.{StepContext, facts_of, storing}
use Rattle.jc_machine.specs.Guarded.{PutsStatic, StandsAt, may_change, one_written}
use Rattle.jc_store.specs.Heap.{Object, object_at}
use Rattle.std.specs.Option.{option_and_then, option_map_or}
use Rattle.jc_machine.specs.Lookup.{is_of_class, is_of_type, target_at}
use Rattle.jc_machine.specs.Machine.{Machine, Stepped, Surroundings, Touch}
use Rattle.jc_words.specs.Values.{Null, Ref, TaggedValue, Unset, Word}
use Rattle.jc_machine.proofs.Guarding.{KeepsLaw, at_accessed, at_check, at_checked, at_object, at_reference}
use Rattle.jc_machine.proofs.Guarding.{at_reference_local, at_some, at_stored, at_top, goes, is_stuck}
use Rattle.jc_machine.proofs.Guarding.{loads_still, verdict_in}
use Rattle.jc_machine.proofs.Storing.{any_type, asked_held, held_as, held_static, put_holds, short_held, typed_leads}
use Rattle.jc_machine.proofs.GuardingHeaps.{nothing_changes}
use Rattle.jc_machine.proofs.GuardingWrites.{stores}
use Rattle.jc_machine.proofs.StayingApart.{IsHeld, LeadsApart, top_isnt_runtime}

-- ---- static fields

get_static_keeps : {C : Type 0} (h : StepContext C) (form : Form) (place : StaticPlace)
    → KeepsLaw h.around h.machine [] (act_get_static h form place)
get_static_keeps h form place = search (arith, at_some, loads_still)

-- what is stored has been accessed, if it is an object
at_stored_value : {C : Type 0} (h : StepContext C) (v : TaggedValue) (s : Stepped C)
    → ((before : List Touch) → IsHeld h.around h.machine v → KeepsLaw h.around h.machine before s)
    → KeepsLaw h.around h.machine [] (stored_in_static h v s)
at_stored_value h (Word n) s k = k [] (λ keeps p. refl)
at_stored_value h (Ref n) s k =
    at_some (object_at h.machine.heap n) _ (λ o there.
    at_stored h PutStaticReference n o there (Ref n) s (λ fine. k _ (λ keeps p.
    asked_held h PutStaticReference n (Ref n) o (top_isnt_runtime keeps h.machine p.machine) refl
    (ap (λ (x : Option (Object TaggedValue)). option_map_or (λ (y : Object TaggedValue). any_type y.kind.object_type) x
    false) there) fine)))
at_stored_value h Null s k = k [] (λ keeps p. refl)
at_stored_value h Unset s k = is_stuck

-- static fields alone change
static_apart : {C : Type 0} (h : StepContext C) (place : StaticPlace) (v : TaggedValue)
    → PutsStatic h.around h.machine place → IsHeld h.around h.machine v
    → LeadsApart h.around h.machine (put_static h place v).machine
static_apart h place v names held = record {
  apart = λ keeps p. record {
    objects = p.machine.objects;
    statics =
        put_holds h.machine.heap place.offset v (held_static h.machine.heap v (held keeps p)) h.machine.statics
        place.home p.machine.statics;
    frames = p.machine.frames;
    kept = p.machine.kept;
  };
  kept = λ keeps q. q.now;
  statics = one_written place v names refl;
}

put_static_keeps : {C : Type 0} (h : StepContext C) (form : Form) (place : StaticPlace) (declared : DeclaredType ClassName)
    → PutsStatic h.around h.machine place → KeepsLaw h.around h.machine [] (act_put_static h form place declared)
put_static_keeps h form place declared names =
    at_top h.machine.top.operands _ (λ v vs.
    at_check (is_of_type h.around.world.shapes h.machine.heap declared v) _
    (at_some (static_at h.machine.statics place.home place.offset) _ (λ s e. at_stored_value h v _ (λ before held.
    goes (put_static h place (stored_as form v)) h.next_pc h.machine.top.locals vs
    (nothing_changes h.machine.top.active before h.machine.heap) (static_apart h place (stored_as form v) names
    (λ keeps p. held_as h.machine.heap form v (held keeps p)))))))

static_keeps : {C : Type 0} (h : StepContext C) (access : FieldAccess) (place : StaticPlace)
    (declared : DeclaredType ClassName) (action : FieldAction) (holder : Holder) → access.action ≡ action
    → access.holder ≡ holder → (access.action ≡ Put → access.holder ≡ Holders.Class → PutsStatic h.around h.machine
    place)
    → KeepsLaw h.around h.machine [] (act_static h access place declared action holder)
static_keeps h access place declared Get Holders.Class puts holds names = get_static_keeps h access.form place
static_keeps h access place declared Put Holders.Class puts holds names =
    put_static_keeps h access.form place declared (names puts holds)
static_keeps h access place declared Get Holders.Operand puts holds names = is_stuck
static_keeps h access place declared Put Holders.Operand puts holds names = is_stuck
static_keeps h access place declared Get Holders.This puts holds names = is_stuck
static_keeps h access place declared Put Holders.This puts holds names = is_stuck

-- ---- fields of objects

gets_keeps : {C : Type 0} (h : StepContext C) (form : Form) (field : InstanceField) (v : TaggedValue) (vs : List TaggedValue)
    → KeepsLaw h.around h.machine [] (gets h form field v vs)
gets_keeps h form field v vs = search (arith, at_object, at_check, at_accessed, at_some, slice_get, loads_still)

putting_row : (form : Form) (f : Facts) → row_of (putting form) f ≡ fields
putting_row form f = grind arith

putting_changes : (form : Form) → may_change (putting form) ≡ true
putting_changes form = grind arith

-- what a put of a field stores, of the field's type
put_held : {C : Type 0} (h : StepContext C) (form : Form) (field : InstanceField) (value : TaggedValue)
    → is_form_of form field.declared ≡ true
    → is_of_type h.around.world.shapes h.machine.heap field.declared value ≡ true
    → (number : ℕ) (o : Object TaggedValue) → is_allowed (verdict_in h (storing (putting form) number value) o) ≡ true
    → IsHeld h.around h.machine (stored_as form value)
put_held h form field value h1 h2 number o h3 = grind (arith, asked_held, top_isnt_runtime, typed_leads, short_held)

puts_keeps : {C : Type 0} (h : StepContext C) (form : Form) (field : InstanceField) (v value : TaggedValue)
    (vs : List TaggedValue) → is_form_of form field.declared ≡ true
    → is_of_type h.around.world.shapes h.machine.heap field.declared value ≡ true
    → KeepsLaw h.around h.machine [] (puts h form field v value vs)
puts_keeps h form field v value vs of_form typed =
    at_object h v _ (λ number o there. at_check (is_of_class h.around.world.shapes field.class o.kind.object_type) _
    (at_stored h (putting form) number o there value _ (λ fine.
    at_check (nat_lt field.cell (length o.cells)) _
    (stores h (storing (putting form) number value) o field.cell (stored_as form value) vs there (putting_changes form)
    (inl (putting_row form (facts_of h (storing (putting form) number value) o))) fine
    (put_held h form field value of_form typed number o fine)))))

at_holder : {C : Type 0} {around : Surroundings C} {m : Machine C} {before : List Touch} (h : StepContext C) (holder : Holder)
    (vs : List TaggedValue)
    (go : TaggedValue → List TaggedValue → Stepped C)
    → ((v : TaggedValue) (rest : List TaggedValue) → KeepsLaw around m before (go v rest))
    → KeepsLaw around m before (on_holder h holder vs go)
at_holder h Holders.Class vs go k = is_stuck
at_holder h Holders.Operand vs go k = at_reference vs go k
at_holder h Holders.This vs go k = search (arith, is_stuck, at_reference, at_reference_local, slice_get)

instance_keeps : {C : Type 0} (h : StepContext C) (access : FieldAccess) (field : InstanceField) (action : FieldAction)
    → is_form_of access.form field.declared ≡ true
    → KeepsLaw h.around h.machine [] (act_instance h access field action)
instance_keeps h access field Get of_form = search (arith, at_holder, gets_keeps, at_top, at_checked, puts_keeps)
instance_keeps h access field Put of_form = search (arith, at_holder, gets_keeps, at_top, at_checked, puts_keeps)

-- ---- instructions

-- what the code names
named_target : {C : Type 0} (h : StepContext C) (access : FieldAccess) (index : ℕ) (place : StaticPlace)
    (declared : DeclaredType ClassName) → StandsAt h.around h.machine (operations.Object (objects.Field access index))
    → access.action ≡ Put → access.holder ≡ Holders.Class
    → option_and_then field_target (target_at h.around.world h.machine.top.method.number index)
    ≡ Some (of_class place declared) → PutsStatic h.around h.machine place
named_target h access index place declared at puts holds e = by_option
    (target_at h.around.world h.machine.top.method.number index) refl e
  where
    by_target : (t : PoolTarget) → target_at h.around.world h.machine.top.method.number index ≡ Some t
        → field_target t ≡ Some (of_class place declared) → PutsStatic h.around h.machine place
    by_target (To.Class c) is f = absurd cc
    by_target (To.InstanceField class cell type) is f = absurd cc
    by_target (To.StaticField found type) is f = search arith
    by_target (To.VirtualMethod class token signature) is f = absurd cc
    by_target (To.SuperMethod class method signature) is f = absurd cc
    by_target (To.StaticMethod class method is_static signature) is f = absurd cc

    by_option : (o : Option PoolTarget) → target_at h.around.world h.machine.top.method.number index ≡ o
        → option_and_then field_target o ≡ Some (of_class place declared) → PutsStatic h.around h.machine place
    by_option None is f = absurd cc
    by_option (Some t) is f = by_target t is f

target_keeps : {C : Type 0} (h : StepContext C) (access : FieldAccess) (index : ℕ) (target : FieldTarget)
    → StandsAt h.around h.machine (operations.Object (objects.Field access index))
    → option_and_then field_target (target_at h.around.world h.machine.top.method.number index) ≡ Some target
    → KeepsLaw h.around h.machine [] (act_on_target h access target)
target_keeps h access index (of_objects field) at e =
    at_checked (is_form_of access.form field.declared) _ (instance_keeps h access field access.action)
target_keeps h access index (of_class place declared) at e =
    at_check (is_form_of access.form declared) _ (static_keeps h access place declared access.action access.holder refl
    refl (λ puts holds. named_target h access index place declared at puts holds e))

pub field_keeps : {C : Type 0} (h : StepContext C) (access : FieldAccess) (index : ℕ)
    → StandsAt h.around h.machine (operations.Object (objects.Field access index))
    → KeepsLaw h.around h.machine [] (act_field h access index)
field_keeps h access index at = search (arith, at_some, target_keeps)
