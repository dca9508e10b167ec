-- The accesses of each step are its instruction's, by the table, and those of native members that it calls.
use Rattle.std.proofs.Common.{◌≡◌, ℕ, zero, suc, ◌+◌, ◌-◌, ◌==◌, ◌&&◌, pos, Bool, true, false, cond, not}
use Rattle.std.proofs.Common.{List, [], ◌∷◌, ◌++◌, length, drop, nat_lt, Option, Some, None, refl, sym, ap, ◌∙◌}
use Rattle.std.proofs.Common.{subst, arith, take, append-nil, reverse, slice_get, int_lt, replicate, eqb-true}
use Rattle.std.specs.Option.{option_and_then}
use Rattle.std.proofs.lemmas.Bool.{and_parts}
use Rattle.std.specs.List.{AllByRecursion}
use Rattle.jc_base.specs.Signature.{Signature}
use Rattle.jc_base.specs.declared.declared_type.DeclaredType.{DeclaredType}
use Rattle.jc_cap_desc.specs.Shape.{Shape}
use Rattle.jc_classes.specs.Methods.{interface_method_of, virtual_method_of}
use Rattle.jc_code.specs.declared.instr.Operation.{Operation}
use Rattle.jc_code.specs.declared.instr.Operation.TheVariants as operations
use Rattle.jc_code.specs.declared.object.Creation.{Creation}
use Rattle.jc_code.specs.declared.object.Creation.TheVariants as Creations
use Rattle.jc_code.specs.declared.object.FieldAccess.{FieldAccess}
use Rattle.jc_code.specs.declared.object.FieldAction.{FieldAction}
use Rattle.jc_code.specs.declared.object.FieldAction.TheVariants.{Get, Put}
use Rattle.jc_code.specs.declared.object.Form.{Form}
use Rattle.jc_code.specs.declared.object.Form.TheVariants as Forms
use Rattle.jc_code.specs.declared.object.Holder.{Holder}
use Rattle.jc_code.specs.declared.object.Holder.TheVariants as Holders
use Rattle.jc_code.specs.declared.object.Invocation.{Invocation}
use Rattle.jc_code.specs.declared.object.Invocation.TheVariants.{Virtual, Special, Static, Interface}
use Rattle.jc_code.specs.declared.object.ObjectOperation.{ObjectOperation}
use Rattle.jc_code.specs.declared.object.ObjectOperation.TheVariants as objects
use Rattle.jc_code.specs.declared.object.TestedType.{TestedType}
use Rattle.jc_code.specs.declared.object.TestedType.TheVariants as Tested
use Rattle.jc_effects.specs.Objects.{has_objects, is_form_of, interface_method_type}
use Rattle.jc_firewall.specs.declared.access.Access.{Access}
use Rattle.jc_firewall.specs.declared.access.Access.TheVariants as accesses
use Rattle.jc_link.specs.declared.named.StaticPlace.{StaticPlace}
use Rattle.jc_names.specs.declared.name.ClassName.{ClassName}
use Rattle.jc_names.specs.declared.name.MethodName.{MethodName}
use Rattle.jc_names.specs.declared.name.MethodName.TheVariants.{Api, Loaded}
use Rattle.jc_names.specs.declared.owner.Owner.{Owner}
use Rattle.jc_store.specs.Heap.{Heap, Object, object_at}
use Rattle.jc_store.specs.declared.kind.ObjectType.{ObjectType}
use Rattle.jc_store.specs.declared.kind.ObjectType.TheVariants.{Instance, ReferenceArray}
use Rattle.jc_words.specs.Shorts.{short}
use Rattle.jc_words.specs.Values.{Null, Ref, TaggedValue, Unset, Word}
use Rattle.jc_machine.specs.Accessing.{AccessesAreOwn, AreOwn, Local, Operand}
use Rattle.jc_machine.specs.Accessing.{FramePlace, Row, by_native, by_row, by_runtime, cast_row, class_named, field_row}
use Rattle.jc_machine.specs.Accessing.{store_row, of_null, of_receiver, names, row_of, stores, uses}
use Rattle.jc_machine.specs.Accessing.{virtual_row, where_stuck, without_row}
use Rattle.jc_machine.specs.Arrays.{is_array_of, is_in_bounds, is_there, stored_as, act_length, act_load, act_store}
use Rattle.jc_machine.specs.Arrays.{act_store_word}
use Rattle.jc_machine.specs.Calls.{callback_fits, found_for, has_interface, is_in_place_of, native_may_begin}
use Rattle.jc_machine.specs.Calls.{native_type, type_of_member, virtual_member, MethodTarget, VirtualTarget}
use Rattle.jc_machine.specs.Calls.{act_call, act_of_interface, act_special, act_virtual, after_native, called_as}
use Rattle.jc_machine.specs.Calls.{calls_back, inner_native_ends, invokes, native_answer, native_call}
use Rattle.jc_machine.specs.Calls.{native_ends, native_gives, on_native, static_target, virtual_target, with_arguments}
use Rattle.jc_machine.specs.Calls.{with_given, with_receiver, is_member_or_loaded}
use Rattle.jc_machine.specs.Fields.{put_static, putting, static_at, FieldTarget, InstanceField, act_field, act_instance}
use Rattle.jc_machine.specs.Fields.{act_on_target, act_static, gets, of_class, of_objects, puts, stored_in_static}
use Rattle.jc_machine.specs.Fields.{act_put_static}
use Rattle.jc_machine.specs.Going.{StepContext, asking, storing, gives, judged}
use Rattle.jc_machine.specs.Going.{leaves_operands, on_object, on_some}
use Rattle.jc_machine.specs.Going.{require, stored_in, throws_system}
use Rattle.jc_machine.specs.Going.{touched, wanting}
use Rattle.jc_machine.specs.Guarded.{frame_answer, StandsAt}
use Rattle.jc_machine.specs.Lookup.{component_class, is_array, is_instance, is_of_class, is_of_type, leads_to, class_of}
use Rattle.jc_machine.specs.Lookup.{code_at, declared_at, instruction_at, is_given, is_throwable, target_at}
use Rattle.jc_machine.specs.Lookup.{are_of_types}
use Rattle.jc_machine.specs.Machine.{Callback, Calls, Gives, IsStuck, Machine, NativeAnswer}
use Rattle.jc_machine.specs.Machine.{NativeEnd, Outcome, Stepped, Surroundings, ThrowsObject, Touch}
use Rattle.jc_machine.specs.Natives.{AreNativesGuarded, IsOfReceiver, shareable_member}
use Rattle.jc_machine.specs.Objects.{bit, cells_of, word_array, InstanceTest, act_check_cast, act_create}
use Rattle.jc_machine.specs.Objects.{act_instance_of, act_object, act_throw, creates, creates_array, has_space, made}
use Rattle.jc_machine.specs.Objects.{on_test, tested}
use Rattle.jc_machine.specs.Runtime.{array_index_exception, array_store_exception, class_cast_exception}
use Rattle.jc_machine.specs.Runtime.{negative_size_exception, system_exception}
use Rattle.jc_machine.specs.Step.{act, act_at, defensive_step, here, settled}
use Rattle.jc_machine.proofs.AccessingRules.{at_checked, at_check, at_some, at_top, at_word, at_reference}
use Rattle.jc_machine.proofs.AccessingRules.{at_reference_local, at_require, whole, behind, called, still, Stage, Own}
use Rattle.jc_machine.proofs.AccessingRules.{stops, ends, further, no_more, unlisted, silent, leaves, goes}
use Rattle.jc_machine.proofs.AccessingRules.{gives_own, loads_own, returns_own, word_own, branch_own, enters_own, Named}
use Rattle.jc_machine.proofs.AccessingRules.{at_named, at_judged, at_asked, second, third, top, stores_it}

-- ---- instructions on arrays

module _ {C : Type 0} (h : StepContext C) where
  load_own : (form : Form) → StandsAt h.around h.machine (operations.Object (objects.LoadComponent form))
      → Own h (operations.Object (objects.LoadComponent form)) whole (act_load h form)
  load_own form stands =
      at_word h.machine.top.operands _ (λ index us d. at_reference us _ (λ array vs e.
      at_named array _ (record { stands = stands; is_row = refl; there = second d e }) (λ n o x.
      at_check (is_array_of form o.kind.object_type) _ (at_asked n (asking accesses.LoadComponent n) o _ x refl (λ sw.
      at_require h array_index_exception (is_in_bounds index o) _ (ends _)
      (at_some (slice_get o.cells index) _ (λ v g. loads_own h form v vs)))))))

  length_own : StandsAt h.around h.machine (operations.Object objects.ArrayLength)
      → Own h (operations.Object objects.ArrayLength) whole (act_length h)
  length_own stands =
      at_reference h.machine.top.operands _ (λ array vs e.
      at_named array _ (record { stands = stands; is_row = refl; there = top e }) (λ n o x.
      at_check (is_array o.kind.object_type) _ (at_asked n (asking accesses.ArrayLength n) o _ x refl (λ sw.
      gives_own h (Word (length o.cells)) vs))))

  store_word_own : (form : Form) → store_row form ≡ uses accesses.StoreComponent (Operand 2)
      → StandsAt h.around h.machine (operations.Object (objects.StoreComponent form))
      → Own h (operations.Object (objects.StoreComponent form)) whole (act_store_word h form)
  store_word_own form is stands =
      at_word h.machine.top.operands _ (λ w ts c. at_word ts _ (λ index us d. at_reference us _ (λ array vs e.
      at_named array _ (record { stands = stands; is_row = is; there = third c d e }) (λ n o x.
      at_check (is_array_of form o.kind.object_type) _ (at_asked n (asking accesses.StoreComponent n) o _ x refl (λ sw.
      at_require h array_index_exception (is_in_bounds index o) _ (ends _)
      (leaves (stored_in h n o index (stored_as form (Word w))) vs)))))))

  store_own : (form : Form) → StandsAt h.around h.machine (operations.Object (objects.StoreComponent form))
      → Own h (operations.Object (objects.StoreComponent form)) whole (act_store h form)
  store_own Forms.Reference stands =
      at_reference h.machine.top.operands _ (λ v ts c. at_check (is_there h v) _ (at_word ts _ (λ index us d.
      at_reference us _ (λ array vs e.
      at_named array _ (record { stands = stands; is_row = refl; there = third c d e }) (λ n o x.
      at_some (component_class o.kind.object_type) _ (λ class f.
      at_asked n (storing accesses.StoreReference n v) o _ x
      (stores_it h.machine.top accesses.StoreReference (Operand 2) n v (top c)) (λ sw.
      at_require h array_index_exception (is_in_bounds index o) _ (ends _)
      (at_require h array_store_exception (leads_to h.machine.heap (is_instance h.around.world.shapes class) v) _
      (ends _) (leaves (stored_in h n o index v) vs)))))))))
  store_own Forms.Byte stands = store_word_own Forms.Byte refl stands
  store_own Forms.Short stands = store_word_own Forms.Short refl stands

-- ---- instructions on fields

abbrev field_op : FieldAction → Holder → Form → ℕ → Operation
field_op action holder form index =
    operations.Object (objects.Field (record { action = action; holder = holder; form = form }) index)

put_row : (form : Form) → field_row Put Holders.Operand form ≡ stores (putting form) (Operand 1)
put_row Forms.Reference = refl
put_row Forms.Byte = refl
put_row Forms.Short = refl

put_this_row : (form : Form) → field_row Put Holders.This form ≡ stores (putting form) (Local 0)
put_this_row Forms.Reference = refl
put_this_row Forms.Byte = refl
put_this_row Forms.Short = refl

-- a word is of no reference type, and a reference of no type of words
no_word : (world : List Shape) (heap : Heap TaggedValue) (d : DeclaredType ClassName) (n : ℕ)
    → is_form_of Forms.Reference d ≡ true → is_of_type world heap d (Word n) ≡ true → ⊥
no_word world heap d n h1 h2 = grind arith

no_reference : (world : List Shape) (heap : Heap TaggedValue) (form : Form) (d : DeclaredType ClassName) (n : ℕ)
    → field_row Put Holders.Class form ≡ None → is_form_of form d ≡ true → is_of_type world heap d (Ref n) ≡ true → ⊥
no_reference world heap form d n h1 h2 h3 = grind arith

module _ {C : Type 0} (h : StepContext C) where
  gets_own : {op : Operation} {place : FramePlace} (form : Form) (field : InstanceField) (v : TaggedValue)
      (vs : List TaggedValue)
      → Named h op (record { access = accesses.GetField; object = place; stored = None; wanted = None }) v
      → Own h op whole (gets h form field v vs)
  gets_own form field v vs x =
      at_named v _ x (λ n o y. at_check (is_of_class h.around.world.shapes field.class o.kind.object_type) _
      (at_asked n (asking accesses.GetField n) o _ y refl (λ sw.
      at_some (slice_get o.cells field.cell) _ (λ value e. loads_own h form value vs))))

  puts_own : {op : Operation} {place : FramePlace} (form : Form) (field : InstanceField) (v value : TaggedValue)
      (vs : List TaggedValue) → slice_get h.machine.top.operands 0 ≡ Some value
      → Named h op (record { access = putting form; object = place; stored = Some (Operand 0); wanted = None }) v
      → Own h op whole (puts h form field v value vs)
  puts_own {place = place} form field v value vs e x =
      at_named v _ x (λ n o y. at_check (is_of_class h.around.world.shapes field.class o.kind.object_type) _
      (at_asked n (storing (putting form) n value) o _ y (stores_it h.machine.top (putting form) place n value e) (λ sw.
      at_check (nat_lt field.cell (length o.cells)) _
      (leaves (stored_in h n o field.cell (stored_as form value)) vs))))

  instance_own : (action : FieldAction) (holder : Holder) (form : Form) (index : ℕ) (field : InstanceField)
      → StandsAt h.around h.machine (field_op action holder form index)
      → Own h (field_op action holder form index) whole
      (act_instance h (record { action = action; holder = holder; form = form }) field action)
  instance_own Get Holders.Class form index field stands = stops whole
  instance_own Get Holders.Operand form index field stands =
      at_reference h.machine.top.operands _ (λ v vs e.
      gets_own form field v vs (record { stands = stands; is_row = refl; there = top e }))
  instance_own Get Holders.This form index field stands =
      at_reference_local (slice_get h.machine.top.locals 0) _ (λ v e.
      gets_own form field v h.machine.top.operands (record { stands = stands; is_row = refl; there = e }))
  instance_own Put Holders.Class form index field stands =
      at_top h.machine.top.operands _ (λ value us d. at_check _ _ (stops whole))
  instance_own Put Holders.Operand form index field stands =
      at_top h.machine.top.operands _ (λ value us d. at_check _ _ (at_reference us _ (λ v vs e.
      puts_own form field v value vs (top d)
      (record { stands = stands; is_row = put_row form; there = second d e }))))
  instance_own Put Holders.This form index field stands =
      at_top h.machine.top.operands _ (λ value us d. at_check _ _
      (at_reference_local (slice_get h.machine.top.locals 0) _ (λ v e.
      puts_own form field v value us (top d)
      (record { stands = stands; is_row = put_this_row form; there = e }))))

  -- a putstatic of a reference
  reference_own : (index : ℕ) (place : StaticPlace) (declared : DeclaredType ClassName)
      → StandsAt h.around h.machine (field_op Put Holders.Class Forms.Reference index)
      → is_form_of Forms.Reference declared ≡ true
      → Own h (field_op Put Holders.Class Forms.Reference index) whole
      (act_put_static h Forms.Reference place declared)
  reference_own index place declared stands of_form =
      at_top h.machine.top.operands _ (λ v vs e.
      at_checked (is_of_type h.around.world.shapes h.machine.heap declared v) _ (λ typed.
      at_some (static_at h.machine.statics place.home place.offset) _ (λ s d. by_value v vs e typed)))
    where
      by_value : (v : TaggedValue) (vs : List TaggedValue) → h.machine.top.operands ≡ v ∷ vs
          → is_of_type h.around.world.shapes h.machine.heap declared v ≡ true
          → Own h (field_op Put Holders.Class Forms.Reference index) whole
          (stored_in_static h v (leaves_operands (put_static h place (stored_as Forms.Reference v)) vs))
      by_value (Word n) vs e typed =
          absurd (no_word h.around.world.shapes h.machine.heap declared n of_form typed)
      by_value (Ref n) vs e typed =
          at_named (Ref n) _ (record { stands = stands; is_row = refl; there = top e }) (λ k o x.
          at_asked k (storing accesses.PutStaticReference k (Ref n)) o _ x
          (stores_it h.machine.top accesses.PutStaticReference (Operand 0) k (Ref n) (top e)) (λ sw.
          leaves (put_static h place (Ref n)) vs))
      by_value Null vs e typed = record { says = of_null _ _ stands refl (top e) }
      by_value Unset vs e typed = stops whole

  -- a putstatic of a word
  word_static_own : (form : Form) (place : StaticPlace) (declared : DeclaredType ClassName) {op : Operation}
      → field_row Put Holders.Class form ≡ None → is_form_of form declared ≡ true
      → Own h op still (act_put_static h form place declared)
  word_static_own form place declared {op} e of_form =
      at_top h.machine.top.operands _ (λ v vs d.
      at_checked (is_of_type h.around.world.shapes h.machine.heap declared v) _ (λ typed.
      at_some (static_at h.machine.statics place.home place.offset) _ (λ s f. by_value v vs typed)))
    where
      by_value : (v : TaggedValue) (vs : List TaggedValue)
          → is_of_type h.around.world.shapes h.machine.heap declared v ≡ true
          → Own h op still (stored_in_static h v (leaves_operands (put_static h place (stored_as form v)) vs))
      by_value (Word n) vs typed = leaves (put_static h place (stored_as form (Word n))) vs
      by_value (Ref n) vs typed =
          absurd (no_reference h.around.world.shapes h.machine.heap form declared n e of_form typed)
      by_value Null vs typed = leaves (put_static h place (stored_as form Null)) vs
      by_value Unset vs typed = stops still

  static_own : (action : FieldAction) (holder : Holder) (form : Form) (index : ℕ) (place : StaticPlace)
      (declared : DeclaredType ClassName) → StandsAt h.around h.machine (field_op action holder form index)
      → is_form_of form declared ≡ true → Own h (field_op action holder form index) whole
      (act_static h (record { action = action; holder = holder; form = form }) place declared action holder)
  static_own Get Holders.Class form index place declared stands e =
      silent _ stands refl (at_some (static_at h.machine.statics place.home place.offset) _
      (λ s d. loads_own h form s.value h.machine.top.operands))
  static_own Put Holders.Class Forms.Reference index place declared stands e =
      reference_own index place declared stands e
  static_own Put Holders.Class Forms.Byte index place declared stands e =
      silent _ stands refl (word_static_own Forms.Byte place declared refl e)
  static_own Put Holders.Class Forms.Short index place declared stands e =
      silent _ stands refl (word_static_own Forms.Short place declared refl e)
  static_own Get Holders.Operand form index place declared stands e = stops whole
  static_own Put Holders.Operand form index place declared stands e = stops whole
  static_own Get Holders.This form index place declared stands e = stops whole
  static_own Put Holders.This form index place declared stands e = stops whole

  target_own : (action : FieldAction) (holder : Holder) (form : Form) (index : ℕ) (target : FieldTarget)
      → StandsAt h.around h.machine (field_op action holder form index)
      → Own h (field_op action holder form index) whole
      (act_on_target h (record { action = action; holder = holder; form = form }) target)
  target_own action holder form index (of_objects field) stands =
      at_check (is_form_of form field.declared) _ (instance_own action holder form index field stands)
  target_own action holder form index (of_class place declared) stands =
      at_checked (is_form_of form declared) _ (static_own action holder form index place declared stands)

  field_own : (access : FieldAccess) (index : ℕ)
      → StandsAt h.around h.machine (operations.Object (objects.Field access index))
      → Own h (operations.Object (objects.Field access index)) whole (act_field h access index)
  field_own access index stands =
      at_some _ _ (λ target e. target_own access.action access.holder access.form index target stands)

-- ---- objects that are made

-- the class that an entry of the pool names, to the code that runs
abbrev class_in : {C : Type 0} → StepContext C → ℕ → Option ClassName
class_in h index = class_named h.around.world h.machine.top.method.number index

abbrev cast_in : {C : Type 0} → StepContext C → Access → TestedType → Option Row
cast_in h access type = cast_row h.around.world h.machine.top.method.number access type

module _ {C : Type 0} (h : StepContext C) (creation : Creation) where
  abbrev op : Operation
  op = operations.Object (objects.Create creation)

  by_space : (b : Bool) (object : ObjectType) (cells vs : List TaggedValue) (n reason : ℕ)
      → Own h op behind (cond b (gives (made h object cells) (Ref n) vs) (throws_system h reason))
  by_space true object cells vs n reason = further _ (gives_own (made h object cells) (Ref n) vs)
  by_space false object cells vs n reason =
      at_some (object_at h.machine.heap system_exception) _ (λ o e. record { says = by_runtime creation })

  creates_own : (object : ObjectType) (cells vs : List TaggedValue) → Own h op behind (creates h object cells vs)
  creates_own object cells vs = by_space (has_space h cells) object cells vs _ _

  array_own : (object : ObjectType) (v : TaggedValue) (count : ℕ) (vs : List TaggedValue)
      → Own h op behind (creates_array h object v count vs)
  array_own object v count vs =
      at_require h negative_size_exception (not (int_lt (short count) (pos 0))) _ (further _ (ends _))
      (creates_own object (replicate count v) vs)

create_own : {C : Type 0} (h : StepContext C) (creation : Creation)
    → Own h (operations.Object (objects.Create creation)) behind (act_create h creation)
create_own h (Creations.Object index) =
    at_some (class_in h index) _ (λ c e.
    at_check (has_objects h.around.world.shapes c) _
    (creates_own h (Creations.Object index) (Instance c) (cells_of h.around.world.shapes c) h.machine.top.operands))
create_own h (Creations.WordArray kind) =
    at_word h.machine.top.operands _ (λ count vs e.
    array_own h (Creations.WordArray kind) (word_array kind) (Word 0) count vs)
create_own h (Creations.ReferenceArray index) =
    at_some (class_in h index) _ (λ c e.
    at_word h.machine.top.operands _ (λ count vs d.
    array_own h (Creations.ReferenceArray index) (ReferenceArray c) Null count vs))

-- ---- casts, and objects that are thrown

module _ {C : Type 0} (h : StepContext C) where
  gives_null : {op : Operation} {row : Row} (v : TaggedValue) (vs : List TaggedValue) → Named h op row Null
      → Own h op whole (gives h v vs)
  gives_null {op} {row} v vs x =
      at_check (nat_lt (length vs) h.max_stack) _ (record { says = of_null op row x.stands x.is_row x.there })

  at_test : {op : Operation} (access : Access) (type : TestedType) (go : InstanceTest → Stepped C)
      → ((test : InstanceTest)
      → cast_in h access type ≡ names access (Operand 0) test.wanted
      → Own h op whole (go test)) → Own h op whole (on_test h type go)
  at_test access (Tested.Class index) go k =
      at_some (class_in h index) _ (λ c e. k _ (ap (names access (Operand 0)) e))
  at_test access (Tested.WordArray kind) go k = k _ refl
  at_test access (Tested.ReferenceArray index) go k =
      at_some (class_in h index) _ (λ c e. k _ refl)

  tested_own : {op : Operation} (access : Access) (type : TestedType) (v w : TaggedValue) (vs : List TaggedValue)
      (go : Bool → Stepped C) → StandsAt h.around h.machine op
      → row_of h.around h.machine op ≡ cast_in h access type
      → slice_get h.machine.top.operands 0 ≡ Some v → ((b : Bool) → Own h op still (go b))
      → Own h op whole (tested h access type v (gives h w vs) go)
  tested_own access type (Word n) w vs go stands is e k = stops whole
  tested_own access type (Ref n) w vs go stands is e k =
      at_test access type _ (λ test d. at_named (Ref n)
      (λ number o. judged h (wanting access number test.wanted) o (λ switch. go (test.passes o.kind.object_type)))
      (record { stands = stands; is_row = is ∙ d; there = e }) (λ number o x.
      at_asked number (wanting access number test.wanted) o _ x refl (λ switch. k (test.passes o.kind.object_type))))
  tested_own access type Null w vs go stands is e k =
      at_test access type _ (λ test d. gives_null w vs (record { stands = stands; is_row = is ∙ d; there = e }))
  tested_own access type Unset w vs go stands is e k = stops whole

  check_cast_own : (type : TestedType) → StandsAt h.around h.machine (operations.Object (objects.CheckCast type))
      → Own h (operations.Object (objects.CheckCast type)) whole (act_check_cast h type)
  check_cast_own type stands =
      at_reference h.machine.top.operands _ (λ v vs e.
      tested_own accesses.CheckCast type v v vs (λ passes. require h class_cast_exception passes (gives h v vs))
      stands refl (top e) (λ passes. at_require h class_cast_exception passes _ (ends _) (gives_own h v vs)))

  instance_of_own : (type : TestedType) → StandsAt h.around h.machine (operations.Object (objects.InstanceOf type))
      → Own h (operations.Object (objects.InstanceOf type)) whole (act_instance_of h type)
  instance_of_own type stands =
      at_reference h.machine.top.operands _ (λ v vs e.
      tested_own accesses.InstanceOf type v (bit false) vs (λ passes. gives h (bit passes) vs) stands refl (top e)
      (λ passes. gives_own h (bit passes) vs))

  throw_own : StandsAt h.around h.machine (operations.Object objects.Throw)
      → Own h (operations.Object objects.Throw) whole (act_throw h)
  throw_own stands =
      at_reference h.machine.top.operands _ (λ v vs e.
      at_named v _ (record { stands = stands; is_row = refl; there = top e }) (λ n o x.
      at_check (is_throwable h.around.world.shapes o.kind.object_type) _
      (at_asked n (asking accesses.Throw n) o _ x refl (λ sw. ends _))))

-- ---- native members

at_object : {C : Type 0} (h : StepContext C) {op : Operation} (v : TaggedValue) (go : ℕ → Object TaggedValue → Stepped C)
    → ((n : ℕ) (o : Object TaggedValue) → Own h op behind (go n o)) → Own h op behind (on_object h v go)
at_object h (Word n) go k = stops behind
at_object h (Ref n) go k = at_some (object_at h.machine.heap n) (go n) (λ o e. k n o)
at_object h Null go k = further _ (ends _)
at_object h Unset go k = stops behind

module _ {C : Type 0} {h : StepContext C} {op : Operation} (at : StepContext C) where
  native_gives_own : (signature : Signature ClassName) (value : Option TaggedValue) (vs : List TaggedValue)
      → Own h op still (native_gives at signature value vs)
  native_gives_own signature value vs =
      at_check (is_given at.around.world.shapes at.machine.heap signature.result value) _ (by_value value)
    where
      by_value : (v : Option TaggedValue) → Own h op still (with_given at v vs)
      by_value None = leaves at vs
      by_value (Some v) = gives_own at v vs

  inner_own : (signature : Signature ClassName) (vs : List TaggedValue) (end : NativeEnd)
      → Own h op still (inner_native_ends vs at signature end)
  inner_own signature vs (Gives value) = native_gives_own signature value vs
  inner_own signature vs (ThrowsObject n) = ends _
  inner_own signature vs (Calls callback) = ends _
  inner_own signature vs IsStuck = ends _

module _ {C : Type 0} (h : StepContext C) (guarded : AreNativesGuarded h.around.natives) (invocation : Invocation)
    (member : ℕ) (arguments : List TaggedValue) where
  abbrev call_op : Operation
  call_op = operations.Object (objects.Invoke invocation)

  abbrev a : NativeAnswer C
  a = frame_answer h.around h.machine member arguments

  -- a native member of an object, that the one calls that the frame has called
  of_object : (callback : Callback) (b : NativeAnswer C) (s : Stepped C) → a.ends ≡ Calls callback
      → AllByRecursion (IsOfReceiver callback.object) b.touches → Own h call_op still s
      → Own h call_op (called a.ends) (touched b.touches s)
  of_object callback b s e are k = record {
    says = of_receiver callback _ e (subst (λ (ts : List Touch). AllByRecursion (IsOfReceiver callback.object) ts)
        (sym (ap (λ (ts : List Touch). b.touches ++ ts) k.says ∙ append-nil b.touches)) are);
  }

  inner_native : (callback : Callback) → a.ends ≡ Calls callback → (active : Owner) (previous : Option Owner)
      (other : ℕ) → other ≡ callback.member → (vs : List TaggedValue) → Own h call_op (called a.ends)
      (on_native (after_native h a) active previous other (Ref callback.object ∷ callback.arguments)
      (inner_native_ends vs))
  inner_native callback e active previous other is vs =
      let values : List TaggedValue = Ref callback.object ∷ callback.arguments in
      let b : NativeAnswer C = native_answer (after_native h a) active previous other values in
      let asks : callback.member ≡ shareable_member =
      (guarded h.around.world (native_call h.around h.machine h.machine.top.active h.machine.top.previous member
      arguments)).asks callback e in
      at_check _ _ (at_some (native_type h.around.world.shapes other) _ (λ signature d.
      of_object callback b _ e
      ((guarded h.around.world (native_call h.around (after_native h a).machine active previous other values)).modest
      callback.object callback.arguments (is ∙ asks) refl).touches
      (inner_own (after_native (after_native h a) b) signature vs b.ends)))

  called_as_own : (callback : Callback) → a.ends ≡ Calls callback → (owner : Owner) (method : MethodName)
      → is_member_or_loaded callback.member method ≡ true → (vs : List TaggedValue)
      → Own h call_op (called a.ends)
      (called_as (after_native h a) owner method (Ref callback.object ∷ callback.arguments) vs)
  called_as_own callback e owner (Loaded number offset) is vs =
      no_more a.ends _ (enters_own (after_native h a) (Some owner) (record { number = number; offset = offset })
      (Ref callback.object ∷ callback.arguments) vs)
  called_as_own callback e owner (Api other) is vs =
      inner_native callback e owner (Some h.machine.top.active) other (eqb-true other callback.member is) vs

  calls_back_own : (given : Signature ClassName) (callback : Callback) → a.ends ≡ Calls callback
      → (vs : List TaggedValue) → Own h call_op (called a.ends) (calls_back (after_native h a) given callback vs)
  calls_back_own given callback e vs =
      at_some (object_at a.heap callback.object) _ (λ object there.
      at_some (type_of_member h.around.world.shapes callback.member) _ (λ signature f.
      at_some (virtual_member h.around.world.shapes callback.member) _ (λ found g.
      at_check (callback_fits (after_native h a) given signature found.class object callback.arguments) _
      (at_some (virtual_method_of h.around.world.shapes (class_of object.kind.object_type) found.token 0) _ (λ method d.
      at_checked (is_in_place_of h.around.world.shapes callback.member found.class signature method) _ (λ in_place.
      called_as_own callback e object.owner method
      (first_part (is_member_or_loaded callback.member method) _ _ in_place) vs))))))
    where
      first_part : (x y z : Bool) → (x && y && z) ≡ true → x ≡ true
      first_part x y z d = (and_parts x y (and_parts (x && y) z d).0).0

  native_own : (vs : List TaggedValue)
      → Own h call_op behind
      (on_native h h.machine.top.active h.machine.top.previous member arguments (native_ends vs))
  native_own vs =
      at_checked (native_may_begin h.around.world.shapes h.machine.heap member arguments) _ (λ begins.
      at_some (native_type h.around.world.shapes member) _ (λ signature e. record {
        says = by_native invocation member arguments _ begins (by_end signature a.ends refl).says;
      }))
    where
      by_end : (signature : Signature ClassName) (end : NativeEnd) → a.ends ≡ end
          → Own h call_op (called a.ends) (native_ends vs (after_native h a) signature end)
      by_end signature (Gives value) e = no_more a.ends _ (native_gives_own (after_native h a) signature value vs)
      by_end signature (ThrowsObject n) e = no_more a.ends _ (ends _)
      by_end signature (Calls callback) e = calls_back_own signature callback e vs
      by_end signature IsStuck e = stops (called a.ends)

-- ---- calls

module _ {C : Type 0} (h : StepContext C) (guarded : AreNativesGuarded h.around.natives) (invocation : Invocation) where
  invokes_own : (switch : Option Owner) (method : MethodName) (arguments vs : List TaggedValue)
      → Own h (operations.Object (objects.Invoke invocation)) behind (invokes h switch method arguments vs)
  invokes_own switch (Loaded number offset) arguments vs =
      further _ (enters_own h switch (record { number = number; offset = offset }) arguments vs)
  invokes_own switch (Api member) arguments vs = native_own h guarded invocation member arguments vs

-- what lies below some operands
below : (count : ℕ) (us vs : List TaggedValue) (v : TaggedValue) → drop count us ≡ v ∷ vs
    → slice_get us count ≡ Some v
below zero us vs v e = top e
below (suc count) [] vs v e = absurd cc
below (suc count) (u ∷ us) vs v e = below count us vs v e

module _ {C : Type 0} (h : StepContext C) (guarded : AreNativesGuarded h.around.natives) where
  at_arguments : {op : Operation} {stage : Stage} (signature : Signature ClassName)
      (go : List TaggedValue → List TaggedValue → Stepped C)
      → ((arguments vs : List TaggedValue) → drop (length signature.parameters) h.machine.top.operands ≡ vs
      → Own h op stage (go arguments vs)) → Own h op stage (with_arguments h signature go)
  at_arguments signature go k =
      at_check (are_of_types h.around.world.shapes h.machine.heap signature.parameters
      (reverse (take (length signature.parameters) h.machine.top.operands))) _ (k _ _ refl)

  at_receiver : {op : Operation} (access : Access) (wanted : Option ClassName) (signature : Signature ClassName)
      (go : List TaggedValue → ℕ → Object TaggedValue → List TaggedValue → Stepped C)
      → StandsAt h.around h.machine op
      → row_of h.around h.machine op ≡ names access (Operand (length signature.parameters)) wanted
      → ((arguments : List TaggedValue) (n : ℕ) (o : Object TaggedValue) (vs : List TaggedValue)
      → Named h op (record {
        access = access;
        object = Operand (length signature.parameters);
        stored = None;
        wanted = wanted;
      }) (Ref n) → Own h op whole (go arguments n o vs)) → Own h op whole (with_receiver h signature go)
  at_receiver access wanted signature go stands is k =
      at_arguments signature _ (λ arguments us d. at_reference us _ (λ receiver vs e.
      at_named receiver _ (record {
        stands = stands;
        is_row = is;
        there = below (length signature.parameters) h.machine.top.operands vs receiver (d ∙ e);
      }) (λ n o x. k (receiver ∷ arguments) n o vs x)))

  special_own : (index : ℕ) (target : MethodTarget)
      → Own h (operations.Object (objects.Invoke (Special index))) behind (act_special h target)
  special_own index target =
      at_arguments target.signature _ (λ arguments us d. at_reference us _ (λ receiver vs e.
      at_object h receiver _ (λ n o. at_check (is_of_class h.around.world.shapes target.class o.kind.object_type) _
      (invokes_own h guarded (Special index) None target.method (receiver ∷ arguments) vs))))

  virtual_own : (index : ℕ) (target : VirtualTarget)
      → StandsAt h.around h.machine (operations.Object (objects.Invoke (Virtual index)))
      → option_and_then virtual_target (target_at h.around.world h.machine.top.method.number index) ≡ Some target
      → Own h (operations.Object (objects.Invoke (Virtual index))) whole (act_virtual h target)
  virtual_own index target stands e =
      at_receiver accesses.InvokeVirtual None target.signature _ stands
      (ap (λ (t : Option VirtualTarget). option_and_then virtual_row t) e) (λ arguments n o vs x.
      at_check (is_of_class h.around.world.shapes target.class o.kind.object_type) _
      (at_judged n (asking accesses.InvokeVirtual n) o _ x refl (λ switch.
      at_some (found_for h target.token o) _ (λ method d.
      invokes_own h guarded (Virtual index) switch method arguments vs))))

  of_interface_own : (count index token : ℕ) (interface : ClassName) (signature : Signature ClassName)
      → StandsAt h.around h.machine (operations.Object (objects.Invoke (Interface count index token)))
      → class_in h index ≡ Some interface
      → count ≡ 1 + length signature.parameters
      → Own h (operations.Object (objects.Invoke (Interface count index token))) whole
      (act_of_interface h interface token signature)
  of_interface_own count index token interface signature stands e counts =
      let less : count - 1 ≡ length signature.parameters = omega arith in
      at_receiver accesses.InvokeInterface (Some interface) signature _ stands
      (ap (λ (n : ℕ). names accesses.InvokeInterface (Operand n) (class_in h index)) less
      ∙ ap (names accesses.InvokeInterface (Operand (length signature.parameters))) e) (λ arguments n o vs x.
      at_judged n (wanting accesses.InvokeInterface n (Some interface)) o _ x refl (λ switch.
      at_require h class_cast_exception (has_interface h.around.world.shapes interface o) _ (further _ (ends _))
      (at_some (interface_method_of h.around.world.shapes (class_of o.kind.object_type) interface token) _ (λ method d.
      invokes_own h guarded (Interface count index token) switch method arguments vs))))

  call_own : (invocation : Invocation) → StandsAt h.around h.machine (operations.Object (objects.Invoke invocation))
      → Own h (operations.Object (objects.Invoke invocation)) whole (act_call h invocation)
  call_own (Virtual index) stands = at_some _ _ (λ target e. virtual_own index target stands e)
  call_own (Special index) stands =
      unlisted _ stands refl (at_some _ _ (λ target e. special_own index target))
  call_own (Static index) stands =
      unlisted _ stands refl
      (at_some (option_and_then static_target (target_at h.around.world h.machine.top.method.number index)) _
      (λ target e. at_arguments target.signature _ (λ arguments vs d.
      invokes_own h guarded (Static index) None target.method arguments vs)))
  call_own (Interface count index token) stands =
      at_some _ _ (λ interface e.
      at_some (interface_method_type h.around.world.shapes interface token) _ (λ signature d.
      at_checked (count == 1 + length signature.parameters) _ (λ counts.
      of_interface_own count index token interface signature stands e
      (eqb-true count (1 + length signature.parameters) counts))))

  -- ---- all instructions

  object_own : (operation : ObjectOperation) → StandsAt h.around h.machine (operations.Object operation)
      → Own h (operations.Object operation) whole (act_object h operation)
  unfolding act_object
  object_own objects.PushNull stands = silent _ stands refl (gives_own h Null h.machine.top.operands)
  object_own (objects.Load local) stands =
      silent _ stands refl (at_reference_local (slice_get h.machine.top.locals local) _
      (λ v e. gives_own h v h.machine.top.operands))
  object_own (objects.Store local) stands =
      silent _ stands refl (at_reference h.machine.top.operands _ (λ v vs e. at_check _ _ (goes h _ _ _)))
  object_own (objects.LoadComponent form) stands = load_own h form stands
  object_own (objects.StoreComponent form) stands = store_own h form stands
  object_own objects.ArrayLength stands = length_own h stands
  object_own (objects.Branch when offset) stands = silent _ stands refl (branch_own h when offset)
  object_own (objects.Field access index) stands = field_own h access index stands
  object_own (objects.Invoke invocation) stands = call_own invocation stands
  object_own (objects.Create creation) stands = unlisted _ stands refl (create_own h creation)
  object_own (objects.CheckCast type) stands = check_cast_own h type stands
  object_own (objects.InstanceOf type) stands = instance_of_own h type stands
  object_own objects.Throw stands = throw_own h stands
  object_own objects.ReturnReference stands =
      silent _ stands refl (at_reference h.machine.top.operands _ (λ v vs e. returns_own h (Some v)))
  object_own objects.ReturnVoid stands = silent _ stands refl (returns_own h None)

  act_own : (operation : Operation) → StandsAt h.around h.machine operation → Own h operation whole (act h operation)
  act_own (operations.Word operation) stands = silent _ stands refl (word_own h operation)
  act_own (operations.Object operation) stands = object_own operation stands

-- ---- a step

record IsMade {C : Type 0} (s : Surroundings C) (m : Machine C) (stepped : Stepped C) : Type 0 where
  made : AreOwn s m stepped.outcome stepped.touches

found : {A C : Type 0} {s : Surroundings C} {m : Machine C} (o : Option A) (go : A → Stepped C)
    → ((x : A) → o ≡ Some x → IsMade s m (go x)) → IsMade s m (on_some o go)
found None go k = record { made = where_stuck refl }
found (Some x) go k = k x refl

act_at_own : {C : Type 0} (s : Surroundings C) → AreNativesGuarded s.natives → (m : Machine C)
    → IsMade s m (act_at s m)
unfolding act_at
act_at_own s guarded m =
    found (declared_at s.world m.top.method) _ (λ method e. found method.method.header _ (λ header e.
    found (code_at s.world m.top.method) _ (λ body has.
    found (instruction_at body.code m.top.pc) _ (λ instr is. record {
      made =
          (act_own (here s m method header instr) guarded instr.operation
          (record { body = body; instr = instr; has_code = has; stands = is; is = refl })).says;
    }))))

-- what is caught changes no access, and a machine that is stuck stays so
settled_own : {C : Type 0} (s : Surroundings C) (m : Machine C) (outcome : Outcome C) (touches : List Touch)
    → AreOwn s m outcome touches → AreOwn s m (settled s outcome) touches
settled_own s m outcome touches (by_row op row t rest stands is_row is k) = by_row op row t rest stands is_row is k
settled_own s m outcome touches (without_row op rest stands is_row k) = without_row op rest stands is_row k
settled_own s m outcome touches (of_null op row stands is_row there) = of_null op row stands is_row there
settled_own {C} s m outcome touches (where_stuck e) = where_stuck (ap (λ (o : Outcome C). settled s o) e)

pub steps_access : {C : Type 0} (s : Surroundings C) → AreNativesGuarded s.natives → (m : Machine C)
    → AccessesAreOwn s m
unfolding defensive_step
steps_access s guarded m =
    settled_own s m (act_at s m).outcome (act_at s m).touches (act_at_own s guarded m).made
