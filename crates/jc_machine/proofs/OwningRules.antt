-- Rules without frames: what they come to keeps frames and their owners, in each test that an instruction makes.
use Rattle.std.proofs.Common.{◌≡◌, ℕ, ℤ, ◌+◌, pos, negsuc, Bool, true, false, cond, not}
use Rattle.std.proofs.Common.{List, []}
use Rattle.std.proofs.Common.{◌∷◌, ◌++◌, length, drop, max, nat_le, nat_lt, Option, Some, None, refl, sym}
use Rattle.std.proofs.Common.{subst}
use Rattle.std.proofs.Common.{append_assoc, slice_get, slice_set}
use Rattle.std.specs.Option.{option_and_then}
use Rattle.jc_base.specs.declared.declared_type.DeclaredType.{DeclaredType}
use Rattle.jc_link.specs.declared.named.StaticPlace.{StaticPlace}
use Rattle.jc_code.specs.Targets.{target_of}
use Rattle.jc_code.specs.declared.instr.Shuffle as shuffles
use Rattle.jc_code.specs.declared.instr.Shuffle.TheVariants.{Pop, Duplicate, Swap}
use Rattle.jc_code.specs.declared.instr.When.TheVariants.{Always, Zero, Compare}
use Rattle.jc_code.specs.declared.instr.WordOperation.{WordOperation}
use Rattle.jc_code.specs.declared.instr.WordOperation.TheVariants as words
use Rattle.jc_code.specs.declared.object.Creation.{Creation}
use Rattle.jc_code.specs.declared.object.Creation.TheVariants as Creations
use Rattle.jc_code.specs.declared.object.FieldAccess.{FieldAccess}
use Rattle.jc_code.specs.declared.object.FieldAction.{FieldAction}
use Rattle.jc_code.specs.declared.object.FieldAction.TheVariants.{Get, Put}
use Rattle.jc_code.specs.declared.object.Form.{Form}
use Rattle.jc_code.specs.declared.object.Form.TheVariants as Forms
use Rattle.jc_code.specs.declared.object.Holder.{Holder}
use Rattle.jc_code.specs.declared.object.Holder.TheVariants as Holders
use Rattle.jc_code.specs.declared.object.ReferenceCondition.{ReferenceCondition}
use Rattle.jc_code.specs.declared.object.ReferenceCondition.TheVariants as Conditions
use Rattle.jc_code.specs.declared.object.TestedType.{TestedType}
use Rattle.jc_code.specs.declared.object.TestedType.TheVariants as Tested
use Rattle.jc_effects.specs.Objects.{class_target, has_objects}
use Rattle.jc_firewall.specs.Verdict.{verdict_of}
use Rattle.jc_firewall.specs.declared.access.Access.{Access}
use Rattle.jc_firewall.specs.declared.access.Access.TheVariants as accesses
use Rattle.jc_effects.specs.Objects.{is_form_of}
use Rattle.jc_machine.specs.Arrays.{is_array_of, is_in_bounds, is_there, stored_as}
use Rattle.jc_machine.specs.Fields.{put_static, putting, static_at}
use Rattle.jc_machine.specs.Lookup.{component_class, is_array, is_instance, is_of_class, is_of_type, leads_to}
use Rattle.jc_machine.specs.Runtime.{array_index_exception, array_store_exception}
use Rattle.jc_machine.specs.Runtime.{negative_size_exception, system_exception}
use Rattle.jc_store.specs.declared.kind.ObjectType.TheVariants.{Instance, ReferenceArray}
use Rattle.jc_machine.specs.Objects.{cells_of, word_array}
use Rattle.jc_words.specs.Shorts.{binary_of, holds, incremented, lookup_offset, short, stable_offset, unary_of}
use Rattle.jc_base.specs.Stack.{duplicated, swapped}
use Rattle.jc_machine.specs.Going.{on_operands}
use Rattle.std.proofs.Common.{int_lt, replicate}
use Rattle.jc_machine.specs.Lookup.{is_given, target_at}
use Rattle.jc_firewall.specs.declared.access.Verdict.{Verdict}
use Rattle.jc_firewall.specs.declared.access.Verdict.TheVariants.{Allowed, AllowedSwitch, Denied}
use Rattle.jc_names.specs.declared.name.ClassName.{ClassName}
use Rattle.jc_names.specs.declared.owner.Owner.{Owner}
use Rattle.jc_store.specs.Heap.{Object, object_at}
use Rattle.jc_store.specs.declared.kind.ObjectType.{ObjectType}
use Rattle.jc_machine.specs.Arrays.{act_length, act_load, act_store, act_store_reference, act_store_word, loaded_as}
use Rattle.jc_machine.specs.Arrays.{loads}
use Rattle.jc_machine.specs.Fields.{FieldTarget, InstanceField, act_instance, act_on_target, act_static}
use Rattle.jc_machine.specs.Fields.{of_class, of_objects, on_holder, stored_in_static}
use Rattle.jc_machine.specs.Going.{StepContext, accessed, accessed_to_store, asking, branches, by_verdict, check, facts_of}
use Rattle.jc_machine.specs.Going.{storing, gives, goes_to, judged, jumps, leaves_operands, moved, on_object}
use Rattle.jc_machine.specs.Going.{on_reference}
use Rattle.jc_machine.specs.Going.{on_reference_local, on_some, on_top, on_word, on_word_local, plain}
use Rattle.jc_machine.specs.Going.{require}
use Rattle.jc_machine.specs.Going.{stored_in, throws_system, touch_of, touched, wanting}
use Rattle.jc_machine.specs.Machine.{Asked, Frame, Machine}
use Rattle.jc_machine.specs.Machine.{Next, Stepped, Surroundings}
use Rattle.jc_machine.specs.Machine.{Touch}
use Rattle.jc_machine.specs.Objects.{InstanceTest, act_branch, act_create}
use Rattle.jc_machine.specs.Objects.{creates, creates_array, has_space, made, on_class, on_test, tested}
use Rattle.jc_machine.specs.Owning.{FramesGo, IsOfCall, OwnersGo}
use Rattle.jc_machine.specs.Owning.{back, runs, switch_in, switch_of}
use Rattle.jc_machine.specs.Returns.{pc_behind_call, result_of, resumed, returns, returns_to, room_of, with_result}
use Rattle.jc_machine.specs.Words.{act_word, on_result, shuffled}
use Rattle.jc_words.specs.Values.{Null, Ref, TaggedValue, Unset, Word, is_tagged_reference}

pub record Owned {C : Type 0} (h : StepContext C) (before : List Touch) (s : Stepped C) : Type 0 where
  pub owned : OwnersGo h.around h.machine (before ++ s.touches) s.outcome

pub same_call : {f g : Frame} → g.method ≡ f.method → g.active ≡ f.active → g.previous ≡ f.previous → IsOfCall f g
same_call e d p = record { method = e; active = d; previous = p }

-- the frame that runs goes on
pub stays : {C : Type 0} {s : Surroundings C} {m : Machine C} {ts : List Touch} (pc : ℕ)
    (locals operands : List TaggedValue)
    → FramesGo s m ts (moved m.top pc locals operands ∷ m.waiting)
stays pc locals operands = runs _ (same_call refl refl refl)

module _ {C : Type 0} (h : StepContext C) (before : List Touch) where
  pub at_check : (b : Bool) (s : Stepped C) → Owned h before s → Owned h before (check b s)
  at_check true s k = k
  at_check false s k = record { owned = tt }

  pub at_some : {A : Type 0} (o : Option A) (go : A → Stepped C) → ((x : A) → o ≡ Some x → Owned h before (go x))
      → Owned h before (on_some o go)
  at_some None go k = record { owned = tt }
  at_some (Some x) go k = k x refl

  at_top : (vs : List TaggedValue) (go : TaggedValue → List TaggedValue → Stepped C)
      → ((v : TaggedValue) (rest : List TaggedValue) → Owned h before (go v rest)) → Owned h before (on_top vs go)
  at_top [] go k = record { owned = tt }
  at_top (v ∷ vs) go k = k v vs

  at_word : (vs : List TaggedValue) (go : ℕ → List TaggedValue → Stepped C)
      → ((n : ℕ) (rest : List TaggedValue) → Owned h before (go n rest)) → Owned h before (on_word vs go)
  at_word [] go k = record { owned = tt }
  at_word (Word n ∷ vs) go k = k n vs
  at_word (Ref n ∷ vs) go k = record { owned = tt }
  at_word (Null ∷ vs) go k = record { owned = tt }
  at_word (Unset ∷ vs) go k = record { owned = tt }

  pub at_reference : (vs : List TaggedValue) (go : TaggedValue → List TaggedValue → Stepped C)
      → ((v : TaggedValue) (rest : List TaggedValue) → Owned h before (go v rest)) → Owned h before (on_reference vs go)
  at_reference [] go k = record { owned = tt }
  at_reference (v ∷ vs) go k = at_check (is_tagged_reference v) (go v vs) (k v vs)

  at_word_local : (v : Option TaggedValue) (go : ℕ → Stepped C) → ((n : ℕ) → Owned h before (go n))
      → Owned h before (on_word_local v go)
  at_word_local None go k = record { owned = tt }
  at_word_local (Some (Word n)) go k = k n
  at_word_local (Some (Ref n)) go k = record { owned = tt }
  at_word_local (Some Null) go k = record { owned = tt }
  at_word_local (Some Unset) go k = record { owned = tt }

  pub at_reference_local : (v : Option TaggedValue) (go : TaggedValue → Stepped C)
      → ((x : TaggedValue) → Owned h before (go x)) → Owned h before (on_reference_local v go)
  at_reference_local None go k = record { owned = tt }
  at_reference_local (Some v) go k = at_check (is_tagged_reference v) (go v) (k v)

  pub at_require : (exception : ℕ) (b : Bool) (s : Stepped C) → Owned h before s
      → Owned h before (require h exception b s)
  at_require exception true s k = k
  at_require exception false s k = record { owned = refl }

  pub at_object : (v : TaggedValue) (go : ℕ → Object TaggedValue → Stepped C)
      → ((n : ℕ) (o : Object TaggedValue) → Owned h before (go n o)) → Owned h before (on_object h v go)
  at_object (Word n) go k = record { owned = tt }
  at_object (Ref n) go k = at_some (object_at h.machine.heap n) (go n) (λ o e. k n o)
  at_object Null go k = record { owned = refl }
  at_object Unset go k = record { owned = tt }

  at_jump : (to : ℤ) (vs : List TaggedValue) → Owned h before (jumps h to vs)
  at_jump (pos pc) vs = (record { owned = stays _ _ _ })
  at_jump (negsuc n) vs = record { owned = tt }

  at_branch : (taken : Bool) (offset : ℤ) (vs : List TaggedValue) → Owned h before (branches h taken offset vs)
  at_branch true offset vs = at_jump (target_of h.machine.top.pc offset) vs
  at_branch false offset vs = (record { owned = stays _ _ _ })

  pub gives_owned : (v : TaggedValue) (vs : List TaggedValue) → Owned h before (gives h v vs)
  gives_owned v vs = at_check (nat_lt (length vs) h.max_stack) _ (record { owned = stays _ _ _ })

  loads_owned : (form : Form) (held : TaggedValue) (vs : List TaggedValue) → Owned h before (loads h form held vs)
  loads_owned form held vs = at_some (loaded_as form held) _ (λ v e. gives_owned v vs)

  leaves_owned : (vs : List TaggedValue) → Owned h before (leaves_operands h vs)
  leaves_owned vs = record { owned = stays _ _ _ }

  stored_owned : (n : ℕ) (o : Object TaggedValue) (i : ℕ) (v : TaggedValue) (vs : List TaggedValue)
      → Owned h before (leaves_operands (stored_in h n o i v) vs)
  stored_owned n o i v vs = record { owned = stays _ _ _ }

  pub behind : (ts : List Touch) (s : Stepped C) → Owned h (before ++ ts) s → Owned h before (touched ts s)
  behind ts s k = record {
    owned = subst (λ (xs : List Touch). OwnersGo h.around h.machine xs s.outcome) (append_assoc before ts s.touches)
        k.owned;
  }

module _ {C : Type 0} (h : StepContext C) (before : List Touch) where
  at_verdict : (asked : Asked) (v : Verdict) (go : Option Owner → Stepped C)
      → ((switch : Option Owner) → switch ≡ switch_of v → Owned h (before ++ touch_of h asked v ∷ []) (go switch))
      → Owned h before (by_verdict h asked v go)
  at_verdict asked Allowed go k = behind h before (touch_of h asked Allowed ∷ []) (go None) (k None refl)
  at_verdict asked (AllowedSwitch owner) go k =
      behind h before (touch_of h asked (AllowedSwitch owner) ∷ []) (go (Some owner)) (k (Some owner) refl)
  at_verdict asked (Denied rule) go k = record { owned = refl }

  -- one that isn't a call's
  at_used : (asked : Asked) (o : Object TaggedValue) (go : Option Owner → Stepped C)
      → ((ts : List Touch) (switch : Option Owner) → Owned h ts (go switch)) → Owned h before (judged h asked o go)
  at_used asked o go k = at_verdict asked _ go (λ switch e. k _ switch)

  pub at_accessed : (access : Access) (n : ℕ) (o : Object TaggedValue) (s : Stepped C)
      → ((ts : List Touch) → Owned h ts s)
      → Owned h before (accessed h access n o s)
  at_accessed access n o s k = at_used (asking access n) o (λ switch. s) (λ ts switch. k ts)

  at_stored : (access : Access) (n : ℕ) (o : Object TaggedValue) (v : TaggedValue) (s : Stepped C)
      → ((ts : List Touch) → Owned h ts s) → Owned h before (accessed_to_store h access n o v s)
  at_stored access n o v s k = at_used (storing access n v) o (λ switch. s) (λ ts switch. k ts)

-- a call's
pub at_called : {C : Type 0} (h : StepContext C) (asked : Asked) (o : Object TaggedValue) (go : Option Owner → Stepped C)
    → ((ts : List Touch) (switch : Option Owner) → switch_in ts ≡ switch → Owned h ts (go switch))
    → Owned h [] (judged h asked o go)
at_called h asked o go k =
    let v = verdict_of asked.access h.machine.top.active.context (facts_of h asked o) in
    at_verdict h [] asked v go (λ switch e. k (touch_of h asked v ∷ []) switch (sym e))

-- ---- rules without frames

module _ {C : Type 0} (h : StepContext C) where
  pub load_owned : (form : Form) → Owned h [] (act_load h form)
  load_owned form =
      at_word h [] h.machine.top.operands _ (λ index us. at_reference h [] us _ (λ array vs.
      at_object h [] array _ (λ n o. at_check h [] (is_array_of form o.kind.object_type) _
      (at_accessed h [] accesses.LoadComponent n o _ (λ ts.
      at_require h ts array_index_exception (is_in_bounds index o) _
      (at_some h ts (slice_get o.cells index) _ (λ v e. loads_owned h ts form v vs)))))))

  pub length_owned : Owned h [] (act_length h)
  length_owned =
      at_reference h [] h.machine.top.operands _ (λ array vs. at_object h [] array _ (λ n o.
      at_check h [] (is_array o.kind.object_type) _ (at_accessed h [] accesses.ArrayLength n o _ (λ ts.
      gives_owned h ts (Word (length o.cells)) vs))))

  store_word_owned : (form : Form) → Owned h [] (act_store_word h form)
  store_word_owned form =
      at_word h [] h.machine.top.operands _ (λ w ts. at_word h [] ts _ (λ index us. at_reference h [] us _ (λ array vs.
      at_object h [] array _ (λ n o. at_check h [] (is_array_of form o.kind.object_type) _
      (at_accessed h [] accesses.StoreComponent n o _ (λ before.
      at_require h before array_index_exception (is_in_bounds index o) _
      (stored_owned h before n o index (stored_as form (Word w)) vs)))))))

  store_reference_owned : Owned h [] (act_store_reference h)
  store_reference_owned =
      at_reference h [] h.machine.top.operands _ (λ v ts. at_check h [] (is_there h v) _ (at_word h [] ts _ (λ index us.
      at_reference h [] us _ (λ array vs. at_object h [] array _ (λ n o.
      at_some h [] (component_class o.kind.object_type) _ (λ class e.
      at_stored h [] accesses.StoreReference n o v _ (λ before.
      at_require h before array_index_exception (is_in_bounds index o) _
      (at_require h before array_store_exception (leads_to h.machine.heap (is_instance h.around.world.shapes class) v) _
      (stored_owned h before n o index v vs)))))))))

  pub store_owned : (form : Form) → Owned h [] (act_store h form)
  store_owned Forms.Reference = store_reference_owned
  store_owned Forms.Byte = store_word_owned Forms.Byte
  store_owned Forms.Short = store_word_owned Forms.Short

  static_owned : (v : TaggedValue) (s : Stepped C) → ((ts : List Touch) → Owned h ts s)
      → Owned h [] (stored_in_static h v s)
  static_owned (Word n) s k = k []
  static_owned (Ref n) s k =
      at_object h [] (Ref n)
      (λ number o. accessed_to_store h accesses.PutStaticReference number o (Ref n) s) (λ number o.
      at_stored h [] accesses.PutStaticReference number o (Ref n) s k)
  static_owned Null s k = k []
  static_owned Unset s k = record { owned = tt }

  at_holder : (holder : Holder) (vs : List TaggedValue) (go : TaggedValue → List TaggedValue → Stepped C)
      → ((v : TaggedValue) (rest : List TaggedValue) → Owned h [] (go v rest)) → Owned h [] (on_holder h holder vs go)
  at_holder Holders.Class vs go k = record { owned = tt }
  at_holder Holders.Operand vs go k = at_reference h [] vs go k
  at_holder Holders.This vs go k = at_reference_local h [] (slice_get h.machine.top.locals 0) _ (λ v. k v vs)

  instance_owned : (access : FieldAccess) (field : InstanceField) (action : FieldAction)
      → Owned h [] (act_instance h access field action)
  instance_owned access field Get =
      at_holder access.holder h.machine.top.operands _ (λ v vs. at_object h [] v _ (λ n o.
      at_check h [] (is_of_class h.around.world.shapes field.class o.kind.object_type) _
      (at_accessed h [] accesses.GetField n o _ (λ ts.
      at_some h ts (slice_get o.cells field.cell) _ (λ value e. loads_owned h ts access.form value vs)))))
  instance_owned access field Put =
      at_top h [] h.machine.top.operands _ (λ value us.
      at_check h [] (is_of_type h.around.world.shapes h.machine.heap field.declared value) _
      (at_holder access.holder us _ (λ v vs. at_object h [] v _ (λ n o.
      at_check h [] (is_of_class h.around.world.shapes field.class o.kind.object_type) _
      (at_stored h [] (putting access.form) n o value _ (λ ts.
      at_check h ts (nat_lt field.cell (length o.cells)) _
      (stored_owned h ts n o field.cell (stored_as access.form value) vs)))))))

  class_owned : (access : FieldAccess) (place : StaticPlace) (declared : DeclaredType ClassName) (action : FieldAction)
      (holder : Holder) → Owned h [] (act_static h access place declared action holder)
  class_owned access place declared Get Holders.Class =
      at_some h [] (static_at h.machine.statics place.home place.offset) _
      (λ s e. loads_owned h [] access.form s.value h.machine.top.operands)
  class_owned access place declared Put Holders.Class =
      at_top h [] h.machine.top.operands _ (λ v vs.
      at_check h [] (is_of_type h.around.world.shapes h.machine.heap declared v) _
      (at_some h [] (static_at h.machine.statics place.home place.offset) _ (λ s e.
      static_owned v _ (λ ts. put_owned ts place (stored_as access.form v) vs))))
    where
      put_owned : (ts : List Touch) (place : StaticPlace) (v : TaggedValue) (vs : List TaggedValue)
          → Owned h ts (leaves_operands (put_static h place v) vs)
      put_owned ts place v vs = record { owned = stays _ _ _ }
  class_owned access place declared Get Holders.Operand = record { owned = tt }
  class_owned access place declared Put Holders.Operand = record { owned = tt }
  class_owned access place declared Get Holders.This = record { owned = tt }
  class_owned access place declared Put Holders.This = record { owned = tt }

  pub target_owned : (access : FieldAccess) (target : FieldTarget) → Owned h [] (act_on_target h access target)
  target_owned access (of_objects field) =
      at_check h [] (is_form_of access.form field.declared) _ (instance_owned access field access.action)
  target_owned access (of_class place declared) =
      at_check h [] (is_form_of access.form declared) _ (class_owned access place declared access.action access.holder)

  by_space : (b : Bool) (object : ObjectType) (cells vs : List TaggedValue) (n : ℕ) (reason : ℕ)
      → Owned h [] (cond b (gives (made h object cells) (Ref n) vs) (throws_system h reason))
  by_space true object cells vs n reason = at_check h [] (nat_lt (length vs) h.max_stack) _ made_owned
    where
      made_owned : Owned h [] (leaves_operands (made h object cells) (Ref n ∷ vs))
      made_owned = record { owned = stays _ _ _ }
  by_space false object cells vs n reason =
      at_some h [] (object_at h.machine.heap system_exception) _ (λ o e. record { owned = refl })

  creates_owned : (object : ObjectType) (cells vs : List TaggedValue) → Owned h [] (creates h object cells vs)
  creates_owned object cells vs = by_space (has_space h cells) object cells vs _ _

  at_class : (index : ℕ) (go : ClassName → Stepped C) → ((c : ClassName) → Owned h [] (go c))
      → Owned h [] (on_class h index go)
  at_class index go k =
      at_some h [] (option_and_then class_target (target_at h.around.world h.machine.top.method.number index)) go
      (λ c e. k c)

  array_owned : (object : ObjectType) (v : TaggedValue) (count : ℕ) (vs : List TaggedValue)
      → Owned h [] (creates_array h object v count vs)
  array_owned object v count vs =
      at_require h [] negative_size_exception (not (int_lt (short count) (pos 0))) _
      (creates_owned object (replicate count v) vs)

  pub create_owned : (creation : Creation) → Owned h [] (act_create h creation)
  create_owned (Creations.Object index) =
      at_class index _ (λ c. at_check h [] (has_objects h.around.world.shapes c) _
      (creates_owned (Instance c) (cells_of h.around.world.shapes c) h.machine.top.operands))
  create_owned (Creations.WordArray kind) =
      at_word h [] h.machine.top.operands _ (λ count vs. array_owned (word_array kind) (Word 0) count vs)
  create_owned (Creations.ReferenceArray index) =
      at_class index _ (λ c. at_word h [] h.machine.top.operands _ (λ count vs.
      array_owned (ReferenceArray c) Null count vs))

  at_test : (type : TestedType) (go : InstanceTest → Stepped C) → ((t : InstanceTest) → Owned h [] (go t))
      → Owned h [] (on_test h type go)
  at_test (Tested.Class index) go k = at_some h [] _ _ (λ c e. k _)
  at_test (Tested.WordArray kind) go k = k _
  at_test (Tested.ReferenceArray index) go k = at_some h [] _ _ (λ c e. k _)

  pub tested_owned : (access : Access) (type : TestedType) (v : TaggedValue) (s : Stepped C) (go : Bool → Stepped C)
      → Owned h [] s → ((ts : List Touch) (b : Bool) → Owned h ts (go b)) → Owned h [] (tested h access type v s go)
  tested_owned access type (Word n) s go k l = record { owned = tt }
  tested_owned access type (Ref n) s go k l =
      at_test type _ (λ t. at_object h [] (Ref n)
      (λ number o. judged h (wanting access number t.wanted) o (λ switch. go (t.passes o.kind.object_type)))
      (λ number o. at_used h [] (wanting access number t.wanted) o _ (λ ts switch. l ts (t.passes o.kind.object_type))))
  tested_owned access type Null s go k l = at_test type _ (λ t. k)
  tested_owned access type Unset s go k l = record { owned = tt }

  pub branch_owned : (when : ReferenceCondition) (offset : ℤ) → Owned h [] (act_branch h when offset)
  branch_owned Conditions.Null offset =
      at_reference h [] h.machine.top.operands _ (λ v vs. at_check h [] (is_there h v) _ (at_branch h [] _ offset vs))
  branch_owned Conditions.NotNull offset =
      at_reference h [] h.machine.top.operands _ (λ v vs. at_check h [] (is_there h v) _ (at_branch h [] _ offset vs))
  branch_owned Conditions.Same offset =
      at_reference h [] h.machine.top.operands _ (λ v us. at_check h [] (is_there h v) _
      (at_reference h [] us _ (λ w vs.
      at_check h [] (is_there h w) _ (at_branch h [] _ offset vs))))
  branch_owned Conditions.Different offset =
      at_reference h [] h.machine.top.operands _ (λ v us. at_check h [] (is_there h v) _
      (at_reference h [] us _ (λ w vs.
      at_check h [] (is_there h w) _ (at_branch h [] _ offset vs))))

  -- ---- returns

  returns_to_owned : (result : Option TaggedValue) (waiting : List Frame) → h.machine.waiting ≡ waiting
      → Owned h [] (returns_to h result waiting)
  returns_to_owned result [] e = record { owned = tt }
  returns_to_owned result (f ∷ waiting) e =
      at_some h [] (pc_behind_call h.around f) _ (λ pc d. at_some h [] (room_of h.around f) _ (λ room g.
      by_result pc room result))
    where
      behind_call : (pc : ℕ) (operands : List TaggedValue)
          → Owned h [] (plain (Next (resumed h.machine f waiting pc operands)))
      behind_call pc operands = record {
        owned = back 1 f (moved f pc f.locals operands) waiting e
            (record { call = same_call refl refl refl; locals = refl });
      }

      by_result : (pc room : ℕ) (v : Option TaggedValue)
          → Owned h [] (with_result h room v f.operands
          (λ operands. plain (Next (resumed h.machine f waiting pc operands))))
      by_result pc room None = behind_call pc f.operands
      by_result pc room (Some v) = at_check h [] (nat_lt (length f.operands) room) _ (behind_call pc (v ∷ f.operands))

  pub returns_owned : (value : Option TaggedValue) → Owned h [] (returns h value)
  returns_owned value =
      at_some h [] (result_of h) _ (λ result e.
      at_check h [] (is_given h.around.world.shapes h.machine.heap result value) _
      (returns_to_owned value h.machine.waiting refl))

  pub goes_owned : (pc : ℕ) (locals vs : List TaggedValue) → Owned h [] (goes_to h pc locals vs)
  goes_owned pc locals vs = record { owned = stays _ _ _ }

  operands_owned : (count : ℕ) (vs : List TaggedValue) (s : Stepped C) → Owned h [] s
      → Owned h [] (on_operands count vs s)
  operands_owned count vs s k = at_check h [] _ s k

  result_owned : (o : Option ℕ) (vs : List TaggedValue) → Owned h [] (on_result h o (λ n. gives h (Word n) vs))
  result_owned None vs = record { owned = refl }
  result_owned (Some n) vs = gives_owned h [] (Word n) vs

  shuffle_owned : (shuffle : shuffles.Shuffle) (vs : List TaggedValue) → Owned h [] (shuffled h shuffle vs)
  shuffle_owned (Pop count) vs = operands_owned count vs _ (leaves_owned h [] (drop count vs))
  shuffle_owned (Duplicate count below) vs =
      operands_owned (max count below) vs _ (at_check h [] (nat_le (length vs + count) h.max_stack) _
      (leaves_owned h [] (duplicated count below vs)))
  shuffle_owned (Swap upper lower) vs = operands_owned (upper + lower) vs _ (leaves_owned h [] (swapped upper lower vs))

  pub word_owned : (operation : WordOperation) → Owned h [] (act_word h operation)
  unfolding act_word
  word_owned words.Nop = leaves_owned h [] h.machine.top.operands
  word_owned (words.Push value) = gives_owned h [] _ h.machine.top.operands
  word_owned (words.Load local) =
      at_word_local h [] (slice_get h.machine.top.locals local) _
      (λ n. gives_owned h [] (Word n) h.machine.top.operands)
  word_owned (words.Store local) =
      at_word h [] h.machine.top.operands _ (λ n vs. at_check h [] (nat_lt local (length h.machine.top.locals)) _
      (goes_owned h.next_pc (slice_set h.machine.top.locals local (Word n)) vs))
  word_owned (words.Increment local by) =
      at_word_local h [] (slice_get h.machine.top.locals local) _
      (λ n. goes_owned h.next_pc (slice_set h.machine.top.locals local (Word (incremented n by)))
      h.machine.top.operands)
  word_owned (words.Shuffle shuffle) = shuffle_owned shuffle h.machine.top.operands
  word_owned (words.Binary operator) =
      at_word h [] h.machine.top.operands _ (λ b us. at_word h [] us _
      (λ a vs. result_owned (binary_of operator a b) vs))
  word_owned (words.Unary operator) =
      at_word h [] h.machine.top.operands _ (λ a vs. gives_owned h [] (Word (unary_of operator a)) vs)
  word_owned (words.Branch Always offset) = at_branch h [] true offset h.machine.top.operands
  word_owned (words.Branch (Zero condition) offset) =
      at_word h [] h.machine.top.operands _ (λ a vs. at_branch h [] (holds condition a 0) offset vs)
  word_owned (words.Branch (Compare condition) offset) =
      at_word h [] h.machine.top.operands _ (λ b us. at_word h [] us _ (λ a vs.
      at_branch h [] (holds condition a b) offset vs))
  word_owned (words.StableSwitch default low offsets) =
      at_word h [] h.machine.top.operands _ (λ key vs. at_branch h [] true
      (stable_offset default low offsets (short key)) vs)
  word_owned (words.LookupSwitch default cases) =
      at_word h [] h.machine.top.operands _ (λ key vs. at_branch h [] true (lookup_offset default cases (short key)) vs)
  word_owned words.ReturnWord = at_word h [] h.machine.top.operands _ (λ n vs. returns_owned (Some (Word n)))
