-- Instructions on arrays, fields and objects see no components of plain objects of a context that isn't active.
use Rattle.std.proofs.Common.{◌≡◌, inl, inr, ℕ, suc, ◌+◌, ◌&&◌, Bool, true, false, cond, not, List, ◌∷◌, [], length}
use Rattle.std.proofs.Common.{nat_le, nat_lt, int_lt, pos, refl, ap, ◌∙◌, subst}
use Rattle.std.proofs.Common.{slice_get}
use Rattle.jc_base.specs.declared.declared_type.DeclaredType.{DeclaredType}
use Rattle.jc_code.specs.declared.object.FieldAccess.{FieldAccess}
use Rattle.jc_code.specs.declared.object.FieldAction.{FieldAction}
use Rattle.jc_code.specs.declared.object.FieldAction.TheVariants.{Get, Put}
use Rattle.jc_code.specs.declared.object.Form.{Form}
use Rattle.jc_code.specs.declared.object.Form.TheVariants as Forms
use Rattle.jc_code.specs.declared.object.Holder.{Holder}
use Rattle.jc_code.specs.declared.object.Holder.TheVariants as Holders
use Rattle.jc_firewall.specs.Verdict.{runtime_context}
use Rattle.jc_firewall.specs.declared.access.Access.TheVariants as accesses
use Rattle.jc_link.specs.declared.named.StaticPlace.{StaticPlace}
use Rattle.jc_names.specs.declared.name.ClassName.{ClassName}
use Rattle.jc_effects.specs.Objects.{is_form_of}
use Rattle.jc_store.specs.Heap.{Heap, Object, cells_in, next_number, with_cell, with_new, with_object}
use Rattle.jc_store.specs.declared.kind.ObjectType.{ObjectType}
use Rattle.jc_machine.specs.Arrays.{act_length, act_load, act_store, act_store_reference, act_store_word, is_array_of}
use Rattle.jc_machine.specs.Arrays.{is_in_bounds, is_there, loads, stored_as}
use Rattle.jc_machine.specs.Fields.{FieldTarget, InstanceField, act_field, act_get_static, act_instance, act_on_target}
use Rattle.jc_machine.specs.Fields.{act_put_static, act_static, field_target, gets, of_class, of_objects, on_holder}
use Rattle.jc_machine.specs.Fields.{put_static, puts, putting, static_at, stored_in_static}
use Rattle.jc_machine.specs.Going.{StepContext, accessed, accessed_to_store, gives, on_object, on_some}
use Rattle.jc_machine.specs.Going.{require, runtime_touch, throws}
use Rattle.jc_machine.specs.Going.{throws_system, no_resource, check}
use Rattle.jc_machine.specs.Lookup.{component_class, is_array, is_instance, is_of_class, is_of_type, is_throwable}
use Rattle.jc_machine.specs.Machine.{Stepped}
use Rattle.jc_machine.specs.Objects.{act_throw, creates, has_space, made}
use Rattle.jc_machine.specs.Runtime.{array_index_exception, array_store_exception}
use Rattle.jc_machine.specs.Runtime.{HasRuntimeObjects, null_pointer_exception, runtime_objects, system_exception}
use Rattle.jc_machine.specs.Unseen.{AreAlike, IsAlike, StepsAlike}
use Rattle.jc_words.specs.Shorts.{short}
use Rattle.jc_words.specs.Values.{Null, Ref, TaggedValue, Unset, Word}
use Rattle.jc_machine.proofs.Unseeing.{at_accessed, at_check, at_heap, at_known, at_object, at_read, at_reference}
use Rattle.jc_machine.proofs.Unseeing.{at_reference_local, at_require, at_same, at_same_require, at_some, at_stored}
use Rattle.jc_machine.proofs.Unseeing.{at_target, at_thrown, at_top, at_word, behind, both_stuck, gives_both}
use Rattle.jc_machine.proofs.Unseeing.{leaves_both}
use Rattle.jc_machine.proofs.Unseeing.{loads_both, stored_both, throws_both, throws_own}
use Rattle.jc_machine.proofs.AlikeLaws.{as_large, as_long, leads_both, new_both, type_both, with_cells, with_both}
use Rattle.jc_machine.proofs.AlikeLaws.{cell_both, own_seen, seen_still}

module _ {C : Type 0} (context : ℕ) (h : StepContext C) (H K : Heap TaggedValue) (alike : AreAlike context H K)
    (own : HasRuntimeObjects H) (applet : h.machine.top.active.context ≡ runtime_context → ⊥)
    (other : h.machine.top.active.context ≡ context → ⊥) where
  abbrev one : StepContext C
  one = at_heap h H

  abbrev two : StepContext C
  two = at_heap h K

  -- ---- arrays

  pub load_both : (form : Form) → StepsAlike context (act_load one form) (act_load two form)
  load_both form =
      at_word h.machine.top.operands _ _ (λ index us. at_reference us _ _ (λ array vs.
      at_object context h H K alike own array _ _ (λ n o cells a. at_check (is_array_of form o.kind.object_type) _ _
      (at_read context h H K alike own applet other accesses.LoadComponent n o cells (inr refl) a
      (λ x. require one array_index_exception (is_in_bounds index x)
      (on_some (slice_get x.cells index) (λ v. loads one form v vs)))
      (λ x. require two array_index_exception (is_in_bounds index x)
      (on_some (slice_get x.cells index) (λ v. loads two form v vs)))
      (at_require context h H K alike own array_index_exception refl (is_in_bounds index o) _ _
      (at_some (slice_get o.cells index) _ _ (λ v. loads_both context h H K alike form v vs)))))))

  pub length_both : StepsAlike context (act_length one) (act_length two)
  length_both =
      at_reference h.machine.top.operands _ _ (λ array vs. at_object context h H K alike own array _ _ (λ n o cells a.
      at_check (is_array o.kind.object_type) _ _
      (at_accessed context h H K alike own accesses.ArrayLength n o cells _ _
      (subst (λ (size : ℕ). StepsAlike context (gives one (Word (length o.cells)) vs) (gives two (Word size) vs)) a.size
      (gives_both context h H K alike (Word (length o.cells)) vs)))))

  bounds_both : (index : ℕ) (o : Object TaggedValue) (cells : List TaggedValue)
      → IsAlike context o (with_cells o cells) → is_in_bounds index o ≡ is_in_bounds index (with_cells o cells)
  bounds_both index o cells a =
      ap (λ (size : ℕ). not (int_lt (short index) (pos 0)) && nat_lt index size) a.size

  store_word_both : (form : Form) → StepsAlike context (act_store_word one form) (act_store_word two form)
  store_word_both form =
      at_word h.machine.top.operands _ _ (λ w ts. at_word ts _ _ (λ index us. at_reference us _ _ (λ array vs.
      at_object context h H K alike own array _ _ (λ n o cells a. at_check (is_array_of form o.kind.object_type) _ _
      (at_accessed context h H K alike own accesses.StoreComponent n o cells _ _
      (at_same_require context h H K alike own array_index_exception refl (is_in_bounds index o)
      (is_in_bounds index (with_cells o cells)) _ _ (bounds_both index o cells a)
      (stored_both context h H K alike n o cells index (stored_as form (Word w)) vs a)))))))

  store_reference_both : StepsAlike context (act_store_reference one) (act_store_reference two)
  store_reference_both =
      at_reference h.machine.top.operands _ _ (λ v ts.
      at_same (is_there one v) (is_there two v) _ _ (leads_both context H K alike (λ object. true) v)
      (at_word ts _ _ (λ index us. at_reference us _ _ (λ array vs.
      at_object context h H K alike own array _ _ (λ n o cells a. at_some (component_class o.kind.object_type) _ _ (λ class.
      at_stored context h H K alike own accesses.StoreReference n o cells v _ _
      (at_same_require context h H K alike own array_index_exception refl (is_in_bounds index o)
      (is_in_bounds index (with_cells o cells)) _ _ (bounds_both index o cells a)
      (at_same_require context h H K alike own array_store_exception refl _ _ _ _
      (leads_both context H K alike (is_instance h.around.world.shapes class) v)
      (stored_both context h H K alike n o cells index v vs a)))))))))

  pub store_both : (form : Form) → StepsAlike context (act_store one form) (act_store two form)
  store_both Forms.Reference = store_reference_both
  store_both Forms.Byte = store_word_both Forms.Byte
  store_both Forms.Short = store_word_both Forms.Short

  -- ---- fields

  get_static_both : (form : Form) (place : StaticPlace)
      → StepsAlike context (act_get_static one form place) (act_get_static two form place)
  get_static_both form place =
      at_some (static_at h.machine.statics place.home place.offset) _ _
      (λ s. loads_both context h H K alike form s.value h.machine.top.operands)

  stored_static_both : (v : TaggedValue) (s t : Stepped C) → StepsAlike context s t
      → StepsAlike context (stored_in_static one v s) (stored_in_static two v t)
  stored_static_both (Word n) s t k = k
  stored_static_both (Ref n) s t k =
      at_object context h H K alike own (Ref n)
      (λ number object. accessed_to_store one accesses.PutStaticReference number object (Ref n) s)
      (λ number object. accessed_to_store two accesses.PutStaticReference number object (Ref n) t) (λ number o cells a.
      at_stored context h H K alike own accesses.PutStaticReference number o cells (Ref n) s t k)
  stored_static_both Null s t k = k
  stored_static_both Unset s t k = both_stuck

  put_static_both : (form : Form) (place : StaticPlace) (declared : DeclaredType ClassName)
      → StepsAlike context (act_put_static one form place declared) (act_put_static two form place declared)
  put_static_both form place declared =
      at_top h.machine.top.operands _ _ (λ v vs.
      at_same (is_of_type h.around.world.shapes H declared v) (is_of_type h.around.world.shapes K declared v) _ _
      (type_both context H K alike h.around.world.shapes declared v)
      (at_some (static_at h.machine.statics place.home place.offset) _ _ (λ s.
      stored_static_both v _ _ (leaves_both context (put_static h place (stored_as form v)) H K alike vs))))

  gets_both : (form : Form) (field : InstanceField) (v : TaggedValue) (vs : List TaggedValue)
      → StepsAlike context (gets one form field v vs) (gets two form field v vs)
  gets_both form field v vs =
      at_object context h H K alike own v _ _ (λ n o cells a.
      at_check (is_of_class h.around.world.shapes field.class o.kind.object_type) _ _
      (at_read context h H K alike own applet other accesses.GetField n o cells (inl refl) a
      (λ x. on_some (slice_get x.cells field.cell) (λ value. loads one form value vs))
      (λ x. on_some (slice_get x.cells field.cell) (λ value. loads two form value vs))
      (at_some (slice_get o.cells field.cell) _ _ (λ value. loads_both context h H K alike form value vs))))

  puts_both : (form : Form) (field : InstanceField) (v value : TaggedValue) (vs : List TaggedValue)
      → StepsAlike context (puts one form field v value vs) (puts two form field v value vs)
  puts_both form field v value vs =
      at_object context h H K alike own v _ _ (λ n o cells a.
      at_check (is_of_class h.around.world.shapes field.class o.kind.object_type) _ _
      (at_stored context h H K alike own (putting form) n o cells value _ _
      (at_same (nat_lt field.cell (length o.cells)) (nat_lt field.cell (length cells)) _ _
      (ap (nat_lt field.cell) a.size)
      (stored_both context h H K alike n o cells field.cell (stored_as form value) vs a))))

  at_holder : (holder : Holder) (vs : List TaggedValue) (f g : TaggedValue → List TaggedValue → Stepped C)
      → ((v : TaggedValue) (rest : List TaggedValue) → StepsAlike context (f v rest) (g v rest))
      → StepsAlike context (on_holder one holder vs f) (on_holder two holder vs g)
  at_holder Holders.Class vs f g k = both_stuck
  at_holder Holders.Operand vs f g k = at_reference vs f g k
  at_holder Holders.This vs f g k = at_reference_local (slice_get h.machine.top.locals 0) _ _ (λ v. k v vs)

  instance_both : (access : FieldAccess) (field : InstanceField) (action : FieldAction)
      → StepsAlike context (act_instance one access field action) (act_instance two access field action)
  instance_both access field Get =
      at_holder access.holder h.machine.top.operands _ _ (λ v vs. gets_both access.form field v vs)
  instance_both access field Put =
      at_top h.machine.top.operands _ _ (λ value us.
      at_same (is_of_type h.around.world.shapes H field.declared value)
      (is_of_type h.around.world.shapes K field.declared value) _ _
      (type_both context H K alike h.around.world.shapes field.declared value)
      (at_holder access.holder us _ _ (λ v vs. puts_both access.form field v value vs)))

  static_both : (access : FieldAccess) (place : StaticPlace) (declared : DeclaredType ClassName) (action : FieldAction)
      (holder : Holder)
      → StepsAlike context (act_static one access place declared action holder)
      (act_static two access place declared action holder)
  static_both access place declared Get Holders.Class = get_static_both access.form place
  static_both access place declared Put Holders.Class = put_static_both access.form place declared
  static_both access place declared Get Holders.Operand = both_stuck
  static_both access place declared Put Holders.Operand = both_stuck
  static_both access place declared Get Holders.This = both_stuck
  static_both access place declared Put Holders.This = both_stuck

  target_both : (access : FieldAccess) (target : FieldTarget)
      → StepsAlike context (act_on_target one access target) (act_on_target two access target)
  target_both access (of_objects field) =
      at_check (is_form_of access.form field.declared) _ _ (instance_both access field access.action)
  target_both access (of_class place declared) =
      at_check (is_form_of access.form declared) _ _ (static_both access place declared access.action access.holder)

  pub field_both : (access : FieldAccess) (index : ℕ)
      → StepsAlike context (act_field one access index) (act_field two access index)
  field_both access index = at_target context h H K index field_target _ _ (target_both access)

  -- ---- objects that are made and thrown

  made_both : (object : ObjectType) (cells vs : List TaggedValue)
      → StepsAlike context (gives (made one object cells) (Ref (next_number H)) vs)
      (gives (made two object cells) (Ref (next_number K)) vs)
  made_both object cells vs =
      subst (λ (n : ℕ). StepsAlike context (gives (made one object cells) (Ref (next_number H)) vs)
      (gives (made two object cells) (Ref (suc n)) vs)) (as_long context H K alike)
      (gives_both context h (with_new H _) (with_new K _) (new_both context H K alike _) (Ref (next_number H)) vs)

  system_both : (reason : ℕ) → StepsAlike context (throws_system one reason) (throws_system two reason)
  system_both reason =
      at_known context h H K alike system_exception _ _ (λ o cells e a.
      behind (runtime_touch accesses.PutField system_exception ∷ []) _ _
      (throws_both context h (with_object H system_exception (with_cell o 0 (Word reason)))
      (with_object K system_exception (with_cell (with_cells o cells) 0 (Word reason)))
      (with_both context H K alike system_exception _ _ (cell_both context o (with_cells o cells) a 0 (Word reason)))
      system_exception (seen_still context H system_exception o 0 (Word reason)
      (own_seen context H runtime_objects system_exception own refl o e))))

  space_both : (cells : List TaggedValue) → has_space one cells ≡ has_space two cells
  space_both cells =
      ap (λ (n : ℕ). nat_lt n h.around.limits.objects && nat_le (cells_in H + 1 + length cells) h.around.limits.cells)
      (as_long context H K alike)
      ∙ ap (λ (n : ℕ). nat_lt (length K) h.around.limits.objects && nat_le (n + 1 + length cells) h.around.limits.cells)
      (as_large context H K alike)

  by_space : (object : ObjectType) (cells vs : List TaggedValue) (b : Bool)
      → StepsAlike context
      (cond b (gives (made one object cells) (Ref (next_number H)) vs) (throws_system one no_resource))
      (cond b (gives (made two object cells) (Ref (next_number K)) vs) (throws_system two no_resource))
  by_space object cells vs true = made_both object cells vs
  by_space object cells vs false = system_both no_resource

  pub creates_both : (object : ObjectType) (cells vs : List TaggedValue)
      → StepsAlike context (creates one object cells vs) (creates two object cells vs)
  creates_both object cells vs =
      subst (λ (b : Bool). StepsAlike context (creates one object cells vs)
      (cond b (gives (made two object cells) (Ref (next_number K)) vs) (throws_system two no_resource)))
      (space_both cells) (by_space object cells vs (has_space one cells))

  pub throw_both : StepsAlike context (act_throw one) (act_throw two)
  throw_both = at_reference h.machine.top.operands _ _ (λ v vs. by_value v)
    where
      throws_of : StepContext C → ℕ → Object TaggedValue → Stepped C
      throws_of g number object =
          check (is_throwable h.around.world.shapes object.kind.object_type)
          (accessed g accesses.Throw number object (throws g number))

      by_value : (v : TaggedValue)
          → StepsAlike context (on_object one v (throws_of one)) (on_object two v (throws_of two))
      by_value (Word n) = both_stuck
      by_value (Ref n) =
          at_known context h H K alike n (throws_of one n) (throws_of two n) (λ o cells e a.
          at_check (is_throwable h.around.world.shapes o.kind.object_type) _ _
          (at_thrown context h H K alike own applet other n o cells e))
      by_value Null = throws_own context h H K alike own null_pointer_exception refl
      by_value Unset = both_stuck
