-- Instructions on arrays are safe.
use Rattle.std.proofs.Common.{◌≡◌, ℕ, ◌<◌, List, [], ◌∷◌, length, drop, set, slice_get, true, ◌&&◌, not}
use Rattle.std.proofs.Common.{Some, nat_lt, refl, ap, arith}
use Rattle.std.proofs.lemmas.Bool.{lt-ltb, ltb-true}
use Rattle.jc_api.specs.declared.class.ApiClass.TheVariants as api
use Rattle.jc_cap_desc.specs.Shape.{Shape}
use Rattle.jc_classes.specs.Members.{DeclaredMethod}
use Rattle.jc_code.specs.declared.object.Form.{Form}
use Rattle.jc_code.specs.declared.object.Form.TheVariants as Forms
use Rattle.jc_names.specs.declared.name.ClassName.{ClassName}
use Rattle.jc_names.specs.declared.name.ClassName.TheVariants.{Api}
use Rattle.jc_effects.specs.Objects.{array_of, component_loaded, component_stored}
use Rattle.jc_effects.specs.Row.{Row, after, component_of}
use Rattle.jc_effects.specs.Words.{takes, word}
use Rattle.jc_effects.specs.declared.row.Demand.TheVariants.{Array, Below, Reference}
use Rattle.jc_effects.specs.declared.row.Given.TheVariants.{ComponentOf, Exactly, Nothing}
use Rattle.jc_store.specs.Heap as heaps
use Rattle.jc_store.specs.Heap.{Heap, object_at}
use Rattle.jc_store.specs.declared.kind.ObjectType.{ObjectType}
use Rattle.jc_store.specs.declared.kind.ObjectType.TheVariants.{BooleanArray, ByteArray, Instance, ReferenceArray}
use Rattle.jc_store.specs.declared.kind.ObjectType.TheVariants.{ShortArray}
use Rattle.jc_types.specs.State.{Types}
use Rattle.jc_types.specs.Ty.{is_below}
use Rattle.jc_types.specs.declared.ty.Ty.{Ty}
use Rattle.jc_types.specs.declared.ty.Ty.TheVariants as types
use Rattle.jc_machine.specs.Arrays.{act_length, act_load, act_store_reference, act_store_word, is_array_of}
use Rattle.jc_machine.specs.Arrays.{is_in_bounds, loads, stored_as}
use Rattle.jc_machine.specs.Going.{StepContext, accessed, check, on_object, on_some, require}
use Rattle.jc_machine.specs.Lookup.{class_of, component_class, is_array, is_byte, is_instance, is_of_class}
use Rattle.jc_machine.specs.Lookup.{is_word, leads_to}
use Rattle.jc_firewall.specs.declared.access.Access.TheVariants.{ArrayLength, LoadComponent, StoreComponent}
use Rattle.jc_firewall.specs.declared.access.Access.TheVariants.{StoreReference}
use Rattle.jc_machine.specs.Machine.{Machine, Surroundings}
use Rattle.jc_machine.specs.Runtime.{array_index_exception, array_store_exception}
use Rattle.jc_machine.specs.Typed.{CellsTyped, HoldTypes, IsTyped, has_type}
use Rattle.jc_words.specs.Shorts.{low_byte}
use Rattle.jc_words.specs.Values.{Null, Ref, TaggedValue, Word, is_tagged_reference}
use Rattle.jc_safety.proofs.Below.{instance_below}
use Rattle.jc_safety.proofs.Ground.{Ground}
use Rattle.jc_safety.proofs.Lists.{both, each_at, each_set, get_within}
use Rattle.jc_safety.proofs.Loads.{IsLoaded, byte_loaded, reference_loaded, safe_loads, short_loaded}
use Rattle.jc_safety.proofs.Rows.{LeadsTo, below, here, gives_it, held, leaves_stored, locals_still, met_by, most}
use Rattle.jc_safety.proofs.Rows.{orders, safe_accessed, safe_null, safe_required, safe_to_store, state, world}
use Rattle.jc_safety.proofs.Safe.{IsSafe, safe_check, safe_some}
use Rattle.jc_safety.proofs.Goes.{room_left, safe_gives}
use Rattle.jc_safety.proofs.Taking.{Applied, Meets, any_object, leaves_nothing, meets_value, take_one, take_three}
use Rattle.jc_safety.proofs.Taking.{take_two, word_case}
use Rattle.jc_safety.proofs.Thrown.{array_index, array_store}
use Rattle.jc_safety.proofs.Upward.{holds_below, leads_up}
use Rattle.jc_safety.proofs.Writing.{byte_number, ref_case, typed_at, word_number}

-- an index within an array
in_bounds : (index : ℕ) (o : heaps.Object TaggedValue) → is_in_bounds index o ≡ true → index < length o.cells
in_bounds index o e = grind (arith, both, not, ltb-true)

-- ---- what arrays of a form hold

-- what a component of an array of bytes or shorts is loaded as
loaded_number : (world : List Shape) (heap : Heap TaggedValue) (form : Form) (cells : List TaggedValue) (o : ObjectType)
    → (v : TaggedValue) (n : ℕ) → CellsTyped world heap cells o → is_array_of form o ≡ true
    → component_loaded form ≡ Exactly types.Word → slice_get cells n ≡ Some v
    → IsLoaded world heap form v types.Word
loaded_number world heap Forms.Reference cells o v n h is word e = absurd cc
loaded_number world heap Forms.Byte cells (Instance c) v n h is word e = absurd cc
loaded_number world heap Forms.Byte cells BooleanArray v n h is word e =
    byte_loaded world heap v (byte_number v (each_at (λ v. is_byte v ≡ true) cells n v h e))
loaded_number world heap Forms.Byte cells ByteArray v n h is word e =
    byte_loaded world heap v (byte_number v (each_at (λ v. is_byte v ≡ true) cells n v h e))
loaded_number world heap Forms.Byte cells ShortArray v n h is word e = absurd cc
loaded_number world heap Forms.Byte cells (ReferenceArray c) v n h is word e = absurd cc
loaded_number world heap Forms.Short cells (Instance c) v n h is word e = absurd cc
loaded_number world heap Forms.Short cells BooleanArray v n h is word e = absurd cc
loaded_number world heap Forms.Short cells ByteArray v n h is word e = absurd cc
loaded_number world heap Forms.Short cells ShortArray v n h is word e =
    short_loaded world heap v (word_number v (each_at (λ v. is_word v ≡ true) cells n v h e))
loaded_number world heap Forms.Short cells (ReferenceArray c) v n h is word e = absurd cc

-- a low byte is a byte, and is stored as one
stored_byte : (n : ℕ) → is_byte (Word (low_byte n)) ≡ true
stored_byte n = lt-ltb (low_byte n) 256 (omega arith)

-- what is stored in an array of bytes or shorts
stored_number : (world : List Shape) (heap : Heap TaggedValue) (form : Form) (cells : List TaggedValue) (o : ObjectType)
    → (n index : ℕ) → CellsTyped world heap cells o → is_array_of form o ≡ true
    → component_stored form ≡ Below types.Word → nat_lt n 65536 ≡ true
    → CellsTyped world heap (set cells index (stored_as form (Word n))) o
stored_number world heap form cells o n index h1 h2 h3 h4 = grind (arith, world, each_set, stored_byte)

-- an array of references
record HoldsReferences (o : ObjectType) : Type 0 where
  class : ClassName
  is : o ≡ ReferenceArray class

holds_references : (world : List Shape) (c : ClassName) (o : ObjectType) → holds_below world c o ≡ true
    → HoldsReferences o
holds_references world c o h1 = grind (arith, world)

module _ {C : Type 0} (s : Surroundings C) (ground : Ground s) (m : Machine C) (t : IsTyped s m) (d : DeclaredMethod)
    (next : ℕ) where
  abbrev at : List TaggedValue → StepContext C
  at vs = here s ground m t d next vs

  abbrev shapes : List Shape
  shapes = s.world.shapes

  -- an array of a form, by what its type says of it
  abbrev AreArrays : Form → Type 0
  AreArrays form =
      (v : TaggedValue) → Meets shapes m.heap v (array_of form) → leads_to m.heap (is_array_of form) v ≡ true

  references_are : (o : ObjectType) → holds_below shapes (Api api.Object) o ≡ true
      → is_array_of Forms.Reference o ≡ true
  references_are o h1 = grind arith

  are_arrays : (form : Form) → AreArrays form
  are_arrays form = grind (arith, leads_up, holds_below, references_are)

  object_typed : (n : ℕ) (o : heaps.Object TaggedValue) → object_at m.heap n ≡ Some o
      → CellsTyped shapes m.heap o.cells o.kind.object_type
  object_typed n o found = (typed_at shapes m.heap t.beside.heap n o found).cells

  -- ---- a component is loaded

  -- from an array that is there
  from_array : (form : Form) (us vs : List TaggedValue) (index n : ℕ) (o : heaps.Object TaggedValue)
      → object_at m.heap n ≡ Some o → is_array_of form o.kind.object_type ≡ true
      → ((v : TaggedValue) → slice_get o.cells index ≡ Some v → IsSafe s (loads (at us) form v vs))
      → IsSafe s (on_object (at us) (Ref n) (λ number object.
      check (is_array_of form object.kind.object_type)
      (accessed (at us) LoadComponent number object
      (require (at us) array_index_exception (is_in_bounds index object)
      (on_some (slice_get object.cells index) (λ v. loads (at us) form v vs))))))
  from_array form us vs index n o found is go =
      safe_some s (object_at m.heap n) o _ found
      (safe_check s (is_array_of form o.kind.object_type) _ is
      (safe_accessed s ground m t d next us LoadComponent n o _
      (safe_required s ground m t d next us array_index_exception (is_in_bounds index o) _
      (array_index s ground m.heap t.beside.runtime_objects)
      (λ inside.
      let v = get_within o.cells index (in_bounds index o inside) in
      safe_some s (slice_get o.cells index) v.0 _ v.1 (go v.0 v.1)))))

  -- of bytes and shorts
  pub load_number : (form : Form) (after : Types) → component_loaded form ≡ Exactly types.Word
      → Applied (below s ground m t) (most s ground m t) (takes (array_of form ∷ word ∷ []) (Exactly types.Word))
      (state s ground m t) after
      → LeadsTo s ground m t after next → IsSafe s (act_load (at m.top.operands) form)
  load_number form after numbers a leads =
      take_two shapes m.heap (λ us. IsSafe s (act_load (at us) form)) (array_of form) word m.top.operands
      (state s ground m t).operands t.top.operands_typed a.enough
      (met_by s ground m t (takes (array_of form ∷ word ∷ []) (Exactly types.Word)) after a)
      (λ i u vs index_is array_is rest.
      word_case shapes m.heap (λ x. IsSafe s (act_load (at (x ∷ u ∷ vs)) form)) i index_is (λ index small.
      ref_case m.heap (is_array_of form) (λ x. IsSafe s (act_load (at (Word index ∷ x ∷ vs)) form)) u
      (are_arrays form u array_is)
      (safe_null s ground m t d next (Word index ∷ Null ∷ vs))
      (λ n o found is.
      from_array form (Word index ∷ Ref n ∷ vs) vs index n o found is (λ v there.
      let l = loaded_number shapes m.heap form o.cells o.kind.object_type v index (object_typed n o found) is numbers there
      in
      safe_loads s (at (Word index ∷ Ref n ∷ vs)) form v vs shapes m.heap types.Word l
      (gives_it s ground m t d next (array_of form ∷ word ∷ []) (Word index ∷ Ref n ∷ vs) vs l.value types.Word after a
      l.operand rest leads)))))

  -- of references
  abbrev pub references : Row
  references = takes (Below (types.ReferenceArray (Api api.Object)) ∷ word ∷ []) (ComponentOf 0)

  component_left : (ls : List Ty) (ti tu : Ty) (ts : List Ty) (after_it : Types)
      → Applied (below s ground m t) (most s ground m t) references (record { locals = ls; operands = ti ∷ tu ∷ ts }) after_it
      → ◌≡◌ {A = Types} (record { locals = ls; operands = component_of tu ∷ ts }) after_it
  unfolding after
  component_left ls ti tu ts after_it a = a.is

  -- a reference to an object passes the test that its type is
  ref_holds : (c : ClassName) (n : ℕ) (o : heaps.Object TaggedValue) → object_at m.heap n ≡ Some o
      → leads_to m.heap (holds_below shapes c) (Ref n) ≡ true → holds_below shapes c o.kind.object_type ≡ true
  ref_holds c n o found h = grind (arith, holds_below)

  -- a component of an array whose components count below a class is of that class
  component_has : (c : ClassName) (o : ObjectType) (cells : List TaggedValue) (index : ℕ) (v : TaggedValue)
      → holds_below shapes c o ≡ true → CellsTyped shapes m.heap cells o → slice_get cells index ≡ Some v
      → leads_to m.heap (is_of_class shapes c) v ≡ true
  component_has c (Instance k) cells index v h typed e = absurd cc
  component_has c BooleanArray cells index v h typed e = absurd cc
  component_has c ByteArray cells index v h typed e = absurd cc
  component_has c ShortArray cells index v h typed e = absurd cc
  component_has c (ReferenceArray k) cells index v h typed e =
      leads_up m.heap (is_instance shapes k) (is_of_class shapes c) v
      (λ o is. instance_below s ground (class_of o) k c is h)
      (each_at (λ v. leads_to m.heap (is_instance shapes k) v ≡ true) cells index v typed e)

  component_typed : (tu : Ty) (n : ℕ) (o : heaps.Object TaggedValue) (index : ℕ) (v : TaggedValue)
      → is_below (below s ground m t) tu (types.ReferenceArray (Api api.Object)) ≡ true
      → has_type shapes m.heap (Ref n) tu ≡ true → object_at m.heap n ≡ Some o → slice_get o.cells index ≡ Some v
      → IsLoaded shapes m.heap Forms.Reference v (component_of tu)
  component_typed types.Top n o index v b h found e = absurd cc
  component_typed types.Word n o index v b h found e = absurd cc
  component_typed types.Null n o index v b h found e = absurd cc
  component_typed (types.Class c) n o index v b h found e = absurd cc
  component_typed types.BooleanArray n o index v b h found e = absurd cc
  component_typed types.ByteArray n o index v b h found e = absurd cc
  component_typed types.ShortArray n o index v b h found e = absurd cc
  component_typed (types.ReferenceArray c) n o index v b h found e =
      let has = component_has c o.kind.object_type o.cells index v (ref_holds c n o found h) (object_typed n o found) e in
      reference_loaded shapes m.heap (is_of_class shapes c) (component_of (types.ReferenceArray c)) v has has

  pub load_reference : (vs : List TaggedValue) (us : List Ty) (after_it : Types) → HoldTypes shapes m.heap vs us
      → Applied (below s ground m t) (most s ground m t) references (record { locals = (state s ground m t).locals; operands = us }) after_it
      → LeadsTo s ground m t after_it next → IsSafe s (act_load (at vs) Forms.Reference)
  load_reference [] [] after_it h a leads = let e = a.enough in absurd cc
  load_reference [] (ti ∷ us) after_it h a leads = absurd h
  load_reference (i ∷ vs) [] after_it h a leads = absurd h
  load_reference (i ∷ []) (ti ∷ []) after_it h a leads = let e = a.enough in absurd cc
  load_reference (i ∷ []) (ti ∷ tu ∷ us) after_it h a leads = absurd h.1
  load_reference (i ∷ u ∷ vs) (ti ∷ []) after_it h a leads = absurd h.1
  load_reference (i ∷ u ∷ vs) (ti ∷ tu ∷ us) after_it h a leads =
      let array_met = both (is_below (below s ground m t) tu (types.ReferenceArray (Api api.Object)))
      (is_below (below s ground m t) ti types.Word && true) a.operands_met in
      let index_met = both (is_below (below s ground m t) ti types.Word) true array_met.1 in
      let left = component_left (state s ground m t).locals ti tu us after_it a in
      word_case shapes m.heap (λ x. IsSafe s (act_load (at (x ∷ u ∷ vs)) Forms.Reference)) i
      (meets_value shapes _ (orders s ground m t) m.heap i word ti index_met.0 h.0)
      (λ index small.
      ref_case m.heap (is_array_of Forms.Reference) (λ x. has_type shapes m.heap x tu ≡ true
      → IsSafe s (act_load (at (Word index ∷ x ∷ vs)) Forms.Reference)) u
      (are_arrays Forms.Reference u
      (meets_value shapes _ (orders s ground m t) m.heap u (array_of Forms.Reference) tu array_met.0 h.1.0))
      (λ has. safe_null s ground m t d next (Word index ∷ Null ∷ vs))
      (λ n o found is has.
      from_array Forms.Reference (Word index ∷ Ref n ∷ vs) vs index n o found is (λ v there.
      let l = component_typed tu n o index v array_met.0 has found there in
      safe_loads s (at (Word index ∷ Ref n ∷ vs)) Forms.Reference v vs shapes m.heap (component_of tu) l
      (safe_gives s ground m t d (most s ground m t) next (Word index ∷ Ref n ∷ vs) after_it l.value vs
      (room_left shapes m.heap (most s ground m t) 2 (ti ∷ tu ∷ us) vs a.enough a.room h.1.1)
      (locals_still s ground m t after_it.locals (ap (λ (x : Types). x.locals) left))
      (held s ground m t (component_of tu ∷ us) after_it.operands (l.value ∷ vs) (ap (λ (x : Types). x.operands) left)
      (l.operand, h.1.1))
      leads)))
      h.1.0.type)

  -- ---- a component is stored

  pub store_number : (form : Form) (after_it : Types) → component_stored form ≡ Below types.Word
      → Applied (below s ground m t) (most s ground m t) (takes (array_of form ∷ word ∷ word ∷ []) Nothing)
      (state s ground m t) after_it
      → LeadsTo s ground m t after_it next → IsSafe s (act_store_word (at m.top.operands) form)
  store_number form after_it numbers a leads =
      let l = leaves_nothing (below s ground m t) (most s ground m t) (array_of form ∷ word ∷ word ∷ [])
      (state s ground m t) after_it a in
      take_three shapes m.heap (λ us. IsSafe s (act_store_word (at us) form)) (array_of form) word word m.top.operands
      (state s ground m t).operands t.top.operands_typed a.enough
      (met_by s ground m t (takes (array_of form ∷ word ∷ word ∷ []) Nothing) after_it a)
      (λ w i u vs value_is index_is array_is rest.
      word_case shapes m.heap (λ x. IsSafe s (act_store_word (at (x ∷ i ∷ u ∷ vs)) form)) w value_is (λ k little.
      word_case shapes m.heap (λ x. IsSafe s (act_store_word (at (Word k ∷ x ∷ u ∷ vs)) form)) i index_is
      (λ index small.
      ref_case m.heap (is_array_of form) (λ x. IsSafe s (act_store_word (at (Word k ∷ Word index ∷ x ∷ vs)) form)) u
      (are_arrays form u array_is)
      (safe_null s ground m t d next (Word k ∷ Word index ∷ Null ∷ vs))
      (λ n o found is.
      let us = Word k ∷ Word index ∷ Ref n ∷ vs in
      safe_some s (object_at m.heap n) o _ found
      (safe_check s (is_array_of form o.kind.object_type) _ is
      (safe_accessed s ground m t d next us StoreComponent n o _
      (safe_required s ground m t d next us array_index_exception (is_in_bounds index o) _
      (array_index s ground m.heap t.beside.runtime_objects)
      (λ inside.
      leaves_stored s ground m t d next us vs after_it n o index (stored_as form (Word k)) found
      (stored_number shapes m.heap form o.cells o.kind.object_type k index (object_typed n o found) is numbers little)
      (locals_still s ground m t after_it.locals l.locals_are)
      (held s ground m t (drop 3 (state s ground m t).operands) after_it.operands vs l.operands_are rest)
      leads))))))))

  -- a reference, or null
  leads_reference : (v : TaggedValue) → leads_to m.heap any_object v ≡ true → is_tagged_reference v ≡ true
  leads_reference v h1 = grind arith

  -- with a reference in place of a component the array is still typed
  reference_put : (o : ObjectType) (k : ClassName) (cells : List TaggedValue) (index : ℕ) (v : TaggedValue)
      → o ≡ ReferenceArray k → CellsTyped shapes m.heap cells o → leads_to m.heap (is_instance shapes k) v ≡ true
      → CellsTyped shapes m.heap (set cells index v) o
  reference_put o k cells index v is typed has = grind (arith, set, each_set)

  pub store_reference : (after_it : Types)
      → Applied (below s ground m t) (most s ground m t)
      (takes (Below (types.ReferenceArray (Api api.Object)) ∷ word ∷ Reference ∷ []) Nothing) (state s ground m t)
      after_it
      → LeadsTo s ground m t after_it next → IsSafe s (act_store_reference (at m.top.operands))
  store_reference after_it a leads =
      let ds = array_of Forms.Reference ∷ word ∷ Reference ∷ [] in
      let l = leaves_nothing (below s ground m t) (most s ground m t) ds (state s ground m t) after_it a in
      take_three shapes m.heap (λ us. IsSafe s (act_store_reference (at us))) (array_of Forms.Reference) word Reference
      m.top.operands (state s ground m t).operands t.top.operands_typed a.enough
      (met_by s ground m t (takes ds Nothing) after_it a)
      (λ w i u vs value_is index_is array_is rest.
      word_case shapes m.heap (λ x. IsSafe s (act_store_reference (at (w ∷ x ∷ u ∷ vs)))) i index_is (λ index small.
      ref_case m.heap (holds_below shapes (Api api.Object))
      (λ x. IsSafe s (act_store_reference (at (w ∷ Word index ∷ x ∷ vs)))) u
      array_is.type
      (safe_check s (is_tagged_reference w) _ (leads_reference w value_is)
      (safe_check s (leads_to m.heap any_object w) _ value_is
      (safe_null s ground m t d next (w ∷ Word index ∷ Null ∷ vs))))
      (λ n o found is.
      let us = w ∷ Word index ∷ Ref n ∷ vs in
      let array = holds_references shapes (Api api.Object) o.kind.object_type is in
      safe_check s (is_tagged_reference w) _ (leads_reference w value_is)
      (safe_check s (leads_to m.heap any_object w) _ value_is
      (safe_some s (object_at m.heap n) o _ found
      (safe_some s (component_class o.kind.object_type) array.class _ (ap component_class array.is)
      (safe_to_store s ground m t d next us StoreReference n o w _
      (safe_required s ground m t d next us array_index_exception (is_in_bounds index o) _
      (array_index s ground m.heap t.beside.runtime_objects)
      (λ inside.
      safe_required s ground m t d next us array_store_exception (leads_to m.heap (is_instance shapes array.class) w) _
      (array_store s ground m.heap t.beside.runtime_objects)
      (λ fits.
      leaves_stored s ground m t d next us vs after_it n o index w found
      (reference_put o.kind.object_type array.class o.cells index w array.is (object_typed n o found) fits)
      (locals_still s ground m t after_it.locals l.locals_are)
      (held s ground m t (drop 3 (state s ground m t).operands) after_it.operands vs l.operands_are rest)
      leads))))))))))

  -- ---- the length

  pub array_length : (after_it : Types)
      → Applied (below s ground m t) (most s ground m t) (takes (Array ∷ []) (Exactly types.Word)) (state s ground m t) after_it
      → LeadsTo s ground m t after_it next → IsSafe s (act_length (at m.top.operands))
  array_length after_it a leads =
      take_one shapes m.heap (λ us. IsSafe s (act_length (at us))) Array m.top.operands (state s ground m t).operands
      t.top.operands_typed a.enough
      (met_by s ground m t (takes (Array ∷ []) (Exactly types.Word)) after_it a)
      (λ u vs array_is rest.
      ref_case m.heap is_array (λ x. IsSafe s (act_length (at (x ∷ vs)))) u array_is
      (safe_null s ground m t d next (Null ∷ vs))
      (λ n o found is.
      safe_some s (object_at m.heap n) o _ found
      (safe_check s (is_array o.kind.object_type) _ is
      (safe_accessed s ground m t d next (Ref n ∷ vs) ArrayLength n o _
      (gives_it s ground m t d next (Array ∷ []) (Ref n ∷ vs) vs (Word (length o.cells)) types.Word after_it a
      (record {
        type = lt-ltb (length o.cells) 65536 ((typed_at shapes m.heap t.beside.heap n o found).counted is);
        written = refl;
      })
      rest leads)))))
