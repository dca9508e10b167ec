-- Objects and arrays that are made: they are typed, or there is no room for them.
use Rattle.std.proofs.Common.{◌≡◌, ℕ, ◌<◌, List, [], ◌∷◌, length, drop, replicate, set, slice_get, arith, Bool, true}
use Rattle.std.proofs.Common.{false, not, Option, Some, None, nat_lt, pos, refl, sym, ◌∙◌, subst, if◌then◌else◌}
use Rattle.std.specs.Option.{option_map}
use Rattle.std.specs.Prelude.{int_lt}
use Rattle.jc_api.specs.declared.class.ApiClass.TheVariants as api
use Rattle.jc_cap_desc.specs.Shape.{Shape}
use Rattle.jc_classes.specs.Members.{DeclaredMethod}
use Rattle.jc_classes.specs.Subtype.{is_class_below}
use Rattle.jc_code.specs.declared.object.Creation.{Creation}
use Rattle.jc_code.specs.declared.object.Creation.TheVariants as Creations
use Rattle.jc_code.specs.declared.object.WordKind.{WordKind}
use Rattle.jc_code.specs.declared.object.WordKind.TheVariants as Kinds
use Rattle.jc_link.specs.MemberType.{counted}
use Rattle.jc_link.specs.declared.target.PoolTarget.{PoolTarget}
use Rattle.jc_names.specs.declared.name.ClassName.{ClassName}
use Rattle.jc_names.specs.declared.name.ClassName.TheVariants.{Api}
use Rattle.jc_effects.specs.Objects as checked
use Rattle.jc_effects.specs.Objects.{Setting, class_of_entry, class_target, creation_row, has_objects, if_form, reference_array}
use Rattle.jc_effects.specs.Row.{Row}
use Rattle.jc_effects.specs.Words.{takes, word}
use Rattle.jc_effects.specs.declared.row.Given.TheVariants.{Exactly}
use Rattle.jc_store.specs.Heap as heaps
use Rattle.jc_store.specs.Heap.{Heap, next_number, object_at, with_cell, with_new, with_object}
use Rattle.jc_store.specs.declared.kind.Mark.TheVariants.{Plain}
use Rattle.jc_store.specs.declared.kind.ObjectType.{ObjectType}
use Rattle.jc_store.specs.declared.kind.ObjectType.TheVariants.{BooleanArray, ByteArray, Instance, ReferenceArray, ShortArray}
use Rattle.jc_types.specs.State.{Types}
use Rattle.jc_types.specs.declared.ty.Ty.{Ty}
use Rattle.jc_types.specs.declared.ty.Ty.TheVariants as types
use Rattle.jc_machine.specs.Going.{StepContext, check, gives, no_resource, on_word, throws_system}
use Rattle.jc_machine.specs.Lookup.{is_array, is_boolean_array, is_byte_array, is_short_array, leads_to}
use Rattle.jc_machine.specs.Machine.{Machine, Surroundings}
use Rattle.jc_machine.specs.Objects.{act_create, cells_of, creates, creates_array, has_space, made, word_array}
use Rattle.jc_machine.specs.Runtime.{negative_size_exception, system_exception}
use Rattle.jc_machine.specs.Typed.{CellsTyped, HaveTypes, HoldTypes, IsOperand, IsTyped, has_type, may_be_made}
use Rattle.jc_words.specs.Shorts.{short}
use Rattle.jc_words.specs.Values.{Null, Ref, TaggedValue, Word}
use Rattle.jc_safety.proofs.Below.{counted_reflexive}
use Rattle.jc_safety.proofs.Blank.{no_field}
use Rattle.jc_safety.proofs.Creating.{booleans_made, bytes_made, count_fits, instance_made, references_made, shorts_made}
use Rattle.jc_safety.proofs.FieldRows.{from_entry}
use Rattle.jc_safety.proofs.Fields.{unformed}
use Rattle.jc_safety.proofs.Upward.{holds_below}
use Rattle.jc_safety.proofs.Goes.{arrives, method, placed, room_left, throws_with}
use Rattle.jc_safety.proofs.Ground.{Ground}
use Rattle.jc_safety.proofs.Growing.{operands_still, statics_still, types_still}
use Rattle.jc_safety.proofs.Lists.{get_last, put_points}
use Rattle.jc_safety.proofs.Naming.{named_class}
use Rattle.jc_safety.proofs.Rows as rows
use Rattle.jc_safety.proofs.Safe.{IsSafe, safe_check, safe_some}
use Rattle.jc_safety.proofs.Taking.{Applied, HasRow, leaves_one, take_one, word_case}
use Rattle.jc_safety.proofs.Thrown as thrown
use Rattle.jc_safety.proofs.Writing.{made_typed, typed_at, written}

module _ {C : Type 0} (s : Surroundings C) (ground : Ground s) (m : Machine C) (t : IsTyped s m) (d : DeclaredMethod)
    (next : ℕ) where
  abbrev at : List TaggedValue → StepContext C
  at vs = rows.here s ground m t d next vs

  abbrev shapes : List Shape
  shapes = s.world.shapes

  abbrev most : ℕ
  most = rows.most s ground m t

  abbrev state : Types
  state = rows.state s ground m t

  abbrev below : ClassName → ClassName → Bool
  below = rows.below s ground m t

  abbrev LeadsTo : Types → ℕ → Type 0
  LeadsTo after pc = rows.LeadsTo s ground m t after pc

  -- ---- without room the runtime throws

  reason_fits : (o : heaps.Object TaggedValue) (reason : ℕ) → nat_lt reason 65536 ≡ true
      → o.kind.object_type ≡ Instance (Api api.SystemException) → CellsTyped shapes m.heap o.cells o.kind.object_type
      → CellsTyped shapes m.heap (set o.cells 0 (Word reason)) o.kind.object_type
  reason_fits o reason small is typed = grind (arith, set, put_points, no_field)

  pub system_thrown : (us : List TaggedValue) (reason : ℕ) → nat_lt reason 65536 ≡ true
      → IsSafe s (throws_system (at us) reason)
  system_thrown us reason small =
      let h = t.beside.runtime_objects.1.1.1.1.1.1.1.1.0 in
      let typed = typed_at shapes m.heap t.beside.heap system_exception h.object h.found in
      let heap = with_object m.heap system_exception (with_cell h.object 0 (Word reason)) in
      let w = written shapes m.heap t.beside.heap system_exception h.object 0 (Word reason) h.found
      (reason_fits h.object reason small h.type typed.cells) in
      safe_some s (object_at m.heap system_exception) h.object _ h.found
      (record {
        fine =
            throws_with s ground m t heap w.typed w.keeps us system_exception
            (thrown.system s ground heap (ground.objects_stay m.heap heap w.keeps t.beside.runtime_objects));
      })

  -- ---- an object is made

  abbrev new_object : ObjectType → List TaggedValue → heaps.Object TaggedValue
  new_object object cells = record {
    kind = record { object_type = object; mark = Plain; clears = None };
    owner = m.top.active;
    cells = cells;
  }

  -- a reference to it has the type
  abbrev IsOfNew : ObjectType → Ty → Type 0
  IsOfNew object u =
      (heap : Heap TaggedValue) (n : ℕ) (o : heaps.Object TaggedValue) → object_at heap n ≡ Some o
      → o.kind.object_type ≡ object → has_type shapes heap (Ref n) u ≡ true

  pub creates_safe : (us vs : List TaggedValue) (object : ObjectType) (cells : List TaggedValue) (u : Ty)
      → (after_it : Types) → may_be_made shapes object ≡ true → CellsTyped shapes m.heap cells object
      → (is_array object ≡ true → length cells < 65536) → IsOfNew object u
      → nat_lt (length vs) most ≡ true → HaveTypes shapes m.heap m.top.locals after_it.locals
      → (us_are : List Ty) → HoldTypes shapes m.heap vs us_are → u ∷ us_are ≡ after_it.operands
      → LeadsTo after_it next → IsSafe s (creates (at us) object cells vs)
  creates_safe us vs object cells u after_it may typed few fits room has us_are holds are leads =
      by_space (has_space (at us) cells)
    where
      by_space : (b : Bool) → IsSafe s (if b
          then gives (made (at us) object cells) (Ref (next_number m.heap)) vs
          else throws_system (at us) no_resource)
      by_space true =
          let o = new_object object cells in
          let heap = with_new m.heap o in
          let w = made_typed shapes m.heap t.beside.heap o (record { made = may; cells = typed; counted = few }) in
          let new : IsOperand shapes heap (Ref (next_number m.heap)) u =
          record { type = fits heap (next_number m.heap) o (get_last m.heap o) refl; written = refl } in
          let all = subst (λ (x : List Ty). HoldTypes shapes heap (Ref (next_number m.heap) ∷ vs) x) are
          (new, operands_still m.heap heap w.keeps shapes vs us_are holds) in
          safe_check s (nat_lt (length vs) most) _ room
          (record {
            fine =
                arrives s ground m t heap m.statics w.typed
                (statics_still s.world m.heap heap w.keeps m.statics t.beside.statics) w.keeps next m.top.locals
                (Ref (next_number m.heap) ∷ vs) after_it
                (types_still m.heap heap w.keeps shapes m.top.locals after_it.locals has) all leads;
          })
      by_space false = system_thrown us no_resource refl

  -- ---- arrays

  pub creates_array_safe : (us vs : List TaggedValue) (object : ObjectType) (v : TaggedValue) (count : ℕ) (u : Ty)
      → (after_it : Types) → nat_lt count 65536 ≡ true → may_be_made shapes object ≡ true
      → ((n : ℕ) → CellsTyped shapes m.heap (replicate n v) object) → IsOfNew object u
      → nat_lt (length vs) most ≡ true → HaveTypes shapes m.heap m.top.locals after_it.locals
      → (us_are : List Ty) → HoldTypes shapes m.heap vs us_are → u ∷ us_are ≡ after_it.operands
      → LeadsTo after_it next → IsSafe s (creates_array (at us) object v count vs)
  creates_array_safe us vs object v count u after_it small may typed fits room has us_are holds are leads =
      rows.safe_required s ground m t d next us negative_size_exception (not (int_lt (short count) (pos 0))) _
      (thrown.negative_size s ground m.heap t.beside.runtime_objects)
      (λ positive.
      creates_safe us vs object (replicate count v) u after_it may (typed count)
      (λ is. count_fits count v small positive) fits room has us_are holds are leads)

  -- with a count off the operands
  array_row : (object : ObjectType) (v : TaggedValue) (u : Ty) (after_it : Types) → may_be_made shapes object ≡ true
      → ((n : ℕ) → CellsTyped shapes m.heap (replicate n v) object) → IsOfNew object u
      → Applied below most (takes (word ∷ []) (Exactly u)) state after_it → LeadsTo after_it next
      → IsSafe s (on_word m.top.operands (λ count vs. creates_array (at m.top.operands) object v count vs))
  array_row object v u after_it may typed fits a leads =
      let l = leaves_one below most (word ∷ []) state after_it u a in
      take_one shapes m.heap
      (λ us. IsSafe s (on_word us (λ count vs. creates_array (at m.top.operands) object v count vs))) word
      m.top.operands
      state.operands t.top.operands_typed a.enough
      (rows.met_by s ground m t (takes (word ∷ []) (Exactly u)) after_it a)
      (λ x vs is rest.
      word_case shapes m.heap
      (λ y. IsSafe s (on_word (y ∷ vs) (λ count vs. creates_array (at m.top.operands) object v count vs))) x is
      (λ count small.
      creates_array_safe m.top.operands vs object v count u after_it small may typed fits
      (room_left shapes m.heap most 1 state.operands vs a.enough a.room rest)
      (rows.locals_still s ground m t after_it.locals l.locals_are) (drop 1 state.operands) rest l.operands_are leads))

  -- ---- the instructions

  -- a new object's reference, by what it is
  by_class : (c k : ClassName) → is_class_below shapes c k ≡ true → IsOfNew (Instance c) (types.Class k)
  by_class c k e heap n o found is = grind arith

  by_test : (test : ObjectType → Bool) (object : ObjectType) → test object ≡ true → (heap : Heap TaggedValue) (n : ℕ)
      → (o : heaps.Object TaggedValue) → object_at heap n ≡ Some o → o.kind.object_type ≡ object
      → leads_to heap test (Ref n) ≡ true
  by_test test object e heap n o found is = grind arith

  word_array_safe : (kind : WordKind) (after_it : Types)
      → Applied below most (takes (word ∷ []) (Exactly (checked.word_array kind))) state after_it
      → LeadsTo after_it next
      → IsSafe s (on_word m.top.operands (λ count vs. creates_array (at m.top.operands) (word_array kind) (Word 0) count vs))
  word_array_safe Kinds.Boolean after_it a leads =
      array_row BooleanArray (Word 0) types.BooleanArray after_it refl (booleans_made shapes m.heap)
      (by_test is_boolean_array BooleanArray refl) a leads
  word_array_safe Kinds.Byte after_it a leads =
      array_row ByteArray (Word 0) types.ByteArray after_it refl (bytes_made shapes m.heap)
      (by_test is_byte_array ByteArray refl) a leads
  word_array_safe Kinds.Short after_it a leads =
      array_row ShortArray (Word 0) types.ShortArray after_it refl (shorts_made shapes m.heap)
      (by_test is_short_array ShortArray refl) a leads

  abbrev its_entry : ℕ → Option PoolTarget
  its_entry index = slice_get (placed s ground m t).body.targets index

  object_row_safe : (index : ℕ) (target : PoolTarget) (c : ClassName) → its_entry index ≡ Some target
      → class_target target ≡ Some c → (after_it : Types)
      → Applied below most (if_form (has_objects (rows.before s ground m t) c) (takes [] (Exactly (types.Class c)))) state after_it
      → LeadsTo after_it next → IsSafe s (act_create (at m.top.operands) (Creations.Object index))
  object_row_safe index target c there is after_it a leads =
      let p = placed s ground m t in
      let named = named_class s.world m.top.method.number p.body (ground.packages m.top.method.number p.body p.loaded)
      index target c there is in
      let may = named.objects ∙ a.fits in
      let b = unformed below most (has_objects (rows.before s ground m t) c) (takes [] (Exactly (types.Class c))) state
      after_it refl a in
      let l = leaves_one below most [] state after_it (types.Class c) b in
      rows.safe_target s ground m t d next m.top.operands index class_target target c
      (λ c. check (has_objects shapes c) (creates (at m.top.operands) (Instance c) (cells_of shapes c) m.top.operands))
      there is
      (safe_check s (has_objects shapes c) _ may
      (creates_safe m.top.operands m.top.operands (Instance c) (cells_of shapes c) (types.Class c) after_it may
      (instance_made shapes m.heap c) (λ is. absurd cc) (by_class c c (ground.order.reflexive c))
      (room_left shapes m.heap most 0 state.operands m.top.operands b.enough b.room t.top.operands_typed)
      (rows.locals_still s ground m t after_it.locals l.locals_are) state.operands t.top.operands_typed l.operands_are
      leads))

  reference_row_safe : (index : ℕ) (target : PoolTarget) (c : ClassName) → its_entry index ≡ Some target
      → class_target target ≡ Some c → (after_it : Types)
      → Applied below most (takes (word ∷ []) (Exactly (reference_array (rows.before s ground m t) c))) state after_it
      → LeadsTo after_it next → IsSafe s (act_create (at m.top.operands) (Creations.ReferenceArray index))
  reference_row_safe index target c there is after_it a leads =
      let p = placed s ground m t in
      let named = named_class s.world m.top.method.number p.body (ground.packages m.top.method.number p.body p.loaded)
      index target c there is in
      let counts : is_class_below shapes (counted shapes c) (counted (rows.before s ground m t) c) ≡ true =
      subst (λ (k : ClassName). is_class_below shapes (counted shapes c) k ≡ true) named.counts
      (counted_reflexive s ground c) in
      rows.safe_target s ground m t d next m.top.operands index class_target target c
      (λ c. on_word m.top.operands (λ count vs. creates_array (at m.top.operands) (ReferenceArray c) Null count vs))
      there is
      (array_row (ReferenceArray c) Null (reference_array (rows.before s ground m t) c) after_it refl
      (references_made shapes m.heap c)
      (by_test (holds_below shapes (counted (rows.before s ground m t) c)) (ReferenceArray c) counts) a leads)

  abbrev pub setting : Setting
  setting = record {
    world = rows.before s ground m t;
    targets = (placed s ground m t).body.targets;
    returned = (method s ground m t).returned;
  }

  pub mapped_some : {A B : Type 0} (f : A → B) (o : Option A) (b : B) → option_map f o ≡ Some b
      → (a : A) × (o ≡ Some a) × (f a ≡ b)
  mapped_some f o b h1 = grind arith

  pub create : (creation : Creation) (after_it : Types)
      → HasRow below most (creation_row setting creation) state after_it → LeadsTo after_it next
      → IsSafe s (act_create (at m.top.operands) creation)
  create (Creations.Object index) after_it h leads =
      let x = mapped_some (λ (c : ClassName). if_form (has_objects setting.world c)
      (takes [] (Exactly (types.Class c))))
      (class_of_entry setting index) h.found h.is in
      let f = from_entry class_target (its_entry index) x.0 x.1 in
      object_row_safe index f.target x.0 f.is f.gives after_it
      (subst (λ (r : Row). Applied below most r state after_it) (sym x.2) h.applied) leads
  create (Creations.WordArray kind) after_it h leads =
      let same : takes (word ∷ []) (Exactly (checked.word_array kind)) ≡ h.found = cc in
      word_array_safe kind after_it (subst (λ (r : Row). Applied below most r state after_it) (sym same) h.applied)
      leads
  create (Creations.ReferenceArray index) after_it h leads =
      let x = mapped_some (λ (c : ClassName). takes (word ∷ []) (Exactly (reference_array setting.world c)))
      (class_of_entry setting index) h.found h.is in
      let f = from_entry class_target (its_entry index) x.0 x.1 in
      reference_row_safe index f.target x.0 f.is f.gives after_it
      (subst (λ (r : Row). Applied below most r state after_it) (sym x.2) h.applied) leads
