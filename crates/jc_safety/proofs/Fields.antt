-- Instructions on fields are safe.
use Rattle.std.proofs.Common.{◌≡◌, ℕ, zero, suc, ◌<◌, List, [], ◌∷◌, length, set, slice_get, drop, Bool, true, Option}
use Rattle.std.proofs.Common.{Some, nat_lt, sym, ap, ◌∙◌, subst, arith}
use Rattle.std.proofs.lemmas.Bool.{lt-ltb}
use Rattle.jc_api.specs.declared.class.ApiClass.TheVariants as api
use Rattle.jc_base.specs.declared.declared_type.DeclaredType.{DeclaredType}
use Rattle.jc_base.specs.declared.declared_type.DeclaredType.TheVariants as Declared
use Rattle.jc_cap_desc.specs.Shape.{Shape}
use Rattle.jc_classes.specs.Members.{DeclaredMethod}
use Rattle.jc_code.specs.declared.object.Form.{Form}
use Rattle.jc_code.specs.declared.object.Form.TheVariants as Forms
use Rattle.jc_firewall.specs.declared.access.Access.TheVariants.{GetField}
use Rattle.jc_classes.specs.Subtype.{is_class_below}
use Rattle.jc_names.specs.declared.name.ClassName.{ClassName}
use Rattle.jc_names.specs.declared.name.ClassName.TheVariants.{Api}
use Rattle.jc_effects.specs.Objects.{if_form, is_form_of}
use Rattle.jc_effects.specs.Row.{Row, after}
use Rattle.jc_effects.specs.declared.row.Demand.{Demand}
use Rattle.jc_effects.specs.declared.row.Given.{Given}
use Rattle.jc_effects.specs.Words.{reads, takes}
use Rattle.jc_effects.specs.declared.row.Demand.TheVariants.{Below}
use Rattle.jc_effects.specs.declared.row.Given.TheVariants.{Exactly, Nothing}
use Rattle.jc_store.specs.Heap.{Heap, object_at}
use Rattle.jc_store.specs.declared.kind.ObjectType.{ObjectType}
use Rattle.jc_store.specs.declared.kind.ObjectType.TheVariants.{BooleanArray, ByteArray, Instance, ReferenceArray}
use Rattle.jc_store.specs.declared.kind.ObjectType.TheVariants.{ShortArray}
use Rattle.jc_types.specs.State.{Types}
use Rattle.jc_types.specs.Ty.{is_below, type_of_declared}
use Rattle.jc_types.specs.declared.ty.Ty.{Ty}
use Rattle.jc_types.specs.declared.ty.Ty.TheVariants as types
use Rattle.jc_machine.specs.Arrays.{loads, stored_as}
use Rattle.jc_machine.specs.Fields.{InstanceField, gets, puts, putting}
use Rattle.jc_machine.specs.Going.{StepContext, check, on_reference, on_reference_local, on_top}
use Rattle.jc_machine.specs.Lookup.{fields_of, is_byte, is_kept_as, is_of_class, is_of_type, is_word, leads_to}
use Rattle.jc_machine.specs.Machine.{Machine, Surroundings}
use Rattle.jc_machine.specs.Typed.{CellsTyped, HaveTypes, HoldTypes, IsTyped, has_type, is_cell}
use Rattle.jc_words.specs.Values.{TaggedValue, is_tagged_reference}
use Rattle.jc_safety.proofs.Blank.{no_field}
use Rattle.jc_safety.proofs.Goes.{placed, room_left, safe_gives}
use Rattle.jc_safety.proofs.Locals.{local_there, local_type, reads_nothing, reads_one}
use Rattle.jc_safety.proofs.Upward.{type_up}
use Rattle.jc_safety.proofs.Ground.{Ground}
use Rattle.jc_safety.proofs.Lists.{across, put_points}
use Rattle.jc_safety.proofs.Loads.{IsLoaded, byte_loaded, reference_loaded, safe_loads, short_loaded}
use Rattle.jc_safety.proofs.Returning.{of_declared}
use Rattle.jc_safety.proofs.Rows as rows
use Rattle.jc_safety.proofs.Safe.{IsSafe, safe_check, safe_some}
use Rattle.jc_safety.proofs.Taking.{Applied, leaves_nothing, take_one, take_two}
use Rattle.jc_safety.proofs.Writing.{byte_number, ref_case, typed_at, word_number}

-- ---- what a field holds, as it is loaded and stored

module _ (world : List Shape) (heap : Heap TaggedValue) where
  -- of a form's fields
  pub loaded_typed : (form : Form) (declared : DeclaredType ClassName) (v : TaggedValue)
      → is_form_of form declared ≡ true → is_kept_as world heap declared v ≡ true
      → IsLoaded world heap form v (type_of_declared declared)
  loaded_typed Forms.Reference Declared.Boolean v f h = absurd cc
  loaded_typed Forms.Reference Declared.Byte v f h = absurd cc
  loaded_typed Forms.Reference Declared.Short v f h = absurd cc
  loaded_typed Forms.Reference (Declared.Reference c) v f h = reference_loaded world heap _ _ v h h
  loaded_typed Forms.Reference Declared.BooleanArray v f h = reference_loaded world heap _ _ v h h
  loaded_typed Forms.Reference Declared.ByteArray v f h = reference_loaded world heap _ _ v h h
  loaded_typed Forms.Reference Declared.ShortArray v f h = reference_loaded world heap _ _ v h h
  loaded_typed Forms.Reference (Declared.ReferenceArray c) v f h = reference_loaded world heap _ _ v h h
  loaded_typed Forms.Byte Declared.Boolean v f h = byte_loaded world heap v (byte_number v h)
  loaded_typed Forms.Byte Declared.Byte v f h = byte_loaded world heap v (byte_number v h)
  loaded_typed Forms.Byte Declared.Short v f h = absurd cc
  loaded_typed Forms.Byte (Declared.Reference c) v f h = absurd cc
  loaded_typed Forms.Byte Declared.BooleanArray v f h = absurd cc
  loaded_typed Forms.Byte Declared.ByteArray v f h = absurd cc
  loaded_typed Forms.Byte Declared.ShortArray v f h = absurd cc
  loaded_typed Forms.Byte (Declared.ReferenceArray c) v f h = absurd cc
  loaded_typed Forms.Short Declared.Boolean v f h = absurd cc
  loaded_typed Forms.Short Declared.Byte v f h = absurd cc
  loaded_typed Forms.Short Declared.Short v f h = short_loaded world heap v (word_number v h)
  loaded_typed Forms.Short (Declared.Reference c) v f h = absurd cc
  loaded_typed Forms.Short Declared.BooleanArray v f h = absurd cc
  loaded_typed Forms.Short Declared.ByteArray v f h = absurd cc
  loaded_typed Forms.Short Declared.ShortArray v f h = absurd cc
  loaded_typed Forms.Short (Declared.ReferenceArray c) v f h = absurd cc

  stored_byte : (v : TaggedValue) → is_word v ≡ true → is_byte (stored_as Forms.Byte v) ≡ true
  stored_byte v h1 = grind (arith, lt-ltb)

  pub stored_typed : (form : Form) (declared : DeclaredType ClassName) (v : TaggedValue)
      → is_form_of form declared ≡ true → has_type world heap v (type_of_declared declared) ≡ true
      → is_kept_as world heap declared (stored_as form v) ≡ true
  stored_typed form declared v h1 h2 = grind (arith, stored_byte)

leads_is_reference : (heap : Heap TaggedValue) (test : ObjectType → Bool) (v : TaggedValue)
    → leads_to heap test v ≡ true
    → is_tagged_reference v ≡ true
leads_is_reference heap test v h1 = grind arith

within_length : (xs : List TaggedValue) (n : ℕ) (x : TaggedValue) → slice_get xs n ≡ Some x
    → nat_lt n (length xs) ≡ true
within_length xs n x e = lt-ltb n (length xs) (below_length xs n x e)
  where
    below_length : (xs : List TaggedValue) (n : ℕ) (x : TaggedValue) → slice_get xs n ≡ Some x → n < length xs
    below_length [] n x e = absurd cc
    below_length (y ∷ xs) zero x e = omega arith
    below_length (y ∷ xs) (suc n) x e = let k = below_length xs n x e in omega arith

-- ---- rows that apply whatever else has to hold

pub unformed : (below : ClassName → ClassName → Bool) (most : ℕ) (b : Bool) (row : Row) (s t : Types) → row.fits ≡ true
    → Applied below most (if_form b row) s t → Applied below most row s t
unfolding after
unformed below most b row s t fits a = grind arith

module _ {C : Type 0} (s : Surroundings C) (ground : Ground s) (m : Machine C) (t : IsTyped s m) (d : DeclaredMethod)
    (next : ℕ) where
  abbrev at : List TaggedValue → StepContext C
  at vs = rows.here s ground m t d next vs

  abbrev shapes : List Shape
  shapes = s.world.shapes

  abbrev most : ℕ
  most = rows.most s ground m t

  abbrev state : Types
  state = rows.state s ground m t

  abbrev below : ClassName → ClassName → Bool
  below = rows.below s ground m t

  abbrev LeadsTo : Types → ℕ → Type 0
  LeadsTo after pc = rows.LeadsTo s ground m t after pc

  -- ---- objects that have the field

  module _ (class : ClassName) (cell : ℕ) (declared : DeclaredType ClassName)
      (has : (c : ClassName) → is_class_below shapes c class ≡ true
      → slice_get (fields_of shapes c) cell ≡ Some (Some declared)) where
    -- no array has it
    no_array : (A : Type 0) → is_class_below shapes (Api api.Object) class ≡ true → A
    no_array A e = grind (arith, no_field)

    -- what its cell holds
    cell_has : (o : ObjectType) (cells : List TaggedValue) → is_of_class shapes class o ≡ true
        → CellsTyped shapes m.heap cells o
        → (v : TaggedValue) × (slice_get cells cell ≡ Some v) × (is_kept_as shapes m.heap declared v ≡ true)
    cell_has (Instance c) cells e typed =
        let a = across (λ v field. is_cell shapes m.heap field v ≡ true) cells (fields_of shapes c) cell (Some declared)
        typed (has c e) in
        (a.value, a.there, a.related)
    cell_has BooleanArray cells e typed = no_array _ e
    cell_has ByteArray cells e typed = no_array _ e
    cell_has ShortArray cells e typed = no_array _ e
    cell_has (ReferenceArray c) cells e typed = no_array _ e

    -- with a value of its type in that cell it is typed
    cell_put : (o : ObjectType) (cells : List TaggedValue) (v : TaggedValue) → is_of_class shapes class o ≡ true
        → is_kept_as shapes m.heap declared v ≡ true → CellsTyped shapes m.heap cells o
        → CellsTyped shapes m.heap (set cells cell v) o
    cell_put (Instance c) cells v e fits typed = search (arith, put_points, Option, no_array)
    cell_put BooleanArray cells v e fits typed = no_array _ e
    cell_put ByteArray cells v e fits typed = no_array _ e
    cell_put ShortArray cells v e fits typed = no_array _ e
    cell_put (ReferenceArray c) cells v e fits typed = no_array _ e

    abbrev field : InstanceField
    field = record { class = class; cell = cell; declared = declared }

    gets_safe : (form : Form) (us vs : List TaggedValue) (v : TaggedValue)
        → leads_to m.heap (is_of_class shapes class) v ≡ true
        → ((x : TaggedValue) → is_kept_as shapes m.heap declared x ≡ true
        → IsSafe s (loads (at us) form x vs))
        → IsSafe s (gets (at us) form field v vs)
    gets_safe form us vs v leads go =
        ref_case m.heap (is_of_class shapes class) (λ x. IsSafe s (gets (at us) form field x vs)) v leads
        (rows.safe_null s ground m t d next us)
        (λ n o found of_class.
        let c = cell_has o.kind.object_type o.cells of_class (typed_at shapes m.heap t.beside.heap n o found).cells in
        safe_some s (object_at m.heap n) o _ found
        (safe_check s (is_of_class shapes class o.kind.object_type) _ of_class
        (rows.safe_accessed s ground m t d next us GetField n o _
        (safe_some s (slice_get o.cells cell) c.0 _ c.1 (go c.0 c.2)))))

    puts_safe : (form : Form) (us vs : List TaggedValue) (v x : TaggedValue) (after_it : Types)
        → is_form_of form declared ≡ true → has_type shapes m.heap x (type_of_declared declared) ≡ true
        → leads_to m.heap (is_of_class shapes class) v ≡ true
        → HaveTypes shapes m.heap m.top.locals after_it.locals → HoldTypes shapes m.heap vs after_it.operands
        → LeadsTo after_it next → IsSafe s (puts (at us) form field v x vs)
    puts_safe form us vs v x after_it of_form x_typed leads has_locals holds goes =
        ref_case m.heap (is_of_class shapes class) (λ y. IsSafe s (puts (at us) form field y x vs)) v leads
        (rows.safe_null s ground m t d next us)
        (λ n o found of_class.
        let typed = (typed_at shapes m.heap t.beside.heap n o found).cells in
        let c = cell_has o.kind.object_type o.cells of_class typed in
        let fits = stored_typed shapes m.heap form declared x of_form x_typed in
        safe_some s (object_at m.heap n) o _ found
        (safe_check s (is_of_class shapes class o.kind.object_type) _ of_class
        (rows.safe_to_store s ground m t d next us (putting form) n o x _
        (safe_check s (nat_lt cell (length o.cells)) _ (within_length o.cells cell c.0 c.1)
        (rows.leaves_stored s ground m t d next us vs after_it n o cell (stored_as form x) found
        (cell_put o.kind.object_type o.cells (stored_as form x) of_class fits typed) has_locals holds goes)))))

    -- ---- the instructions

    pub get_operand : (form : Form) (after_it : Types) → is_form_of form declared ≡ true
        → Applied below most (takes (Below (types.Class class) ∷ []) (Exactly (type_of_declared declared))) state after_it
        → LeadsTo after_it next
        → IsSafe s (on_reference m.top.operands (gets (at m.top.operands) form field))
    get_operand form after_it of_form a leads =
        take_one shapes m.heap (λ us. IsSafe s (on_reference us (gets (at m.top.operands) form field)))
        (Below (types.Class class)) m.top.operands state.operands t.top.operands_typed a.enough
        (rows.met_by s ground m t (takes (Below (types.Class class) ∷ []) (Exactly (type_of_declared declared)))
        after_it a)
        (λ v vs is rest.
        safe_check s (is_tagged_reference v) _ (leads_is_reference m.heap (is_of_class shapes class) v is.type)
        (gets_safe form m.top.operands vs v is.type (λ x kept.
        let l = loaded_typed shapes m.heap form declared x of_form kept in
        safe_loads s (at m.top.operands) form x vs shapes m.heap (type_of_declared declared) l
        (rows.gives_it s ground m t d next (Below (types.Class class) ∷ []) m.top.operands vs l.value
        (type_of_declared declared) after_it a l.operand rest leads))))

    pub put_operand : (form : Form) (after_it : Types) → is_form_of form declared ≡ true
        → Applied below most (takes (Below (types.Class class) ∷ Below (type_of_declared declared) ∷ []) Nothing) state after_it
        → LeadsTo after_it next
        → IsSafe s (on_top m.top.operands (λ x us. check (is_of_type shapes m.heap declared x)
        (on_reference us (λ v vs. puts (at m.top.operands) form field v x vs))))
    put_operand form after_it of_form a leads =
        let ds = Below (types.Class class) ∷ Below (type_of_declared declared) ∷ [] in
        let l = leaves_nothing below most ds state after_it a in
        take_two shapes m.heap (λ us. IsSafe s (on_top us (λ x us. check (is_of_type shapes m.heap declared x)
        (on_reference us (λ v vs. puts (at m.top.operands) form field v x vs)))))
        (Below (types.Class class)) (Below (type_of_declared declared)) m.top.operands state.operands
        t.top.operands_typed a.enough (rows.met_by s ground m t (takes ds Nothing) after_it a)
        (λ x v vs x_is is rest.
        safe_check s (is_of_type shapes m.heap declared x) _ (of_declared shapes m.heap declared x x_is.type)
        (safe_check s (is_tagged_reference v) _ (leads_is_reference m.heap (is_of_class shapes class) v is.type)
        (puts_safe form m.top.operands vs v x after_it of_form x_is.type is.type
        (rows.locals_still s ground m t after_it.locals l.locals_are)
        (rows.held s ground m t (drop 2 state.operands) after_it.operands vs l.operands_are rest) leads)))

    -- of the object in local 0
    this_there : (given : Given) (ds : List Demand) (after_it : Types)
        → Applied below most (reads 0 (Below (types.Class class)) ds given) state after_it
        → (v : TaggedValue) × (slice_get m.top.locals 0 ≡ Some v) × (leads_to m.heap (is_of_class shapes class) v ≡ true)
    this_there given ds after_it a =
        let l = local_there shapes m.heap m.top.locals state.locals 0 (placed s ground m t).locals_typed a.there in
        let is_type = local_type state.locals 0 l.type l.type_there in
        let met : is_below below l.type (types.Class class) ≡ true =
        ap (λ (u : Ty). is_below below u (types.Class class)) (sym is_type) ∙ a.local_met in (
          l.value,
          l.there,
          type_up shapes ground.order m.heap l.value l.type (types.Class class)
              ((rows.orders s ground m t).up l.type (types.Class class) met) l.has,
        )

    pub get_this : (form : Form) (after_it : Types) → is_form_of form declared ≡ true
        → Applied below most (reads 0 (Below (types.Class class)) [] (Exactly (type_of_declared declared))) state after_it
        → LeadsTo after_it next
        → IsSafe s (on_reference_local (slice_get m.top.locals 0) (λ v. gets (at m.top.operands) form field v m.top.operands))
    get_this form after_it of_form a leads =
        let l = this_there (Exactly (type_of_declared declared)) [] after_it a in
        let r = reads_one shapes (rows.before s ground m t) most 0 (Below (types.Class class)) [] state after_it
        (type_of_declared declared) a in
        let P : Option TaggedValue → Type 0 =
        λ o. IsSafe s (on_reference_local o (λ v. gets (at m.top.operands) form field v m.top.operands)) in
        subst P (sym l.1)
        (safe_check s (is_tagged_reference l.0) _ (leads_is_reference m.heap (is_of_class shapes class) l.0 l.2)
        (gets_safe form m.top.operands m.top.operands l.0 l.2 (λ x kept.
        let l = loaded_typed shapes m.heap form declared x of_form kept in
        safe_loads s (at m.top.operands) form x m.top.operands shapes m.heap (type_of_declared declared) l
        (safe_gives s ground m t d most next m.top.operands after_it l.value m.top.operands
        (room_left shapes m.heap most 0 state.operands m.top.operands a.enough a.room t.top.operands_typed)
        (rows.locals_still s ground m t after_it.locals r.locals_are)
        (rows.held s ground m t (type_of_declared declared ∷ state.operands) after_it.operands
        (l.value ∷ m.top.operands) r.operands_are (l.operand, t.top.operands_typed))
        leads))))

    pub put_this : (form : Form) (after_it : Types) → is_form_of form declared ≡ true
        → Applied below most (reads 0 (Below (types.Class class)) (Below (type_of_declared declared) ∷ []) Nothing) state after_it
        → LeadsTo after_it next
        → IsSafe s (on_top m.top.operands (λ x us. check (is_of_type shapes m.heap declared x)
        (on_reference_local (slice_get m.top.locals 0) (λ v. puts (at m.top.operands) form field v x us))))
    put_this form after_it of_form a leads =
        let ds = Below (type_of_declared declared) ∷ [] in
        let l = this_there Nothing ds after_it a in
        let r = reads_nothing shapes (rows.before s ground m t) most 0 (Below (types.Class class)) ds state after_it a
        in
        take_one shapes m.heap (λ us. IsSafe s (on_top us (λ x us. check (is_of_type shapes m.heap declared x)
        (on_reference_local (slice_get m.top.locals 0) (λ v. puts (at m.top.operands) form field v x us)))))
        (Below (type_of_declared declared)) m.top.operands state.operands t.top.operands_typed a.enough
        (rows.met_by s ground m t (reads 0 (Below (types.Class class)) ds Nothing) after_it a)
        (λ x vs x_is rest.
        let P : Option TaggedValue → Type 0 =
        λ o. IsSafe s (on_reference_local o (λ v. puts (at m.top.operands) form field v x vs)) in
        safe_check s (is_of_type shapes m.heap declared x) _ (of_declared shapes m.heap declared x x_is.type)
        (subst P (sym l.1)
        (safe_check s (is_tagged_reference l.0) _ (leads_is_reference m.heap (is_of_class shapes class) l.0 l.2)
        (puts_safe form m.top.operands vs l.0 x after_it of_form x_is.type l.2
        (rows.locals_still s ground m t after_it.locals r.locals_are)
        (rows.held s ground m t (drop 1 state.operands) after_it.operands vs r.operands_are rest) leads))))
