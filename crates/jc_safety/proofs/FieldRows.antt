-- Instructions on fields are safe, whichever field their entry of the constant pool is.
use Rattle.std.proofs.Common.{◌≡◌, ℕ, List, [], ◌∷◌, slice_get, drop, Bool, true, false, Option, Some, None, refl, sym, arith}
use Rattle.std.proofs.Common.{subst}
use Rattle.std.specs.Option.{option_and_then, option_map, option_map_or}
use Rattle.jc_base.specs.declared.declared_type.DeclaredType.{DeclaredType}
use Rattle.jc_cap_desc.specs.Shape.{Shape}
use Rattle.jc_classes.specs.Members.{DeclaredMethod}
use Rattle.jc_classes.specs.Subtype.{is_class_below}
use Rattle.jc_code.specs.declared.object.FieldAccess.{FieldAccess}
use Rattle.jc_code.specs.declared.object.FieldAction.{FieldAction}
use Rattle.jc_code.specs.declared.object.FieldAction.TheVariants.{Get, Put}
use Rattle.jc_code.specs.declared.object.Form.{Form}
use Rattle.jc_code.specs.declared.object.Holder.{Holder}
use Rattle.jc_code.specs.declared.object.Holder.TheVariants as Holders
use Rattle.jc_firewall.specs.declared.access.Access.TheVariants.{PutStaticReference}
use Rattle.jc_link.specs.Target.{static_type_of}
use Rattle.jc_link.specs.declared.named.StaticPlace.{StaticPlace}
use Rattle.jc_link.specs.declared.target.PoolTarget.{PoolTarget}
use Rattle.jc_link.specs.declared.target.PoolTarget.TheVariants as To
use Rattle.jc_names.specs.Names.{home_at}
use Rattle.jc_names.specs.declared.name.ClassName.{ClassName}
use Rattle.jc_effects.specs.Objects.{field_row, if_form, is_form_of, object_holder_row, operand_row}
use Rattle.jc_effects.specs.Objects.{static_holder_row, static_row, this_row}
use Rattle.jc_effects.specs.Row.{Row}
use Rattle.jc_effects.specs.Words.{takes}
use Rattle.jc_effects.specs.declared.row.Demand.TheVariants.{Below}
use Rattle.jc_effects.specs.declared.row.Given.TheVariants.{Exactly, Nothing}
use Rattle.jc_store.specs.Heap as heaps
use Rattle.jc_store.specs.Heap.{Heap, object_at}
use Rattle.jc_types.specs.State.{Types}
use Rattle.jc_types.specs.Ty.{type_of_declared}
use Rattle.jc_machine.specs.Arrays.{stored_as}
use Rattle.jc_machine.specs.Fields.{act_field, act_get_static, act_on_target, act_put_static, field_target, of_class}
use Rattle.jc_machine.specs.Fields.{of_objects, put_static, static_at, stored_in_static, with_static}
use Rattle.jc_machine.specs.Going.{StepContext, check, leaves_operands, on_some, on_top}
use Rattle.jc_machine.specs.Lookup.{fields_of, is_of_type, leads_to}
use Rattle.jc_machine.specs.Machine.{Machine, Stepped, Surroundings}
use Rattle.jc_machine.specs.Typed.{HaveTypes, HoldTypes, IsTyped, has_type}
use Rattle.jc_words.specs.Values.{Null, Ref, TaggedValue, Unset, Word, is_written}
use Rattle.jc_safety.proofs.Fields.{get_operand, get_this, loaded_typed, put_operand, put_this, stored_typed, unformed}
use Rattle.jc_safety.proofs.Goes.{arrives, placed}
use Rattle.jc_safety.proofs.Ground.{Ground}
use Rattle.jc_safety.proofs.Growing.{keeps_self}
use Rattle.jc_safety.proofs.Returning.{of_declared}
use Rattle.jc_safety.proofs.Loads.{safe_loads}
use Rattle.jc_safety.proofs.Rows as rows
use Rattle.jc_safety.proofs.Safe.{IsSafe, safe_check, safe_some}
use Rattle.jc_safety.proofs.StaticWrites.{put_typed}
use Rattle.jc_safety.proofs.Statics.{entry_of, static_type_said, value_there, value_typed}
use Rattle.jc_safety.proofs.Upward.{leads_up}
use Rattle.jc_safety.proofs.Taking.{Applied, HasRow, any_object, leaves_nothing, take_one}

-- what an entry is, where something is made of it
pub record FromEntry {A : Type 0} (f : PoolTarget → Option A) (o : Option PoolTarget) (a : A) : Type 0 where
  pub target : PoolTarget
  pub is : o ≡ Some target
  pub gives : f target ≡ Some a

pub from_entry : {A : Type 0} (f : PoolTarget → Option A) (o : Option PoolTarget) (a : A) → option_and_then f o ≡ Some a
    → FromEntry f o a
from_entry f o a h1 = grind arith

-- a reference of a declared type leads to an object
ref_there : (world : List Shape) (heap : Heap TaggedValue) (e : DeclaredType ClassName) (n : ℕ)
    → has_type world heap (Ref n) (type_of_declared e) ≡ true → leads_to heap any_object (Ref n) ≡ true
ref_there world heap e n h1 = grind (arith, leads_up, any_object)

module _ {C : Type 0} (s : Surroundings C) (ground : Ground s) (m : Machine C) (t : IsTyped s m) (d : DeclaredMethod)
    (next : ℕ) where
  abbrev at : List TaggedValue → StepContext C
  at vs = rows.here s ground m t d next vs

  abbrev shapes : List Shape
  shapes = s.world.shapes

  abbrev most : ℕ
  most = rows.most s ground m t

  abbrev state : Types
  state = rows.state s ground m t

  abbrev below : ClassName → ClassName → Bool
  below = rows.below s ground m t

  abbrev LeadsTo : Types → ℕ → Type 0
  LeadsTo after pc = rows.LeadsTo s ground m t after pc

  -- ---- static fields

  module _ (place : StaticPlace) (declared : DeclaredType ClassName)
      (said : static_type_of shapes place ≡ Some declared) where
    get_static : (form : Form) (after_it : Types) → is_form_of form declared ≡ true
        → Applied below most (takes [] (Exactly (type_of_declared declared))) state after_it
        → LeadsTo after_it next → IsSafe s (act_get_static (at m.top.operands) form place)
    get_static form after_it of_form a leads =
        let x = value_there s.world m.heap m.statics t.beside.statics place declared said in
        let kept = value_typed s.world m.heap m.statics t.beside.statics place declared said x.0 x.1 in
        let l = loaded_typed shapes m.heap form declared (x.0).value of_form kept in
        safe_some s (static_at m.statics place.home place.offset) x.0 _ x.1
        (safe_loads s (at m.top.operands) form (x.0).value m.top.operands shapes m.heap (type_of_declared declared) l
        (rows.gives_it s ground m t d next [] m.top.operands m.top.operands l.value (type_of_declared declared)
        after_it a l.operand t.top.operands_typed leads))

    -- the field is put, and the frame goes on
    put_it : (form : Form) (us vs : List TaggedValue) (v : TaggedValue) (after_it : Types)
        → is_form_of form declared ≡ true
        → has_type shapes m.heap v (type_of_declared declared) ≡ true
        → HaveTypes shapes m.heap m.top.locals after_it.locals → HoldTypes shapes m.heap vs after_it.operands
        → LeadsTo after_it next
        → IsSafe s (leaves_operands (put_static (at us) place (stored_as form v)) vs)
    put_it form us vs v after_it of_form typed has holds leads = record {
      fine =
          arrives s ground m t m.heap (with_static m.statics place.home place.offset (stored_as form v)) t.beside.heap
          (put_typed s.world m.heap m.statics t.beside.statics place declared said (stored_as form v)
          (stored_typed shapes m.heap form declared v of_form typed))
          (keeps_self m.heap) next m.top.locals vs after_it has holds leads;
    }

    -- an object to which a reference is stored is there
    object_stored : (us : List TaggedValue) (v : TaggedValue) (x : Stepped C) → is_written v ≡ true
        → has_type shapes m.heap v (type_of_declared declared) ≡ true
        → IsSafe s x → IsSafe s (stored_in_static (at us) v x)
    object_stored us (Word n) x w h safe = safe
    object_stored us (Ref n) x w h safe = by_object (object_at m.heap n) refl (ref_there shapes m.heap declared n h)
      where
        by_object : (o : Option (heaps.Object TaggedValue)) → object_at m.heap n ≡ o
            → option_map_or (λ (o : heaps.Object TaggedValue). any_object o.kind.object_type) o false ≡ true
            → IsSafe s (stored_in_static (at us) (Ref n) x)
        by_object None e there = absurd cc
        by_object (Some o) e there =
            safe_some s (object_at m.heap n) o _ e
            (rows.safe_to_store s ground m t d next us PutStaticReference n o (Ref n) x safe)
    object_stored us Null x w h safe = safe
    object_stored us Unset x w h safe = absurd cc

    put_static_safe : (form : Form) (after_it : Types) → is_form_of form declared ≡ true
        → Applied below most (takes (Below (type_of_declared declared) ∷ []) Nothing) state after_it
        → LeadsTo after_it next → IsSafe s (act_put_static (at m.top.operands) form place declared)
    put_static_safe form after_it of_form a leads =
        let ds = Below (type_of_declared declared) ∷ [] in
        let l = leaves_nothing below most ds state after_it a in
        let y = value_there s.world m.heap m.statics t.beside.statics place declared said in
        take_one shapes m.heap (λ us. IsSafe s (on_top us (λ v vs. check (is_of_type shapes m.heap declared v)
        (on_some (static_at m.statics place.home place.offset) (λ s.
        stored_in_static (at m.top.operands) v (leaves_operands
        (put_static (at m.top.operands) place (stored_as form v)) vs))))))
        (Below (type_of_declared declared)) m.top.operands state.operands t.top.operands_typed a.enough
        (rows.met_by s ground m t (takes ds Nothing) after_it a)
        (λ v vs is rest.
        safe_check s (is_of_type shapes m.heap declared v) _ (of_declared shapes m.heap declared v is.type)
        (safe_some s (static_at m.statics place.home place.offset) y.0 _ y.1
        (object_stored m.top.operands v (leaves_operands (put_static (at m.top.operands) place (stored_as form v)) vs)
        is.written is.type
        (put_it form m.top.operands vs v after_it of_form is.type
        (rows.locals_still s ground m t after_it.locals l.locals_are)
        (rows.held s ground m t (drop 1 state.operands) after_it.operands vs l.operands_are rest) leads))))

  -- ---- by what the entry is

  static_case : (form : Form) (action : FieldAction) (holder : Holder) (place : StaticPlace)
      → (declared : DeclaredType ClassName) → static_type_of shapes place ≡ Some declared → (r : Row) (after_it : Types)
      → option_map (if_form (is_form_of form declared)) (static_holder_row holder action (type_of_declared declared)) ≡ Some r
      → Applied below most r state after_it → LeadsTo after_it next
      → IsSafe s (act_on_target (at m.top.operands) (record { form = form; action = action; holder = holder }) (of_class place declared))
  static_case form Get Holders.Class place declared said r after_it e a leads =
      let is : if_form (is_form_of form declared) (static_row Get (type_of_declared declared)) ≡ r = cc in
      let b = subst (λ (x : Row). Applied below most x state after_it) (sym is) a in
      safe_check s (is_form_of form declared) _ b.fits
      (get_static place declared said form after_it b.fits
      (unformed below most (is_form_of form declared) (static_row Get (type_of_declared declared)) state after_it refl
      b) leads)
  static_case form Put Holders.Class place declared said r after_it e a leads =
      let is : if_form (is_form_of form declared) (static_row Put (type_of_declared declared)) ≡ r = cc in
      let b = subst (λ (x : Row). Applied below most x state after_it) (sym is) a in
      safe_check s (is_form_of form declared) _ b.fits
      (put_static_safe place declared said form after_it b.fits
      (unformed below most (is_form_of form declared) (static_row Put (type_of_declared declared)) state after_it refl
      b) leads)
  static_case form action Holders.Operand place declared said r after_it e a leads = absurd cc
  static_case form action Holders.This place declared said r after_it e a leads = absurd cc

  abbrev HasField : ClassName → ℕ → DeclaredType ClassName → Type 0
  HasField class cell declared = (c : ClassName) → is_class_below shapes c class ≡ true
      → slice_get (fields_of shapes c) cell ≡ Some (Some declared)

  instance_case : (form : Form) (action : FieldAction) (holder : Holder) (class : ClassName) (cell : ℕ)
      → (declared : DeclaredType ClassName) → HasField class cell declared → (r : Row) (after_it : Types)
      → option_map (if_form (is_form_of form declared)) (object_holder_row holder action class (type_of_declared declared)) ≡ Some r
      → Applied below most r state after_it → LeadsTo after_it next
      → IsSafe s (act_on_target (at m.top.operands) (record { form = form; action = action; holder = holder })
      (of_objects (record { class = class; cell = cell; declared = declared })))
  instance_case form action Holders.Class class cell declared has r after_it e a leads = absurd cc
  instance_case form Get Holders.Operand class cell declared has r after_it e a leads =
      let is : if_form (is_form_of form declared) (operand_row Get class (type_of_declared declared)) ≡ r = cc in
      let b = subst (λ (x : Row). Applied below most x state after_it) (sym is) a in
      safe_check s (is_form_of form declared) _ b.fits
      (get_operand s ground m t d next class cell declared has form after_it b.fits
      (unformed below most (is_form_of form declared) (operand_row Get class (type_of_declared declared)) state after_it
      refl b) leads)
  instance_case form Put Holders.Operand class cell declared has r after_it e a leads =
      let is : if_form (is_form_of form declared) (operand_row Put class (type_of_declared declared)) ≡ r = cc in
      let b = subst (λ (x : Row). Applied below most x state after_it) (sym is) a in
      safe_check s (is_form_of form declared) _ b.fits
      (put_operand s ground m t d next class cell declared has form after_it b.fits
      (unformed below most (is_form_of form declared) (operand_row Put class (type_of_declared declared)) state after_it
      refl b) leads)
  instance_case form Get Holders.This class cell declared has r after_it e a leads =
      let is : if_form (is_form_of form declared) (this_row Get class (type_of_declared declared)) ≡ r = cc in
      let b = subst (λ (x : Row). Applied below most x state after_it) (sym is) a in
      safe_check s (is_form_of form declared) _ b.fits
      (get_this s ground m t d next class cell declared has form after_it b.fits
      (unformed below most (is_form_of form declared) (this_row Get class (type_of_declared declared)) state after_it
      refl b) leads)
  instance_case form Put Holders.This class cell declared has r after_it e a leads =
      let is : if_form (is_form_of form declared) (this_row Put class (type_of_declared declared)) ≡ r = cc in
      let b = subst (λ (x : Row). Applied below most x state after_it) (sym is) a in
      safe_check s (is_form_of form declared) _ b.fits
      (put_this s ground m t d next class cell declared has form after_it b.fits
      (unformed below most (is_form_of form declared) (this_row Put class (type_of_declared declared)) state after_it
      refl b) leads)

  target_case : (access : FieldAccess) (index : ℕ) (target : PoolTarget)
      → slice_get (placed s ground m t).body.targets index ≡ Some target → (r : Row) (after_it : Types)
      → field_row access target ≡ Some r → Applied below most r state after_it → LeadsTo after_it next
      → IsSafe s (act_field (at m.top.operands) access index)
  target_case access index (To.Class c) there r after_it e a leads = absurd cc
  target_case access index (To.InstanceField class cell declared) there r after_it e a leads =
      let entry = entry_of s.world m.top.method.number index (To.InstanceField class cell declared)
      (rows.entry s ground m t index (To.InstanceField class cell declared) there) in
      rows.safe_target s ground m t d next m.top.operands index field_target (To.InstanceField class cell declared)
      (of_objects (record { class = class; cell = cell; declared = declared }))
      (act_on_target (at m.top.operands) access)
      there refl
      (instance_case access.form access.action access.holder class cell declared
      (ground.fields (home_at m.top.method.number) entry.entry class cell declared entry.leads) r after_it e a leads)
  target_case access index (To.StaticField place declared) there r after_it e a leads =
      let entry = entry_of s.world m.top.method.number index (To.StaticField place declared)
      (rows.entry s ground m t index (To.StaticField place declared) there) in
      rows.safe_target s ground m t d next m.top.operands index field_target (To.StaticField place declared)
      (of_class place declared) (act_on_target (at m.top.operands) access) there refl
      (static_case access.form access.action access.holder place declared
      (static_type_said shapes place declared (home_at m.top.method.number) entry.entry entry.leads) r after_it e a
      leads)
  target_case access index (To.VirtualMethod class token signature) there r after_it e a leads = absurd cc
  target_case access index (To.SuperMethod class method signature) there r after_it e a leads = absurd cc
  target_case access index (To.StaticMethod class method is_static signature) there r after_it e a leads = absurd cc

  pub field_safe : (access : FieldAccess) (index : ℕ) (after_it : Types)
      → HasRow below most (option_and_then (field_row access) (slice_get (placed s ground m t).body.targets index)) state after_it
      → LeadsTo after_it next → IsSafe s (act_field (at m.top.operands) access index)
  field_safe access index after_it h leads =
      let f = from_entry (field_row access) (slice_get (placed s ground m t).body.targets index) h.found h.is in
      target_case access index f.target f.is h.found after_it f.gives h.applied leads
