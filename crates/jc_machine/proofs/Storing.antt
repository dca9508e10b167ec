-- What is held stays such where objects stay, and so it is with what is stored.
use Rattle.std.proofs.Common.{◌≡◌, ◌⊎◌, inl, inr, ℕ, zero, suc, ◌==◌, ◌&&◌, ◌||◌, Bool, true, false, cond, not, List}
use Rattle.std.proofs.Common.{arith}
use Rattle.std.proofs.Common.{[], ◌∷◌, ◌++◌, Option, Some, None, refl, sym, ap, ◌∙◌, subst, slice_get, set, map}
use Rattle.std.proofs.Common.{replicate}
use Rattle.std.proofs.lemmas.Option.{none-some, same_Some}
use Rattle.std.specs.List.{AllByRecursion}
use Rattle.std.specs.Option.{option_map, option_map_or}
use Rattle.jc_base.specs.declared.declared_type.DeclaredType.{DeclaredType}
use Rattle.jc_base.specs.declared.declared_type.DeclaredType.TheVariants as Declared
use Rattle.jc_cap_desc.specs.Shape.{Shape}
use Rattle.jc_code.specs.declared.object.Form.{Form}
use Rattle.jc_code.specs.declared.object.Form.TheVariants as Forms
use Rattle.jc_firewall.specs.Verdict.{is_allowed, is_never_stored, runtime_context, stores_reference, verdict_of}
use Rattle.jc_firewall.specs.declared.access.Access.{Access}
use Rattle.jc_firewall.specs.declared.access.Facts.{Facts}
use Rattle.jc_firewall.specs.declared.access.Rule.TheVariants.{Storing}
use Rattle.jc_firewall.specs.declared.access.Verdict.{Verdict}
use Rattle.jc_firewall.specs.declared.access.Verdict.TheVariants.{Denied}
use Rattle.jc_names.specs.Names.{number_at}
use Rattle.jc_names.specs.declared.name.ClassName.{ClassName}
use Rattle.jc_effects.specs.Objects.{is_form_of}
use Rattle.jc_store.specs.Heap.{Heap, Object, object_at, with_cell, with_new, with_object}
use Rattle.jc_store.specs.declared.kind.ObjectKind.{ObjectKind}
use Rattle.jc_store.specs.declared.kind.Mark.{Mark}
use Rattle.jc_store.specs.declared.kind.ObjectType.{ObjectType}
use Rattle.jc_machine.specs.Arrays.{stored_as}
use Rattle.jc_machine.specs.Fields.{with_static, with_value, with_value_in}
use Rattle.jc_machine.specs.Going.{StepContext, facts_of, storing}
use Rattle.jc_machine.specs.Guarded.{is_blank}
use Rattle.jc_machine.specs.Lookup.{is_of_type, leads_to, mark_of, of_package, with_package, fields_of}
use Rattle.jc_machine.specs.Machine.{StaticValue}
use Rattle.jc_machine.specs.Natives.{KeepsObjects}
use Rattle.jc_machine.specs.Objects.{cells_of, initial}
use Rattle.jc_machine.specs.Storable.{FieldsHoldStorable, HoldStorable, is_librarys, is_storable, may_be_held}
use Rattle.jc_machine.specs.Storable.{may_be_static}
use Rattle.jc_words.specs.Values.{Null, Ref, TaggedValue, Unset, Word}
use Rattle.jc_machine.proofs.GuardingHeaps.{each_mapped}

-- ---- where objects stay

module _ (before after : Heap TaggedValue) (kept : KeepsObjects before after) where
  still : (test : Mark → Bool) (number : ℕ) (o : Option (Object TaggedValue)) → object_at before number ≡ o
      → option_map_or (λ (x : Object TaggedValue). test x.kind.mark) o false ≡ true
      → option_map_or (λ (x : Object TaggedValue). test x.kind.mark) (object_at after number) false ≡ true
  still test number None found e = absurd cc
  still test number (Some o) found e =
      let s = kept number o found in
      ap (λ (x : Option (Object TaggedValue)). option_map_or (λ (y : Object TaggedValue). test y.kind.mark) x false)
      s.found
      ∙ ap (λ (k : ObjectKind). test k.mark) s.kind ∙ e

  pub held_still : (v : TaggedValue) → may_be_held before v ≡ true → may_be_held after v ≡ true
  held_still (Word n) e = refl
  held_still (Ref n) e = still (λ (m : Mark). not (is_never_stored m)) n (object_at before n) refl e
  held_still Null e = refl
  held_still Unset e = refl

  pub static_still : (v : TaggedValue) → may_be_static before v ≡ true → may_be_static after v ≡ true
  static_still (Word n) e = refl
  static_still (Ref n) e = by_object (object_at before n) refl e
    where
      by_kind : (o p : Object TaggedValue) → p.kind ≡ o.kind → (is_storable o || is_librarys n o) ≡ true
          → (is_storable p || is_librarys n p) ≡ true
      by_kind o p same e = grind (arith, not)

      by_object : (o : Option (Object TaggedValue)) → object_at before n ≡ o
          → option_map_or (λ (x : Object TaggedValue). is_storable x || is_librarys n x) o false ≡ true
          → option_map_or (λ (x : Object TaggedValue). is_storable x || is_librarys n x) (object_at after n) false
          ≡ true
      by_object None found e = absurd cc
      by_object (Some o) found e =
          let s = kept n o found in
          ap (λ (x : Option (Object TaggedValue)).
          option_map_or (λ (y : Object TaggedValue). is_storable y || is_librarys n y) x false) s.found
          ∙ by_kind o s.object s.kind e
  static_still Null e = refl
  static_still Unset e = refl

  pub cells_still : (cells : List TaggedValue)
      → AllByRecursion (λ (v : TaggedValue). may_be_held before v ≡ true) cells
      → AllByRecursion (λ (v : TaggedValue). may_be_held after v ≡ true) cells
  cells_still cells h = each_mapped _ _ cells held_still h

  pub fields_still : (statics : List (List StaticValue)) → FieldsHoldStorable before statics
      → FieldsHoldStorable after statics
  fields_still statics h = grind (arith, each_mapped, static_still)

-- ---- lists

pub all_set : {A : Type 0} (P : A → Type 0) (xs : List A) (k : ℕ) (y : A) → AllByRecursion P xs → P y
    → AllByRecursion P (set xs k y)
all_set P [] k y h p = tt
all_set P (x ∷ xs) zero y h p = (p, h.1)
all_set P (x ∷ xs) (suc k) y h p = (h.0, all_set P xs k y h.1 p)

pub all_replicate : {A : Type 0} (P : A → Type 0) (count : ℕ) (x : A) → P x → AllByRecursion P (replicate count x)
all_replicate P zero x p = tt
all_replicate P (suc n) x p = (p, all_replicate P n x p)

pub all_map : {A B : Type 0} (P : B → Type 0) (f : A → B) (xs : List A) → ((x : A) → P (f x))
    → AllByRecursion P (map f xs)
all_map P f [] h = tt
all_map P f (x ∷ xs) h = (h x, all_map P f xs h)

-- ---- objects that are stored to, or new

get_set : {A : Type 0} (xs : List A) (k i : ℕ) (x y : A) → slice_get (set xs k x) i ≡ Some y
    → ((k ≡ i) × (y ≡ x)) ⊎ (slice_get xs i ≡ Some y)
get_set [] k i x y e = absurd (none-some y e)
get_set (z ∷ xs) zero zero x y e = inl (refl, sym (same_Some x y e))
get_set (z ∷ xs) zero (suc i) x y e = inr e
get_set (z ∷ xs) (suc k) zero x y e = inr e
get_set (z ∷ xs) (suc k) (suc i) x y e = search (arith, none-some, same_Some, get_set xs k i x y e)

module _ (heap : Heap TaggedValue) (holds : HoldStorable heap) where
  pub stored_holds : (number : ℕ) (object : Object TaggedValue) (index : ℕ) (v : TaggedValue)
      → object_at heap number ≡ Some object → may_be_held heap v ≡ true
      → KeepsObjects heap (with_object heap number (with_cell object index v))
      → HoldStorable (with_object heap number (with_cell object index v))
  stored_holds zero object index v there fine kept i o e = absurd (none-some object there)
  stored_holds (suc k) object index v there fine kept zero o e = absurd (none-some o e)
  stored_holds (suc k) object index v there fine kept (suc i) o e =
      cells_still heap (with_object heap (suc k) (with_cell object index v)) kept o.cells
      (elim (get_set heap k i (with_cell object index v) o e) [
        | inl new ↦
            subst (λ (x : Object TaggedValue). AllByRecursion (λ (w : TaggedValue). may_be_held heap w ≡ true) x.cells)
            (sym new.1)
            (all_set (λ (w : TaggedValue). may_be_held heap w ≡ true) object.cells index v
            (holds (suc k) object there) fine)
        | inr old ↦ holds (suc i) o old
      ])

  new_or_old : (xs : List (Object TaggedValue)) (new y : Object TaggedValue) (i : ℕ)
      → slice_get (xs ++ new ∷ []) i ≡ Some y → (slice_get xs i ≡ Some y) ⊎ (y ≡ new)
  new_or_old [] new y zero e = inr (sym (same_Some new y e))
  new_or_old [] new y (suc i) e = absurd (none-some y e)
  new_or_old (x ∷ xs) new y zero e = inl e
  new_or_old (x ∷ xs) new y (suc i) e = new_or_old xs new y i e

  pub new_holds : (new : Object TaggedValue) → KeepsObjects heap (with_new heap new)
      → AllByRecursion (λ (w : TaggedValue). may_be_held (with_new heap new) w ≡ true) new.cells
      → HoldStorable (with_new heap new)
  new_holds new kept fine zero o e = absurd (none-some o e)
  new_holds new kept fine (suc i) o e = elim (new_or_old heap new o i e) [
    | inl old ↦ cells_still heap (with_new heap new) kept o.cells (holds (suc i) o old)
    | inr is ↦
        subst
        (λ (x : Object TaggedValue). AllByRecursion
        (λ (w : TaggedValue). may_be_held (with_new heap new) w ≡ true) x.cells) (sym is) fine
  ]

-- ---- what objects hold at first

initial_blank : (d : DeclaredType ClassName) → is_blank (initial d) ≡ true
initial_blank d = grind arith

pub cells_blank : (world : List Shape) (c : ClassName)
    → AllByRecursion (λ (v : TaggedValue). is_blank v ≡ true) (cells_of world c)
cells_blank world c =
    all_map (λ (v : TaggedValue). is_blank v ≡ true)
    (λ (field : Option (DeclaredType ClassName)). option_map_or initial field (Word 0)) (fields_of world c) by_field
  where
    by_field : (field : Option (DeclaredType ClassName)) → is_blank (option_map_or initial field (Word 0)) ≡ true
    by_field field = grind (arith, initial_blank)

-- zero and null may be held
blank_held : (heap : Heap TaggedValue) (v : TaggedValue) → is_blank v ≡ true → may_be_held heap v ≡ true
blank_held heap v h = grind arith

pub blanks_held : (heap : Heap TaggedValue) (cells : List TaggedValue)
    → AllByRecursion (λ (v : TaggedValue). is_blank v ≡ true) cells
    → AllByRecursion (λ (v : TaggedValue). may_be_held heap v ≡ true) cells
blanks_held heap cells h =
    each_mapped (λ (v : TaggedValue). is_blank v ≡ true) (λ (v : TaggedValue). may_be_held heap v ≡ true) cells
    (blank_held heap) h

-- ---- static fields

pub held_static : (heap : Heap TaggedValue) (v : TaggedValue) → may_be_held heap v ≡ true
    → may_be_static heap v ≡ true
held_static heap (Word n) e = refl
held_static heap (Ref n) e = by_object (object_at heap n) e
  where
    first_is : (a b : Bool) → a ≡ true → (a || b) ≡ true
    first_is a b h1 = grind arith

    by_object : (o : Option (Object TaggedValue)) → option_map_or is_storable o false ≡ true
        → option_map_or (λ (x : Object TaggedValue). is_storable x || is_librarys n x) o false ≡ true
    by_object o h1 = grind (arith, first_is)
held_static heap Null e = refl
held_static heap Unset e = refl

pub held_as : (heap : Heap TaggedValue) (form : Form) (v : TaggedValue) → may_be_held heap v ≡ true
    → may_be_held heap (stored_as form v) ≡ true
held_as heap form v h1 = grind arith

module _ (heap : Heap TaggedValue) (offset : ℕ) (v : TaggedValue) (fine : may_be_static heap v ≡ true) where
  abbrev Holds : StaticValue → Type 0
  Holds s = may_be_static heap s.value ≡ true

  value_holds : (s : StaticValue) → Holds s → Holds (with_value offset v s)
  value_holds s h = by_offset (s.offset == offset)
    where
      by_offset : (b : Bool) → Holds (cond b (record { offset = offset; value = v }) s)
      by_offset b = grind arith

  values_hold : (fields : List StaticValue) → AllByRecursion Holds fields
      → AllByRecursion Holds (map (with_value offset v) fields)
  values_hold [] h = tt
  values_hold (s ∷ fields) h = (value_holds s h.0, values_hold fields h.1)

  got_all : (statics : List (List StaticValue)) (n : ℕ) (fields : List StaticValue)
      → FieldsHoldStorable heap statics → slice_get statics n ≡ Some fields → AllByRecursion Holds fields
  got_all [] n fields h e = absurd (none-some fields e)
  got_all (x ∷ xs) zero fields h e = subst (AllByRecursion Holds) (same_Some x fields e) h.0
  got_all (x ∷ xs) (suc n) fields h e = got_all xs n fields h.1 e

  in_package : (statics : List (List StaticValue)) (number : ℕ) (fields : Option (List StaticValue))
      → of_package statics number ≡ fields → FieldsHoldStorable heap statics
      → FieldsHoldStorable heap
      (option_map_or (λ fields. with_package statics number (map (with_value offset v) fields)) fields statics)
  in_package statics zero fields e h = by_fields fields
    where
      by_fields : (fields : Option (List StaticValue)) → FieldsHoldStorable heap
          (option_map_or (λ fields. with_package statics zero (map (with_value offset v) fields)) fields statics)
      by_fields fields = grind arith
  in_package statics (suc n) None e h = h
  in_package statics (suc n) (Some fields) e h =
      all_set (AllByRecursion Holds) statics n (map (with_value offset v) fields) h
      (values_hold fields (got_all statics n fields h e))

  by_home : (statics : List (List StaticValue)) (number : Option ℕ) → FieldsHoldStorable heap statics
      → FieldsHoldStorable heap
      (option_map_or (λ number. with_value_in statics number offset v) number statics)
  by_home statics number h1 = grind (arith, in_package)

  pub put_holds : (statics : List (List StaticValue)) (home : ℕ) → FieldsHoldStorable heap statics
      → FieldsHoldStorable heap (with_static statics home offset v)
  put_holds statics home h = by_home statics (number_at home) h

-- ---- what may be stored

-- a value that leads to an object that is there, if it leads to one
abbrev pub any_type : ObjectType → Bool
any_type type = true

pub leads_any : (heap : Heap TaggedValue) (test : ObjectType → Bool) (v : TaggedValue) → leads_to heap test v ≡ true
    → leads_to heap any_type v ≡ true
leads_any heap test (Word n) e = e
leads_any heap test (Ref n) e = by_object (object_at heap n) e
  where
    by_object : (o : Option (Object TaggedValue))
        → option_map_or (λ (x : Object TaggedValue). test x.kind.object_type) o false ≡ true
        → option_map_or (λ (x : Object TaggedValue). any_type x.kind.object_type) o false ≡ true
    by_object o h1 = grind arith
leads_any heap test Null e = refl
leads_any heap test Unset e = e

-- of a declared type that is a reference
pub typed_leads : (world : List Shape) (heap : Heap TaggedValue) (d : DeclaredType ClassName) (v : TaggedValue)
    → is_form_of Forms.Reference d ≡ true → is_of_type world heap d v ≡ true → leads_to heap any_type v ≡ true
typed_leads world heap d v h1 h2 = grind (arith, leads_any)

-- of one that isn't
word_held : (world : List Shape) (heap : Heap TaggedValue) (v : TaggedValue)
    → is_of_type world heap Declared.Short v ≡ true → may_be_held heap v ≡ true
word_held world heap v h1 = grind arith

pub short_held : (world : List Shape) (heap : Heap TaggedValue) (d : DeclaredType ClassName) (v : TaggedValue)
    → is_form_of Forms.Short d ≡ true → is_of_type world heap d v ≡ true → may_be_held heap v ≡ true
short_held world heap d v h1 h2 = grind (arith, word_held)

-- what an access that stores a reference is allowed to store
not_denied : (runs stores never : Bool) (v w : Verdict) → (runs ≡ true → ⊥) → stores ≡ true
    → is_allowed (cond runs v (cond (stores && never) (Denied Storing) w)) ≡ true → never ≡ false
not_denied runs stores never v w h1 h2 h3 = grind arith

allowed_stores : (access : Access) (active : ℕ) (f : Facts) → ((active == runtime_context) ≡ true → ⊥)
    → stores_reference access ≡ true → is_allowed (verdict_of access active f) ≡ true
    → option_map_or is_never_stored f.stored false ≡ false
allowed_stores access active f applets stores fine = grind (arith, not_denied)

pub asked_held : {C : Type 0} (h : StepContext C) (access : Access) (number : ℕ) (v : TaggedValue) (o : Object TaggedValue)
    → ((h.machine.top.active.context == runtime_context) ≡ true → ⊥) → stores_reference access ≡ true
    → leads_to h.machine.heap any_type v ≡ true
    → is_allowed (verdict_of access h.machine.top.active.context (facts_of h (storing access number v) o)) ≡ true
    → may_be_held h.machine.heap v ≡ true
asked_held h access number v o applets stores leads fine =
    by_value v leads
    (allowed_stores access h.machine.top.active.context (facts_of h (storing access number v) o) applets stores fine)
  where
    by_object : (x : Option (Object TaggedValue))
        → option_map_or (λ (y : Object TaggedValue). any_type y.kind.object_type) x false ≡ true
        → option_map_or is_never_stored (option_map (λ (y : Object TaggedValue). y.kind.mark) x) false ≡ false
        → option_map_or is_storable x false ≡ true
    by_object x h1 h2 = grind (arith, not)

    by_value : (w : TaggedValue) → leads_to h.machine.heap any_type w ≡ true
        → option_map_or is_never_stored (mark_of h.machine.heap w) false ≡ false
        → may_be_held h.machine.heap w ≡ true
    by_value w h1 h2 = grind (arith, by_object)
