-- What was typed in a world is typed in that world with more packages behind it.
use Rattle.std.proofs.Common.{◌≡◌, ℕ, zero, suc, ◌<◌, List, [], ◌∷◌, ◌++◌, length, map, Option, Some, None, Bool, arith}
use Rattle.std.proofs.Common.{true, false, if◌then◌else◌, not, refl, sym, ap, ◌∙◌, subst}
use Rattle.std.proofs.Math.Path.{fun_ext}
use Rattle.std.specs.List.{AllByRecursion, filter_map, range_with_len}
use Rattle.std.specs.Option.{option_and_then, option_map, option_map_or}
use Rattle.jc_api.specs.declared.class.ApiClass.TheVariants as api
use Rattle.jc_base.specs.declared.declared_type.DeclaredType.{DeclaredType}
use Rattle.jc_base.specs.declared.declared_type.ReturnType.{ReturnType}
use Rattle.jc_base.specs.declared.declared_type.ReturnType.TheVariants.{Value}
use Rattle.jc_cap.specs.ClassComponent.{is_class}
use Rattle.jc_cap_desc.specs.Shape.{ClassShape, FieldShape, Shape}
use Rattle.jc_classes.specs.Growth.{IsWithin, KeepsAllLookups, StandWithin}
use Rattle.jc_classes.specs.Subtype.{IsAmong, IsSubtype, is_class_at, is_class_below}
use Rattle.jc_classes.specs.Subtype.IsSubtype.{by_interface, by_superclass, object, same}
use Rattle.jc_classes.specs.World.{class_at, class_named, listed_refs, superclass_of}
use Rattle.jc_link.specs.Growth.{KeepsAllLinking}
use Rattle.jc_link.specs.KnownTypes.{NameClasses, is_known_type}
use Rattle.jc_link.specs.MemberType.{as_member, counted, field_type_of}
use Rattle.jc_link.specs.Named.{size_of, static_field_at}
use Rattle.jc_link.specs.Sound.{HaveSuperclasses}
use Rattle.jc_link.specs.Target.{instance_type_of, static_type_of}
use Rattle.jc_link.specs.declared.named.StaticPlace.{StaticPlace}
use Rattle.jc_names.specs.Names.{home_of}
use Rattle.jc_names.specs.declared.name.ClassName.{ClassName}
use Rattle.jc_names.specs.declared.name.ClassName.TheVariants.{Api}
use Rattle.jc_effects.specs.Growth.{KeepsAllMembers}
use Rattle.jc_store.specs.Heap as heaps
use Rattle.jc_store.specs.Heap.{Heap}
use Rattle.jc_store.specs.declared.kind.ObjectType.{ObjectType}
use Rattle.jc_store.specs.declared.kind.ObjectType.TheVariants.{Instance, BooleanArray, ByteArray, ShortArray}
use Rattle.jc_store.specs.declared.kind.ObjectType.TheVariants.{ReferenceArray}
use Rattle.jc_machine.specs.Lookup.{class_of, fields_within, is_instance, is_kept_as, is_of_class, own_fields}
use Rattle.jc_machine.specs.Machine.{StaticValue}
use Rattle.jc_machine.specs.Reading.{Pointwise}
use Rattle.jc_machine.specs.Typed.{CellsTyped, ObjectTyped, StaticTyped, is_cell, may_be_made}
use Rattle.jc_words.specs.Values.{TaggedValue}
use Rattle.jc_safety.proofs.Lists.{each_joined, each_mapped}
use Rattle.jc_safety.proofs.Naming.{passing}
use Rattle.jc_safety.proofs.Upward.{holds_below, leads_up}

-- what is known of the two worlds
pub record Enlarges (before after : List Shape) : Type 0 where
  pub lookups : KeepsAllLookups before after
  pub linking : KeepsAllLinking before after
  pub members : KeepsAllMembers before after
  pub superclasses : HaveSuperclasses before
  pub names : NameClasses before
  pub within : StandWithin before
  pub along : (c d : ClassName) → is_class_at before d ≡ true → is_class_below before c d ≡ true → IsSubtype before c d

each_of_map : {A B : Type 0} (P : B → Type 0) (f : A → B) → ((a : A) → P (f a)) → (xs : List A)
    → AllByRecursion P (map f xs)
each_of_map P f each [] = tt
each_of_map P f each (x ∷ xs) = (each x, each_of_map P f each xs)

module _ (before after : List Shape) (e : Enlarges before after) where
  class_within : (c : ClassName) → is_class_at before c ≡ true → IsWithin before c
  class_within c is = grind (arith, passing)

  -- ---- the cells of a class are the same

  own_same : (c : ClassName) → IsWithin before c → own_fields after c ≡ own_fields before c
  own_same c low = grind (arith, fun_ext)

  above_same : (n : ℕ) → ((c : ClassName) → IsWithin before c → fields_within after n c ≡ fields_within before n c)
      → (o : Option ClassName) → ((d : ClassName) → o ≡ Some d → IsWithin before d)
      → option_map_or (fields_within after n) o [] ≡ option_map_or (fields_within before n) o []
  above_same n h1 o h2 = grind arith

  fields_same : (n : ℕ) (c : ClassName) → IsWithin before c → fields_within after n c ≡ fields_within before n c
  fields_same zero c low = refl
  fields_same (suc n) c low =
      ap (λ (o : Option ClassName). option_map_or (fields_within after n) o [] ++ own_fields after c)
      (e.lookups.superclasses c low)
      ∙ ap (λ (fs : List (Option (DeclaredType ClassName))). fs ++ own_fields after c)
      (above_same n (fields_same n) (superclass_of before c)
      (λ d up. class_within d (e.superclasses.classes c d up)))
      ∙ ap (λ (fs : List (Option (DeclaredType ClassName))).
      option_map_or (fields_within before n) (superclass_of before c) [] ++ fs) (own_same c low)

  -- ---- the types of fields name classes that are there

  abbrev is_known : DeclaredType ClassName → Bool
  is_known d = is_known_type (is_class_at before) d

  field_known : (home : ℕ) (f : FieldShape) (d : DeclaredType ClassName) → field_type_of before home f ≡ Some d
      → is_known d ≡ true
  field_known home f d is =
      e.names.members home (as_member f.type) (as_member d)
      (ap (λ (o : Option (DeclaredType ClassName)).
      option_map (λ (result : ReturnType ClassName). record { parameters = []; result = result }) (option_map Value o))
      is)

  abbrev IsKnownCell : Option (DeclaredType ClassName) → Type 0
  IsKnownCell o = option_map_or is_known o true ≡ true

  in_field : (home : ℕ) (f : Option FieldShape) (d : DeclaredType ClassName)
      → option_and_then (field_type_of before home) f ≡ Some d → is_known d ≡ true
  in_field home f d h1 = grind (arith, field_known)

  at_token : (c : ClassName) (token : ℕ) (o : Option (DeclaredType ClassName)) → instance_type_of before c token ≡ o
      → IsKnownCell o
  at_token c token o h1 = grind (arith, in_field)

  above_known : (n : ℕ) → ((c : ClassName) → AllByRecursion IsKnownCell (fields_within before n c))
      → (o : Option ClassName) → AllByRecursion IsKnownCell (option_map_or (fields_within before n) o [])
  above_known n h1 o = grind arith

  fields_known : (n : ℕ) (c : ClassName) → AllByRecursion IsKnownCell (fields_within before n c)
  fields_known zero c = tt
  fields_known (suc n) c =
      each_joined IsKnownCell (option_map_or (fields_within before n) (superclass_of before c) [])
      (own_fields before c) (above_known n (fields_known n) (superclass_of before c))
      (each_of_map IsKnownCell (instance_type_of before c)
      (λ token. at_token c token (instance_type_of before c token) refl) (range_with_len 0 (size_of before c)))

  static_known : (place : StaticPlace) (d : DeclaredType ClassName) → static_type_of before place ≡ Some d
      → is_known d ≡ true
  static_known place d is = in_field place.home (static_field_at before place) d is

  -- ---- objects that passed a test pass it

  class_on : (c : ClassName) (o : ObjectType) → is_of_class before c o ≡ true → is_of_class after c o ≡ true
  class_on c o is = e.lookups.still_below (class_of o) c is

  instance_on : (c : ClassName) (o : ObjectType) → is_instance before c o ≡ true → is_instance after c o ≡ true
  instance_on c o is = e.lookups.still_found (class_of o) c is

  -- what a class lists, where it is there
  abbrev listed_by : ClassName → Option ClassShape → List ClassName
  listed_by c o = option_map_or (λ k. filter_map (class_named before (home_of c)) (listed_refs k.body)) o []

  none_listed : (c i : ClassName) → class_at before c ≡ None → IsAmong i (listed_by c (class_at before c)) → ⊥
  none_listed c i none among = grind arith

  -- what isn't there is below itself and Object alone
  unknown_on : (c d x : ClassName) → class_at before c ≡ None → is_class_at before d ≡ true → IsSubtype before c d
      → is_class_below after x d ≡ true
  unknown_on c d x none is (same k) = absurd cc
  unknown_on c d x none is (object k) = refl
  unknown_on c d x none is (by_superclass k m f up h) = let there = e.names.heirs k m up in absurd cc
  unknown_on c d x none is (by_interface k i f listed h) = absurd (none_listed k i none listed)

  component_on : (c d : ClassName) → is_class_at before d ≡ true
      → is_class_below before (counted before c) d ≡ true → is_class_below after (counted after c) d ≡ true
  component_on c d is below = by_class (class_at before c) refl
    where
      by_class : (o : Option ClassShape) → class_at before c ≡ o → is_class_below after (counted after c) d ≡ true
      by_class (Some k) at =
          subst (λ (x : ClassName). is_class_below after x d ≡ true)
          (sym (e.linking.counts c (e.within.classes c k at)))
          (e.lookups.still_below (counted before c) d below)
      by_class None at =
          let same : counted before c ≡ c =
          ap (λ (o : Option ClassShape).
          if option_map_or (λ (k : ClassShape). not (is_class k.body)) o false then Api api.Object else c) at in
          unknown_on c d (counted after c) at is
          (e.along c d is (subst (λ (x : ClassName). is_class_below before x d ≡ true) same below))

  holds_on : (c : ClassName) → is_class_at before c ≡ true → (o : ObjectType) → holds_below before c o ≡ true
      → holds_below after c o ≡ true
  holds_on c h1 o h2 = grind (arith, component_on)

  -- ---- values, objects and static fields

  module _ (heap : Heap TaggedValue) where
    kept_on : (d : DeclaredType ClassName) → is_known d ≡ true → (v : TaggedValue)
        → is_kept_as before heap d v ≡ true → is_kept_as after heap d v ≡ true
    kept_on d h1 v h2 = grind (arith, leads_up, class_on, holds_below, holds_on)

    cell_on : (v : TaggedValue) (field : Option (DeclaredType ClassName)) → IsKnownCell field
        → is_cell before heap field v ≡ true → is_cell after heap field v ≡ true
    cell_on v field h1 h2 = grind (arith, kept_on)

    fields_on : (cells : List TaggedValue) (fields : List (Option (DeclaredType ClassName)))
        → AllByRecursion IsKnownCell fields → Pointwise (λ v field. is_cell before heap field v ≡ true) cells fields
        → Pointwise (λ v field. is_cell after heap field v ≡ true) cells fields
    fields_on [] [] known h = tt
    fields_on [] (f ∷ fields) known h = absurd h
    fields_on (v ∷ cells) [] known h = absurd h
    fields_on (v ∷ cells) (f ∷ fields) known h = (cell_on v f known.0 h.0, fields_on cells fields known.1 h.1)

    cells_on : (cells : List TaggedValue) (type : ObjectType) → may_be_made before type ≡ true
        → CellsTyped before heap cells type → CellsTyped after heap cells type
    cells_on cells (Instance c) made h = grind (arith, passing, not, fields_same, fields_on, fields_known)
    cells_on cells BooleanArray made h = h
    cells_on cells ByteArray made h = h
    cells_on cells ShortArray made h = h
    cells_on cells (ReferenceArray c) made h = grind (arith, each_mapped, leads_up, instance_on)

    made_on : (type : ObjectType) → may_be_made before type ≡ true → may_be_made after type ≡ true
    made_on type h1 = grind (arith, passing, not)

    object_on : (o : heaps.Object TaggedValue) → ObjectTyped before heap o → ObjectTyped after heap o
    object_on o h = grind (arith, made_on, cells_on)

    pub objects_on : (objects : Heap TaggedValue) → AllByRecursion (ObjectTyped before heap) objects
        → AllByRecursion (ObjectTyped after heap) objects
    objects_on objects h = each_mapped (ObjectTyped before heap) (ObjectTyped after heap) object_on objects h

    static_on : (home : ℕ) → home < length before → (x : StaticValue) → StaticTyped before heap home x
        → StaticTyped after heap home x
    static_on home low x h =
        let place : StaticPlace = record { home = home; offset = x.offset } in record {
          declared = h.declared;
          found = e.linking.static_types place low ∙ h.found;
          typed = kept_on h.declared (static_known place h.declared h.found) x.value h.typed;
        }

    pub statics_on : (home : ℕ) → home < length before → (fields : List StaticValue)
        → AllByRecursion (StaticTyped before heap home) fields → AllByRecursion (StaticTyped after heap home) fields
    statics_on home low fields h = search (arith, each_mapped, static_on)
