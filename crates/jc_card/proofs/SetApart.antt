-- On a card that is new the runtime's name is its own, and it is so behind a load.
use Rattle.std.proofs.Common.{◌≡◌, ◌⊎◌, ℕ, zero, suc, true, List, [], ◌∷◌, ◌++◌, map, Option, Some, slice_get}
use Rattle.std.proofs.Common.{◌≢◌, Bool, inl, inr, refl, sym, subst, Result, Ok, Err}
use Rattle.std.proofs.lemmas.Bool.{and_parts, lt-ltb, ltb-true}
use Rattle.std.proofs.lemmas.Option.{same_Some, slice_get_within}
use Rattle.std.specs.List.{list_all, range_with_len, AllByRecursion}
use Rattle.jc_api.specs.Bound.{Bound}
use Rattle.jc_api.specs.NoClash.{HasNoClash}
use Rattle.jc_base.specs.Parts.{Infos}
use Rattle.jc_base.specs.declared.fault.LoadFault.{LoadFault}
use Rattle.jc_cap.specs.declared.applets.Applet.{Applet}
use Rattle.jc_cap.specs.declared.arrays.StaticArray.{StaticArray}
use Rattle.jc_cap_desc.specs.Shape.{Shape}
use Rattle.jc_firewall.specs.Verdict.{runtime_context}
use Rattle.jc_link.specs.Built.{IsBuilt, api, loaded}
use Rattle.jc_link.specs.Linked.{IsLinkedFrom, Linked, LinkedBody}
use Rattle.jc_machine.specs.Apart.{IsRuntimes, IsSetApart, has_no_code}
use Rattle.jc_machine.specs.Natives.{KeepsObjects}
use Rattle.jc_machine.specs.Runtime.{HasRuntimeObjects, RuntimeObject, aid_object, first_aid_object, made}
use Rattle.jc_machine.specs.Runtime.{most_instances, new_heap, runtime_objects, install_array}
use Rattle.jc_safety.specs.Loading.{loaded_array, loaded_arrays, mark_of_arrays, next_package, owner_of_arrays}
use Rattle.jc_safety.specs.Loading.{type_of_array}
use Rattle.jc_store.specs.Heap.{Heap, Object, object_at}
use Rattle.jc_store.specs.declared.kind.Mark.TheVariants.{Plain}
use Rattle.jc_words.specs.Values.{Ref, TaggedValue, Word}
use Rattle.std.proofs.Common.{◌+◌, ◌<◌, ◌||◌, false, not, length, replicate, ap, ◌∙◌, arith}
use Rattle.std.specs.Option.{option_map_or}
use Rattle.jc_base.specs.declared.declared_type.DeclaredType.{DeclaredType}
use Rattle.jc_base.specs.declared.class_ref.ClassRef.{ClassRef}
use Rattle.jc_link.specs.Statics.{StaticField}
use Rattle.jc_machine.specs.Machine.{StaticValue}
use Rattle.jc_machine.specs.Storable.{FieldsHoldStorable, HoldStorable, is_librarys, is_storable, may_be_held}
use Rattle.jc_machine.specs.Storable.{may_be_static}
use Rattle.jc_safety.specs.Loading.{own_shape, reference_at, static_value, static_values, value_at, words_of_array}
use Rattle.jc_card.proofs.Leading.{got_first}
use Rattle.jc_card.specs.Accesses.{IsApartCard}
use Rattle.jc_card.specs.Card.{CardState}
use Rattle.jc_card.specs.Load.{IsLoad}
use Rattle.jc_card.specs.New.{new_card}
use Rattle.jc_machine.specs.declared.limits.Limits.{Limits}

-- ---- a new card

abbrev is_codeless : RuntimeObject → Bool
is_codeless wanted = has_no_code wanted.type

aids_codeless : (numbers : List ℕ) → list_all is_codeless (map aid_object numbers) ≡ true
aids_codeless [] = refl
aids_codeless (n ∷ numbers) = aids_codeless numbers

all_codeless : list_all is_codeless runtime_objects ≡ true
all_codeless = aids_codeless (range_with_len first_aid_object most_instances)

made_codeless : (wanted : List RuntimeObject) → list_all is_codeless wanted ≡ true → (n : ℕ) (o : Object TaggedValue)
    → slice_get (map made wanted) n ≡ Some o → IsRuntimes o
made_codeless [] all n o e = absurd cc
made_codeless (x ∷ xs) all zero o e = grind (arith, same_Some, and_parts)
made_codeless (x ∷ xs) all (suc n) o e =
    made_codeless xs (and_parts (is_codeless x) (list_all is_codeless xs) all).1 n o e

new_others : (number : ℕ) (o : Object TaggedValue) → object_at new_heap number ≡ Some o
    → o.owner.context ≡ runtime_context → IsRuntimes o
new_others zero o e context = absurd cc
new_others (suc n) o e context = made_codeless runtime_objects all_codeless n o e

made_context : (wanted : List RuntimeObject) (n : ℕ) (o : Object TaggedValue) → slice_get (map made wanted) n ≡ Some o
    → o.owner.context ≡ runtime_context
made_context [] n o e = absurd cc
made_context (x ∷ xs) zero o e = grind (arith, same_Some)
made_context (x ∷ xs) (suc n) o e = made_context xs n o e

new_context : (number : ℕ) (o : Object TaggedValue) → object_at new_heap number ≡ Some o
    → o.owner.context ≡ runtime_context
new_context zero o e = absurd cc
new_context (suc n) o e = made_context runtime_objects n o e

-- all components are 0
zeros_held : (heap : Heap TaggedValue) (count : ℕ)
    → AllByRecursion (λ (v : TaggedValue). may_be_held heap v ≡ true) (replicate count (Word 0))
zeros_held heap zero = tt
zeros_held heap (suc n) = (refl, zeros_held heap n)

made_holds : (heap : Heap TaggedValue) (wanted : List RuntimeObject) (n : ℕ) (o : Object TaggedValue)
    → slice_get (map made wanted) n ≡ Some o
    → AllByRecursion (λ (v : TaggedValue). may_be_held heap v ≡ true) o.cells
made_holds heap [] n o e = absurd cc
made_holds heap (x ∷ xs) zero o e =
    subst (λ (o : Object TaggedValue). AllByRecursion (λ (v : TaggedValue). may_be_held heap v ≡ true) o.cells)
    (same_Some (made x) o e) (zeros_held heap x.size)
made_holds heap (x ∷ xs) (suc n) o e = made_holds heap xs n o e

new_holds : HoldStorable new_heap
new_holds zero o e = absurd cc
new_holds (suc n) o e = made_holds new_heap runtime_objects n o e

pub new_apart : HasRuntimeObjects new_heap → (limits : Limits) (binding : Bound) → HasNoClash binding
    → IsApartCard (new_card limits binding)
new_apart own limits binding clear = record {
  packages = api binding clear;
  objects = record {
    own = own;
    others = new_others;
    marked = λ number o e other. new_context number o e;
    stored = new_holds;
  };
  statics = tt;
  instances = refl;
}

-- ---- behind a load

module _ (heap more : Heap TaggedValue) where
  all_stay : KeepsObjects heap (heap ++ more)
  all_stay zero o e = absurd cc
  all_stay (suc n) o e =
      record { object = o; found = got_first heap more n o e; kind = refl; owner = refl; size = refl }

-- an element of two lists is one of the first, or of the second
joined_either : {A : Type 0} (xs ys : List A) (n : ℕ) (x : A) → slice_get (xs ++ ys) n ≡ Some x
    → (slice_get xs n ≡ Some x) ⊎ ((k : ℕ) × (slice_get ys k ≡ Some x))
joined_either [] ys n x e = inr (n, e)
joined_either (y ∷ xs) ys zero x e = inl e
joined_either (y ∷ xs) ys (suc n) x e = joined_either xs ys n x e

array_codeless : (array : StaticArray) → has_no_code (type_of_array array) ≡ true
array_codeless array = grind arith

of_no_instance : (number : ℕ) (applets : Option (List Applet)) → (owner_of_arrays number applets).instance ≡ 0
of_no_instance number applets = grind arith

-- the arrays of a library alone aren't plain
marked_of_runtime : (number : ℕ) (applets : Option (List Applet)) → mark_of_arrays applets ≢ Plain
    → (owner_of_arrays number applets).context ≡ runtime_context
marked_of_runtime number applets h1 = grind arith

arrays_marked : (number : ℕ) (body : LinkedBody) (arrays : List StaticArray) (k : ℕ) (o : Object TaggedValue)
    → slice_get (map (loaded_array number body) arrays) k ≡ Some o → o.kind.mark ≢ Plain
    → o.owner.context ≡ runtime_context
arrays_marked number body [] k o e = absurd cc
arrays_marked number body (x ∷ xs) zero o e = grind (arith, same_Some, marked_of_runtime)
arrays_marked number body (x ∷ xs) (suc k) o e = arrays_marked number body xs k o e

arrays_codeless : (number : ℕ) (body : LinkedBody) (arrays : List StaticArray) (k : ℕ) (o : Object TaggedValue)
    → slice_get (map (loaded_array number body) arrays) k ≡ Some o → IsRuntimes o
arrays_codeless number body [] k o e = absurd cc
arrays_codeless number body (x ∷ xs) zero o e = grind (arith, same_Some, of_no_instance, array_codeless)
arrays_codeless number body (x ∷ xs) (suc k) o e = arrays_codeless number body xs k o e

-- what the runtime's objects, values and static fields rely on where objects stay
pub record Staying : Type 0 where
  pub own : (before after : Heap TaggedValue) → KeepsObjects before after → HasRuntimeObjects before
      → HasRuntimeObjects after
  pub held : (before after : Heap TaggedValue) → KeepsObjects before after → (v : TaggedValue)
      → may_be_held before v ≡ true → may_be_held after v ≡ true
  pub fields : (before after : Heap TaggedValue) → KeepsObjects before after → (statics : List (List StaticValue))
      → FieldsHoldStorable before statics → FieldsHoldStorable after statics

-- arrays hold words
words_held : (heap : Heap TaggedValue) (words : List ℕ)
    → AllByRecursion (λ (v : TaggedValue). may_be_held heap v ≡ true) (map Word words)
words_held heap [] = tt
words_held heap (word ∷ words) = (refl, words_held heap words)

arrays_hold : (heap : Heap TaggedValue) (number : ℕ) (body : LinkedBody) (arrays : List StaticArray) (k : ℕ)
    (o : Object TaggedValue) → slice_get (map (loaded_array number body) arrays) k ≡ Some o
    → AllByRecursion (λ (v : TaggedValue). may_be_held heap v ≡ true) o.cells
arrays_hold heap number body [] k o e = absurd cc
arrays_hold heap number body (x ∷ xs) zero o e =
    subst (λ (o : Object TaggedValue). AllByRecursion (λ (v : TaggedValue). may_be_held heap v ≡ true) o.cells)
    (same_Some (loaded_array number body x) o e) (words_held heap (words_of_array x))
arrays_hold heap number body (x ∷ xs) (suc k) o e = arrays_hold heap number body xs k o e

all_stay_held : (before after : Heap TaggedValue) (vs : List TaggedValue)
    → ((v : TaggedValue) → may_be_held before v ≡ true → may_be_held after v ≡ true)
    → AllByRecursion (λ (v : TaggedValue). may_be_held before v ≡ true) vs
    → AllByRecursion (λ (v : TaggedValue). may_be_held after v ≡ true) vs
all_stay_held before after [] still h = tt
all_stay_held before after (v ∷ vs) still h = (still v h.0, all_stay_held before after vs still h.1)

module _ (stay : Staying) (heap : Heap TaggedValue) (apart : IsSetApart heap) (number : ℕ)
    (body : LinkedBody) where
  others_behind : (n : ℕ) (o : Object TaggedValue) → object_at (heap ++ loaded_arrays number body) n ≡ Some o
      → o.owner.context ≡ runtime_context → IsRuntimes o
  others_behind zero o e context = absurd cc
  others_behind (suc n) o e context = elim (joined_either heap (loaded_arrays number body) n o e) [
    | inl before ↦ apart.others (suc n) o before context
    | inr new ↦ arrays_codeless number body body.kept.statics.arrays new.0 o new.1
  ]

  marked_behind : (n : ℕ) (o : Object TaggedValue) → object_at (heap ++ loaded_arrays number body) n ≡ Some o
      → o.kind.mark ≢ Plain → o.owner.context ≡ runtime_context
  marked_behind zero o e other = absurd cc
  marked_behind (suc n) o e other = elim (joined_either heap (loaded_arrays number body) n o e) [
    | inl before ↦ apart.marked (suc n) o before other
    | inr new ↦ arrays_marked number body body.kept.statics.arrays new.0 o new.1 other
  ]

  holds_behind : HoldStorable (heap ++ loaded_arrays number body)
  holds_behind zero o e = absurd cc
  holds_behind (suc n) o e = elim (joined_either heap (loaded_arrays number body) n o e) [
    | inl before ↦
        all_stay_held heap (heap ++ loaded_arrays number body) o.cells
        (stay.held heap (heap ++ loaded_arrays number body) (all_stay heap (loaded_arrays number body)))
        (apart.stored (suc n) o before)
    | inr new ↦
        arrays_hold (heap ++ loaded_arrays number body) number body body.kept.statics.arrays new.0 o new.1
  ]

  -- ---- static fields

  abbrev behind : Heap TaggedValue
  behind = heap ++ loaded_arrays number body

  -- the runtime's own global arrays have smaller numbers
  beyond_own : install_array < suc (length heap)
  beyond_own = grind (arith, slice_get_within)

  got_behind : (xs ys : List (Object TaggedValue)) (i : ℕ) → slice_get (xs ++ ys) (length xs + i) ≡ slice_get ys i
  got_behind [] ys i = let e : 0 + i ≡ i = omega arith in ap (slice_get ys) e
  got_behind (x ∷ xs) ys i = grind (arith, got_behind xs ys i)

  array_is_fine : (i : ℕ) (array : StaticArray) (n : ℕ) → install_array < n
      → (is_storable (loaded_array number body array) || is_librarys n (loaded_array number body array)) ≡ true
  array_is_fine i array n beyond = grind (arith, not, lt-ltb)

  mapped_at : (arrays : List StaticArray) (i : ℕ) → i < length arrays
      → (array : StaticArray) × (slice_get (map (loaded_array number body) arrays) i
      ≡ Some (loaded_array number body array))
  mapped_at [] i low = absurd (omega (arith, low))
  mapped_at (x ∷ xs) zero low = (x, refl)
  mapped_at (x ∷ xs) (suc i) low = mapped_at xs i (omega (arith, low))

  array_static : (i : ℕ) → i < length body.kept.statics.arrays
      → may_be_static behind (Ref (suc (length heap) + i)) ≡ true
  array_static i low =
      let at = mapped_at body.kept.statics.arrays i low in
      let n = suc (length heap) + i in
      let beyond = beyond_own in
      let same : n ≡ suc (length heap + i) = omega arith in
      ap (λ (k : ℕ). option_map_or (λ (o : Object TaggedValue). is_storable o || is_librarys n o) (object_at behind k)
      false) same
      ∙ ap (λ (x : Option (Object TaggedValue)). option_map_or
      (λ (o : Object TaggedValue). is_storable o || is_librarys n o) x false)
      (got_behind heap (loaded_arrays number body) i ∙ at.1)
      ∙ array_is_fine i at.0 n (omega (arith, beyond))

  reference_static : (offset : ℕ)
      → may_be_static behind (reference_at (suc (length heap)) body.kept.statics offset) ≡ true
  reference_static offset = grind (arith, array_static, ltb-true)

  value_static : (offset : ℕ) (type : DeclaredType ClassRef)
      → may_be_static behind (value_at (suc (length heap)) body.kept.statics offset type) ≡ true
  value_static offset type = grind (arith, reference_static)

  abbrev IsStatic : StaticValue → Type 0
  IsStatic s = may_be_static behind s.value ≡ true

  values_static : (fields : List StaticField)
      → AllByRecursion IsStatic (map (static_value (suc (length heap)) body.kept.statics) fields)
  values_static [] = tt
  values_static (f ∷ fields) = (value_static f.offset f.type, values_static fields)

  shape_static : (shape : Option Shape)
      → AllByRecursion IsStatic (option_map_or (static_values (suc (length heap)) body.kept.statics) shape [])
  shape_static shape = grind (arith, values_static)

  one_more : (statics : List (List StaticValue)) (fields : List StaticValue) → FieldsHoldStorable behind statics
      → AllByRecursion IsStatic fields → FieldsHoldStorable behind (statics ++ fields ∷ [])
  one_more [] fields h k = (k, tt)
  one_more (x ∷ xs) fields h k = (h.0, one_more xs fields h.1 k)

  fields_behind : (statics : List (List StaticValue)) (shape : Option Shape) → FieldsHoldStorable heap statics
      → FieldsHoldStorable behind
      (statics ++ option_map_or (static_values (suc (length heap)) body.kept.statics) shape [] ∷ [])
  fields_behind statics shape h =
      one_more statics (option_map_or (static_values (suc (length heap)) body.kept.statics) shape [])
      (stay.fields heap behind (all_stay heap (loaded_arrays number body)) statics h) (shape_static shape)

  apart_behind : IsSetApart (heap ++ loaded_arrays number body)
  apart_behind = record {
    own =
        stay.own heap (heap ++ loaded_arrays number body) (all_stay heap (loaded_arrays number body)) apart.own;
    others = others_behind;
    marked = marked_behind;
    stored = holds_behind;
  }

built_behind : (before : List Shape) (l : Linked) → IsBuilt before
    → ((parts : Infos) × IsLinkedFrom before parts l) → IsBuilt l.world
built_behind before l built k =
    let linked = (k.1).linked in subst IsBuilt (sym linked.world) (loaded before (k.1).«package» built linked.fine)

pub load_apart : Staying → (c after : CardState) (image certificate : List ℕ) (result : Result ℕ LoadFault)
    → IsApartCard c → IsLoad c image certificate result after → IsApartCard after
load_apart stay c after image certificate (Ok number) p h =
    let l = h.linked in
    subst IsApartCard (sym h.after_is) (record {
      packages =
          built_behind c.world.shapes l p.packages (h.fit.linked.parts, h.fit.linked.linked);
      objects = apart_behind stay c.heap p.objects (next_package c.world) l.body;
      statics = fields_behind stay c.heap p.objects (next_package c.world) l.body c.statics (own_shape l) p.statics;
      instances = p.instances;
    })
load_apart stay c after image certificate (Err fault) p h = subst IsApartCard (sym h.kept) p
