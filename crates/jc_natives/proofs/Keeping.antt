-- Objects stay typed where words are written that fit, and where an array is made.
use Rattle.std.proofs.Common.{◌≡◌, ℕ, zero, suc, ◌+◌, ◌<◌, ◌&&◌, Bool, true, false, List, [], ◌∷◌, ◌++◌, map, replicate}
use Rattle.std.proofs.Common.{set, slice_get, Option, Some, None, refl, sym, ap, subst, ◌∙◌, arith}
use Rattle.std.specs.Prelude.{⊤}
use Rattle.std.proofs.lemmas.Bool.{lt-ltb}
use Rattle.std.proofs.lemmas.List.{length-replicate, length-set}
use Rattle.std.proofs.lemmas.Option.{none-some, same_Some}
use Rattle.std.specs.List.{AllByRecursion, list_all}
use Rattle.std.specs.Option.{option_map_or}
use Rattle.jc_api.specs.declared.class.ApiClass.TheVariants.{Applet}
use Rattle.jc_base.specs.declared.declared_type.DeclaredType.{DeclaredType}
use Rattle.jc_cap_desc.specs.Shape.{Shape}
use Rattle.jc_link.specs.Linked.{World}
use Rattle.jc_machine.specs.Reading.{Pointwise}
use Rattle.jc_machine.specs.Lookup.{fields_of, is_byte, is_instance, is_kept_as}
use Rattle.jc_machine.specs.Lookup.{is_of_class, is_of_type, is_word, leads_to}
use Rattle.jc_machine.specs.Natives.{KeepsObjects}
use Rattle.jc_machine.specs.Typed.{CellsTyped, HeapTyped, ObjectTyped, is_cell, may_be_made}
use Rattle.jc_names.specs.declared.name.ClassName.{ClassName}
use Rattle.jc_names.specs.declared.name.ClassName.TheVariants.{Api}
use Rattle.jc_names.specs.declared.owner.Owner.{Owner}
use Rattle.jc_natives.proofs.Bare.{both}
use Rattle.jc_natives.proofs.Getting.{new_object}
use Rattle.jc_natives.proofs.Guarding.{all_replicate, keeps_new, keeps_put}
use Rattle.jc_natives.proofs.Putting.{put_none, put_some}
use Rattle.jc_natives.proofs.Simulation.{passed_some}
use Rattle.jc_natives.specs.Cells.{Write, put, put_all, written}
use Rattle.jc_natives.specs.Kept.{Kept, is_aid, is_instance_number, is_same_owner}
use Rattle.jc_natives.specs.Meaning.{blank_of, fits_instance, fits_kept, has_applet, new_array}
use Rattle.jc_natives.specs.Work.{NewArray, array_type}
use Rattle.jc_natives.specs.declared.kept.Instance.{Instance}
use Rattle.jc_natives.specs.declared.native.Elements.{Elements}
use Rattle.jc_natives.specs.declared.native.Elements.TheVariants.{Booleans, Bytes, References, Shorts}
use Rattle.jc_store.specs.Heap.{Heap, Object, object_at, with_cell, with_new, with_object}
use Rattle.jc_store.specs.declared.kind.ObjectKind.{ObjectKind}
use Rattle.jc_store.specs.declared.kind.ObjectType.{ObjectType}
use Rattle.jc_store.specs.declared.kind.ObjectType.TheVariants.{BooleanArray, ByteArray, Instance as OfClass}
use Rattle.jc_store.specs.declared.kind.ObjectType.TheVariants.{ReferenceArray, ShortArray}
use Rattle.jc_words.specs.Values.{Null, Ref, TaggedValue, Unset, Word}

-- ---- where objects stay values are of the types that they were of

module _ (world : List Shape) (before after : Heap TaggedValue) (stay : KeepsObjects before after) where
  pub leads_still : (test : ObjectType → Bool) (v : TaggedValue) → leads_to before test v ≡ true
      → leads_to after test v ≡ true
  leads_still test (Word n) e = e
  leads_still test (Ref n) e =
      let a = passed_some (λ (o : Object TaggedValue). test o.kind.object_type) (object_at before n) e in
      let s = stay n a.0 a.1 in
      ap (λ o. option_map_or (λ (o : Object TaggedValue). test o.kind.object_type) o false) s.found
      ∙ ap (λ kind. test kind.object_type) s.kind ∙ a.2
  leads_still test Null e = refl
  leads_still test Unset e = e

  pub type_still : (t : DeclaredType ClassName) (v : TaggedValue) → is_of_type world before t v ≡ true
      → is_of_type world after t v ≡ true
  type_still t v h1 = grind (arith, leads_still)

  kept_still : (t : DeclaredType ClassName) (v : TaggedValue) → is_kept_as world before t v ≡ true
      → is_kept_as world after t v ≡ true
  kept_still t v h1 = grind (arith, leads_still)

  cell_still : (field : Option (DeclaredType ClassName)) (v : TaggedValue) → is_cell world before field v ≡ true
      → is_cell world after field v ≡ true
  cell_still field v h1 = grind (arith, kept_still)

  fields_still : (cells : List TaggedValue) (fields : List (Option (DeclaredType ClassName)))
      → Pointwise (λ v field. is_cell world before field v ≡ true) cells fields
      → Pointwise (λ v field. is_cell world after field v ≡ true) cells fields
  fields_still [] [] typed = tt
  fields_still [] (f ∷ fields) typed = absurd typed
  fields_still (v ∷ cells) [] typed = absurd typed
  fields_still (v ∷ cells) (f ∷ fields) typed = (cell_still f v typed.0, fields_still cells fields typed.1)

  references_still : (c : ClassName) (cells : List TaggedValue)
      → AllByRecursion (λ v. leads_to before (is_instance world c) v ≡ true) cells
      → AllByRecursion (λ v. leads_to after (is_instance world c) v ≡ true) cells
  references_still c [] typed = tt
  references_still c (v ∷ cells) typed = (leads_still (is_instance world c) v typed.0, references_still c cells typed.1)

  cells_still : (type : ObjectType) (cells : List TaggedValue) → CellsTyped world before cells type
      → CellsTyped world after cells type
  cells_still type cells h1 = grind (arith, fields_still, references_still)

  object_still : (o : Object TaggedValue) → ObjectTyped world before o → ObjectTyped world after o
  object_still o typed = grind (arith, cells_still)

  objects_still : (os : Heap TaggedValue) → AllByRecursion (ObjectTyped world before) os
      → AllByRecursion (ObjectTyped world after) os
  objects_still [] typed = tt
  objects_still (o ∷ os) typed = (object_still o typed.0, objects_still os typed.1)

-- ---- one word

all_got : {A : Type 0} (P : A → Type 0) (xs : List A) (n : ℕ) (x : A) → AllByRecursion P xs → slice_get xs n ≡ Some x
    → P x
all_got P [] n x all e = absurd (none-some x e)
all_got P (y ∷ xs) zero x all e = subst P (same_Some y x e) all.0
all_got P (y ∷ xs) (suc n) x all e = all_got P xs n x all.1 e

all_set : {A : Type 0} (P : A → Type 0) (xs : List A) (n : ℕ) (x : A) → AllByRecursion P xs → P x
    → AllByRecursion P (set xs n x)
all_set P [] n x all p = tt
all_set P (y ∷ xs) zero x all p = (p, all.1)
all_set P (y ∷ xs) (suc n) x all p = (all.0, all_set P xs n x all.1 p)

-- a word may stand in a component: a byte in an array of bytes, any in a cell of which no field is declared
pub record IsBlankAt (world : List Shape) (c : ClassName) (index : ℕ) : Type 0 where
  pub blank : (f : Option (DeclaredType ClassName)) → slice_get (fields_of world c) index ≡ Some f → f ≡ None

abbrev pub FitsCell : List Shape → ObjectType → ℕ → ℕ → Type 0
FitsCell world (OfClass c) index word = IsBlankAt world c index × (word < 65536)
FitsCell world BooleanArray index word = ⊥
FitsCell world ByteArray index word = word < 256
FitsCell world ShortArray index word = ⊥
FitsCell world (ReferenceArray c) index word = ⊥

abbrev pub FitsWords : List Shape → ObjectType → ℕ → List ℕ → Type 0
FitsWords world type from [] = ⊤
FitsWords world type from (word ∷ words) = FitsCell world type from word × FitsWords world type (from + 1) words

-- what is written fits the object, if there is one
abbrev pub FitsWrite : List Shape → Heap TaggedValue → Write → Type 0
FitsWrite world heap x =
    (o : Object TaggedValue) → object_at heap x.object ≡ Some o → FitsWords world o.kind.object_type x.from x.words

abbrev Fields : Type 0
Fields = List (Option (DeclaredType ClassName))

module _ (world : List Shape) (heap : Heap TaggedValue) where
  fields_set : (cells : List TaggedValue) (fields : Fields) (index word : ℕ)
      → ((f : Option (DeclaredType ClassName)) → slice_get fields index ≡ Some f → f ≡ None) → word < 65536
      → Pointwise (λ v field. is_cell world heap field v ≡ true) cells fields
      → Pointwise (λ v field. is_cell world heap field v ≡ true) (set cells index (Word word)) fields
  fields_set [] [] index word blank small typed = tt
  fields_set [] (f ∷ fields) index word blank small typed = absurd typed
  fields_set (v ∷ cells) [] index word blank small typed = absurd typed
  fields_set (v ∷ cells) (f ∷ fields) zero word blank small typed =
      (ap (λ g. is_cell world heap g (Word word)) (blank f refl) ∙ lt-ltb word 65536 small, typed.1)
  fields_set (v ∷ cells) (f ∷ fields) (suc index) word blank small typed =
      (typed.0, fields_set cells fields index word blank small typed.1)

  cells_set : (type : ObjectType) (cells : List TaggedValue) (index word : ℕ) → FitsCell world type index word
      → CellsTyped world heap cells type → CellsTyped world heap (set cells index (Word word)) type
  cells_set type cells index word h1 h2 = grind (arith, fields_set, all_set, lt-ltb)

  object_set : (o : Object TaggedValue) (index word : ℕ) → FitsCell world o.kind.object_type index word
      → ObjectTyped world heap o → ObjectTyped world heap (with_cell o index (Word word))
  object_set o index word fits typed = grind (arith, length-set, cells_set)

  heap_set : (number : ℕ) (o p : Object TaggedValue) → object_at heap number ≡ Some o → ObjectTyped world heap p
      → HeapTyped world heap → AllByRecursion (ObjectTyped world heap) (with_object heap number p)
  heap_set number o p h1 h2 h3 = grind (arith, all_set)

  pub object_typed : (number : ℕ) (o : Object TaggedValue) → object_at heap number ≡ Some o → HeapTyped world heap
      → ObjectTyped world heap o
  object_typed number o h1 h2 = grind (arith, none-some, all_got)

put_typed : (world : List Shape) (heap : Heap TaggedValue) (number index word : ℕ) (o : Object TaggedValue)
    → object_at heap number ≡ Some o → FitsCell world o.kind.object_type index word → HeapTyped world heap
    → HeapTyped world (put heap number index (Word word))
put_typed world heap number index word o found fits typed =
    let set = heap_set world heap number o (with_cell o index (Word word)) found
    (object_set world heap o index word fits (object_typed world heap number o found typed)) typed in
    subst (λ h. AllByRecursion (ObjectTyped world (put heap number index (Word word))) h)
    (sym (put_some heap number index (Word word) o found))
    (objects_still world heap (put heap number index (Word word)) (keeps_put heap number index (Word word))
    (with_object heap number (with_cell o index (Word word))) set)

put_all_typed : (world : List Shape) (heap : Heap TaggedValue) (number from : ℕ) (words : List ℕ)
    (o : Object TaggedValue) → object_at heap number ≡ Some o → FitsWords world o.kind.object_type from words
    → HeapTyped world heap → HeapTyped world (put_all heap number from (map Word words))
put_all_typed world heap number from [] o found fits typed = typed
put_all_typed world heap number from (x ∷ words) o found fits typed =
    put_all_typed world (put heap number from (Word x)) number (from + 1) words (with_cell o from (Word x))
    (ap (λ h. object_at h number) (put_some heap number from (Word x) o found)
    ∙ new_object heap number o (with_cell o from (Word x)) found)
    fits.1 (put_typed world heap number from x o found fits.0 typed)

put_all_none : (heap : Heap TaggedValue) (number from : ℕ) (values : List TaggedValue) → object_at heap number ≡ None
    → put_all heap number from values ≡ heap
put_all_none heap number from [] e = refl
put_all_none heap number from (v ∷ values) e = grind (arith, put_none, put_all_none heap number (from + 1) values e)

pub write_typed : (world : List Shape) (heap : Heap TaggedValue) (x : Write) → FitsWrite world heap x
    → HeapTyped world heap → HeapTyped world (written Word heap (x ∷ []))
write_typed world heap x fits typed = by_object (object_at heap x.object) refl
  where
    by_object : (o : Option (Object TaggedValue)) → object_at heap x.object ≡ o
        → HeapTyped world (put_all heap x.object x.from (map Word x.words))
    by_object None e = search (arith, put_all_none, map, put_all_typed)
    by_object (Some o) e = put_all_typed world heap x.object x.from x.words o e (fits o e) typed

-- ---- a new array

all_behind : {A : Type 0} (P : A → Type 0) (xs : List A) (x : A) → AllByRecursion P xs → P x
    → AllByRecursion P (xs ++ x ∷ [])
all_behind P [] x all p = (p, tt)
all_behind P (y ∷ xs) x all p = (all.0, all_behind P xs x all.1 p)

module _ (world : List Shape) (heap : Heap TaggedValue) where
  blanks_typed : (elements : Elements) (n : ℕ)
      → CellsTyped world heap (replicate n (blank_of elements)) (array_type elements)
  blanks_typed Booleans n = all_replicate (λ v. is_byte v ≡ true) n (Word 0) refl
  blanks_typed Bytes n = all_replicate (λ v. is_byte v ≡ true) n (Word 0) refl
  blanks_typed Shorts n = all_replicate (λ v. is_word v ≡ true) n (Word 0) refl
  blanks_typed References n = search (arith, all_replicate)

  may_make : (elements : Elements) → may_be_made world (array_type elements) ≡ true
  may_make elements = grind arith

pub array_typed : (world : List Shape) (heap : Heap TaggedValue) (owner : Owner) (array : NewArray)
    → array.size < 65536 → HeapTyped world heap
    → HeapTyped world (with_new heap (new_array owner array))
array_typed world heap owner array small typed =
    let after = with_new heap (new_array owner array) in
    let count = length-replicate array.size (blank_of array.elements) in
    all_behind (ObjectTyped world after) heap (new_array owner array)
    (objects_still world heap after (keeps_new heap (new_array owner array)) heap typed) (record {
      made = may_make world heap array.elements;
      cells = blanks_typed world after array.elements array.size;
      counted = λ is. omega (arith, small, count);
    })

-- ---- what the runtime keeps fits still

pub both_are : (a b : Bool) → a ≡ true → b ≡ true → (a && b) ≡ true
both_are a b h1 h2 = grind arith

instance_still : (world : List Shape) (before after : Heap TaggedValue) → KeepsObjects before after → (i : Instance)
    → fits_instance world before i ≡ true → fits_instance world after i ≡ true
instance_still world before after stay i e =
    let a = both (is_aid i.aid && is_instance_number i.owner.instance)
    (option_map_or (has_applet world i) (object_at before i.object) false) e in
    let d = passed_some (has_applet world i) (object_at before i.object) a.1 in
    let s = stay i.object d.0 d.1 in
    both_are (is_aid i.aid && is_instance_number i.owner.instance)
    (option_map_or (has_applet world i) (object_at after i.object) false) a.0
    (ap (λ o. option_map_or (has_applet world i) o false) s.found
    ∙ ap (λ (kind : ObjectKind). is_of_class world (Api Applet) kind.object_type && is_same_owner (s.object).owner i.owner) s.kind
    ∙ ap (λ owner. is_of_class world (Api Applet) (d.0).kind.object_type && is_same_owner owner i.owner) s.owner
    ∙ d.2)

pub instances_still : (world : List Shape) (before after : Heap TaggedValue) → KeepsObjects before after
    → (is : List Instance) → list_all (fits_instance world before) is ≡ true
    → list_all (fits_instance world after) is ≡ true
instances_still world before after stay [] e = refl
instances_still world before after stay (i ∷ is) e =
    let a = both (fits_instance world before i) (list_all (fits_instance world before) is) e in
    both_are (fits_instance world after i) (list_all (fits_instance world after) is)
    (instance_still world before after stay i a.0) (instances_still world before after stay is a.1)

pub kept_fits_still : (w : World) (before after : Heap TaggedValue) (k : Kept) → KeepsObjects before after
    → fits_kept w before k ≡ true → fits_kept w after k ≡ true
kept_fits_still w before after k stay e = grind (arith, both, both_are, instances_still)
