-- What members write holds no reference that may not be stored: it is words.
use Rattle.std.proofs.Common.{◌≡◌, ◌≢◌, ◌⊎◌, ℕ, zero, suc, ◌+◌, true, List, [], ◌∷◌, map, set, arith}
use Rattle.std.proofs.Common.{Option, Some, None, refl, sym, subst}
use Rattle.std.proofs.lemmas.Option.{none-some}
use Rattle.std.specs.List.{AllByRecursion}
use Rattle.jc_machine.specs.Natives.{KeepsObjects}
use Rattle.jc_machine.specs.Storable.{HoldStorable, may_be_held}
use Rattle.jc_names.specs.declared.owner.Owner.{Owner}
use Rattle.jc_natives.proofs.Answering.{new_is}
use Rattle.jc_natives.proofs.Getting.{new_object, other_object}
use Rattle.jc_natives.proofs.Guarding.{all_replicate, got_front, keeps_new, keeps_put, same_found}
use Rattle.jc_natives.proofs.Putting.{put_none, put_some, same_or_not}
use Rattle.jc_natives.specs.Cells.{Write, put, put_all, written}
use Rattle.jc_natives.specs.Meaning.{blank_of, new_array}
use Rattle.jc_natives.specs.Work.{NewArray}
use Rattle.jc_natives.specs.declared.native.Elements.{Elements}
use Rattle.jc_store.specs.Heap.{Heap, Object, object_at, with_cell, with_new, with_object}
use Rattle.jc_words.specs.Values.{TaggedValue, Word}

all_set : {A : Type 0} (P : A → Type 0) (xs : List A) (k : ℕ) (y : A) → AllByRecursion P xs → P y
    → AllByRecursion P (set xs k y)
all_set P [] k y h p = tt
all_set P (x ∷ xs) zero y h p = (p, h.1)
all_set P (x ∷ xs) (suc k) y h p = (h.0, all_set P xs k y h.1 p)

all_mapped : {A : Type 0} (P Q : A → Type 0) (xs : List A) → ((x : A) → P x → Q x) → AllByRecursion P xs
    → AllByRecursion Q xs
all_mapped P Q [] f h = tt
all_mapped P Q (x ∷ xs) f h = (f x h.0, all_mapped P Q xs f h.1)

abbrev Held : Heap TaggedValue → TaggedValue → Type 0
Held heap v = may_be_held heap v ≡ true

-- what may be held stays so where objects stay
abbrev pub HeldStays : Type 0
HeldStays = (before after : Heap TaggedValue) → KeepsObjects before after → (v : TaggedValue) → Held before v
    → Held after v

module _ (still : HeldStays) where
  put_holds : (heap : Heap TaggedValue) → HoldStorable heap → (number index word : ℕ)
      → HoldStorable (put heap number index (Word word))
  put_holds heap holds number index word = by_object (object_at heap number) refl
    where
      one_holds : (o : Object TaggedValue) → object_at heap number ≡ Some o
          → KeepsObjects heap (with_object heap number (with_cell o index (Word word)))
          → HoldStorable (with_object heap number (with_cell o index (Word word)))
      one_holds o there kept n p found = by_number (same_or_not number n)
        where
          by_number : (number ≢ n) ⊎ (number ≡ n) → AllByRecursion
              (Held (with_object heap number (with_cell o index (Word word)))) p.cells
          by_number h1 = grind (arith, all_mapped, other_object, same_found, new_object, all_set)

      by_object : (o : Option (Object TaggedValue)) → object_at heap number ≡ o
          → HoldStorable (put heap number index (Word word))
      by_object o h1 = grind (arith, put_none, put_some, one_holds, keeps_put)

  pub put_all_holds : (heap : Heap TaggedValue) → HoldStorable heap → (number from : ℕ) (words : List ℕ)
      → HoldStorable (put_all heap number from (map Word words))
  put_all_holds heap holds number from [] = holds
  put_all_holds heap holds number from (word ∷ words) =
      put_all_holds (put heap number from (Word word)) (put_holds heap holds number from word) number (from + 1) words

  pub written_holds : (heap : Heap TaggedValue) → HoldStorable heap → (writes : List Write)
      → HoldStorable (written Word heap writes)
  written_holds heap holds [] = holds
  written_holds heap holds (x ∷ writes) =
      written_holds (put_all heap x.object x.from (map Word x.words))
      (put_all_holds heap holds x.object x.from x.words) writes

  blank_held : (heap : Heap TaggedValue) (elements : Elements) → Held heap (blank_of elements)
  blank_held heap elements = grind arith

  pub made_holds : (heap : Heap TaggedValue) → HoldStorable heap → (owner : Owner) (array : NewArray)
      → HoldStorable (with_new heap (new_array owner array))
  made_holds heap holds owner array n p found = by_old (object_at heap n) refl
    where
      got : (k : ℕ) (o : Object TaggedValue) → object_at heap k ≡ Some o
          → object_at (with_new heap (new_array owner array)) k ≡ Some o
      got k o h1 = grind (arith, none-some, got_front)

      same_as_new : (o : Object TaggedValue) → object_at heap n ≡ Some o → o ≡ p
      same_as_new o e = sym (same_found (object_at (with_new heap (new_array owner array)) n) o p (got n o e) found)

      by_old : (o : Option (Object TaggedValue)) → object_at heap n ≡ o
          → AllByRecursion (Held (with_new heap (new_array owner array))) p.cells
      by_old None e =
          let is = new_is heap (new_array owner array) p n found e in
          subst
          (λ (x : Object TaggedValue). AllByRecursion (Held (with_new heap (new_array owner array))) x.cells) (sym is)
          (all_replicate (Held (with_new heap (new_array owner array))) array.size (blank_of array.elements)
          (blank_held (with_new heap (new_array owner array)) array.elements))
      by_old (Some o) e =
          all_mapped (Held heap) (Held (with_new heap (new_array owner array))) p.cells
          (still heap (with_new heap (new_array owner array)) (keeps_new heap (new_array owner array)))
          (subst (λ (x : Object TaggedValue). AllByRecursion (Held heap) x.cells) (same_as_new o e) (holds n o e))
