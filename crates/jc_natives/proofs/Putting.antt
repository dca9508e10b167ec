-- Words that are put into components: which stay as they are, and that the order doesn't matter.
use Rattle.std.proofs.Common.{◌≡◌, ◌≢◌, ◌⊎◌, ℕ, zero, suc, ◌+◌, ◌<◌, ◌≤◌, List, [], ◌∷◌, set}
use Rattle.std.proofs.Common.{slice_get, Option, Some, None, refl, sym, ap, ◌∙◌, arith}
use Rattle.std.proofs.lemmas.List.{get_or-set_other, set-set, set_comm, set_past}
use Rattle.std.proofs.lemmas.Option.{same_Some}
use Rattle.jc_natives.proofs.Getting.{new_object, other_object}
use Rattle.jc_natives.specs.Cells.{put, put_all}
use Rattle.jc_natives.specs.PrivateCells.{cell_of, size_of, cells_from}
use Rattle.jc_store.specs.Heap.{Heap, Object, object_at, with_cell, with_object}

-- a heap with an object that was found, and one where there is none
pub put_some : {V : Type 0} (heap : Heap V) (number index : ℕ) (value : V) (object : Object V)
    → object_at heap number ≡ Some object
    → put heap number index value ≡ with_object heap number (with_cell object index value)
put_some heap number index value object e = grind arith

pub put_none : {V : Type 0} (heap : Heap V) (number index : ℕ) (value : V) → object_at heap number ≡ None
    → put heap number index value ≡ heap
put_none heap number index value e = grind arith

pub twice : {V : Type 0} (heap : Heap V) (number : ℕ) (one other : Object V)
    → with_object (with_object heap number one) number other ≡ with_object heap number other
twice heap number one other = grind (arith, set-set)

-- ---- the order doesn't matter

abbrev pub cells_of_kind : {V : Type 0} → Object V → List V → Object V
cells_of_kind object cells = record { kind = object.kind; owner = object.owner; cells = cells }

pub put_swaps : {V : Type 0} (heap : Heap V) (number one other : ℕ) (v w : V) → one ≢ other
    → put (put heap number one v) number other w ≡ put (put heap number other w) number one v
put_swaps heap number one other v w apart = by_object (object_at heap number) refl
  where
    by_object : (o : Option (Object _)) → object_at heap number ≡ o
        → put (put heap number one v) number other w ≡ put (put heap number other w) number one v
    by_object None e =
        ap (λ h. put h number other w) (put_none heap number one v e) ∙ put_none heap number other w e
        ∙ sym (put_none heap number one v e) ∙ ap (λ h. put h number one v) (sym (put_none heap number other w e))
    by_object (Some o) e =
        ap (λ h. put h number other w) (put_some heap number one v o e)
        ∙ put_some (with_object heap number (with_cell o one v)) number other w (with_cell o one v)
        (new_object heap number o (with_cell o one v) e)
        ∙ twice heap number (with_cell o one v) (with_cell (with_cell o one v) other w)
        ∙ ap (λ cells. with_object heap number (cells_of_kind o cells)) (set_comm o.cells one other v w apart)
        ∙ sym (twice heap number (with_cell o other w) (with_cell (with_cell o other w) one v))
        ∙ sym (put_some (with_object heap number (with_cell o other w)) number one v (with_cell o other w)
        (new_object heap number o (with_cell o other w) e))
        ∙ ap (λ h. put h number one v) (sym (put_some heap number other w o e))

-- what is put before many
pub put_before : {V : Type 0} (heap : Heap V) (number index from : ℕ) (v : V) (values : List V) → index < from
    → put (put_all heap number from values) number index v ≡ put_all (put heap number index v) number from values
put_before heap number index from v [] h = refl
put_before heap number index from v (w ∷ values) h =
    put_before (put heap number from w) number index (from + 1) v values (omega (arith, h))
    ∙ ap (λ o. put_all o number (from + 1) values) (put_swaps heap number from index w v (apart h))
  where
    apart : index < from → from ≢ index
    apart h e = omega (arith, h, e)

-- ---- other components stay

pub same_or_not : (m n : ℕ) → (m ≢ n) ⊎ (m ≡ n)
same_or_not m n = grind arith

pub cell_stays : (objects : Heap ℕ) (number index word other at : ℕ) → index ≢ at
    → cell_of (put objects number index word) other at ≡ cell_of objects other at
cell_stays objects number index word other at apart = by_object (object_at objects number) refl
  where
    by_number : (o : Object ℕ) → object_at objects number ≡ Some o → (n : ℕ) → (number ≢ n) ⊎ (number ≡ n)
        → cell_of (with_object objects number (with_cell o index word)) n at ≡ cell_of objects n at
    by_number o h1 n h2 = grind (arith, other_object, new_object, get_or-set_other, apart)

    by_object : (o : Option (Object ℕ)) → object_at objects number ≡ o
        → cell_of (put objects number index word) other at ≡ cell_of objects other at
    by_object o h1 = grind (arith, put_none, put_some, by_number, same_or_not)

-- components behind an index that is written, and a component before
pub words_stay : (objects : Heap ℕ) (number index word other from count : ℕ) → index < from
    → cells_from (put objects number index word) other from count ≡ cells_from objects other from count
words_stay objects number index word other from zero h = refl
words_stay objects number index word other from (suc count) h =
    ap (λ c. c ∷ cells_from (put objects number index word) other (from + 1) count)
    (cell_stays objects number index word other from (apart h))
    ∙ ap (λ words. cell_of objects other from ∷ words)
    (words_stay objects number index word other (from + 1) count (omega (arith, h)))
  where
    apart : index < from → index ≢ from
    apart h e = omega (arith, h, e)

pub cell_before : (objects : Heap ℕ) (number from : ℕ) (words : List ℕ) (other at : ℕ) → at < from
    → cell_of (put_all objects number from words) other at ≡ cell_of objects other at
cell_before objects number from [] other at h = refl
cell_before objects number from (w ∷ words) other at h =
    cell_before (put objects number from w) number (from + 1) words other at (omega (arith, h))
    ∙ cell_stays objects number from w other at (apart h)
  where
    apart : at < from → from ≢ at
    apart h e = omega (arith, h, e)

-- ---- where there is no such component

same_set : {A : Type 0} (xs : List A) (n : ℕ) (x : A) → slice_get xs n ≡ Some x → set xs n x ≡ xs
same_set [] n x e = refl
same_set (y ∷ xs) zero x e = ap (λ z. z ∷ xs) (sym (same_Some y x e))
same_set (y ∷ xs) (suc n) x e = ap (λ zs. y ∷ zs) (same_set xs n x e)

pub same_heap : {V : Type 0} (heap : Heap V) (number : ℕ) (object : Object V) → object_at heap number ≡ Some object
    → with_object heap number object ≡ heap
same_heap heap number object h1 = grind (arith, same_set)

pub put_past : (objects : Heap ℕ) (number index word : ℕ) → size_of objects number ≤ index
    → put objects number index word ≡ objects
put_past objects number index word h = grind (arith, put_none, put_some, set_past, same_heap)
