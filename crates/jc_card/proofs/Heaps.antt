-- Objects of heaps, one of which is another, and words that are put into its components.
use Rattle.std.proofs.Common.{◌≡◌, ℕ, zero, suc, ◌+◌, ◌≤◌, List, [], ◌∷◌, length, map, set, slice_get, Some, refl}
use Rattle.std.proofs.Common.{sym, ap, ◌∙◌, subst, arith}
use Rattle.std.proofs.lemmas.List.{set-set}
use Rattle.std.proofs.Math.Seq.{sets}
use Rattle.std.proofs.lemmas.List.Edits.{sets-eq}
use Rattle.std.proofs.lemmas.Option.{none-some, same_Some}
use Rattle.jc_machine.specs.Reading.{HeapReads, Pointwise, Reads, ReadsObject}
use Rattle.jc_natives.specs.Cells.{put, put_all}
use Rattle.jc_store.specs.Blocks.{with_cells}
use Rattle.jc_store.specs.Heap.{Heap, Object, object_at, with_cell, with_object}
use Rattle.jc_words.specs.Values.{TaggedValue, Word}

-- ---- lists

found_set : {A : Type 0} (xs : List A) (n : ℕ) (x y : A) → slice_get xs n ≡ Some x → slice_get (set xs n y) n ≡ Some y
found_set [] n x y e = absurd (none-some x e)
found_set (z ∷ xs) zero x y e = refl
found_set (z ∷ xs) (suc n) x y e = found_set xs n x y e

same_set : {A : Type 0} (xs : List A) (n : ℕ) (x : A) → slice_get xs n ≡ Some x → set xs n x ≡ xs
same_set [] n x e = refl
same_set (y ∷ xs) zero x e = ap (λ z. z ∷ xs) (sym (same_Some y x e))
same_set (y ∷ xs) (suc n) x e = ap (λ zs. y ∷ zs) (same_set xs n x e)

-- ---- another object

pub new_object : {V : Type 0} (heap : Heap V) (number : ℕ) (before after : Object V)
    → object_at heap number ≡ Some before → object_at (with_object heap number after) number ≡ Some after
new_object heap number before after h1 = grind (arith, none-some, found_set)

same_heap : {V : Type 0} (heap : Heap V) (number : ℕ) (object : Object V) → object_at heap number ≡ Some object
    → with_object heap number object ≡ heap
same_heap heap number object h1 = grind (arith, same_set)

twice : {V : Type 0} (heap : Heap V) (number : ℕ) (one other : Object V)
    → with_object (with_object heap number one) number other ≡ with_object heap number other
twice heap number one other = grind (arith, set-set)

-- an object that stands in a heap with another one has the kind of the one that stood there
pub record Was (os : Heap ℕ) (number : ℕ) (x : Object ℕ) : Type 0 where
  pub object : Object ℕ
  pub found : object_at os number ≡ Some object
  pub kind : x.kind ≡ object.kind

was_set : (os : List (Object ℕ)) (n : ℕ) (old new : Object ℕ) → slice_get os n ≡ Some old → new.kind ≡ old.kind
    → (m : ℕ) (x : Object ℕ) → slice_get (set os n new) m ≡ Some x → Was os (suc m) x
was_set [] n old new e k m x f = absurd (none-some old e)
was_set (o ∷ os) zero old new e k zero x f = grind (arith, same_Some)
was_set (o ∷ os) zero old new e k (suc m) x f = record { object = x; found = f; kind = refl }
was_set (o ∷ os) (suc n) old new e k zero x f = grind (arith, same_Some)
was_set (o ∷ os) (suc n) old new e k (suc m) x f = grind (arith, was_set os n old new e k m x f)

pub was : (os : Heap ℕ) (number : ℕ) (old new : Object ℕ) → object_at os number ≡ Some old → new.kind ≡ old.kind
    → (other : ℕ) (x : Object ℕ) → object_at (with_object os number new) other ≡ Some x → Was os other x
was os number old new h1 h2 other x h3 = grind (arith, none-some, was_set)

-- ---- reading

set_reads : (os : Heap ℕ) (ps : Heap TaggedValue) → HeapReads os ps → (n : ℕ) (o : Object ℕ) (p : Object TaggedValue)
    → ReadsObject o p → HeapReads (set os n o) (set ps n p)
set_reads [] [] r n o p x = tt
set_reads [] (q ∷ ps) r n o p x = absurd r
set_reads (z ∷ os) [] r n o p x = absurd r
set_reads (z ∷ os) (q ∷ ps) r zero o p x = (x, r.1)
set_reads (z ∷ os) (q ∷ ps) r (suc n) o p x = (r.0, set_reads os ps r.1 n o p x)

pub object_reads : (os : Heap ℕ) (ps : Heap TaggedValue) → HeapReads os ps → (number : ℕ) (o : Object ℕ)
    (p : Object TaggedValue) → ReadsObject o p → HeapReads (with_object os number o) (with_object ps number p)
object_reads os ps h1 number o p h2 = grind (arith, set_reads)

word_reads : (cs : List ℕ) (vs : List TaggedValue) → Pointwise Reads cs vs → (n w : ℕ)
    → Pointwise Reads (set cs n w) (set vs n (Word w))
word_reads [] [] r n w = tt
word_reads [] (v ∷ vs) r n w = absurd r
word_reads (c ∷ cs) [] r n w = absurd r
word_reads (c ∷ cs) (v ∷ vs) r zero w = (refl, r.1)
word_reads (c ∷ cs) (v ∷ vs) r (suc n) w = (r.0, word_reads cs vs r.1 n w)

words_read : (ws : List ℕ) (cs : List ℕ) (vs : List TaggedValue) → Pointwise Reads cs vs → (n : ℕ)
    → Pointwise Reads (sets cs n ws) (sets vs n (map Word ws))
words_read [] cs vs r n = r
words_read (w ∷ ws) cs vs r n = words_read ws (set cs n w) (set vs n (Word w)) (word_reads cs vs r n w) (suc n)

pub read_length : (cs : List ℕ) (vs : List TaggedValue) → Pointwise Reads cs vs → length vs ≡ length cs
read_length [] [] r = refl
read_length [] (v ∷ vs) r = absurd r
read_length (c ∷ cs) [] r = absurd r
read_length (c ∷ cs) (v ∷ vs) r = ap suc (read_length cs vs r.1)

-- ---- words that are put

abbrev pub with_all : {V : Type 0} → Object V → List V → Object V
with_all object cells = record { kind = object.kind; owner = object.owner; cells = cells }

pub put_some : {V : Type 0} (heap : Heap V) (number index : ℕ) (value : V) (object : Object V)
    → object_at heap number ≡ Some object
    → put heap number index value ≡ with_object heap number (with_cell object index value)
put_some heap number index value object e = grind arith

-- one by one
pub all_put : {V : Type 0} (heap : Heap V) (number from : ℕ) (values : List V) (object : Object V)
    → object_at heap number ≡ Some object
    → put_all heap number from values ≡ with_object heap number (with_all object (sets object.cells from values))
all_put heap number from [] object e = sym (same_heap heap number object e)
all_put heap number from (v ∷ values) object e =
    let one = with_cell object from v in
    let next : from + 1 ≡ suc from = omega arith in
    ap (λ h. put_all h number (from + 1) values) (put_some heap number from v object e)
    ∙ all_put (with_object heap number one) number (from + 1) values one (new_object heap number object one e)
    ∙ twice heap number one (with_all one (sets one.cells (from + 1) values))
    ∙ ap (λ k. with_object heap number (with_all object (sets one.cells k values))) next

-- words over the first components of an object read the same words
pub written_reads : (os : Heap ℕ) (ps : Heap TaggedValue) → HeapReads os ps → (number : ℕ) (words : List ℕ)
    (o : Object ℕ) (p : Object TaggedValue) → ReadsObject o p → object_at ps number ≡ Some p
    → length words ≤ length o.cells
    → HeapReads (with_object os number (with_cells o 0 words)) (put_all ps number 0 (map Word words))
written_reads os ps r number words o p x e within =
    let some : 0 + length words ≤ length o.cells = omega (arith, within) in
    let put : Object TaggedValue = with_all p (sets p.cells 0 (map Word words)) in
    let written : Object ℕ = with_all o (sets o.cells 0 words) in
    let reads : ReadsObject written put =
    record { kind = x.kind; owner = x.owner; cells = words_read words o.cells p.cells x.cells 0 } in
    subst (λ (h : Heap TaggedValue). HeapReads (with_object os number (with_cells o 0 words)) h)
    (sym (all_put ps number 0 (map Word words) p e))
    (subst (λ (cells : List ℕ). HeapReads (with_object os number (with_all o cells)) (with_object ps number put))
    (sets-eq words o.cells 0 some)
    (object_reads os ps r number written put reads))
