-- Parts of objects: bytes that are read and written many at once.
use Rattle.std.proofs.Common.{◌≡◌, ℕ, zero, suc, ◌+◌, ◌-◌, ◌<◌, ◌≤◌, ◌&&◌, List, [], ◌∷◌, ◌++◌}
use Rattle.std.proofs.Common.{refl, sym, ap, ◌∙◌, arith, length, map, take, drop, get_or, slice_range, bytes_eq}
use Rattle.std.proofs.Common.{Option, Some, None, Bor, IfNone, IfSome, unwrap_or}
use Rattle.std.proofs.Math.Seq.{sets}
use Rattle.std.proofs.lemmas.Bool.{eq-eqb, le-ltb}
use Rattle.std.proofs.lemmas.List.{take-take}
use Rattle.std.proofs.lemmas.List.Edits.{sets-eq}
use Rattle.std.specs.Slice.{IsGetRangeResult}
use Rattle.jc_natives.proofs.Getting.{new_object}
use Rattle.jc_natives.proofs.Putting.{cells_of_kind, put_some, same_heap, twice}
use Rattle.jc_natives.specs.Cells.{byte_order, low, order_of, put_all}
use Rattle.jc_natives.specs.PrivateCells.{bytes_of, cell_of, size_of, cells_from}
use Rattle.jc_store.specs.Blocks.{components_of, part_in, with_cells}
use Rattle.jc_store.specs.Heap.{Heap, Object, object_at, with_cell, with_object}

-- ---- read

-- a component is one of the list
cell_in : (objects : Heap ℕ) (number index : ℕ)
    → cell_of objects number index ≡ get_or (components_of objects number) index 0
cell_in objects number index = grind arith

pub dropped : (xs : List ℕ) (at : ℕ) → at < length xs → drop at xs ≡ get_or xs at 0 ∷ drop (at + 1) xs
dropped [] at h = absurd (omega (arith, h))
dropped (x ∷ xs) zero h = refl
dropped (x ∷ xs) (suc at) h = grind (arith, dropped xs at (omega (arith, h)))

-- so many components of an object are a part of all of them
taken_words : (objects : Heap ℕ) (number from count : ℕ) → from + count ≤ length (components_of objects number)
    → cells_from objects number from count ≡ take count (drop from (components_of objects number))
taken_words objects number from zero h = refl
taken_words objects number from (suc count) h =
    let cells = components_of objects number in
    ap (λ c. c ∷ cells_from objects number (from + 1) count) (cell_in objects number from)
    ∙ ap (λ words. get_or cells from 0 ∷ words) (taken_words objects number (from + 1) count (omega (arith, h)))
    ∙ ap (take (suc count)) (sym (dropped cells from (omega (arith, h))))

part_words : (objects : Heap ℕ) (number from count end : ℕ) (cells words : List ℕ)
    → cells ≡ components_of objects number → end ≡ from + count → end ≤ length cells
    → words ≡ slice_range cells from end → cells_from objects number from count ≡ words
part_words objects number from count end cells words are stop within is = grind (arith, taken_words)

-- a part that `get` gave, or none
pub part_given : (objects : Heap ℕ) (number from count end : ℕ) (cells : List ℕ) (given : Option (Bor (List ℕ)))
    → cells ≡ components_of objects number → end ≡ from + count → IsGetRangeResult cells from end given
    → IfSome given (λ words. bytes_of objects number from count ≡ map low words.now)
part_given objects number from count end cells given h1 h2 h3 = grind (arith, part_words)

size_in : (objects : Heap ℕ) (number : ℕ) → size_of objects number ≡ length (components_of objects number)
size_in objects number = grind arith

pub part_missing : (objects : Heap ℕ) (number from count end : ℕ) (cells : List ℕ) (given : Option (Bor (List ℕ)))
    → cells ≡ components_of objects number → end ≡ from + count → IsGetRangeResult cells from end given
    → IfNone given (size_of objects number < from + count)
part_missing objects number from count end cells given h1 h2 h3 = grind (arith, size_in)

-- ---- compared

no_order : (n : ℕ) → byte_order n n ≡ None
no_order n = grind (arith, le-ltb)

-- what is the same in front makes no difference
pub order_skips : (n : ℕ) (one other : List ℕ) → n ≤ length one → n ≤ length other → take n one ≡ take n other
    → order_of (map low one) (map low other) ≡ order_of (map low (drop n one)) (map low (drop n other))
order_skips zero one other h k same = refl
order_skips (suc n) [] other h k same = absurd (omega (arith, h))
order_skips (suc n) (x ∷ one) [] h k same = absurd (omega (arith, k))
order_skips (suc n) (x ∷ one) (y ∷ other) h k same =
    let first : x ≡ y = ap (λ (xs : List ℕ). get_or xs 0 0) same in
    let rest : take n one ≡ take n other = ap (λ (xs : List ℕ). drop 1 xs) same in
    ap (λ z. unwrap_or (byte_order (low z) (low y)) (order_of (map low one) (map low other))) first
    ∙ ap (λ o. unwrap_or o (order_of (map low one) (map low other))) (no_order (low y))
    ∙ order_skips n one other (omega (arith, h)) (omega (arith, k)) rest

pub same_skips : (n : ℕ) (one other : List ℕ) → n ≤ length one → n ≤ length other → take n one ≡ take n other
    → bytes_eq (map low one) (map low other) ≡ bytes_eq (map low (drop n one)) (map low (drop n other))
same_skips zero one other h k same = refl
same_skips (suc n) [] other h k same = absurd (omega (arith, h))
same_skips (suc n) (x ∷ one) [] h k same = absurd (omega (arith, k))
same_skips (suc n) (x ∷ one) (y ∷ other) h k same =
    let first : x ≡ y = ap (λ (xs : List ℕ). get_or xs 0 0) same in
    let rest : take n one ≡ take n other = ap (λ (xs : List ℕ). drop 1 xs) same in
    ap (λ b. b && bytes_eq (map low one) (map low other)) (eq-eqb (low x) (low y) (ap low first))
    ∙ same_skips n one other (omega (arith, h)) (omega (arith, k)) rest

-- one block more that is the same
abbrev nil : List ℕ
nil = []

take_both : (n k : ℕ) (xs : List ℕ) → take (n + k) xs ≡ take n xs ++ take k (drop n xs)
take_both zero k xs = let e : zero + k ≡ k = omega arith in ap (λ m. take m xs) e
take_both (suc n) k [] = let e : suc n + k ≡ suc (n + k) = omega arith in ap (λ m. take m nil) e ∙ sym (nothing k)
  where
    nothing : (k : ℕ) → take k nil ≡ nil
    nothing k = grind arith
take_both (suc n) k (x ∷ xs) =
    let e : suc n + k ≡ suc (n + k) = omega arith in
    ap (λ m. take m (x ∷ xs)) e ∙ ap (λ ys. x ∷ ys) (take_both n k xs)

pub same_block : (start end next : ℕ) (one other : List ℕ) → start ≤ end → next ≡ end
    → take start one ≡ take start other
    → slice_range one start end ≡ slice_range other start end → take next one ≡ take next other
same_block start end next one other h stop before block =
    let whole : next ≡ start + (end - start) = omega (arith, h, stop) in
    ap (λ n. take n one) whole ∙ take_both start (end - start) one
    ∙ ap (λ xs. xs ++ take (end - start) (drop start one)) before
    ∙ ap (λ xs. take start other ++ xs) block
    ∙ sym (take_both start (end - start) other) ∙ ap (λ n. take n other) (sym whole)

-- the last block, which begins among those that are known to be the same
pub same_last : (start size : ℕ) (one other : List ℕ) → length other ≡ length one → size ≤ length one
    → length one - size ≤ start → take start one ≡ take start other
    → slice_range one (length one - size) (length one) ≡ slice_range other (length one - size) (length other)
    → take (length one) one ≡ take (length one) other
same_last start size one other n some low before block =
    let first = length one - size in
    let known : take first one ≡ take first other = sym (take-take first start one low)
    ∙ ap (take first) before ∙ take-take first start other low in
    same_block first (length one) (length one) one other (omega arith) refl known
    (block ∙ ap (λ k. slice_range other first k) n)

-- ---- written

-- words put one by one are put over the components
sets_in : (heap : Heap ℕ) (number from : ℕ) (words : List ℕ) (object : Object ℕ) → object_at heap number ≡ Some object
    → put_all heap number from words ≡ with_object heap number (cells_of_kind object (sets object.cells from words))
sets_in heap number from [] object e = sym (same_heap heap number object e)
sets_in heap number from (w ∷ words) object e =
    let one = with_cell object from w in
    let next : from + 1 ≡ suc from = omega arith in
    ap (λ h. put_all h number (from + 1) words) (put_some heap number from w object e)
    ∙ sets_in (with_object heap number one) number (from + 1) words one (new_object heap number object one e)
    ∙ twice heap number one (cells_of_kind one (sets one.cells (from + 1) words))
    ∙ ap (λ k. with_object heap number (cells_of_kind object (sets one.cells k words))) next

pub put_part : (heap : Heap ℕ) (number from : ℕ) (words : List ℕ) (object : Object ℕ)
    → object_at heap number ≡ Some object → from + length words ≤ length object.cells
    → with_object heap number (with_cells object from words) ≡ put_all heap number from words
put_part heap number from words object e h =
    sym (sets_in heap number from words object e
    ∙ ap (λ cells. with_object heap number (cells_of_kind object cells)) (sets-eq words object.cells from h))

-- a part, as it is
pub words_in : (heap : Heap ℕ) (number from count : ℕ) (object : Object ℕ) → object_at heap number ≡ Some object
    → from + count ≤ length object.cells → part_in object from count ≡ cells_from heap number from count
words_in heap number from count object e h = grind (arith, part_words)
