-- Many cells at once, and the components of one object among them.
use Rattle.std.proofs.Common.{◌≡◌, ℕ, zero, suc, ◌+◌, ◌-◌, ◌≤◌, List, [], ◌∷◌, ◌++◌}
use Rattle.std.proofs.Common.{refl, sym, ap, subst, ◌∙◌, arith, length, map, take, drop, set, append-nil}
use Rattle.std.proofs.Common.{append_assoc, Some, slice_get, slice_range, replicate, unwrap_or}
use Rattle.std.proofs.Math.Seq.{length-sets, sets}
use Rattle.std.proofs.lemmas.List.{drop-take, drop-drop, drop_all, length-replicate, replicate-append-replicate}
use Rattle.std.proofs.lemmas.List.{take-take, take_all}
use Rattle.std.proofs.lemmas.Option.{same_Some}
use Rattle.std.proofs.lemmas.List.Edits.{sets-eq}
use Rattle.std.specs.Option.{option_map_or}
use Rattle.jc_store.specs.Blocks.{components_of, part_in, put_over, with_cells}
use Rattle.jc_store.specs.Heap.{Heap, Object, object_at, with_object}
use Rattle.jc_store.specs.PrivateLaid.{Header, IsLaid, IsStored, Sizes, classes_in, head_of, headers_of, null_head}
use Rattle.jc_store.specs.PrivateLaid.{object_in, objects_in}
use Rattle.jc_store.specs.Store.{Store, with_objects}
use Rattle.jc_store.specs.declared.header.Head.{Head}
use Rattle.jc_store.specs.declared.header.Rest.{Rest}
use Rattle.jc_store.proofs.Laid.{made_of}
use Rattle.jc_store.proofs.Making.{lies_before, range_length}
use Rattle.jc_store.proofs.Blanking.{dropped_past, put_all}
use Rattle.jc_store.proofs.Held.{found, object_put, sized, viewed}
use Rattle.jc_store.proofs.Rows.{HasHead, its_head, store_of}

-- ---- filled by copies

front_of : (n more word : ℕ) (rest : List ℕ) → more ≤ n → take more (replicate n word ++ rest) ≡ replicate more word
front_of n zero word rest low = refl
front_of zero (suc more) word rest low = absurd (omega (arith, low))
front_of (suc n) (suc more) word rest low = ap (λ words. word ∷ words) (front_of n more word rest (omega (arith, low)))

behind : (n word : ℕ) (rest : List ℕ) → drop n (replicate n word ++ rest) ≡ rest
behind zero word rest = refl
behind (suc n) word rest = behind n word rest

-- a block more is filled
pub filled_on : (cells now : List ℕ) (word filled count : ℕ) → now ≡ replicate filled word ++ drop filled cells
    → put_over now filled (replicate count word) ≡ replicate (filled + count) word ++ drop (filled + count) cells
filled_on cells now word filled count is =
    let words : List ℕ = replicate count word in
    let front : take filled now ≡ replicate filled word =
    ap (take filled) is ∙ front_of filled filled word (drop filled cells) (omega arith) in
    let rest : drop (filled + count) now ≡ drop (filled + count) cells =
    sym (drop-drop count filled now) ∙ ap (λ xs. drop count (drop filled xs)) is
    ∙ ap (drop count) (behind filled word (drop filled cells)) ∙ drop-drop count filled cells in
    ap (λ k. (take filled now ++ words) ++ drop (filled + k) now) (length-replicate count word)
    ∙ ap (λ xs. (xs ++ words) ++ drop (filled + count) now) front
    ∙ ap (λ xs. (replicate filled word ++ words) ++ xs) rest
    ∙ ap (λ xs. xs ++ drop (filled + count) cells) (replicate-append-replicate filled count word)

-- the last block, which begins within what is filled
pub filled_last : (cells now : List ℕ) (word filled start count : ℕ) → now ≡ replicate filled word ++ drop filled cells
    → start ≤ filled → start + count ≡ length now
    → put_over now start (replicate count word) ≡ replicate (start + count) word
filled_last cells now word filled start count is low end =
    let words : List ℕ = replicate count word in
    let front : take start now ≡ replicate start word =
    ap (take start) is ∙ front_of filled start word (drop filled cells) low in
    let none : drop (start + count) now ≡ [] = drop_all (start + count) now (omega (arith, end)) in
    ap (λ k. (take start now ++ words) ++ drop (start + k) now) (length-replicate count word)
    ∙ ap (λ xs. (xs ++ words) ++ drop (start + count) now) front
    ∙ ap (λ xs. (replicate start word ++ words) ++ xs) none
    ∙ append-nil (replicate start word ++ words) ∙ replicate-append-replicate start count word

-- what is filled is copied behind itself
pub filled_more : (cells now : List ℕ) (word filled more : ℕ) → now ≡ replicate filled word ++ drop filled cells
    → more ≤ filled
    → take filled now ++ (take more (take filled now) ++ drop more (drop filled now))
    ≡ replicate (filled + more) word ++ drop (filled + more) cells
filled_more cells now word filled more is low =
    let rest = drop filled cells in
    let words : List ℕ = replicate filled word in
    let none : replicate filled word ++ [] ≡ replicate filled word = append-nil words in
    let front : take filled now ≡ words = ap (take filled) is ∙ front_of filled filled word rest (omega arith) in
    let part : take more words ≡ replicate more word =
    ap (take more) (sym none) ∙ front_of filled more word [] low in
    let back : drop more (drop filled now) ≡ drop (filled + more) cells =
    ap (λ xs. drop more (drop filled xs)) is ∙ ap (drop more) (behind filled word rest) ∙ drop-drop more filled cells in
    ap (λ xs. xs ++ (take more xs ++ drop more (drop filled now))) front
    ∙ ap (λ xs. words ++ (xs ++ drop more (drop filled now))) part
    ∙ ap (λ xs. words ++ (replicate more word ++ xs)) back
    ∙ sym (append_assoc words (replicate more word) (drop (filled + more) cells))
    ∙ ap (λ xs. xs ++ drop (filled + more) cells) (replicate-append-replicate filled more word)

-- a part of a part
part_of_part : (cells : List ℕ) (start len index count : ℕ) → index + count ≤ len
    → slice_range (slice_range cells start (start + len)) index (index + count)
    ≡ slice_range cells (start + index) (start + index + count)
part_of_part cells start len index count within =
    let own : start + len - start ≡ len = omega arith in
    let size : index + count - index ≡ count = omega arith in
    let same : start + index + count - (start + index) ≡ count = omega arith in
    let rest : index + (len - index) ≡ len = omega (arith, within) in
    ap (λ k. take (index + count - index) (drop index (take k (drop start cells)))) own
    ∙ ap (λ k. take k (drop index (take len (drop start cells)))) size
    ∙ ap (λ k. take count (drop index (take k (drop start cells)))) (sym rest)
    ∙ ap (take count) (drop-take index (len - index) (drop start cells))
    ∙ take-take count (len - index) (drop index (drop start cells)) (omega (arith, within))
    ∙ ap (take count) (drop-drop index start cells)
    ∙ ap (λ k. take k (drop (start + index) cells)) (sym same)

-- ---- the components of one object, where objects are laid one behind the other

module _ (headers : List Header) (cells : List ℕ) (s : Sizes) (laid : IsLaid headers cells s) (number : ℕ)
    (h : Header) (at : slice_get headers number ≡ Some h) (index : ℕ) (words : List ℕ)
    (fits : index + length words ≤ h.len) where
  over_is : put_over cells (h.start + index) words ≡ sets cells (h.start + index) words
  over_is = let z = sized headers cells s laid number h at in let e = z.1 in
      sym (sets-eq words cells (h.start + index) (omega (arith, e, fits)))

  own_is : sets (object_in cells h).cells index words ≡ put_over (object_in cells h).cells index words
  own_is = let z = sized headers cells s laid number h at in let e = z.0 in
      sets-eq words (object_in cells h).cells index (omega (arith, e, fits))

  -- words put over some of its components
  block_in : objects_in (put_over cells (h.start + index) words) headers
      ≡ set (objects_in cells headers) number (with_cells (object_in cells h) index words)
  block_in = ap (λ xs. objects_in xs headers) over_is
      ∙ put_all words cells index s.used headers number h laid.laid at fits
      ∙ ap (λ own. set (objects_in cells headers) number (made_of h own)) own_is

  -- leave the others as they lie
  block_laid : IsLaid headers (put_over cells (h.start + index) words) s
  block_laid =
      let same : length (put_over cells (h.start + index) words) ≡ length cells =
      ap (λ (xs : List ℕ). length xs) over_is ∙ length-sets cells (h.start + index) words in
      let before = lies_before 0 s.used headers number h laid.laid at in
      record {
        laid = laid.laid;
        header_count = laid.header_count;
        cell_count = laid.cell_count ∙ sym same;
        sized = same ∙ laid.sized;
        within = laid.within;
        blank = ap (drop s.used) over_is
            ∙ dropped_past words cells (h.start + index) s.used (omega (arith, before, fits)) ∙ laid.blank;
        objects = laid.objects;
        reserved = laid.reserved;
        few_objects = laid.few_objects;
        few_cells = laid.few_cells;
      }

-- ---- the same of a store, by an object's head

module _ {heads : List Head} {rests : List Rest} {cells : List ℕ} {s : Sizes}
    (stored : IsStored heads rests cells s) {now : Store} (view : viewed (headers_of heads rests) cells s ≡ now)
    (number index count : ℕ) (object : Object ℕ) (lent : List Head) (head : Head)
    (is : object_at now.objects number ≡ Some object) (within : index + count ≤ length object.cells)
    (same : lent ≡ heads) (at : slice_get lent number ≡ Some head) where
  its : HasHead (headers_of heads rests) cells number object head
  its = its_head stored view number object lent head is same at

  its_size : (length (object_in cells its.header).cells ≡ its.header.len) ×
      (its.header.start + its.header.len ≤ length cells)
  its_size = sized (headers_of heads rests) cells s stored.laid (number - 1) its.header its.at

  fits_in : index + count ≤ its.header.len
  fits_in =
      let z = its_size.0 in
      let o = ap (λ (o : Object ℕ). length o.cells) its.is in
      omega (arith, z, o, within)

  start_is : its.header.start ≡ head.start
  start_is = ap (λ (x : Head). x.start) its.head_is

  -- they lie among the cells
  pub block_within : head.start + index + count ≤ length cells
  block_within = let f = fits_in in let z = its_size.1 in let e = start_is in omega (arith, f, z, e)

  -- so many of them
  pub block_at : slice_range cells (head.start + index) (head.start + index + count)
      ≡ slice_range object.cells index (index + count)
  block_at = ap (λ k. slice_range cells (k + index) (k + index + count)) (sym start_is)
      ∙ sym (part_of_part cells its.header.start its.header.len index count fits_in)
      ∙ ap (λ (o : Object ℕ). slice_range o.cells index (index + count)) its.is

  -- words put over them
  block_put : (words : List ℕ) → length words ≡ count
      → objects_in (put_over cells (head.start + index) words) (headers_of heads rests)
      ≡ with_object now.objects number (with_cells object index words)
  block_put words n =
      let f = fits_in in
      let objects = ap (λ (x : Store). x.objects) view in
      let some = (found (headers_of heads rests) cells now objects number object is).some in
      ap (λ k. objects_in (put_over cells (k + index) words) (headers_of heads rests)) (sym start_is)
      ∙ block_in (headers_of heads rests) cells s stored.laid (number - 1) its.header its.at index words
      (omega (arith, f, n))
      ∙ ap (λ (o : Object ℕ). set (objects_in cells (headers_of heads rests)) (number - 1) (with_cells o index words))
      its.is
      ∙ object_put (objects_in cells (headers_of heads rests)) number (with_cells object index words) some
      ∙ ap (λ (x : Store). with_object x.objects number (with_cells object index words)) view

  block_length : (words : List ℕ) → length words ≡ count
      → length (put_over cells (head.start + index) words) ≡ length cells
  block_length words n =
      let fits = block_within in
      ap (λ (xs : List ℕ). length xs) (sym (sets-eq words cells (head.start + index) (omega (arith, fits, n))))
      ∙ length-sets cells (head.start + index) words

  block_kept : (words : List ℕ) → length words ≡ count
      → IsStored heads rests (put_over cells (head.start + index) words) s
  block_kept words n =
      let f = fits_in in
      subst (λ k. IsStored heads rests (put_over cells (k + index) words) s) start_is (record {
        rows = stored.rows;
        laid = block_laid (headers_of heads rests) cells s stored.laid (number - 1) its.header its.at index words
            (omega (arith, f, n));
        head_count = stored.head_count;
        head_reserved = stored.head_reserved;
      })

  -- a slice that was lent whole and has as many cells as before
  given_back : (n : ℕ) (new words : List ℕ) → n ≡ length cells → length words ≡ count
      → new ≡ put_over cells (head.start + index) words
      → take n (new ++ drop (length new) cells) ≡ put_over cells (head.start + index) words
  given_back n new words size w is =
      let kept = block_length words w in
      let len : length new ≡ length cells = ap (λ (xs : List ℕ). length xs) is ∙ kept in
      ap (λ xs. take n (new ++ xs)) (drop_all (length new) cells (omega (arith, len)))
      ∙ ap (take n) (append-nil new) ∙ take_all n new (omega (arith, len, size)) ∙ is

  pub put_back : (new words : List ℕ) → length words ≡ count
      → new ≡ put_over cells (head.start + index) words
      → viewed (headers_of heads rests) (take s.cells (new ++ drop (length new) cells)) s
      ≡ with_objects now (with_object now.objects number (with_cells object index words))
  put_back new words w e =
      ap (λ xs. viewed (headers_of heads rests) xs s) (given_back s.cells new words stored.laid.cell_count w e)
      ∙ ap (λ os. store_of os (classes_in (headers_of heads rests)) s.most_objects s.most_cells) (block_put words w)
      ∙ ap (λ (x : Store). with_objects x (with_object now.objects number (with_cells object index words))) view

  pub kept_back : (new words : List ℕ) → length words ≡ count
      → new ≡ put_over cells (head.start + index) words
      → IsStored heads rests (take s.cells (new ++ drop (length new) cells)) s
  kept_back new words w e =
      subst (λ xs. IsStored heads rests xs s) (sym (given_back s.cells new words stored.laid.cell_count w e))
      (block_kept words w)

-- an object is the one that it is
pub same_within : (heap : Heap ℕ) (number : ℕ) (there object : Object ℕ) (end : ℕ)
    → object_at heap number ≡ Some there → object_at heap number ≡ Some object
    → end ≤ length there.cells → end ≤ length object.cells
same_within heap number there object end e f within =
    let n = ap (λ (o : Object ℕ). length o.cells) (same_Some there object (sym e ∙ f)) in omega (arith, n, within)

-- as many words as components
pub part_count : (object : Object ℕ) (index count : ℕ) → index + count ≤ length object.cells
    → length (part_in object index count) ≡ count
part_count object index count within = range_length object.cells index count within

-- ---- all components of an object, or none where it isn't there

abbrev pub range_of : List ℕ → Head → List ℕ
range_of cells head = slice_range cells head.start (head.start + head.len)

ranges : (cells : List ℕ) (headers : List Header) (n : ℕ)
    → range_of cells (unwrap_or (slice_get (map head_of headers) n) null_head)
    ≡ option_map_or (λ (o : Object ℕ). o.cells) (slice_get (objects_in cells headers) n) []
ranges cells [] n = refl
ranges cells (h ∷ headers) zero = refl
ranges cells (h ∷ headers) (suc n) = ranges cells headers n

ends : (cells : List ℕ) (headers : List Header) (n : ℕ)
    → ((number : ℕ) (h : Header) → slice_get headers number ≡ Some h → h.start + h.len ≤ length cells)
    → let head = unwrap_or (slice_get (map head_of headers) n) null_head in head.start + head.len ≤ length cells
ends cells [] n all = omega arith
ends cells (h ∷ headers) zero all = all 0 h refl
ends cells (h ∷ headers) (suc n) all = ends cells headers n (λ number g e. all (suc number) g e)

module _ {heads : List Head} {rests : List Rest} {cells : List ℕ} {s : Sizes}
    (stored : IsStored heads rests cells s) {now : Store} (view : viewed (headers_of heads rests) cells s ≡ now) where
  ends_at : (number : ℕ) → let head = unwrap_or (slice_get (null_head ∷ map head_of (headers_of heads rests)) number)
      null_head in head.start + head.len ≤ length cells
  ends_at zero = omega arith
  ends_at (suc n) = ends cells (headers_of heads rests) n
      (λ number h at. (sized (headers_of heads rests) cells s stored.laid number h at).1)

  range_at : (number : ℕ) → range_of cells (unwrap_or (slice_get (null_head ∷ map head_of (headers_of heads rests))
      number) null_head) ≡ components_of (objects_in cells (headers_of heads rests)) number
  range_at zero = refl
  range_at (suc n) = ranges cells (headers_of heads rests) n

  pub components_within : (number : ℕ) (lent : List Head) (head : Head) → lent ≡ heads
      → head ≡ unwrap_or (slice_get lent number) null_head → head.start + head.len ≤ length cells
  components_within number lent head same at =
      subst (λ (x : Head). x.start + x.len ≤ length cells)
      (sym (at ∙ ap (λ (xs : List Head). unwrap_or (slice_get xs number) null_head) (same ∙ stored.rows.heads_are)))
      (ends_at number)

  pub components_are : (number : ℕ) (lent : List Head) (head : Head) → lent ≡ heads
      → head ≡ unwrap_or (slice_get lent number) null_head
      → range_of cells head ≡ components_of now.objects number
  components_are number lent head same at =
      ap (range_of cells)
      (at ∙ ap (λ (xs : List Head). unwrap_or (slice_get xs number) null_head) (same ∙ stored.rows.heads_are))
      ∙ range_at number ∙ ap (λ (x : Store). components_of x.objects number) view
