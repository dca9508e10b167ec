-- The objects of a store and their headers.
use Rattle.std.proofs.Common.{◌≡◌, ◌⊎◌, inl, inr, ℕ, zero, suc, ◌+◌, ◌-◌, ◌<◌, ◌≤◌, List, [], ◌∷◌, ◌++◌, length, take}
use Rattle.std.proofs.Common.{drop, set, replicate, Some, slice_get, slice_range, refl, sym, ap, subst, ◌∙◌, arith}
use Rattle.std.proofs.lemmas.List.{drop-drop, drop-replicate, drop-set-lt, length-map, length-set, map-append}
use Rattle.std.proofs.lemmas.Option.{none-some, same_Some, slice_get_within}
use Rattle.jc_store.specs.Heap.{Heap, Object, cells_in, object_at, with_cell, with_object}
use Rattle.jc_store.specs.PrivateLaid.{HasRoom, Header, IsLaid, Sizes, classes_in, object_in, objects_in}
use Rattle.jc_store.specs.Store.{IsFull, Store, fresh}
use Rattle.jc_store.proofs.Laid.{made_of, put_there}
use Rattle.jc_store.proofs.Making.{blank_there, cells_counted, has_length, laid_more, lies_before}

-- the header of an object
pub record Found (headers : List Header) (cells : List ℕ) (number : ℕ) (object : Object ℕ) : Type 0 where
  pub header : Header
  pub at : slice_get headers (number - 1) ≡ Some header
  pub is : object_in cells header ≡ object
  pub some : 0 < number
  pub there : number ≤ length headers

of_map : (cells : List ℕ) (headers : List Header) (n : ℕ) (object : Object ℕ) → slice_get (objects_in cells headers) n ≡ Some object
    → (h : Header) × (slice_get headers n ≡ Some h) × (object_in cells h ≡ object)
of_map cells [] n object e = absurd (none-some object e)
of_map cells (h ∷ headers) zero object e = (h, refl, same_Some (object_in cells h) object e)
of_map cells (h ∷ headers) (suc n) object e = of_map cells headers n object e

module _ (headers : List Header) (cells : List ℕ) (now : Store) (view : objects_in cells headers ≡ now.objects) where
  pub found : (number : ℕ) (object : Object ℕ) → object_at now.objects number ≡ Some object → Found headers cells number object
  found zero object e = absurd (none-some object e)
  found (suc n) object e =
      let h = of_map cells headers n object (ap (λ (xs : Heap ℕ). slice_get xs n) view ∙ e) in
      let pre : suc n - 1 ≡ n = omega arith in
      let within = slice_get_within headers n h.0 h.1 in
      record { header = h.0; at = ap (slice_get headers) pre ∙ h.1; is = h.2; some = omega arith; there = omega (arith, within) }

-- the store that lies so
abbrev pub viewed : List Header → List ℕ → Sizes → Store
viewed headers cells s = record {
  objects = objects_in cells headers;
  classes = classes_in headers;
  most_objects = s.most_objects;
  most_cells = s.most_cells;
}

-- the store as it lies
module _ (headers : List Header) (cells : List ℕ) (s : Sizes) (laid : IsLaid headers cells s) where
  abbrev end_within : s.used ≤ length cells
  end_within = let z = laid.sized in let w = laid.within in omega (arith, z, w)

  pub counted : cells_in (objects_in cells headers) ≡ s.used + length headers
  counted = let c = cells_counted cells 0 s.used headers laid.laid end_within in omega (arith, c)

  pub cells_used : s.used + s.headers ≡ cells_in (objects_in cells headers)
  cells_used = let c = counted in let n = laid.header_count in omega (arith, c, n)

  -- how many components, and where they lie
  pub sized : (number : ℕ) (h : Header) → slice_get headers number ≡ Some h → (length (object_in cells h).cells ≡ h.len) × (h.start + h.len ≤ length cells)
  sized number h at = has_length cells 0 s.used headers number h laid.laid end_within at

  -- a component lies among the cells
  pub within_cells : (number index : ℕ) (h : Header) (object : Object ℕ) → slice_get headers number ≡ Some h → object_in cells h ≡ object → index < length object.cells
      → (index < h.len) × (h.start + index < length cells)
  within_cells number index h object at is within =
      let z = sized number h at in
      let l : length object.cells ≡ h.len = ap (λ (o : Object ℕ). length o.cells) (sym is) ∙ z.0 in
      (omega (arith, l, within), let fits = z.1 in omega (arith, l, within, fits))

  pub put_in : (number index word : ℕ) (h : Header) → slice_get headers number ≡ Some h → index < h.len
      → objects_in (set cells (h.start + index) word) headers ≡ set (objects_in cells headers) number (with_cell (object_in cells h) index word)
  put_in number index word h at within = put_there cells word index 0 s.used headers number h laid.laid at within

  -- what numbers say of the room that is left
  pub room_there : (now : Store) (len : ℕ) → viewed headers cells s ≡ now
      → length headers < s.most_objects → len < s.most_cells - s.used - length headers → HasRoom now len
  room_there now len view few fits =
      let n : length (objects_in cells headers) ≡ length headers = length-map headers (object_in cells) in
      let k = counted in let w = laid.within in
      subst (λ (x : Store). HasRoom x len) view (record { objects = omega (arith, n, few); cells = omega (arith, k, w, fits) })

  pub no_room : (now : Store) (len : ℕ) → viewed headers cells s ≡ now
      → (s.most_objects ≤ length headers) ⊎ (s.most_cells - s.used - length headers ≤ len) → IsFull now len
  no_room now len view h =
      subst (λ (x : Store). IsFull x len) view (which h)
    where
      which : (s.most_objects ≤ length headers) ⊎ (s.most_cells - s.used - length headers ≤ len)
          → (s.most_objects ≤ length (objects_in cells headers)) ⊎ (s.most_cells < cells_in (objects_in cells headers) + 1 + len)
      which (inl few) = inl (let n : length (objects_in cells headers) ≡ length headers = length-map headers (object_in cells) in omega (arith, n, few))
      which (inr fits) = inr (let k = counted in let w = laid.within in omega (arith, k, w, fits))

  -- there is room for one object more, by numbers
  pub left_for : (now : Store) (len : ℕ) → viewed headers cells s ≡ now → HasRoom now len
      → (length headers < s.most_objects) × (s.used + length headers + 1 + len ≤ s.most_cells)
  left_for now len view room =
      let o : length (objects_in cells headers) ≡ length now.objects = ap (λ (x : Store). length x.objects) view in
      let n : length (objects_in cells headers) ≡ length headers = length-map headers (object_in cells) in
      let m : s.most_objects ≡ now.most_objects = ap (λ (x : Store). x.most_objects) view in
      let c : cells_in (objects_in cells headers) ≡ cells_in now.objects = ap (λ (x : Store). cells_in x.objects) view in
      let d : s.most_cells ≡ now.most_cells = ap (λ (x : Store). x.most_cells) view in
      let k = counted in
      let r = room.objects in let q = room.cells in
      (omega (arith, o, n, m, r), omega (arith, c, d, k, q))

  -- one object more
  pub one_more : (h : Header) (items : List Header) (heads head_room count room : ℕ) → h.start ≡ s.used
      → (length headers < s.most_objects) × (s.used + length headers + 1 + h.len ≤ s.most_cells)
      → items ≡ headers ++ h ∷ [] → count ≡ s.headers + 1 → room ≡ s.room
      → IsLaid items cells (record {
        heads = heads;
        head_room = head_room;
        headers = count;
        room = room;
        cells = s.cells;
        used = s.used + h.len;
        most_objects = s.most_objects;
        most_cells = s.most_cells;
      })
  one_more h items heads head_room count room start left are counts grows =
      let l : length items ≡ length headers + 1 = ap (λ (xs : List Header). length xs) are ∙ length_more headers h in
      let n = laid.header_count in let r = laid.reserved in
      let fits = left.1 in let few = left.0 in
      let e : s.most_cells - s.used - h.len ≡ s.most_cells - (s.used + h.len) = omega arith in
      record {
        laid = rw are (laid_more 0 s.used headers h laid.laid start);
        header_count = omega (arith, l, n, counts);
        cell_count = laid.cell_count;
        sized = laid.sized;
        within = omega (arith, l, fits);
        blank = sym (drop-drop h.len s.used cells) ∙ ap (drop h.len) laid.blank ∙ drop-replicate h.len (s.most_cells - s.used) 0 ∙ ap (λ k. replicate k 0) e;
        objects = omega (arith, l, few);
        reserved = omega (arith, r, grows);
        few_objects = laid.few_objects;
        few_cells = laid.few_cells;
      }
    where
      length_more : (xs : List Header) (x : Header) → length (xs ++ x ∷ []) ≡ length xs + 1
      length_more [] x = refl
      length_more (y ∷ xs) x = let k = length_more xs x in omega (arith, k)

  -- the objects with it
  pub objects_more : (h : Header) (items : List Header) → h.start ≡ s.used → s.used + length headers + 1 + h.len ≤ s.most_cells → items ≡ headers ++ h ∷ []
      → objects_in cells items ≡ objects_in cells headers ++ fresh h.kind h.owner h.len ∷ []
  objects_more h items start fits are =
      ap (objects_in cells) are ∙ map-append (object_in cells) headers (h ∷ [])
      ∙ ap (λ o. objects_in cells headers ++ o ∷ []) (ap (λ x. made_of h (slice_range cells x (x + h.len))) start ∙ ap (made_of h) (blank_there cells s.used s.most_cells h.len laid.blank (omega (arith, fits))))

  -- a word put into a component leaves the others as they lie
  pub kept_laid : (number index word : ℕ) (h : Header) → slice_get headers number ≡ Some h → index < h.len → IsLaid headers (set cells (h.start + index) word) s
  kept_laid number index word h at within =
      let before : h.start + index < s.used = let b = lies_before 0 s.used headers number h laid.laid at in omega (arith, b, within) in
      record {
        laid = laid.laid;
        header_count = laid.header_count;
        cell_count = laid.cell_count ∙ sym (length-set cells (h.start + index) word);
        sized = length-set cells (h.start + index) word ∙ laid.sized;
        within = laid.within;
        blank = drop-set-lt s.used cells (h.start + index) word before ∙ laid.blank;
        objects = laid.objects;
        reserved = laid.reserved;
        few_objects = laid.few_objects;
        few_cells = laid.few_cells;
      }

-- an object in place of the one with a number
pub object_put : (heap : Heap ℕ) (number : ℕ) (object : Object ℕ) → 0 < number → set heap (number - 1) object ≡ with_object heap number object
object_put heap zero object some = absurd (omega (arith, some))
object_put heap (suc n) object some = let e : suc n - 1 ≡ n = omega arith in ap (λ k. set heap k object) e

-- an element of a part
part_get : {A : Type 0} (xs : List A) (start len index : ℕ) (x : A) → index < len → slice_get xs (start + index) ≡ Some x → slice_get (slice_range xs start (start + len)) index ≡ Some x
part_get xs start len index x within at =
    let is : start + len - start ≡ len = omega arith in
    rw is (taken (drop start xs) len index x within (dropped xs start index x at))
  where
    dropped : {A : Type 0} (xs : List A) (start index : ℕ) (x : A) → slice_get xs (start + index) ≡ Some x → slice_get (drop start xs) index ≡ Some x
    dropped xs zero index x at = let e : zero + index ≡ index = omega arith in ap (slice_get xs) (sym e) ∙ at
    dropped [] (suc n) index x at = absurd (none-some x at)
    dropped (y ∷ xs) (suc n) index x at = let e : suc n + index ≡ suc (n + index) = omega arith in dropped xs n index x (ap (slice_get (y ∷ xs)) (sym e) ∙ at)

    taken : {A : Type 0} (xs : List A) (len index : ℕ) (x : A) → index < len → slice_get xs index ≡ Some x → slice_get (take len xs) index ≡ Some x
    taken xs zero index x within at = absurd (omega (arith, within))
    taken [] (suc n) index x within at = absurd (none-some x at)
    taken (y ∷ xs) (suc n) zero x within at = at
    taken (y ∷ xs) (suc n) (suc k) x within at = taken xs n k x (omega (arith, within)) at

-- what a component holds
pub cell_of : (cells : List ℕ) (h : Header) (object : Object ℕ) (index word : ℕ) → object_in cells h ≡ object → index < h.len → slice_get cells (h.start + index) ≡ Some word
    → slice_get object.cells index ≡ Some word
cell_of cells h object index word is within at = ap (λ (o : Object ℕ). slice_get o.cells index) (sym is) ∙ part_get cells h.start h.len index word within at
