-- The two rows that are kept of each object, and what calls read and write by them.
use Rattle.std.proofs.Common.{◌≡◌, ◌⊎◌, inl, inr, ℕ, zero, suc, ◌+◌, ◌-◌, ◌<◌, ◌≤◌, List, [], ◌∷◌, ◌++◌, length, map}
use Rattle.std.proofs.Common.{set, take, Option, None, Some, slice_get, refl, sym, ap, subst, ◌∙◌, arith}
use Rattle.std.proofs.lemmas.List.{length-map, map-append}
use Rattle.std.proofs.lemmas.Option.{none-some, same_Some}
use Rattle.jc_names.specs.declared.owner.Owner.{Owner}
use Rattle.jc_store.specs.Blocks.{components_in}
use Rattle.jc_store.specs.Heap.{Heap, Object, cells_in, object_at, with_cell, with_object}
use Rattle.jc_store.specs.PrivateLaid.{AreRows, AreWithin, HasRoom, Header, IsStored, Sizes, classes_in, fast_in}
use Rattle.jc_store.specs.PrivateLaid.{head_of, header_in, headers_of, joined, null_head, object_in, objects_in}
use Rattle.jc_store.specs.PrivateLaid.{rest_of}
use Rattle.jc_store.specs.Store.{IsFull, IsOwn, IsReference, IsThere, Store, class_number_at, fresh, with_made}
use Rattle.jc_store.specs.declared.header.Head.{Head}
use Rattle.jc_store.specs.declared.header.Rest.{Rest}
use Rattle.jc_store.specs.declared.kind.ClearingEvent.{ClearingEvent}
use Rattle.jc_store.specs.declared.kind.ClearingEvent.TheVariants.{Reset, Deselect}
use Rattle.jc_store.proofs.Blanking.{next_within}
use Rattle.jc_store.proofs.Held.{cell_of, cells_used, found, kept_laid, left_for, no_room, object_put, objects_more}
use Rattle.jc_store.proofs.Held.{one_more, put_in, room_there, sized, viewed, within_cells}
use Rattle.jc_store.proofs.Making.{begins_behind}

-- ---- rows and headers

joined_at : (heads : List Head) (rests : List Rest) (n : ℕ) (head : Head) (rest : Rest) → slice_get heads n ≡ Some head
    → slice_get rests n ≡ Some rest
    → slice_get (joined heads rests) n ≡ Some (header_in head rest)
joined_at [] rests n head rest e f = absurd (none-some head e)
joined_at (h ∷ heads) [] n head rest e f = absurd (none-some rest f)
joined_at (h ∷ heads) (r ∷ rests) zero head rest e f = ap (λ x. Some (header_in x r)) (same_Some h head e)
    ∙ ap (λ x. Some (header_in head x)) (same_Some r rest f)
joined_at (h ∷ heads) (r ∷ rests) (suc n) head rest e f = joined_at heads rests n head rest e f

-- the header of the object whose rows these are
pub header_at : (heads : List Head) (rests : List Rest) (n : ℕ) (head : Head) (rest : Rest)
    → slice_get heads (n + 1) ≡ Some head → slice_get rests n ≡ Some rest
    → slice_get (headers_of heads rests) n ≡ Some (header_in head rest)
header_at [] rests n head rest e f = absurd (none-some head e)
header_at (null ∷ heads) rests n head rest e f =
    let next : n + 1 ≡ suc n = omega arith in
    joined_at heads rests n head rest (ap (slice_get (null ∷ heads)) (sym next) ∙ e) f

pub count_of : (heads : List Head) (rests : List Rest) → AreRows heads rests
    → length rests ≡ length (headers_of heads rests)
count_of heads rests rows = ap (λ (xs : List Rest). length xs) rows.rests_are
    ∙ length-map (headers_of heads rests) rest_of

pub heads_count : (heads : List Head) (rests : List Rest) → AreRows heads rests
    → length heads ≡ length (headers_of heads rests) + 1
heads_count heads rests rows =
    let n : length (map head_of (headers_of heads rests)) ≡ length (headers_of heads rests) =
    length-map (headers_of heads rests) head_of in
    let l : length heads ≡ suc (length (map head_of (headers_of heads rests))) =
    ap (λ (xs : List Head). length xs) rows.heads_are in
    omega (arith, n, l)

joined_of : (headers : List Header) → joined (map head_of headers) (map rest_of headers) ≡ headers
joined_of [] = refl
joined_of (h ∷ headers) = ap (λ hs. h ∷ hs) (joined_of headers)

-- rows that are those of headers are joined to these
rows_of : (heads : List Head) (rests : List Rest) (headers : List Header) → heads ≡ null_head ∷ map head_of headers
    → rests ≡ map rest_of headers
    → (headers_of heads rests ≡ headers) × AreRows heads rests
rows_of heads rests headers hs rs =
    let are : headers_of heads rests ≡ headers = ap (λ x. headers_of x rests) hs
    ∙ ap (λ x. headers_of (null_head ∷ map head_of headers) x) rs ∙ joined_of headers in (
      are,
      record {
        heads_are = hs ∙ ap (λ (xs : List Header). null_head ∷ map head_of xs) (sym are);
        rests_are = rs ∙ ap (map rest_of) (sym are);
      },
    )

-- the rows of one object more
rows_more : (heads more_heads : List Head) (rests more_rests : List Rest) (h : Header) → AreRows heads rests
    → more_heads ≡ heads ++ head_of h ∷ [] → more_rests ≡ rests ++ rest_of h ∷ []
    → (headers_of more_heads more_rests ≡ headers_of heads rests ++ h ∷ []) × AreRows more_heads more_rests
rows_more heads more_heads rests more_rests h rows hs rs =
    rows_of more_heads more_rests (headers_of heads rests ++ h ∷ [])
    (hs ∙ ap (λ xs. xs ++ head_of h ∷ []) rows.heads_are
    ∙ ap (λ xs. null_head ∷ xs) (sym (map-append head_of (headers_of heads rests) (h ∷ []))))
    (rs ∙ ap (λ xs. xs ++ rest_of h ∷ []) rows.rests_are ∙ sym (map-append rest_of (headers_of heads rests) (h ∷ [])))

mapped : {B : Type 0} (f : Header → B) (headers : List Header) (n : ℕ) (h : Header) → slice_get headers n ≡ Some h
    → slice_get (map f headers) n ≡ Some (f h)
mapped f [] n h e = absurd (none-some h e)
mapped f (g ∷ headers) zero h e = ap (λ x. Some (f x)) (same_Some g h e)
mapped f (g ∷ headers) (suc n) h e = mapped f headers n h e

head_mapped : (headers : List Header) (number : ℕ) (h : Header) → 0 < number → slice_get headers (number - 1) ≡ Some h
    → slice_get (null_head ∷ map head_of headers) number ≡ Some (head_of h)
head_mapped headers zero h some e = absurd (omega (arith, some))
head_mapped headers (suc n) h some e = let pre : suc n - 1 ≡ n = omega arith in
    mapped head_of headers n h (ap (slice_get headers) (sym pre) ∙ e)

class_mapped : (headers : List Header) (number : ℕ) (h : Header) → 0 < number → slice_get headers (number - 1) ≡ Some h
    → class_number_at (classes_in headers) number ≡ Some h.class
class_mapped headers zero h some e = absurd (omega (arith, some))
class_mapped headers (suc n) h some e = let pre : suc n - 1 ≡ n = omega arith in
    mapped (λ (x : Header). x.class) headers n h (ap (slice_get headers) (sym pre) ∙ e)

last_class : (headers : List Header) (h : Header)
    → slice_get (classes_in (headers ++ h ∷ [])) (length headers) ≡ Some h.class
last_class [] h = refl
last_class (g ∷ headers) h = last_class headers h

some_at : (rests : List Rest) (n : ℕ) → n < length rests → (rest : Rest) × (slice_get rests n ≡ Some rest)
some_at [] n low = absurd (omega (arith, low))
some_at (rest ∷ rests) zero low = (rest, refl)
some_at (rest ∷ rests) (suc n) low = some_at rests n (omega (arith, low))

-- the components of an object lie within the cells, by its head
pub lies_within : (heads : List Head) (rests : List Rest) (count n : ℕ) (head : Head)
    → AreWithin (headers_of heads rests) count → n < length rests → slice_get heads (n + 1) ≡ Some head
    → head.start + head.len ≤ count
lies_within heads rests count n head within low at =
    let rest = some_at rests n low in
    next_within (headers_of heads rests) count n (header_in head rest.0) within
    (header_at heads rests n head rest.0 at rest.1)

-- ---- the context to which all is allowed

-- whether an object's event is deselect, as a number
abbrev is_deselected : Option ClearingEvent → ℕ
is_deselected None = 0
is_deselected (Some Reset) = 0
is_deselected (Some Deselect) = 1

fast_own : (clears : Option ClearingEvent) (owner : Owner) (context : ℕ) → fast_in clears owner ≡ context
    → context < 256 → (owner.context ≡ context) × (clears ≡ Some Deselect → ⊥)
fast_own None owner context e below = (e, λ f. none-some Deselect f)
fast_own (Some Reset) owner context e below = (e, λ f. let t : 0 ≡ 1 = ap is_deselected f in absurd (omega (arith, t)))
fast_own (Some Deselect) owner context e below = absurd (omega (arith, e, below))

fast_there : (clears : Option ClearingEvent) (owner : Owner) (context : ℕ) → (clears ≡ Some Deselect → ⊥)
    → owner.context ≡ context → fast_in clears owner ≡ context
fast_there None owner context stays is = is
fast_there (Some Reset) owner context stays is = is
fast_there (Some Deselect) owner context stays is = absurd (stays refl)

-- ---- the rows of an object, in a store

abbrev pub store_of : Heap ℕ → List ℕ → ℕ → ℕ → Store
store_of objects classes most_objects most_cells =
    record { objects = objects; classes = classes; most_objects = most_objects; most_cells = most_cells }

-- an object's header, and its head as it was read
pub record HasHead (headers : List Header) (cells : List ℕ) (number : ℕ) (object : Object ℕ)
    (head : Head) : Type 0 where
  pub header : Header
  pub at : slice_get headers (number - 1) ≡ Some header
  pub is : object_in cells header ≡ object
  pub head_is : head_of header ≡ head

module _ {heads : List Head} {rests : List Rest} {cells : List ℕ} {s : Sizes}
    (stored : IsStored heads rests cells s) {now : Store} (view : viewed (headers_of heads rests) cells s ≡ now) where
  objects_are : objects_in cells (headers_of heads rests) ≡ now.objects
  objects_are = ap (λ (x : Store). x.objects) view

  pub its_head : (number : ℕ) (object : Object ℕ) (lent : List Head) (head : Head)
      → object_at now.objects number ≡ Some object → lent ≡ heads → slice_get lent number ≡ Some head
      → HasHead (headers_of heads rests) cells number object head
  its_head number object lent head e same at =
      let f = found (headers_of heads rests) cells now objects_are number object e in
      let read : slice_get (null_head ∷ map head_of (headers_of heads rests)) number ≡ Some head =
      ap (λ (xs : List Head). slice_get xs number) (sym (same ∙ stored.rows.heads_are)) ∙ at in
      record {
        header = f.header;
        at = f.at;
        is = f.is;
        head_is = same_Some (head_of f.header) head
            (sym (head_mapped (headers_of heads rests) number f.header f.some f.at) ∙ read);
      }

  pub its_rest : (number : ℕ) (object : Object ℕ) (lent : List Rest) (rest : Rest)
      → object_at now.objects number ≡ Some object → lent ≡ rests → slice_get lent (number - 1) ≡ Some rest
      → (rest.kind ≡ object.kind) × (rest.owner ≡ object.owner)
  its_rest number object lent rest e same at =
      let f = found (headers_of heads rests) cells now objects_are number object e in
      let read : slice_get (map rest_of (headers_of heads rests)) (number - 1) ≡ Some rest =
      ap (λ (xs : List Rest). slice_get xs (number - 1)) (sym (same ∙ stored.rows.rests_are)) ∙ at in
      let is : rest_of f.header ≡ rest =
      same_Some (rest_of f.header) rest (sym (mapped rest_of (headers_of heads rests) (number - 1) f.header f.at)
      ∙ read) in (
        ap (λ (x : Rest). x.kind) (sym is) ∙ ap (λ (o : Object ℕ). o.kind) f.is,
        ap (λ (x : Rest). x.owner) (sym is)
            ∙ ap (λ (o : Object ℕ). o.owner) f.is,
      )

  -- as many components as its head says
  pub its_len : (number : ℕ) (object : Object ℕ) (lent : List Head) (head : Head)
      → object_at now.objects number ≡ Some object → lent ≡ heads → slice_get lent number ≡ Some head
      → head.len ≡ length object.cells
  its_len number object lent head e same at =
      let f = its_head number object lent head e same at in
      ap (λ (x : Head). x.len) (sym f.head_is)
      ∙ sym (sized (headers_of heads rests) cells s stored.laid (number - 1) f.header f.at).0
      ∙ ap (λ (o : Object ℕ). length o.cells) f.is

  pub its_start : (number : ℕ) → IsThere now number → (lent : List Head) (head : Head) → lent ≡ heads
      → slice_get lent number ≡ Some head → head.start ≡ components_in (take (number - 1) now.objects)
  its_start number there lent head same at =
      let f = its_head number there.object lent head there.is same at in
      let z = stored.laid.sized in let w = stored.laid.within in
      let begins = begins_behind cells 0 s.used (headers_of heads rests) (number - 1) f.header stored.laid.laid
      (omega (arith, z, w)) f.at in
      let is : f.header.start ≡ components_in (take (number - 1) (objects_in cells (headers_of heads rests))) =
      omega (arith, begins) in
      ap (λ (x : Head). x.start) (sym f.head_is) ∙ is
      ∙ ap (λ (objects : Heap ℕ). components_in (take (number - 1) objects)) objects_are

  pub its_class : (number : ℕ) → IsThere now number → (lent : List Head) (head : Head) → lent ≡ heads
      → slice_get lent number ≡ Some head → class_number_at now.classes number ≡ Some head.class
  its_class number there lent head same at =
      let f = its_head number there.object lent head there.is same at in
      let some = (found (headers_of heads rests) cells now objects_are number there.object there.is).some in
      ap (λ (x : Store). class_number_at x.classes number) (sym view)
      ∙ class_mapped (headers_of heads rests) number f.header some f.at ∙ ap (λ (x : Head). Some x.class) f.head_is

  pub class_count : s.headers ≡ length now.classes
  class_count =
      stored.laid.header_count ∙ sym (length-map (headers_of heads rests) (λ (h : Header). h.class))
      ∙ ap (λ (x : Store). length x.classes) view

  its_fast : (number : ℕ) (object : Object ℕ) (lent : List Head) (head : Head)
      → object_at now.objects number ≡ Some object → lent ≡ heads → slice_get lent number ≡ Some head
      → fast_in object.kind.clears object.owner ≡ head.fast
  its_fast number object lent head e same at =
      let f = its_head number object lent head e same at in
      ap (λ (o : Object ℕ). fast_in o.kind.clears o.owner) (sym f.is) ∙ ap (λ (x : Head). x.fast) f.head_is

  null_fast : (number : ℕ) (lent : List Head) (head : Head) → number ≡ 0 → lent ≡ heads
      → slice_get lent number ≡ Some head → head.fast ≡ 256
  null_fast number lent head null same at =
      let read : slice_get (null_head ∷ map head_of (headers_of heads rests)) 0 ≡ Some head =
      ap (λ (xs : List Head). slice_get xs 0) (sym (same ∙ stored.rows.heads_are)) ∙ ap (slice_get lent) (sym null)
      ∙ at in
      ap (λ (x : Head). x.fast) (sym (same_Some null_head head read))

  pub own : (number context : ℕ) (lent : List Head) (head : Head) → IsReference now number → lent ≡ heads
      → slice_get lent number ≡ Some head → head.fast ≡ context → context < 256
      → IsOwn now number context
  own number context lent head (inl null) same at is below = let f = null_fast number lent head null same at in
      absurd (omega (arith, f, is, below))
  own number context lent head (inr there) same at is below =
      let f = fast_own there.object.kind.clears there.object.owner context
      (its_fast number there.object lent head there.is same at ∙ is) below in
      record { object = there.object; is = there.is; owned = f.0; stays = f.1 }

  pub not_own : (number context : ℕ) (lent : List Head) (head : Head) → lent ≡ heads → slice_get lent number ≡ Some head
      → (head.fast ≡ context → ⊥) → IsOwn now number context → ⊥
  not_own number context lent head same at other owned =
      other (sym (its_fast number owned.object lent head owned.is same at)
      ∙ fast_there owned.object.kind.clears owned.object.owner context owned.stays owned.owned)

  -- ---- components

  same_there : (number index : ℕ) (there object : Object ℕ) → object_at now.objects number ≡ Some there
      → object_at now.objects number ≡ Some object → index < length there.cells
      → index < length object.cells
  same_there number index there object e f less = let n =
      ap (λ (o : Object ℕ). length o.cells) (same_Some there object (sym e ∙ f)) in omega (arith, n, less)

  header_within : (number index : ℕ) (object : Object ℕ) (head : Head)
      → (f : HasHead (headers_of heads rests) cells number object head) → index < length object.cells
      → (index < f.header.len) × (f.header.start + index < length cells)
  header_within number index object head f within =
      within_cells (headers_of heads rests) cells s stored.laid (number - 1) index f.header object f.at f.is within

  -- a component lies among the cells
  pub cell_within : (number index : ℕ) (object : Object ℕ) (lent : List Head) (head : Head)
      → object_at now.objects number ≡ Some object → index < length object.cells
      → lent ≡ heads → slice_get lent number ≡ Some head → head.start + index < length cells
  cell_within number index object lent head e within same at =
      let f = its_head number object lent head e same at in
      subst (λ (x : Head). x.start + index < length cells) f.head_is (header_within number index object head f within).1

  pub its_cell : (number index word : ℕ) (there object : Object ℕ) (lent : List Head) (head : Head)
      → object_at now.objects number ≡ Some there → object_at now.objects number ≡ Some object
      → index < length there.cells → lent ≡ heads → slice_get lent number ≡ Some head
      → slice_get cells (head.start + index) ≡ Some word → slice_get object.cells index ≡ Some word
  its_cell number index word there object lent head e at_object less same at read =
      let within = same_there number index there object e at_object less in
      let f = its_head number object lent head at_object same at in
      cell_of cells f.header object index word f.is (header_within number index object head f within).0
      (ap (λ (x : Head). slice_get cells (x.start + index)) f.head_is ∙ read)

  -- a word put into it
  pub put : (number index word : ℕ) (there object : Object ℕ) (lent : List Head) (head : Head)
      → object_at now.objects number ≡ Some there → object_at now.objects number ≡ Some object
      → index < length there.cells → lent ≡ heads → slice_get lent number ≡ Some head
      → objects_in (set cells (head.start + index) word) (headers_of heads rests) ≡ with_object now.objects number
      (with_cell object index word)
  put number index word there object lent head e at_object less same at =
      let within = same_there number index there object e at_object less in
      let f = its_head number object lent head at_object same at in
      let some = (found (headers_of heads rests) cells now objects_are number object at_object).some in
      ap (λ (x : Head). objects_in (set cells (x.start + index) word) (headers_of heads rests)) (sym f.head_is)
      ∙ put_in (headers_of heads rests) cells s stored.laid (number - 1) index word f.header f.at
      (header_within number index object head f within).0
      ∙ ap (λ (o : Object ℕ). set (objects_in cells (headers_of heads rests)) (number - 1)
      (with_cell o index word)) f.is
      ∙ object_put (objects_in cells (headers_of heads rests)) number (with_cell object index word) some
      ∙ ap (λ heap. with_object heap number (with_cell object index word)) objects_are

  pub kept : (number index word : ℕ) (object : Object ℕ) (lent : List Head) (head : Head)
      → object_at now.objects number ≡ Some object → index < length object.cells
      → lent ≡ heads → slice_get lent number ≡ Some head → IsStored heads rests (set cells (head.start + index) word) s
  kept number index word object lent head e within same at =
      let f = its_head number object lent head e same at in
      subst (λ (x : Head). IsStored heads rests (set cells (x.start + index) word) s) f.head_is (record {
        rows = stored.rows;
        laid = kept_laid (headers_of heads rests) cells s stored.laid (number - 1) index word f.header f.at
            (header_within number index object head f within).0;
        head_count = stored.head_count;
        head_reserved = stored.head_reserved;
      })

  pub cells_counted : s.used + s.headers ≡ cells_in now.objects
  cells_counted = cells_used (headers_of heads rests) cells s stored.laid ∙ ap cells_in objects_are

  -- ---- one object more

  pub is_room : (len : ℕ) → length (headers_of heads rests) < s.most_objects
      → len < s.most_cells - s.used - length (headers_of heads rests) → HasRoom now len
  is_room len few fits = room_there (headers_of heads rests) cells s stored.laid now len view few fits

  pub is_full : (len : ℕ)
      → (s.most_objects ≤ length (headers_of heads rests)) ⊎
      (s.most_cells - s.used - length (headers_of heads rests) ≤ len) → IsFull now len
  is_full len h = no_room (headers_of heads rests) cells s stored.laid now len view h

  pub room_left : (len : ℕ) → HasRoom now len
      → (length (headers_of heads rests) < s.most_objects) ×
      (s.used + length (headers_of heads rests) + 1 + len ≤ s.most_cells)
  room_left len room = left_for (headers_of heads rests) cells s stored.laid now len view room

  pub stored_more : (h : Header) (more_heads : List Head) (more_rests : List Rest) (count head_room counted room : ℕ)
      → h.start ≡ s.used → HasRoom now h.len
      → more_heads ≡ heads ++ head_of h ∷ [] → more_rests ≡ rests ++ rest_of h ∷ [] → count ≡ s.heads + 1
      → head_room ≡ s.head_room → counted ≡ s.headers + 1 → room ≡ s.room
      → IsStored more_heads more_rests cells
      (record {
        heads = count;
        head_room = head_room;
        headers = counted;
        room = room;
        cells = s.cells;
        used = s.used + h.len;
        most_objects = s.most_objects;
        most_cells = s.most_cells;
      })
  stored_more h more_heads more_rests count head_room counted room start has_room hs rs counts head_grows rest_counts
      grows =
      let rows = rows_more heads more_heads rests more_rests h stored.rows hs rs in
      let n = stored.head_count in let r = stored.head_reserved in
      let l : length more_heads ≡ length heads + 1 = ap (λ (xs : List Head). length xs) hs
      ∙ length_more heads (head_of h) in
      record {
        rows = rows.1;
        laid = one_more (headers_of heads rests) cells s stored.laid h
            (headers_of more_heads more_rests) count head_room counted room start
            (room_left h.len has_room) rows.0 rest_counts grows;
        head_count = omega (arith, n, l, counts);
        head_reserved = omega (arith, r, head_grows);
      }
    where
      length_more : (xs : List Head) (x : Head) → length (xs ++ x ∷ []) ≡ length xs + 1
      length_more [] x = refl
      length_more (y ∷ xs) x = let k = length_more xs x in omega (arith, k)

  pub made : (h : Header) (more_heads : List Head) (more_rests : List Rest) (most_objects most_cells : ℕ)
      → h.start ≡ s.used → HasRoom now h.len → more_heads ≡ heads ++ head_of h ∷ []
      → more_rests ≡ rests ++ rest_of h ∷ []
      → most_objects ≡ s.most_objects → most_cells ≡ s.most_cells
      → store_of (objects_in cells (headers_of more_heads more_rests)) (classes_in (headers_of more_heads more_rests))
      most_objects most_cells ≡ with_made now (fresh h.kind h.owner h.len) h.class
  made h more_heads more_rests most_objects most_cells start has_room hs rs same_objects same_cells =
      let headers = headers_of heads rests in
      let more = headers_of more_heads more_rests in
      let rows = rows_more heads more_heads rests more_rests h stored.rows hs rs in
      let fits = (room_left h.len has_room).1 in
      let objects = objects_more headers cells s stored.laid h more start fits rows.0 in
      let classes : classes_in more ≡ classes_in headers ++ h.class ∷ [] =
      ap classes_in rows.0 ∙ map-append (λ (x : Header). x.class) headers (h ∷ []) in
      ap (λ os. store_of os (classes_in more) most_objects most_cells) objects
      ∙ ap (λ cs. store_of (objects_in cells headers ++ fresh h.kind h.owner h.len ∷ []) cs most_objects most_cells)
      classes
      ∙ ap (λ k. store_of (objects_in cells headers ++ fresh h.kind h.owner h.len ∷ [])
      (classes_in headers ++ h.class ∷ [])
      k most_cells) same_objects
      ∙ ap (λ k. store_of (objects_in cells headers ++ fresh h.kind h.owner h.len ∷ [])
      (classes_in headers ++ h.class ∷ [])
      s.most_objects k) same_cells
      ∙ ap (λ (x : Store). with_made x (fresh h.kind h.owner h.len) h.class) view

  -- the number of its class stands at its number
  pub numbered : (h : Header) (more_heads : List Head) (more_rests : List Rest) (number : ℕ)
      → more_heads ≡ heads ++ head_of h ∷ [] → more_rests ≡ rests ++ rest_of h ∷ []
      → number ≡ s.headers + 1 → class_number_at (classes_in (headers_of more_heads more_rests)) number ≡ Some h.class
  numbered h more_heads more_rests number hs rs is =
      let rows = rows_more heads more_heads rests more_rests h stored.rows hs rs in
      let n = stored.laid.header_count in
      let next : number ≡ suc (length (headers_of heads rests)) = omega (arith, is, n) in
      ap (λ k. class_number_at (classes_in (headers_of more_heads more_rests)) k) next
      ∙ ap (λ (xs : List Header). slice_get (classes_in xs) (length (headers_of heads rests))) rows.0
      ∙ last_class (headers_of heads rests) h
