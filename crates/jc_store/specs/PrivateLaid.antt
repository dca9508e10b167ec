-- Private. Objects laid one after the other over one array of cells, and two rows for each of them.
use Rattle.std.specs.Prelude.{◌≡◌, ℕ, zero, suc, ◌+◌, ◌-◌, ◌<◌, ◌≤◌, ◌^◌, List, Option, None, Some, if◌then◌else◌}
use Rattle.std.specs.Prelude.{[], ◌∷◌, ◌++◌, length, map, take, drop, replicate, slice_range}
use Rattle.jc_store.specs.Heap.{Heap, Object, blanked, cells_in, is_cleared_by}
use Rattle.jc_store.specs.Store.{Store}
use Rattle.jc_store.specs.declared.header.Head.{Head}
use Rattle.jc_store.specs.declared.header.Rest.{Rest}
use Rattle.jc_store.specs.declared.kind.ClearingEvent.{ClearingEvent}
use Rattle.jc_store.specs.declared.kind.ClearingEvent.TheVariants.{Reset, Deselect}
use Rattle.jc_store.specs.declared.kind.ObjectKind.{ObjectKind}
use Rattle.jc_names.specs.declared.owner.Owner.{Owner}

-- an object without its components: its kind, its owner, the number of its class, where its components begin, and how
-- many it has
pub record Header : Type 0 where
  pub kind : ObjectKind
  pub owner : Owner
  pub class : ℕ
  pub start : ℕ
  pub len : ℕ

-- ---- the two rows of an object

-- the context that may access the object in every way: the owner's, or 256 if it is cleared on deselect
abbrev pub fast_in : Option ClearingEvent → Owner → ℕ
fast_in None owner = owner.context
fast_in (Some Reset) owner = owner.context
fast_in (Some Deselect) owner = 256

abbrev pub head_of : Header → Head
head_of h = record { start = h.start; len = h.len; class = h.class; fast = fast_in h.kind.clears h.owner }

abbrev pub rest_of : Header → Rest
rest_of h = record { kind = h.kind; owner = h.owner }

abbrev pub null_head : Head
null_head = record { start = 0; len = 0; class = 0; fast = 256 }

abbrev pub header_in : Head → Rest → Header
header_in head rest = record {
  kind = rest.kind;
  owner = rest.owner;
  class = head.class;
  start = head.start;
  len = head.len;
}

-- rows joined
abbrev pub joined : List Head → List Rest → List Header
joined [] rests = []
joined (head ∷ heads) [] = []
joined (head ∷ heads) (rest ∷ rests) = header_in head rest ∷ joined heads rests

-- the first head is that of null
abbrev pub headers_of : List Head → List Rest → List Header
headers_of [] rests = []
headers_of (null ∷ heads) rests = joined heads rests

-- the two lists are the rows of headers
pub record AreRows (heads : List Head) (rests : List Rest) : Type 0 where
  pub heads_are : heads ≡ null_head ∷ map head_of (headers_of heads rests)
  pub rests_are : rests ≡ map rest_of (headers_of heads rests)

-- the numbers of the classes of headers
abbrev pub classes_in : List Header → List ℕ
classes_in headers = map (λ (h : Header). h.class) headers

-- ---- the components of an object

-- the object of a header
abbrev pub object_in : List ℕ → Header → Object ℕ
object_in cells h = record { kind = h.kind; owner = h.owner; cells = slice_range cells h.start (h.start + h.len) }

-- the objects of headers
abbrev pub objects_in : List ℕ → List Header → Heap ℕ
objects_in cells headers = map (object_in cells) headers

-- from cell `start` on, the components of each object begin where those of the one before end; the last end at `end`
abbrev pub AreLaid : ℕ → List Header → ℕ → Type 0
AreLaid start [] end = end ≡ start
AreLaid start (h ∷ headers) end = (h.start ≡ start) × AreLaid (start + h.len) headers end

-- the used part of a store: the lengths of its arrays, and their room for rows of each kind; the cell after the last
-- component; and the most objects and cells
pub record Sizes : Type 0 where
  pub heads : ℕ
  pub head_room : ℕ
  pub headers : ℕ
  pub room : ℕ
  pub cells : ℕ
  pub used : ℕ
  pub most_objects : ℕ
  pub most_cells : ℕ

-- the objects lie within the cells, with one cell left for each of them, and the cells after them are 0; room for
-- exactly the most headers is reserved
pub record IsLaid (headers : List Header) (cells : List ℕ) (s : Sizes) : Type 0 where
  pub laid : AreLaid 0 headers s.used
  pub header_count : s.headers ≡ length headers
  pub cell_count : s.cells ≡ length cells
  pub sized : length cells ≡ s.most_cells
  pub within : s.used + length headers ≤ s.most_cells
  pub blank : drop s.used cells ≡ replicate (s.most_cells - s.used) 0
  pub objects : length headers ≤ s.most_objects
  pub reserved : s.room ≡ s.most_objects
  pub few_objects : s.most_objects < 2 ^ 16
  pub few_cells : s.most_cells < 2 ^ 16

-- the rows are those of objects that are laid so, with room for exactly the most
pub record IsStored (heads : List Head) (rests : List Rest) (cells : List ℕ) (s : Sizes) : Type 0 where
  pub rows : AreRows heads rests
  pub laid : IsLaid (headers_of heads rests) cells s
  pub head_count : s.heads ≡ length heads
  pub head_reserved : s.head_room ≡ s.most_objects + 1

-- the components of all objects lie within `count` cells
pub record AreWithin (headers : List Header) (count : ℕ) : Type 0 where
  pub end : ℕ
  pub laid : AreLaid 0 headers end
  pub within : end ≤ count

-- the cells with `len` of them set to 0, from `start` on
abbrev pub zeroed : List ℕ → ℕ → ℕ → List ℕ
zeroed cells start len = take start cells ++ replicate len 0 ++ drop (start + len) cells

-- there is room for one more object with `len` components
pub record HasRoom (s : Store) (len : ℕ) : Type 0 where
  pub objects : length s.objects < s.most_objects
  pub cells : cells_in s.objects + 1 + len ≤ s.most_cells

-- ---- clearing, one object after the other

abbrev pub if_cleared : ClearingEvent → Option ℕ → Object ℕ → Object ℕ
if_cleared event context object = if is_cleared_by event context object then blanked (λ kind. 0) object else object

-- the first n of these objects are cleared
abbrev pub first_cleared : ClearingEvent → Option ℕ → ℕ → Heap ℕ → Heap ℕ
first_cleared event context zero heap = heap
first_cleared event context (suc n) [] = []
first_cleared event context (suc n) (object ∷ heap) =
    if_cleared event context object ∷ first_cleared event context n heap

-- the objects of the first n headers were cleared, and nothing after the last object changed
pub record AreCleared (headers : List Header) (event : ClearingEvent) (context : Option ℕ) (n : ℕ)
    (before after : List ℕ) : Type 0 where
  pub objects : objects_in after headers ≡ first_cleared event context n (objects_in before headers)
  pub len : length after ≡ length before
  pub behind : (end : ℕ) → AreLaid 0 headers end → drop end after ≡ drop end before
