-- Objects that are laid one behind the other: what is put into a component of one of them changes no other one.
use Rattle.std.proofs.Common.{◌≡◌, ℕ, zero, suc, ◌+◌, ◌-◌, ◌<◌, ◌≤◌, List, [], ◌∷◌, take, drop, set, Some, slice_get}
use Rattle.std.proofs.Common.{slice_range, refl, sym, ap, ◌∙◌, arith}
use Rattle.std.proofs.lemmas.List.{drop-set-add, drop-set-lt, take-set-le}
use Rattle.std.proofs.lemmas.Option.{none-some, same_Some}
use Rattle.std.proofs.Math.Seq.{take-set-lt}
use Rattle.jc_store.specs.Heap.{Object, with_cell}
use Rattle.jc_store.specs.PrivateLaid.{AreLaid, Header, object_in, objects_in}

-- the object whose components are these
abbrev pub made_of : Header → List ℕ → Object ℕ
made_of h cells = record { kind = h.kind; owner = h.owner; cells = cells }

-- an object that begins behind a cell doesn't see what is put there, and neither does one that ends before it
seen_behind : (cells : List ℕ) (place word start len : ℕ) → place < start → slice_range (set cells place word) start (start + len) ≡ slice_range cells start (start + len)
seen_behind cells place word start len before = ap (take (start + len - start)) (drop-set-lt start cells place word before)

seen_before : (cells : List ℕ) (place word start len : ℕ) → start + len ≤ place → slice_range (set cells place word) start (start + len) ≡ slice_range cells start (start + len)
seen_before cells place word start len behind =
    let index : ℕ = place - start in
    let is : place ≡ start + index = omega (arith, behind) in
    let past : start + len - start ≤ index = omega (arith, behind, is) in
    rw is (ap (take (start + len - start)) (drop-set-add start cells index word) ∙ take-set-le (start + len - start) (drop start cells) index word past)

-- what is put into one of its own components it holds
pub seen_within : (cells : List ℕ) (word start len index : ℕ) → index < len
    → slice_range (set cells (start + index) word) start (start + len) ≡ set (slice_range cells start (start + len)) index word
seen_within cells word start len index within =
    let past : index < start + len - start = omega (arith, within) in
    ap (take (start + len - start)) (drop-set-add start cells index word) ∙ take-set-lt (start + len - start) (drop start cells) index word past

all_behind : (cells : List ℕ) (place word start end : ℕ) (headers : List Header) → AreLaid start headers end → place < start
    → objects_in (set cells place word) headers ≡ objects_in cells headers
all_behind cells place word start end [] laid before = refl
all_behind cells place word start end (h ∷ headers) laid before =
    let here : slice_range (set cells place word) h.start (h.start + h.len) ≡ slice_range cells h.start (h.start + h.len) = seen_behind cells place word h.start h.len (omega (arith, before, laid.0)) in
    let there : objects_in (set cells place word) headers ≡ objects_in cells headers = all_behind cells place word (start + h.len) end headers laid.1 (omega (arith, before)) in
    ap (λ x. made_of h x ∷ objects_in (set cells place word) headers) here ∙ ap (λ xs. object_in cells h ∷ xs) there

-- the header of an object stands behind those before it
starts_from : (start end : ℕ) (headers : List Header) (number : ℕ) (h : Header) → AreLaid start headers end → slice_get headers number ≡ Some h → start ≤ h.start
starts_from start end [] number h laid at = absurd (none-some h at)
starts_from start end (g ∷ headers) zero h laid at = let same : g.start ≡ h.start = ap (λ (x : Header). x.start) (same_Some g h at) in omega (arith, laid.0, same)
starts_from start end (g ∷ headers) (suc n) h laid at = let rest = starts_from (start + g.len) end headers n h laid.1 at in omega (arith, rest)

-- what is put into a component of an object
pub put_there : (cells : List ℕ) (word index start end : ℕ) (headers : List Header) (number : ℕ) (h : Header) → AreLaid start headers end → slice_get headers number ≡ Some h
    → index < h.len → objects_in (set cells (h.start + index) word) headers ≡ set (objects_in cells headers) number (with_cell (object_in cells h) index word)
put_there cells word index start end [] number h laid at within = absurd (none-some h at)
put_there cells word index start end (g ∷ headers) zero h laid at within =
    let same : g ≡ h = same_Some g h at in
    let here = seen_within cells word h.start h.len index within in
    let e : h.start ≡ start = ap (λ (x : Header). x.start) (sym same) ∙ laid.0 in
    let l : g.len ≡ h.len = ap (λ (x : Header). x.len) same in
    let rest = all_behind cells (h.start + index) word (start + g.len) end headers laid.1 (omega (arith, e, l, within)) in
    ap (λ x. object_in (set cells (h.start + index) word) x ∷ objects_in (set cells (h.start + index) word) headers) same
    ∙ ap (λ x. made_of h x ∷ objects_in (set cells (h.start + index) word) headers) here ∙ ap (λ xs. with_cell (object_in cells h) index word ∷ xs) rest
put_there cells word index start end (g ∷ headers) (suc n) h laid at within =
    let from = starts_from (start + g.len) end headers n h laid.1 at in
    let here = seen_before cells (h.start + index) word g.start g.len (omega (arith, from, laid.0)) in
    let rest = put_there cells word index (start + g.len) end headers n h laid.1 at within in
    ap (λ x. made_of g x ∷ objects_in (set cells (h.start + index) word) headers) here ∙ ap (λ xs. object_in cells g ∷ xs) rest
