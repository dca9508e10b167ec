-- The cells of objects that are laid one behind the other, and one object more.
use Rattle.std.proofs.Common.{◌≡◌, ℕ, zero, suc, ◌+◌, ◌-◌, ◌≤◌, List, [], ◌∷◌, ◌++◌, length, take, drop, replicate}
use Rattle.std.proofs.Common.{Some, slice_get, slice_range, refl, ap, ◌∙◌, arith}
use Rattle.std.proofs.lemmas.List.{length-drop, length-take-le, take-replicate}
use Rattle.std.proofs.lemmas.Option.{none-some, same_Some}
use Rattle.jc_store.specs.Blocks.{components_in}
use Rattle.jc_store.specs.Heap.{cells_in}
use Rattle.jc_store.specs.PrivateLaid.{AreLaid, Header, object_in, objects_in}

-- the last ends at or behind the first begins
pub ends_behind : (start end : ℕ) (headers : List Header) → AreLaid start headers end → start ≤ end
ends_behind start end [] laid = omega (arith, laid)
ends_behind start end (h ∷ headers) laid = let rest = ends_behind (start + h.len) end headers laid.1 in omega (arith, rest)

pub range_length : (cells : List ℕ) (start len : ℕ) → start + len ≤ length cells → length (slice_range cells start (start + len)) ≡ len
range_length cells start len within =
    let left : length (drop start cells) ≡ length cells - start = length-drop start cells in
    let is : start + len - start ≡ len = omega arith in
    rw is (length-take-le len (drop start cells) (omega (arith, left, within)))

-- an object has as many components as its header says
pub has_length : (cells : List ℕ) (start end : ℕ) (headers : List Header) (number : ℕ) (h : Header) → AreLaid start headers end → end ≤ length cells
    → slice_get headers number ≡ Some h → (length (object_in cells h).cells ≡ h.len) × (h.start + h.len ≤ length cells)
has_length cells start end [] number h laid within at = absurd (none-some h at)
has_length cells start end (g ∷ headers) zero h laid within at =
    let rest = ends_behind (start + g.len) end headers laid.1 in
    let same : g ≡ h = same_Some g h at in
    let s : g.start ≡ h.start = ap (λ (x : Header). x.start) same in
    let l : g.len ≡ h.len = ap (λ (x : Header). x.len) same in
    let fits : h.start + h.len ≤ length cells = omega (arith, rest, within, laid.0, s, l) in
    (range_length cells h.start h.len fits, fits)
has_length cells start end (g ∷ headers) (suc n) h laid within at = has_length cells (start + g.len) end headers n h laid.1 within at

-- its components end at or before where the last ends
pub lies_before : (start end : ℕ) (headers : List Header) (number : ℕ) (h : Header) → AreLaid start headers end → slice_get headers number ≡ Some h → h.start + h.len ≤ end
lies_before start end [] number h laid at = absurd (none-some h at)
lies_before start end (g ∷ headers) zero h laid at =
    let same : g ≡ h = same_Some g h at in
    let s : g.start ≡ h.start = ap (λ (x : Header). x.start) same in
    let l : g.len ≡ h.len = ap (λ (x : Header). x.len) same in
    let rest = ends_behind (start + g.len) end headers laid.1 in
    omega (arith, s, l, rest, laid.0)
lies_before start end (g ∷ headers) (suc n) h laid at = lies_before (start + g.len) end headers n h laid.1 at

-- the cells that objects take
pub cells_counted : (cells : List ℕ) (start end : ℕ) (headers : List Header) → AreLaid start headers end → end ≤ length cells
    → cells_in (objects_in cells headers) + start ≡ end + length headers
cells_counted cells start end [] laid within = omega (arith, laid)
cells_counted cells start end (h ∷ headers) laid within =
    let rest = cells_counted cells (start + h.len) end headers laid.1 within in
    let own = has_length cells start end (h ∷ headers) zero h laid within refl in
    omega (arith, rest, own.0)

-- where the components of an object begin
pub begins_behind : (cells : List ℕ) (start end : ℕ) (headers : List Header) (number : ℕ) (h : Header)
    → AreLaid start headers end → end ≤ length cells → slice_get headers number ≡ Some h
    → h.start ≡ start + components_in (take number (objects_in cells headers))
begins_behind cells start end [] number h laid within at = absurd (none-some h at)
begins_behind cells start end (g ∷ headers) zero h laid within at =
    let same : g.start ≡ h.start = ap (λ (x : Header). x.start) (same_Some g h at) in omega (arith, laid.0, same)
begins_behind cells start end (g ∷ headers) (suc n) h laid within at =
    let rest = begins_behind cells (start + g.len) end headers n h laid.1 within at in
    let own = has_length cells start end (g ∷ headers) zero g laid within refl in
    omega (arith, rest, own.0)

-- one object more, laid behind the others
pub laid_more : (start end : ℕ) (headers : List Header) (h : Header) → AreLaid start headers end → h.start ≡ end → AreLaid start (headers ++ h ∷ []) (end + h.len)
laid_more start end [] h laid at = (at ∙ laid, ap (λ x. x + h.len) laid)
laid_more start end (g ∷ headers) h laid at = (laid.0, laid_more (start + g.len) end headers h laid.1 at)

-- the cells behind others are 0, so an object that is laid there has components of 0
pub blank_there : (cells : List ℕ) (used most len : ℕ) → drop used cells ≡ replicate (most - used) 0 → used + len ≤ most → slice_range cells used (used + len) ≡ replicate len 0
blank_there cells used most len blank within =
    let is : used + len - used ≡ len = omega arith in
    let fits : len ≤ most - used = omega (arith, within) in
    rw is (ap (take len) blank ∙ take-replicate len (most - used) 0 fits)
