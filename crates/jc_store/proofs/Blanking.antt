-- What the clearing of objects leaves.
use Rattle.std.proofs.Common.{◌≡◌, ℕ, zero, suc, ◌+◌, ◌<◌, ◌≤◌, Bool, true, false, List, [], ◌∷◌, ◌++◌, length, map}
use Rattle.std.proofs.Common.{take, drop, set, replicate, Option, Some, slice_get, append-nil, refl, sym, ap, subst}
use Rattle.std.proofs.Common.{◌∙◌, if◌then◌else◌, arith}
use Rattle.std.proofs.Math.Seq.{length-sets, sets}
use Rattle.std.proofs.lemmas.List.{drop-set-lt, drop_all, length-replicate}
use Rattle.std.proofs.lemmas.List.Edits.{sets-eq}
use Rattle.std.proofs.lemmas.Option.{none-some, same_Some}
use Rattle.std.proofs.lemmas.Simd.{splat_is_map}
use Rattle.jc_store.specs.Heap.{Heap, Object, blanked, cleared, is_cleared_by, with_cell}
use Rattle.jc_store.specs.PrivateLaid.{AreCleared, AreLaid, AreWithin, Header, first_cleared, if_cleared, object_in}
use Rattle.jc_store.specs.PrivateLaid.{objects_in, zeroed}
use Rattle.jc_store.specs.declared.kind.ClearingEvent.{ClearingEvent}
use Rattle.jc_store.proofs.Laid.{made_of, put_there, seen_within}
use Rattle.jc_store.proofs.Making.{has_length, lies_before}

zeros_length : (len : ℕ) → let zeros : List ℕ = replicate len 0 in length zeros ≡ len
zeros_length len = length-replicate len 0

-- ---- lists in which one element is put

set_back : {A : Type 0} (xs : List A) (n : ℕ) (x : A) → slice_get xs n ≡ Some x → set xs n x ≡ xs
set_back [] n x e = absurd (none-some x e)
set_back (y ∷ xs) zero x e = ap (λ z. z ∷ xs) (sym (same_Some y x e))
set_back (y ∷ xs) (suc n) x e = ap (λ ys. y ∷ ys) (set_back xs n x e)

set_twice : {A : Type 0} (xs : List A) (n : ℕ) (x y : A) → set (set xs n x) n y ≡ set xs n y
set_twice [] n x y = refl
set_twice (z ∷ xs) zero x y = refl
set_twice (z ∷ xs) (suc n) x y = ap (λ ys. z ∷ ys) (set_twice xs n x y)

get_mapped : (cells : List ℕ) (headers : List Header) (n : ℕ) (h : Header) → slice_get headers n ≡ Some h → slice_get (objects_in cells headers) n ≡ Some (object_in cells h)
get_mapped cells [] n h e = absurd (none-some h e)
get_mapped cells (g ∷ headers) zero h e = ap (λ x. Some (object_in cells x)) (same_Some g h e)
get_mapped cells (g ∷ headers) (suc n) h e = get_mapped cells headers n h e

-- ---- words put into the components of one object, one behind the other

pub put_all : (words cells : List ℕ) (index end : ℕ) (headers : List Header) (number : ℕ) (h : Header) → AreLaid 0 headers end → slice_get headers number ≡ Some h → index + length words ≤ h.len
    → objects_in (sets cells (h.start + index) words) headers ≡ set (objects_in cells headers) number (made_of h (sets (object_in cells h).cells index words))
put_all [] cells index end headers number h laid at within = sym (set_back (objects_in cells headers) number (object_in cells h) (get_mapped cells headers number h at))
put_all (word ∷ words) cells index end headers number h laid at within =
    let next : suc (h.start + index) ≡ h.start + suc index = omega arith in
    let now : List ℕ = set cells (h.start + index) word in
    let fits : index < h.len = omega (arith, within) in
    let own : (object_in now h).cells ≡ set (object_in cells h).cells index word = seen_within cells word h.start h.len index fits in
    ap (λ k. objects_in (sets now k words) headers) next
    ∙ put_all words now (suc index) end headers number h laid at (omega (arith, within))
    ∙ ap (λ objects. set objects number (made_of h (sets (object_in now h).cells (suc index) words))) (put_there cells word index 0 end headers number h laid at fits)
    ∙ set_twice (objects_in cells headers) number (with_cell (object_in cells h) index word) (made_of h (sets (object_in now h).cells (suc index) words))
    ∙ ap (λ own_cells. set (objects_in cells headers) number (made_of h (sets own_cells (suc index) words))) own

pub dropped_past : (words cells : List ℕ) (place end : ℕ) → place + length words ≤ end → drop end (sets cells place words) ≡ drop end cells
dropped_past [] cells place end le = refl
dropped_past (word ∷ words) cells place end le = dropped_past words (set cells place word) (suc place) end (omega (arith, le)) ∙ drop-set-lt end cells place word (omega (arith, le))

-- ---- the first objects are cleared

next_there : (event : ClearingEvent) (context : Option ℕ) (heap : Heap ℕ) (n : ℕ) (o : Object ℕ) → slice_get heap n ≡ Some o → slice_get (first_cleared event context n heap) n ≡ Some o
next_there event context [] n o e = absurd (none-some o e)
next_there event context (x ∷ heap) zero o e = e
next_there event context (x ∷ heap) (suc n) o e = next_there event context heap n o e

one_cleared : (event : ClearingEvent) (context : Option ℕ) (heap : Heap ℕ) (n : ℕ) (o : Object ℕ) → slice_get heap n ≡ Some o
    → set (first_cleared event context n heap) n (if_cleared event context o) ≡ first_cleared event context (n + 1) heap
one_cleared event context [] n o e = absurd (none-some o e)
one_cleared event context (x ∷ heap) zero o e = ap (λ y. if_cleared event context y ∷ heap) (sym (same_Some x o e))
one_cleared event context (x ∷ heap) (suc n) o e =
    let k : suc n + 1 ≡ suc (n + 1) = omega arith in
    rw k (ap (λ xs. if_cleared event context x ∷ xs) (one_cleared event context heap n o e))

-- as many zeros as there are components
blank_cells : (own : List ℕ) (len : ℕ) → length own ≡ len → sets own 0 (replicate len 0) ≡ map (λ word. 0) own
blank_cells own len is =
    let n = zeros_length len in
    let blank : List ℕ = replicate len 0 in
    let rest : drop (0 + length blank) own ≡ [] = drop_all (0 + length blank) own (omega (arith, n, is)) in
    sets-eq (replicate len 0) own 0 (omega (arith, n, is)) ∙ ap (λ xs. take 0 own ++ replicate len 0 ++ xs) rest ∙ append-nil (replicate len 0) ∙ splat_is_map own len 0 is

module _ (headers : List Header) (event : ClearingEvent) (context : Option ℕ) (n : ℕ) (before cells : List ℕ) (within : AreWithin headers (length cells)) (h : Header) (at : slice_get headers n ≡ Some h)
    (so_far : AreCleared headers event context n before cells) where
  fits : (length (object_in cells h).cells ≡ h.len) × (h.start + h.len ≤ length cells)
  fits = has_length cells 0 within.end headers n h within.laid within.within at

  zeros : sets cells h.start (replicate h.len 0) ≡ zeroed cells h.start h.len
  zeros =
      let z = zeros_length h.len in
      let f : h.start + h.len ≤ length cells = fits.1 in
      sets-eq (replicate h.len 0) cells h.start (omega (arith, z, f)) ∙ ap (λ k. take h.start cells ++ replicate h.len 0 ++ drop (h.start + k) cells) z

  blank_is : objects_in (zeroed cells h.start h.len) headers ≡ set (objects_in cells headers) n (blanked (λ kind. 0) (object_in cells h))
  blank_is =
      let z = zeros_length h.len in
      let start : h.start ≡ h.start + 0 = omega arith in
      ap (λ xs. objects_in xs headers) (sym zeros) ∙ ap (λ k. objects_in (sets cells k (replicate h.len 0)) headers) start
      ∙ put_all (replicate h.len 0) cells 0 within.end headers n h within.laid at (omega (arith, z))
      ∙ ap (λ own. set (objects_in cells headers) n (made_of h own)) (blank_cells (object_in cells h).cells h.len fits.0)

  -- it is the object that it was
  same_object : object_in cells h ≡ object_in before h
  same_object =
      same_Some (object_in cells h) (object_in before h)
      (sym (get_mapped cells headers n h at) ∙ ap (λ objects. slice_get objects n) so_far.objects ∙ next_there event context (objects_in before headers) n (object_in before h) (get_mapped before headers n h at))

  last : set (objects_in cells headers) n (if_cleared event context (object_in cells h)) ≡ first_cleared event context (n + 1) (objects_in before headers)
  last =
      ap (λ objects. set objects n (if_cleared event context (object_in cells h))) so_far.objects
      ∙ ap (λ object. set (first_cleared event context n (objects_in before headers)) n (if_cleared event context object)) same_object
      ∙ one_cleared event context (objects_in before headers) n (object_in before h) (get_mapped before headers n h at)

  chosen : (b : Bool) → is_cleared_by event context (object_in cells h) ≡ b → if_cleared event context (object_in cells h) ≡ (if b then blanked (λ kind. 0) (object_in cells h) else object_in cells h)
  chosen b is = ap (λ x. if x then blanked (λ kind. 0) (object_in cells h) else object_in cells h) is

  pub cleared_more : is_cleared_by event context (object_in cells h) ≡ true → AreCleared headers event context (n + 1) before (zeroed cells h.start h.len)
  cleared_more is = record {
    objects = blank_is ∙ ap (λ object. set (objects_in cells headers) n object) (sym (chosen true is)) ∙ last;
    len = ap (λ (xs : List ℕ). length xs) (sym zeros) ∙ length-sets cells h.start (replicate h.len 0) ∙ so_far.len;
    behind = λ end laid.
        let before_end = lies_before 0 end headers n h laid at in
        let z = zeros_length h.len in
        ap (drop end) (sym zeros) ∙ dropped_past (replicate h.len 0) cells h.start end (omega (arith, before_end, z)) ∙ so_far.behind end laid;
  }

  pub passed_over : is_cleared_by event context (object_in cells h) ≡ false → AreCleared headers event context (n + 1) before cells
  passed_over is = record {
    objects = sym (set_back (objects_in cells headers) n (object_in cells h) (get_mapped cells headers n h at)) ∙ ap (λ object. set (objects_in cells headers) n object) (sym (chosen false is)) ∙ last;
    len = so_far.len;
    behind = so_far.behind;
  }

-- none is cleared at first, and all are in the end
pub none_cleared : (headers : List Header) (event : ClearingEvent) (context : Option ℕ) (cells : List ℕ) → AreCleared headers event context 0 cells cells
none_cleared headers event context cells = record { objects = refl; len = refl; behind = λ end laid. refl }

pub all_cleared : (event : ClearingEvent) (context : Option ℕ) (heap : Heap ℕ) (n : ℕ) → length heap ≤ n → first_cleared event context n heap ≡ cleared (λ kind. 0) event context heap
all_cleared event context [] zero le = refl
all_cleared event context [] (suc n) le = refl
all_cleared event context (o ∷ heap) zero le = absurd (omega (arith, le))
all_cleared event context (o ∷ heap) (suc n) le = ap (λ xs. if_cleared event context o ∷ xs) (all_cleared event context heap n (omega (arith, le)))

-- what was cleared lies within the cells as before
pub within_still : (headers : List Header) (event : ClearingEvent) (context : Option ℕ) (n : ℕ) (before after : List ℕ) → AreWithin headers (length before) → AreCleared headers event context n before after
    → AreWithin headers (length after)
within_still headers event context n before after w so_far = subst (AreWithin headers) (sym so_far.len) w

-- the next header lies within them
pub next_within : (headers : List Header) (count n : ℕ) (h : Header) → AreWithin headers count → slice_get headers n ≡ Some h → h.start + h.len ≤ count
next_within headers count n h w at = let before_end = lies_before 0 w.end headers n h w.laid at in let e = w.within in omega (arith, before_end, e)
