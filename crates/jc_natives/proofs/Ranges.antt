-- Bytes of objects one by one, and what is written one by one.
use Rattle.std.proofs.Common.{◌≡◌, ◌≢◌, ℕ, zero, suc, ◌+◌, ◌-◌, ◌<◌, ◌≤◌, ◌&&◌, Bool, false, List, [], ◌∷◌, ◌++◌}
use Rattle.std.proofs.Common.{bytes_eq, length, map, nat_eq, refl, sym, ap, ◌∙◌, arith, append_assoc}
use Rattle.std.proofs.lemmas.Bool.{eq-eqb}
use Rattle.jc_natives.proofs.Putting.{cell_before, put_before, words_stay}
use Rattle.jc_natives.specs.Cells.{low, put, put_all}
use Rattle.jc_natives.specs.PrivateCells.{byte_of, bytes_of, cell_of, cells_from}
use Rattle.jc_store.specs.Heap.{Heap}
use Rattle.jc_store.specs.Store.{Store, with_objects}

-- ---- the next byte of a range

-- what a function makes of so many components
abbrev made_of : (ℕ → ℕ) → Heap ℕ → ℕ → ℕ → ℕ → List ℕ
made_of f objects number from count = map f (cells_from objects number from count)

next_made : (f : ℕ → ℕ) (objects : Heap ℕ) (number from at count : ℕ) → at < count
    → made_of f objects number (from + at) (count - at)
    ≡ f (cell_of objects number (from + at)) ∷ made_of f objects number (from + (at + 1)) (count - (at + 1))
next_made f objects number from at count h = grind arith

pub next_bytes : (objects : Heap ℕ) (number from at count : ℕ) → at < count
    → bytes_of objects number (from + at) (count - at)
    ≡ byte_of objects number (from + at) ∷ bytes_of objects number (from + (at + 1)) (count - (at + 1))
next_bytes objects number from at count h = next_made low objects number from at count h

-- ---- appended

pub appended : (objects : Heap ℕ) (number from at count : ℕ) (bytes all : List ℕ) → at < count
    → bytes ++ bytes_of objects number (from + at) (count - at) ≡ all
    → (bytes ++ byte_of objects number (from + at) ∷ [])
    ++ bytes_of objects number (from + (at + 1)) (count - (at + 1)) ≡ all
appended objects number from at count bytes all h e = grind (arith, append_assoc, next_bytes)

-- ---- compared

pub length_of_words : (objects : Heap ℕ) (number from count : ℕ) → length (cells_from objects number from count) ≡ count
length_of_words objects number from zero = refl
length_of_words objects number from (suc count) = ap suc (length_of_words objects number (from + 1) count)

pub length_of_bytes : (objects : Heap ℕ) (number from count : ℕ) → length (bytes_of objects number from count) ≡ count
length_of_bytes objects number from zero = refl
length_of_bytes objects number from (suc count) = ap suc (length_of_bytes objects number (from + 1) count)

no_more : (a b : Bool) → b ≡ false → (a && b) ≡ false
no_more a b h1 = grind arith

pub bytes_differ : (xs ys : List ℕ) → length xs ≢ length ys → bytes_eq xs ys ≡ false
bytes_differ [] [] h = absurd (h refl)
bytes_differ [] (y ∷ ys) h = refl
bytes_differ (x ∷ xs) [] h = refl
bytes_differ (x ∷ xs) (y ∷ ys) h = no_more (nat_eq x y) (bytes_eq xs ys) (bytes_differ xs ys (λ e. h (ap suc e)))

-- two ranges, byte by byte
pub same_so_far : (objects : Heap ℕ) (one one_from other other_from at count : ℕ) (all : Bool) → at < count
    → byte_of objects one (one_from + at) ≡ byte_of objects other (other_from + at)
    → all ≡ bytes_eq (bytes_of objects one (one_from + at) (count - at))
    (bytes_of objects other (other_from + at) (count - at))
    → all ≡ bytes_eq (bytes_of objects one (one_from + (at + 1)) (count - (at + 1)))
    (bytes_of objects other (other_from + (at + 1)) (count - (at + 1)))
same_so_far objects one one_from other other_from at count all h same e = grind (arith, bytes_eq, next_bytes, eq-eqb)

-- ---- written

abbrev holds : Store → Heap ℕ → Store
holds s objects = with_objects s objects

-- one more is put in front of the rest
put_first : (s : Store) (number from at word : ℕ) (words : List ℕ)
    → holds s (put_all (put s.objects number (from + at) word) number (from + (at + 1)) words)
    ≡ holds s (put_all s.objects number (from + at) (word ∷ words))
put_first s number from at word words = grind arith

-- copied from the front: what is read is behind what was written
pub copied_on : (f : ℕ → ℕ) (s : Store) (source source_from target target_from at count word : ℕ) → at < count
    → target_from ≤ source_from → word ≡ f (cell_of s.objects source (source_from + at))
    → holds s (put_all (put s.objects target (target_from + at) word) target (target_from + (at + 1))
    (made_of f (put s.objects target (target_from + at) word) source (source_from + (at + 1)) (count - (at + 1))))
    ≡ holds s (put_all s.objects target (target_from + at) (made_of f s.objects source (source_from + at) (count - at)))
copied_on f s source source_from target target_from at count word h before is =
    ap (λ words. holds s (put_all (put s.objects target (target_from + at) word) target (target_from + (at + 1))
    (map f words)))
    (words_stay s.objects target (target_from + at) word source (source_from + (at + 1)) (count - (at + 1))
    (omega (arith, before)))
    ∙ put_first s target target_from at word (made_of f s.objects source (source_from + (at + 1)) (count - (at + 1)))
    ∙ ap (λ w. holds s (put_all s.objects target (target_from + at)
    (w ∷ made_of f s.objects source (source_from + (at + 1)) (count - (at + 1))))) is
    ∙ ap (λ words. holds s (put_all s.objects target (target_from + at) words))
    (sym (next_made f s.objects source source_from at count h))

-- copied from the back: what is read is in front of what was written
abbrev copied : (ℕ → ℕ) → Store → ℕ → ℕ → ℕ → ℕ → ℕ → ℕ → Store
copied f s source source_from target target_from at done =
    holds s (put_all s.objects target (target_from + at) (made_of f s.objects source (source_from + at) done))

put_in_front : (f : ℕ → ℕ) (s : Store) (source source_from target target_from at done : ℕ) → source_from ≤ target_from
    → holds s (put (copied f s source source_from target target_from (at + 1) done).objects target (target_from + at)
    (f (cell_of (copied f s source source_from target target_from (at + 1) done).objects source (source_from + at))))
    ≡ copied f s source source_from target target_from at (suc done)
put_in_front f s source source_from target target_from at done behind =
    let words = made_of f s.objects source (source_from + (at + 1)) done in
    let word = f (cell_of s.objects source (source_from + at)) in
    let on : source_from + (at + 1) ≡ source_from + at + 1 = omega arith in
    ap (λ c. holds s (put (put_all s.objects target (target_from + (at + 1)) words) target (target_from + at) (f c)))
    (cell_before s.objects target (target_from + (at + 1)) words source (source_from + at) (omega (arith, behind)))
    ∙ ap (holds s) (put_before s.objects target (target_from + at) (target_from + (at + 1)) word words (omega arith))
    ∙ put_first s target target_from at word words
    ∙ ap (λ k. holds s (put_all s.objects target (target_from + at) (word ∷ made_of f s.objects source k done))) on

pub copied_back : (f : ℕ → ℕ) (s l : Store) (source source_from target target_from at count done word : ℕ)
    → source_from ≤ target_from → done < count → at ≡ count - done - 1
    → l ≡ copied f s source source_from target target_from (count - done) done
    → word ≡ f (cell_of l.objects source (source_from + at))
    → holds l (put l.objects target (target_from + at) word)
    ≡ copied f s source source_from target target_from (count - (done + 1)) (done + 1)
copied_back f s l source source_from target target_from at count done word behind h place before is =
    let first : count - done ≡ at + 1 = omega (arith, h, place) in
    let last : at ≡ count - (done + 1) = omega (arith, h, place) in
    let more : suc done ≡ done + 1 = omega arith in
    let whole : l ≡ copied f s source source_from target target_from (at + 1) done = before
    ∙ ap (λ n. copied f s source source_from target target_from n done) first in
    ap (λ w. holds l (put l.objects target (target_from + at) w)) is
    ∙ ap (λ (o : Store). holds o
    (put o.objects target (target_from + at) (f (cell_of o.objects source (source_from + at)))))
    whole
    ∙ put_in_front f s source source_from target target_from at done behind
    ∙ ap (λ n. copied f s source source_from target target_from n (suc done)) last
    ∙ ap (copied f s source source_from target target_from (count - (done + 1))) more
