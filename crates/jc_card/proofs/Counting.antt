-- Objects on words are as many as those of the defensive machine's card, and take as many cells.
use Rattle.std.proofs.Common.{◌≡◌, ℕ, suc, List, [], ◌∷◌, length, arith, refl, ap}
use Rattle.jc_machine.specs.Reading.{HeapReads, Pointwise, Reads}
use Rattle.jc_store.specs.Heap.{Heap, cells_in}
use Rattle.jc_words.specs.Values.{TaggedValue}

pub as_many : {A B : Type 0} (R : A → B → Type 0) (xs : List A) (ys : List B) → Pointwise R xs ys
    → length xs ≡ length ys
as_many R [] [] h = refl
as_many R [] (y ∷ ys) h = absurd h
as_many R (x ∷ xs) [] h = absurd h
as_many R (x ∷ xs) (y ∷ ys) h = ap suc (as_many R xs ys h.1)

pub as_many_cells : (os : Heap ℕ) (ps : Heap TaggedValue) → HeapReads os ps → cells_in os ≡ cells_in ps
as_many_cells [] [] h = refl
as_many_cells [] (p ∷ ps) h = absurd h
as_many_cells (o ∷ os) [] h = absurd h
as_many_cells (o ∷ os) (p ∷ ps) h =
    let cells = as_many Reads o.cells p.cells (h.0).cells in
    let rest = as_many_cells os ps h.1 in
    omega (arith, cells, rest)
