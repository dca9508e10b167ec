-- Lists that are copied by their indexes.
use Rattle.std.proofs.Common.{◌≡◌, ℕ, zero, suc, ◌+◌, ◌<◌, List, [], ◌∷◌, ◌++◌, length, take, slice_get, Some, None, sym, arith}
use Rattle.jc_base.proofs.Binding.{none_some}
use Rattle.jc_base.proofs.Copied.{at_more}

-- the element at an index behind those before it
pub one_more : {A : Type 0} (copied rows : List A) (at : ℕ) (x : A) → copied ≡ take at rows → at < length rows → slice_get rows at ≡ Some x → copied ++ x ∷ [] ≡ take (at + 1) rows
one_more copied rows at x so_far less found = grind (arith, at_more copied rows at x so_far less)

-- there is one
pub no_more : {A : Type 0} (rows : List A) (at : ℕ) → at < length rows → slice_get rows at ≡ None → ⊥
no_more [] at less none = omega arith
no_more (x ∷ rows) zero less none = none_some x (sym none)
no_more (x ∷ rows) (suc at) less none = no_more rows at (omega arith) none
