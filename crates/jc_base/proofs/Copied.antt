-- Lists that are copied.
use Rattle.std.proofs.Common.{◌≡◌, ℕ, ◌+◌, ◌<◌, List, [], ◌∷◌, ◌++◌, length, take, slice_get, unwrap_or, add-one, arith}
use Rattle.std.proofs.Math.Seq.{take-suc}
use Rattle.std.proofs.lemmas.Option.{unwrap_or-slice_get}

-- one more by its index
pub at_more : {A : Type 0} (copied rows : List A) (at : ℕ) (d : A) → copied ≡ take at rows → at < length rows → copied ++ unwrap_or (slice_get rows at) d ∷ [] ≡ take (at + 1) rows
at_more copied rows at d h1 h2 = grind (arith, unwrap_or, slice_get, take, unwrap_or-slice_get, take-suc, add-one)
