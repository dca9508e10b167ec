-- What holds of each element's view holds at an index.
use Rattle.std.proofs.Common.{ℕ, zero, suc, ◌<◌, List, [], ◌∷◌, length, get_or, map, arith}
use Rattle.std.specs.List.{AllByRecursion}

pub each_at : {A B : Type 0} (view : A → B) (P : B → Type 0) (xs : List A) (i : ℕ) (d : A) → i < length xs → AllByRecursion P (map view xs) → P (view (get_or xs i d))
each_at view P [] i d lt each = absurd (omega arith)
each_at view P (x ∷ xs) zero d lt each = each.0
each_at view P (x ∷ xs) (suc i) d lt each = each_at view P xs i d (omega arith) each.1
