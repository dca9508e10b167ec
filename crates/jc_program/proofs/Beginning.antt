-- Lists that begin with another one.
use Rattle.std.proofs.Common.{◌≡◌, ◌≤◌, List, ◌++◌, length, take, ap, ◌∙◌, arith}
use Rattle.std.proofs.lemmas.List.{length-take, take-append-le}

pub begins_long : {A : Type 0} (old xs : List A) → take (length old) xs ≡ old → length old ≤ length xs
begins_long old xs begins = let n = ap length begins in let m = length-take (length old) xs in grind (arith, n, m)

pub begins_more : {A : Type 0} (old xs ys : List A) → take (length old) xs ≡ old → take (length old) (xs ++ ys) ≡ old
begins_more old xs ys begins = take-append-le (length old) xs ys (begins_long old xs begins) ∙ begins
