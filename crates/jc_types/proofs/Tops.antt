-- Locals of which nothing is known, one more with each turn of a loop.
use Rattle.std.proofs.Common.{◌≡◌, ℕ, suc, ◌-◌, ◌+◌, ◌<◌, List, [], ◌∷◌, ◌++◌, sym, ◌∙◌, arith, append_assoc}
use Rattle.std.specs.Prelude.{replicate}
use Rattle.jc_types.specs.declared.ty.Ty.{Ty}
use Rattle.jc_types.specs.declared.ty.Ty.TheVariants.{Top}

pub one_more : (xs : List Ty) (n i : ℕ) (total : List Ty) → i < n → xs ++ replicate (n - i) Top ≡ total → (xs ++ Top ∷ []) ++ replicate (n - (i + 1)) Top ≡ total
one_more xs n i total h e =
    let k : n - i ≡ suc (n - (i + 1)) = omega arith in
    let one : xs ++ replicate (n - i) Top ≡ (xs ++ Top ∷ []) ++ replicate (n - (i + 1)) Top = rw k (simp append_assoc) in
    sym one ∙ e
