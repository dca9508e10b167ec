-- The last access of a list behind others, if it was denied.
use Rattle.std.proofs.Common.{◌≡◌, List, [], ◌∷◌, ◌++◌, None, refl}
use Rattle.jc_machine.specs.Machine.{Touch, last_denied}

-- where the last of the first ones wasn't denied, it is that of the others
pub none_before : (ts us : List Touch) → last_denied ts ≡ None → last_denied (ts ++ us) ≡ last_denied us
none_before [] us e = refl
none_before (t ∷ []) [] e = e
none_before (t ∷ []) (u ∷ us) e = refl
none_before (t ∷ s ∷ ts) us e = none_before (s ∷ ts) us e

-- where no others follow, it is that of the first ones
pub none_behind : (ts : List Touch) → last_denied (ts ++ []) ≡ last_denied ts
none_behind [] = refl
none_behind (t ∷ []) = refl
none_behind (t ∷ s ∷ ts) = none_behind (s ∷ ts)
