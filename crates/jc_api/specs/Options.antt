-- Consecutive steps that may fail without a fault.
use Rattle.std.specs.Prelude.{List, [], ◌∷◌, Option, Some, None}

-- continue with the result of a step, or stop
infixl 10 ◌>>=◌
abbrev pub ◌>>=◌ : {A B : Type 0} → Option A → (A → Option B) → Option B
(Some x) >>= f = f x
None >>= f = None

-- all values, if none is missing
abbrev pub all_of : {A : Type 0} → List (Option A) → Option (List A)
all_of [] = Some []
all_of (None ∷ xs) = None
all_of (Some x ∷ xs) = all_of xs >>= λ more. Some (x ∷ more)
