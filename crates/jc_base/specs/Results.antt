-- Consecutive steps that may fail.
use Rattle.std.specs.Prelude.{Result, Ok, Err}

-- continue with the result of a step, or stop at its fault
infixl 10 ◌>>=◌
abbrev pub ◌>>=◌ : {A B E : Type 0} → Result A E → (A → Result B E) → Result B E
(Ok x) >>= f = f x
(Err e) >>= f = Err e
