-- Budgets of steps, as their decimal digits are read.
use Rattle.std.proofs.Common.{◌≡◌, ℕ, ◌<◌, ◌^◌, ◌&&◌, Bool, true, nat_lt, List, [], ◌∷◌, length, refl}
use Rattle.std.proofs.Common.{Option, Some, None, ap, sym, ◌∙◌, arith, Result, Ok, Err, if◌then◌else◌}
use Rattle.std.specs.Char.{is_ascii_digit}
use Rattle.std.specs.List.{list_all}
use Rattle.std.specs.Result.{OkIff}
use Rattle.std.specs.Str.{all_ascii_digits}
use Rattle.std.specs.Str.Parse.{ParsesUnsigned, digits_value}
use Rattle.std.proofs.lemmas.Str.Parse.{numerals_by_value, parse_digits, tells_all_ascii_digits}
use Rattle.jc_script.specs.Script.{budget_in}

-- a test of digits that agrees with the one of texts
all_is : (ds : List ℕ) → list_all is_ascii_digit ds ≡ all_ascii_digits ds
all_is [] = refl
all_is (c ∷ cs) = ap (λ (b : Bool). is_ascii_digit c && b) (all_is cs)

-- what is read is a budget where it isn't 0
abbrev budget_read : {E : Type 0} → Result ℕ E → Option ℕ
budget_read (Ok n) = if nat_lt 0 n then Some n else None
budget_read (Err e) = None

-- digits of a number of 32 bits
read_so : {E : Type 0} (ds : List ℕ) (r : Result ℕ E) → list_all is_ascii_digit ds ≡ true
    → OkIff r ((0 < length ds) × (digits_value 10 ds < 2 ^ 32)) (digits_value 10 ds) → budget_read r ≡ budget_in ds
read_so [] (Ok n) digits h = absurd (omega (arith, h.0.0))
read_so [] (Err e) digits h = refl
read_so (d ∷ ds) (Ok n) digits h = grind (arith, h.0.1, h.1)
read_so (d ∷ ds) (Err e) digits h = grind (arith, h)

pub budget_is : {E : Type 0} (ds : List ℕ) (r : Result ℕ E) → list_all is_ascii_digit ds ≡ true
    → ParsesUnsigned 32 10 ds r → budget_read r ≡ budget_in ds
budget_is ds r digits h =
    read_so ds r digits
    (parse_digits (numerals_by_value _ tells_all_ascii_digits) 32 ds r h (sym (all_is ds) ∙ digits))
