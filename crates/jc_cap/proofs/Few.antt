-- Rows that a byte counts are few.
use Rattle.std.proofs.Common.{◌≡◌, ℕ, ◌≤◌, ◌==◌, List, length, Result, Ok, Err, IfOk, refl, sym, arith}
use Rattle.jc_base.specs.Cursor.{Read, whole}
use Rattle.jc_base.specs.Rows.{repeat}
use Rattle.jc_base.proofs.Binding.{guard_ok, ok_err, the_ok}
use Rattle.jc_base.proofs.Repeats.{length-rows}

-- what was read whole was read
read_whole : {A E : Type 0} (fault : E) (r : Result (Read A) E) (y : A) → whole fault r ≡ Ok y → (x : Read A) × (r ≡ Ok x) × (x.value ≡ y)
read_whole fault (Ok x) y e = (x, refl, the_ok x.value y (guard_ok (length x.rest == 0) (Ok x.value) fault y e).1)
read_whole fault (Err f) y e = absurd (ok_err y f (sym e))

pub few_whole : {A E : Type 0} (next_row : List ℕ → Result (Read A) E) (n : ℕ) (bytes : List ℕ) (fault : E) (result : Result (List A) E) → n ≤ 255 → result ≡ whole fault (repeat next_row n bytes) → IfOk result (λ rows. length rows ≤ 255)
few_whole next_row n bytes fault result h1 h2 = grind (arith, read_whole, length-rows)
