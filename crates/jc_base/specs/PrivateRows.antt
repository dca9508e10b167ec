-- Private. What remains of rows that were read, and of rows that were skipped.
use Rattle.std.specs.Prelude.{ℕ, List, [], Result, Ok, Err}
use Rattle.jc_base.specs.Cursor.{Read}

-- the rows that were read; none after a fault
abbrev pub rows_of : {A E : Type 0} → Result (Read (List A)) E → List A
rows_of (Ok x) = x.value
rows_of (Err e) = []

-- the bytes that are left after what was read
abbrev pub rest_of : {A E : Type 0} → Result (Read A) E → Result (List ℕ) E
rest_of (Ok x) = Ok x.rest
rest_of (Err e) = Err e

-- the bytes that are left after a call that skips rows
abbrev pub left_by : {X E : Type 0} → Result X E → List ℕ → Result (List ℕ) E
left_by (Ok x) new = Ok new
left_by (Err e) new = Err e
