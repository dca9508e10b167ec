-- Private. What a sequence of placed rows keeps.
use Rattle.std.specs.Prelude.{List, [], Result, Ok, Err}

-- the rows; none if the bytes aren't rows to their end
abbrev pub listed : {A E : Type 0} → Result (List A) E → List A
listed (Ok rows) = rows
listed (Err e) = []

-- whether they are, or the fault
abbrev pub done : {A E : Type 0} → Result A E → Result (Unit {0}) E
done (Ok x) = Ok tt
done (Err e) = Err e
