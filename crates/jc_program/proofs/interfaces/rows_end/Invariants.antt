use Rattle.std.proofs.Common.{◌≡◌, ℕ, ◌+◌, ◌<◌, ◌≤◌, Some, slice_get}
use Rattle.jc_program.specs.declared.interfaces.ListingClass.{ListingClass}
use Rattle.jc_program.proofs.interfaces.rows_end.Given as goal

abbrev pub invariant-loop-class : goal.invariant-loop-class
invariant-loop-class l =
    (n : ℕ) (c : ListingClass) → n < l.class-index → slice_get l.classes n ≡ Some c → c.start + c.count ≤ l.end
