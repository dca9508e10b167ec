use Rattle.std.proofs.Common.{◌≡◌, vec_len, vec_capacity}
use Rattle.std.specs.Prelude.{replicate}
use Rattle.jc_check.specs.declared.mark.ByteMark.TheVariants.{Inside}
use Rattle.jc_check.proofs.table.no_marks.Given as goal

abbrev pub invariant-loop : goal.invariant-loop
invariant-loop l = (l.marks.items ≡ replicate l.counter Inside) × (vec_len l.marks ≡ l.counter) × (vec_capacity l.marks ≡ l.count)
