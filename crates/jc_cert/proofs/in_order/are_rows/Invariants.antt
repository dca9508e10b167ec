use Rattle.std.proofs.Common.{◌↔◌, drop}
use Rattle.std.specs.List.{AllByRecursion}
use Rattle.jc_cert.specs.Cert.{IsRow, OffsetsAscend, rows}
use Rattle.jc_cert.proofs.in_order.are_rows.Given as goal

-- all are in order where those that are left are, from the least offset on
abbrev pub invariant-loop-method : goal.invariant-loop-method
invariant-loop-method l =
    let left = rows (drop l.method-index l.methods) in
    (AllByRecursion IsRow (rows l.methods) × OffsetsAscend 0 (rows l.methods)) ↔ (AllByRecursion IsRow left × OffsetsAscend l.least left)
