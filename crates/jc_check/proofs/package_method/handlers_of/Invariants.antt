use Rattle.std.proofs.Common.{◌≡◌, ◌++◌, drop, length, map, vec_len, vec_capacity}
use Rattle.jc_check.specs.Package.{handler_of}
use Rattle.jc_check.proofs.package_method.handlers_of.Given as goal

abbrev pub invariant-loop-row : goal.invariant-loop-row
invariant-loop-row l =
    (l.handlers.items ++ map (handler_of l.linked l.code_offset) (drop l.row-index l.rows) ≡ map (handler_of l.linked l.code_offset) l.rows)
    × (vec_len l.handlers ≡ l.row-index) × (vec_capacity l.handlers ≡ length l.rows)
