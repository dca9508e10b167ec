use Rattle.std.proofs.Common.{◌≡◌, ◌≤◌, length, map, take, vec_len, vec_capacity}
use Rattle.jc_cert.specs.Cert.{stated}
use Rattle.jc_check.specs.Package.{class_of_name}
use Rattle.jc_verify.specs.PrivateStated.{AreStateRows}
use Rattle.jc_verify.proofs.spelling.stated_rows.Given as goal

abbrev pub invariant-loop-index : goal.invariant-loop-index
invariant-loop-index l =
    AreStateRows (class_of_name l.table) (take l.index l.places) (map stated l.rows.items)
    × (vec_len l.rows ≤ l.index) × (vec_capacity l.rows ≡ length l.places)
