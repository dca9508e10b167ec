use Rattle.std.proofs.Common.{◌≡◌, ◌≤◌, Some, length, take, vec_capacity}
use Rattle.std.specs.List.{AllByRecursion}
use Rattle.jc_cert.specs.Cert.{IsStatedType}
use Rattle.jc_check.specs.Claim.{types_claimed}
use Rattle.jc_check.specs.Package.{class_of_name}
use Rattle.jc_verify.proofs.spelling.stated_types.Given as goal

abbrev pub invariant-loop-index : goal.invariant-loop-index
invariant-loop-index l = record {
  claimed : types_claimed (class_of_name l.table) l.stated.items ≡ Some (take l.index l.types);
  fit : AllByRecursion IsStatedType l.stated.items;
  len : length l.stated.items ≡ l.index;
  room : length l.types ≤ vec_capacity l.stated;
}
