use Rattle.std.proofs.Common.{take}
use Rattle.std.specs.List.{AllByRecursion}
use Rattle.jc_cert.specs.Cert.{IsStatedType}
use Rattle.jc_cert.proofs.in_order.types_fit.Given as goal

abbrev pub invariant-loop-ty : goal.invariant-loop-ty
invariant-loop-ty l = AllByRecursion IsStatedType (take l.ty-index l.types)
