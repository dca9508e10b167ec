use Rattle.std.proofs.Common.{◌≡◌, ◌++◌, take}
use Rattle.std.specs.List.{flat_map}
use Rattle.jc_cert.specs.Writing.{type_bytes}
use Rattle.jc_cert.proofs.writing.put_types.Given as goal

abbrev pub invariant-loop-ty : goal.invariant-loop-ty
invariant-loop-ty l = l.out.items ≡ l.fn.out.items ++ flat_map type_bytes (take l.ty-index l.types)
