use Rattle.std.proofs.Common.{◌≡◌, drop}
use Rattle.jc_link.specs.MemberType.{type_class}
use Rattle.jc_link.specs.PrivateAgree.{types_agree}
use Rattle.jc_link.proofs.types.types_agree.Given as goal

-- what is left says the same
abbrev pub invariant-loop-index : goal.invariant-loop-index
invariant-loop-index l =
    types_agree (type_class l.table l.home) (type_class l.table l.there) l.types l.others
    ≡ types_agree (type_class l.table l.home) (type_class l.table l.there) (drop l.index l.types) (drop l.index l.others)
