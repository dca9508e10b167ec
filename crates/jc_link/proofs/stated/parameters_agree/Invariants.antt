use Rattle.std.proofs.Common.{◌≡◌, drop}
use Rattle.jc_link.specs.MemberType.{type_class}
use Rattle.jc_link.specs.PrivateAgree.{types_agree}
use Rattle.jc_link.proofs.stated.parameters_agree.Given as goal

-- what is left says the same
abbrev pub invariant-loop-other : goal.invariant-loop-other
invariant-loop-other l =
    types_agree (type_class l.table l.home) (type_class l.table l.there) l.stated l.others
    ≡ types_agree (type_class l.table l.home) (type_class l.table l.there) l.left (drop l.other-index l.others)
