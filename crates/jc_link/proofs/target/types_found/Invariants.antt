use Rattle.std.proofs.Common.{◌≡◌, ◌++◌, drop}
use Rattle.std.specs.Option.{option_map}
use Rattle.jc_link.specs.Found.{types_found}
use Rattle.jc_link.specs.MemberType.{type_class}
use Rattle.jc_link.proofs.target.types_found.Given as goal

-- those that were found, and what is left, are all
abbrev pub invariant-loop-declared : goal.invariant-loop-declared
invariant-loop-declared l =
    types_found (type_class l.table l.home) l.types
    ≡ option_map (λ types. l.found.items ++ types) (types_found (type_class l.table l.home) (drop l.declared-index l.types))
