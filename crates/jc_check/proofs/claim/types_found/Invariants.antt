use Rattle.std.proofs.Common.{◌≡◌, drop, length, vec_len, vec_capacity}
use Rattle.jc_check.specs.Claim.{types_claimed}
use Rattle.jc_check.proofs.Claims.{with_found}
use Rattle.jc_check.proofs.claim.types_found.Given as goal

abbrev pub invariant-loop-index : goal.invariant-loop-index
invariant-loop-index g l =
    (with_found l.found.items (types_claimed (g.R.CheckRules.rules l.rules).class_of (drop l.index l.types)) ≡ types_claimed (g.R.CheckRules.rules l.rules).class_of l.types)
    × (vec_len l.found ≡ l.index) × (vec_capacity l.found ≡ length l.types)
