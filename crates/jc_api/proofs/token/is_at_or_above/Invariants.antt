use Rattle.std.proofs.Common.{◌≡◌, ◌-◌}
use Rattle.jc_api.specs.Class.{last_class}
use Rattle.jc_api.specs.Token.{is_at_or_above}
use Rattle.jc_api.proofs.Climbing.{is_found}
use Rattle.jc_api.proofs.token.is_at_or_above.Given as goal

-- what is left of the chain says the same of the whole
abbrev pub invariant-loop : goal.invariant-loop
invariant-loop l = is_at_or_above l.above l.fn.class ≡ is_found l.above (last_class - l.counter) l.next
