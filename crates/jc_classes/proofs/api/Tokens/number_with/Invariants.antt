use Rattle.std.proofs.Common.{◌≡◌}
use Rattle.jc_classes.specs.Api.{number_to, token_in}
use Rattle.jc_classes.proofs.api.Tokens.number_with.Given as goal

abbrev pub invariant-loop-before : goal.invariant-loop-before
invariant-loop-before l = l.found ≡ number_to l.before (token_in l.binding l.self) l.token
