use Rattle.std.proofs.Common.{◌≡◌, ◌≤◌}
use Rattle.jc_classes.specs.Api.{room_to, token_in}
use Rattle.jc_classes.proofs.api.Tokens.room.Given as goal

abbrev pub invariant-loop-before : goal.invariant-loop-before
invariant-loop-before l = (l.room ≡ room_to l.before (token_in l.binding l.self)) × (l.room ≤ 256)
