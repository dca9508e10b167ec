use Rattle.std.proofs.Common.{◌≡◌}
use Rattle.jc_classes.specs.Api.{each_below, entry_of}
use Rattle.jc_classes.proofs.api.Tokens.entries.Given as goal

abbrev pub invariant-loop-token : goal.invariant-loop-token
invariant-loop-token l = l.entries.items ≡ each_below l.token (entry_of l.binding l.self)
