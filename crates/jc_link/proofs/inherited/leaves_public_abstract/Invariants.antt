use Rattle.std.proofs.Common.{◌≡◌, ◌-◌}
use Rattle.std.specs.List.{list_any, range_with_len}
use Rattle.jc_link.specs.Inherited.{leaves_at, public_tokens}
use Rattle.jc_link.proofs.inherited.leaves_public_abstract.Given as goal

abbrev pub invariant-loop-token : goal.invariant-loop-token
invariant-loop-token l =
    list_any (leaves_at l.class.world l.class.class 0) (range_with_len l.token (128 - l.token))
    ≡ list_any (leaves_at l.class.world l.class.class 0) public_tokens
