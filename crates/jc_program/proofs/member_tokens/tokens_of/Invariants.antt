use Rattle.jc_program.specs.PrivateMemberTokens.{HavePlaces}
use Rattle.jc_program.proofs.member_tokens.tokens_of.Given as goal

abbrev pub invariant-loop-member : goal.invariant-loop-member
invariant-loop-member l = HavePlaces l.table l.member l.tokens.items
