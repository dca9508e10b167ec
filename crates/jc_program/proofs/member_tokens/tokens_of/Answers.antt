use Rattle.jc_program.proofs.Tokening.{token_more}
use Rattle.jc_program.proofs.member_tokens.tokens_of.Goals as goal

pub loop-member-preserved : goal.loop-member-preserved
loop-member-preserved c =
    rw c.in_ok-push.ensures.items
    (token_more c.args.table.now c.loop-member.tokens.items c.in_ok-token.token c.loop-member.member
    c.loop-member.invariant c.in_ok-token.ensures)
