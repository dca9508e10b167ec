use Rattle.std.proofs.Common.{ap, ◌∙◌, sym}
use Rattle.jc_api.specs.Draft.{clashes, is_taken, member_clashes}
use Rattle.jc_api.specs.Member.{shown}
use Rattle.jc_api.specs.Token.{members_meet}
use Rattle.jc_api.proofs.Meetings.{taken-shown}
use Rattle.jc_api.proofs.draft.Draft.clashes.Goals as goal

pub returns-in-Some : goal.returns-in-Some
unfolding clashes
returns-in-Some c =
    c.is_member_token_taken.ensures
    ∙ taken-shown (shown c.in-Some.member) c.in-Member.token c.all_members.result.now c.args.self.now.members
    ∙ ap (λ rows. is_taken members_meet (shown c.in-Some.member) c.in-Member.token rows c.args.self.now.members) c.all_members.ensures.rows
    ∙ ap (member_clashes c.args.self.now c.in-Member.token) c.in-Some.ensures
    ∙ ap (clashes c.args.self.now) (sym c.in-Member.is)
