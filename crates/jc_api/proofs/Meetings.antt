-- What is taken among members, as the code and as the definitions name them.
use Rattle.std.proofs.Common.{◌≡◌, ℕ, ◌&&◌, ◌||◌, List, [], ◌∷◌, map, zip, Option, refl, ap}
use Rattle.std.specs.List.{list_any}
use Rattle.jc_api.specs.Member.{ApiMember, shown}
use Rattle.jc_api.specs.Token.{members_meet}
use Rattle.jc_api.specs.Draft.{is_taken, is_token}
use Rattle.jc_api.specs.declared.member.Member.{Member}

pub taken-shown : (member : ApiMember) (token : ℕ) (rows : List Member) (named : List (Option ℕ)) → list_any (λ r. members_meet member (shown r.0) && is_token token r.1) (zip rows named) ≡ is_taken members_meet member token (map shown rows) named
unfolding is_taken
taken-shown member token [] named = refl
taken-shown member token (row ∷ rows) [] = refl
taken-shown member token (row ∷ rows) (n ∷ named) = ap (λ b. (members_meet member (shown row) && is_token token n) || b) (taken-shown member token rows named)
