-- Private. Tokens as read from the API's classes, whose tables begin at token 0.
use Rattle.std.specs.Prelude.{◌≡◌, ℕ, ◌<◌, ◌==◌, List, Option, length}
use Rattle.std.specs.List.{position}
use Rattle.std.specs.Option.{option_and_then}
use Rattle.jc_api.specs.Member.{ApiMember, member_of}
use Rattle.jc_cap_desc.specs.Shape.{ClassShape, Shape}
use Rattle.jc_classes.specs.Record.{public_entries}
use Rattle.jc_classes.specs.World.{class_at}
use Rattle.jc_names.specs.declared.name.ClassName.TheVariants.{Api}
use Rattle.jc_program.specs.MemberTokens.{token_at}

-- the place of a member among the public methods of its class
abbrev pub place_in : ℕ → ClassShape → Option ℕ
place_in member k = position (λ m. m == member) (public_entries k.body)

abbrev pub member_place : List Shape → ℕ → Option ℕ
member_place world member = option_and_then
    (λ (m : ApiMember). option_and_then (place_in member) (class_at world (Api m.class))) (member_of member)

-- the first `made` members have their places
pub record HavePlaces (world : List Shape) (made : ℕ) (tokens : List (Option ℕ)) : Type 0 where
  pub count : length tokens ≡ made
  pub there : (member : ℕ) → member < made → token_at tokens member ≡ member_place world member
