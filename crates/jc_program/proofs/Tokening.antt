-- The virtual tokens of the API's members.
use Rattle.std.proofs.Common.{◌≡◌, ◌⊎◌, ℕ, zero, suc, ◌+◌, ◌<◌, ◌≤◌, ◌==◌, Bool, cond, List, [], ◌∷◌, ◌++◌, length}
use Rattle.std.proofs.Common.{Option, Some, None, unwrap_or, refl, ◌∙◌, arith, length-append}
use Rattle.std.proofs.lemmas.Bool.{cases_lt}
use Rattle.std.proofs.lemmas.Option.{none-some, slice_get_past}
use Rattle.std.specs.List.{position}
use Rattle.std.specs.Option.{option_and_then, option_map}
use Rattle.jc_api.specs.Bound.{Bound}
use Rattle.jc_api.specs.Class.{is_interface}
use Rattle.jc_api.specs.Member.{ApiMember, member_of, members}
use Rattle.jc_api.specs.declared.class.ApiClass.{ApiClass}
use Rattle.jc_cap.specs.declared.record.ClassRecord.{ClassRecord}
use Rattle.jc_cap.specs.declared.record.InterfaceRecord.{InterfaceRecord}
use Rattle.jc_cap.specs.declared.record.RecordBody.TheVariants.{Interface, Class}
use Rattle.jc_cap_desc.specs.Shape.{Shape}
use Rattle.jc_classes.specs.Api.{class_in_api, record_in}
use Rattle.jc_classes.specs.Methods.{package_visible}
use Rattle.jc_classes.specs.Record.{public_entries}
use Rattle.jc_classes.specs.World.{class_at}
use Rattle.jc_link.specs.ApiClasses.{StandsOnApi}
use Rattle.jc_names.specs.declared.name.ClassName.TheVariants.{Api}
use Rattle.jc_program.specs.MemberTokens.{AreMemberTokens, HavePublicTokens, member_token, token_at, token_in}
use Rattle.jc_program.specs.MemberTokens.{token_of_class}
use Rattle.jc_program.specs.PrivateMemberTokens.{HavePlaces, member_place, place_in}
use Rattle.jc_program.proofs.Calling.{get_before, get_last}

-- ---- their tables begin at token 0

from_zero : (o : Option ℕ) → o ≡ option_map (λ n. 0 + n) o
from_zero o = grind (arith, None, Some)

place_is_token : (bound : Bound) (c : ApiClass) (member : ℕ)
    → place_in member (class_in_api bound c) ≡ token_in member (record_in bound c)
place_is_token bound c member = by_kind (is_interface c) _ _ refl
  where
    by_kind : (b : Bool) (i : InterfaceRecord) (r : ClassRecord) → r.public_methods.base ≡ 0
        → position (λ m. m == member) (public_entries (cond b (Interface i) (Class r)))
        ≡ token_in member (cond b (Interface i) (Class r))
    by_kind b i r h1 = grind (arith, from_zero)

places_are_tokens : (world : List Shape) → StandsOnApi world → (member : ℕ)
    → member_place world member ≡ member_token world member
places_are_tokens world on member = by_member (member_of member)
  where
    by_member : (o : Option ApiMember)
        → option_and_then (λ (m : ApiMember). option_and_then (place_in member) (class_at world (Api m.class))) o
        ≡ option_and_then (λ (m : ApiMember). token_of_class world (Api m.class) member) o
    by_member o = grind (arith, None, Some, place_is_token)

-- ---- the table

pub token_more : (world : List Shape) (tokens : List (Option ℕ)) (last : Option ℕ) (at : ℕ)
    → HavePlaces world at tokens → last ≡ member_place world at → HavePlaces world (at + 1) (tokens ++ last ∷ [])
token_more world tokens last at so_far fits = record {
  count = let a = length-append tokens (last ∷ []) in let n = so_far.count in omega (arith, a, n);
  there = λ member less. by_order member less (cases_lt member at);
}
  where
    by_order : (member : ℕ) → member < at + 1 → (member < at) ⊎ (at ≤ member)
        → token_at (tokens ++ last ∷ []) member ≡ member_place world member
    by_order member h1 h2 = grind (arith, unwrap_or, None, get_before, length, get_last)

member_past : (n : ℕ) → 56 ≤ n → member_of n ≡ None
member_past zero past = refl
member_past (suc n) past = slice_get_past members n (few past)
  where
    few : 56 ≤ suc n → length members ≤ n
    few h = omega (arith, h)

pub are_member_tokens : (world : List Shape) (tokens : List (Option ℕ)) → StandsOnApi world
    → HavePlaces world 56 tokens → AreMemberTokens world tokens
are_member_tokens world tokens on have member = by_order (cases_lt member 56)
  where
    by_order : (member < 56) ⊎ (56 ≤ member) → token_at tokens member ≡ member_token world member
    by_order h1 = grind (arith, places_are_tokens, unwrap_or, None, slice_get_past, member_past)

-- ---- no token is package-visible

pub public_tokens : (world : List Shape) → StandsOnApi world → HavePublicTokens world
public_tokens world on member token e = by_member (member_of member) refl (places_are_tokens world on member ∙ e)
  where
    by_member : (o : Option ApiMember) → member_of member ≡ o
        → option_and_then (λ (m : ApiMember). option_and_then (place_in member) (class_at world (Api m.class))) o
        ≡ Some token → token < package_visible
    by_member o h1 h2 = grind (arith, None, none-some, Some)
