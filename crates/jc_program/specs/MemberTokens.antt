-- The virtual tokens of the API's members, by their numbers: for calls that native members make (Java Card API
-- Specification; Java Card Virtual Machine Specification, Binary Compatibility: Token-based linking).
use Rattle.std.specs.Prelude.{◌≡◌, ℕ, ◌+◌, ◌<◌, ◌==◌, List, Option, Some, None, slice_get, unwrap_or}
use Rattle.std.specs.List.{position}
use Rattle.std.specs.Option.{option_and_then, option_map}
use Rattle.jc_api.specs.Member.{ApiMember, member_of}
use Rattle.jc_cap.specs.declared.record.RecordBody.{RecordBody}
use Rattle.jc_cap.specs.declared.record.RecordBody.TheVariants.{Interface, Class}
use Rattle.jc_cap_desc.specs.Shape.{ClassShape, Shape}
use Rattle.jc_classes.specs.Methods.{package_visible}
use Rattle.jc_classes.specs.World.{class_at}
use Rattle.jc_names.specs.declared.name.ClassName.{ClassName}
use Rattle.jc_names.specs.declared.name.ClassName.TheVariants.{Api}

-- the token of a member in its record's table of public methods; members of interfaces have none
abbrev pub token_in : ℕ → RecordBody → Option ℕ
token_in member (Interface r) = None
token_in member (Class r) =
    option_map (λ n. r.public_methods.base + n) (position (λ m. m == member) r.public_methods.methods)

-- the same in the record of a class; none if there is no such class
abbrev pub token_of_class : List Shape → ClassName → ℕ → Option ℕ
token_of_class world c member = option_and_then (λ (k : ClassShape). token_in member k.body) (class_at world c)

-- the same in the record of the member's own class; none if no member has the number
abbrev pub member_token : List Shape → ℕ → Option ℕ
member_token world member =
    option_and_then (λ (m : ApiMember). token_of_class world (Api m.class) member) (member_of member)

-- a table's token for the member with a number; none after its end
abbrev pub token_at : List (Option ℕ) → ℕ → Option ℕ
token_at tokens member = unwrap_or (slice_get tokens member) None

-- the tokens of the API's members in a world are right
abbrev pub AreMemberTokens : List Shape → List (Option ℕ) → Type 0
AreMemberTokens world tokens = (member : ℕ) → token_at tokens member ≡ member_token world member

-- no member of the API has a package-visible token
abbrev pub HavePublicTokens : List Shape → Type 0
HavePublicTokens world = (member token : ℕ) → member_token world member ≡ Some token → token < package_visible
