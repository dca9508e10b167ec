-- Tokens: their ranges, and which of them have to differ (Java Card Virtual Machine Specification, Binary
-- Compatibility: Token-based linking).
use Rattle.std.specs.Prelude.{ℕ, zero, suc, ◌==◌, ◌&&◌, ◌||◌, not, Bool, true, false, List, [], ◌∷◌, Option, Some, None}
use Rattle.std.specs.Prelude.{if◌then◌else◌}
use Rattle.std.specs.List.{list_any}
use Rattle.jc_api.specs.declared.class.ApiPackage.{ApiPackage}
use Rattle.jc_api.specs.declared.class.ApiPackage.TheVariants.{Lang, Framework}
use Rattle.jc_api.specs.declared.class.ApiClass.{ApiClass}
use Rattle.jc_api.specs.declared.member.MemberKind.{MemberKind}
use Rattle.jc_api.specs.declared.member.MemberKind.TheVariants.{Constructor, Static, Virtual}
use Rattle.jc_api.specs.Class.{last_class, number_of, package_of, superclass_of}
use Rattle.jc_api.specs.Member.{ApiMember}

abbrev pub class_token_limit : ℕ
class_token_limit = 254

-- constructors have tokens among those of static methods
abbrev pub member_token_limit : MemberKind → ℕ
member_token_limit Constructor = 254
member_token_limit Static = 254
member_token_limit Virtual = 127

abbrev pub is_virtual : MemberKind → Bool
is_virtual Constructor = false
is_virtual Static = false
is_virtual Virtual = true

abbrev pub is_same_package : ApiPackage → ApiPackage → Bool
is_same_package Lang Lang = true
is_same_package Lang Framework = false
is_same_package Framework Lang = false
is_same_package Framework Framework = true

abbrev pub is_same_class : ApiClass → ApiClass → Bool
is_same_class a b = number_of a == number_of b

-- a class and its superclasses, in at most the given number of steps
unfoldable pub chain : ℕ → Option ApiClass → List ApiClass
chain zero class = []
chain (suc n) None = []
chain (suc n) (Some class) = class ∷ chain n (superclass_of class)

-- whether the first is the second or a superclass of it; no chain is longer than the number of classes
unfoldable pub is_at_or_above : ApiClass → ApiClass → Bool
is_at_or_above a b = list_any (is_same_class a) (chain last_class (Some b))

-- whether the tokens of two classes have to differ: they are in one package
abbrev pub classes_meet : ApiClass → ApiClass → Bool
classes_meet a b = is_same_package (package_of a) (package_of b)

-- whether the tokens of two members have to differ: virtual methods if one's class is the other's or a superclass of
-- it, other members within one class
unfoldable pub members_meet : ApiMember → ApiMember → Bool
members_meet a b =
    if is_virtual a.kind then is_virtual b.kind && (is_at_or_above a.class b.class || is_at_or_above b.class a.class)
    else not (is_virtual b.kind) && is_same_class a.class b.class
