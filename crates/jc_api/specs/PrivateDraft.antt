-- Private. An invariant of every draft: that of a binding, for what is named.
use Rattle.std.specs.Prelude.{◌≡◌, ◌≢◌, ℕ, ◌≤◌, Bool, IsTrue, List, length, Option, Some}
use Rattle.jc_base.specs.declared.package_info.PackageInfo.{PackageInfo}
use Rattle.jc_api.specs.Numbered.{numbered}
use Rattle.jc_api.specs.Class.{last_class, numbered_classes}
use Rattle.jc_api.specs.Member.{ApiMember, last_member, members, member_of}
use Rattle.jc_api.specs.Token.{class_token_limit, member_token_limit, classes_meet, members_meet}
use Rattle.jc_api.specs.declared.draft.Draft.{Draft}

abbrev pub NamedDiffer : {A : Type 0} → (A → A → Bool) → List A → List (Option ℕ) → Type 0
NamedDiffer {A = A} meets rows named =
    (i j t : ℕ) (x y : A) → numbered rows i ≡ Some x → numbered rows j ≡ Some y → IsTrue (meets x y)
    → numbered named i ≡ Some (Some t) → numbered named j ≡ Some (Some t) → i ≡ j

pub record IsSound (draft : Draft) : Type 0 where
  pub class_count : length draft.classes ≡ last_class
  pub member_count : length draft.members ≡ last_member
  pub class_range : (n t : ℕ) → numbered draft.classes n ≡ Some (Some t) → t ≤ class_token_limit
  pub member_range : (n t : ℕ) (m : ApiMember) → member_of n ≡ Some m → numbered draft.members n ≡ Some (Some t)
      → t ≤ member_token_limit m.kind
  pub aids : (i j : PackageInfo) → draft.lang ≡ Some i → draft.framework ≡ Some j → i.aid ≢ j.aid
  pub class_tokens : NamedDiffer classes_meet numbered_classes draft.classes
  pub member_tokens : NamedDiffer members_meet members draft.members
