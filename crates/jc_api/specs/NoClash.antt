-- An invariant of every binding: each token is in its range, and names that have to differ do (Java Card Virtual
-- Machine Specification, Binary Compatibility: token assignment).
use Rattle.std.specs.Prelude.{◌≡◌, ◌≢◌, ℕ, ◌≤◌, Bool, IsTrue, List, length, Some}
use Rattle.jc_api.specs.Numbered.{numbered}
use Rattle.jc_api.specs.Class.{last_class, numbered_classes}
use Rattle.jc_api.specs.Member.{ApiMember, last_member, members, member_of}
use Rattle.jc_api.specs.Token.{class_token_limit, member_token_limit, classes_meet, members_meet}
use Rattle.jc_api.specs.Bound.{Bound}

-- no two rows that meet have the same token; rows and tokens have the same numbers
abbrev pub TokensDiffer : {A : Type 0} → (A → A → Bool) → List A → List ℕ → Type 0
TokensDiffer {A = A} meets rows tokens =
    (i j t : ℕ) (x y : A) → numbered rows i ≡ Some x → numbered rows j ≡ Some y → IsTrue (meets x y)
    → numbered tokens i ≡ Some t → numbered tokens j ≡ Some t → i ≡ j

pub record HasNoClash (bound : Bound) : Type 0 where
  pub class_count : length bound.classes ≡ last_class
  pub member_count : length bound.members ≡ last_member
  pub class_range : (n t : ℕ) → numbered bound.classes n ≡ Some t → t ≤ class_token_limit
  pub member_range : (n t : ℕ) (m : ApiMember) → member_of n ≡ Some m → numbered bound.members n ≡ Some t
      → t ≤ member_token_limit m.kind
  pub aids : bound.lang.aid ≢ bound.framework.aid
  pub class_tokens : TokensDiffer classes_meet numbered_classes bound.classes
  pub member_tokens : TokensDiffer members_meet members bound.members
