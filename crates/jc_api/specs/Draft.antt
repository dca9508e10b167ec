-- A partial binding.
use Rattle.std.specs.Prelude.{ℕ, ◌==◌, ◌&&◌, Bool, false, List, replicate, zip, Option, Some, None, is_some, bytes_eq}
use Rattle.std.specs.List.{list_any}
use Rattle.jc_base.specs.declared.package_info.PackageInfo.{PackageInfo}
use Rattle.jc_api.specs.Numbered.{numbered, put}
use Rattle.jc_api.specs.Options.{◌>>=◌, all_of}
use Rattle.jc_api.specs.Class.{other_package, last_class, number_of, numbered_classes}
use Rattle.jc_api.specs.Member.{ApiMember, last_member, members, member_of}
use Rattle.jc_api.specs.Token.{classes_meet, members_meet}
use Rattle.jc_api.specs.Bound.{Bound}
use Rattle.jc_api.specs.declared.class.ApiPackage.{ApiPackage}
use Rattle.jc_api.specs.declared.class.ApiPackage.TheVariants.{Lang, Framework}
use Rattle.jc_api.specs.declared.statement.Statement.{Statement}
use Rattle.jc_api.specs.declared.statement.Statement.TheVariants.{Package, Class, Member}
use Rattle.jc_api.specs.declared.draft.Draft.{Draft}

-- nothing is named yet
abbrev pub empty_draft : Draft
empty_draft = record {
  lang = None;
  framework = None;
  classes = replicate last_class None;
  members = replicate last_member None;
}

abbrev pub named_package : Draft → ApiPackage → Option PackageInfo
named_package draft Lang = draft.lang
named_package draft Framework = draft.framework

-- whether a row exists and has a value
abbrev pub is_named : {A : Type 0} → Option (Option A) → Bool
is_named (Some named) = is_some named
is_named None = false

-- whether a statement names something that was named before
unfoldable pub is_repeated : Draft → Statement → Bool
is_repeated draft (Package which info) = is_some (named_package draft which)
is_repeated draft (Class class token) = is_named (numbered draft.classes (number_of class))
is_repeated draft (Member number token) = is_named (numbered draft.members number)

-- whether a named token is this one
abbrev pub is_token : ℕ → Option ℕ → Bool
is_token token (Some named) = named == token
is_token token None = false

-- whether a named package has this AID
abbrev pub is_aid : List ℕ → Option PackageInfo → Bool
is_aid aid (Some info) = bytes_eq info.aid aid
is_aid aid None = false

-- whether a row whose token has to differ from this row's has this token
unfoldable pub is_taken : {A : Type 0} → (A → A → Bool) → A → ℕ → List A → List (Option ℕ) → Bool
is_taken meets row token rows named = list_any (λ r. meets row r.0 && is_token token r.1) (zip rows named)

abbrev pub member_clashes : Draft → ℕ → Option ApiMember → Bool
member_clashes draft token (Some member) = is_taken members_meet member token members draft.members
member_clashes draft token None = false

-- whether a statement assigns what is taken: the other package's AID, or the token of a class or member that must
-- differ
unfoldable pub clashes : Draft → Statement → Bool
clashes draft (Package which info) = is_aid info.aid (named_package draft (other_package which))
clashes draft (Class class token) = is_taken classes_meet class token numbered_classes draft.classes
clashes draft (Member number token) = member_clashes draft token (member_of number)

-- the draft with one more statement
unfoldable pub drafted : Draft → Statement → Draft
drafted draft (Package Lang info) = record draft { lang = Some info }
drafted draft (Package Framework info) = record draft { framework = Some info }
drafted draft (Class class token) = record draft { classes = put draft.classes (number_of class) (Some token) }
drafted draft (Member number token) = record draft { members = put draft.members number (Some token) }

-- the binding, if everything was named
unfoldable pub whole_of : Draft → Option Bound
whole_of draft = do
  lang ← draft.lang
  framework ← draft.framework
  classes ← all_of draft.classes
  members ← all_of draft.members
  Some (record { lang = lang; framework = framework; classes = classes; members = members })
