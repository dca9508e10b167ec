-- What a text means as a binding, whatever the order of its lines.
use Rattle.std.specs.Prelude.{◌≡◌, ℕ, not, List, map, filter, Some, IsSome, slice_get}
use Rattle.jc_api.specs.Numbered.{numbered}
use Rattle.jc_api.specs.Class.{number_of}
use Rattle.jc_api.specs.Member.{member_of}
use Rattle.jc_api.specs.Bound.{Bound, package_in}
use Rattle.jc_api.specs.NoClash.{HasNoClash}
use Rattle.jc_api.specs.Text.{lines_of, is_skipped}
use Rattle.jc_api.specs.Statement.{statement_of}
use Rattle.jc_api.specs.declared.class.ApiPackage.{ApiPackage}
use Rattle.jc_api.specs.declared.class.ApiClass.{ApiClass}
use Rattle.jc_api.specs.declared.statement.Statement.{Statement}
use Rattle.jc_api.specs.declared.statement.Statement.TheVariants.{Package, Class, Member}

-- what a line may name
pub data Subject : Type 0 where
  ThePackage : ApiPackage → Subject
  TheClass : ApiClass → Subject
  TheMember : ℕ → Subject

abbrev pub subject_of : Statement → Subject
subject_of (Package which info) = ThePackage which
subject_of (Class class token) = TheClass class
subject_of (Member number token) = TheMember number

-- both packages, all classes, and the members with a number
abbrev pub IsThere : Subject → Type 0
IsThere (ThePackage which) = Unit {0}
IsThere (TheClass class) = Unit {0}
IsThere (TheMember number) = IsSome (member_of number)

-- a statement agrees with a binding
abbrev pub Says : Bound → Statement → Type 0
Says bound (Package which info) = package_in bound which ≡ info
Says bound (Class class token) = numbered bound.classes (number_of class) ≡ Some token
Says bound (Member number token) = numbered bound.members number ≡ Some token

-- the lines that aren't skipped
abbrev pub told : List (List ℕ) → List (List ℕ)
told lines = filter (λ line. not (is_skipped line)) lines

-- a text is a binding: each line that isn't skipped is a statement that agrees with it, no two of them name the same
-- thing, and each thing is named
pub record IsBinding (text : List ℕ) (bound : Bound) : Type 0 where
  pub statements : List Statement
  pub lines : map statement_of (told (lines_of text)) ≡ map Some statements
  pub said : (i : ℕ) (s : Statement) → slice_get statements i ≡ Some s → Says bound s
  pub once : (i j : ℕ) (s t : Statement) → slice_get statements i ≡ Some s → slice_get statements j ≡ Some t
      → subject_of s ≡ subject_of t → i ≡ j
  pub named : (subject : Subject) → IsThere subject
      → (i : ℕ) × (s : Statement) × (slice_get statements i ≡ Some s) × (subject_of s ≡ subject)
  pub no_clash : HasNoClash bound
