-- The statements of a binding's lines.
use Rattle.std.specs.Prelude.{ℕ, List, [], ◌∷◌, Option, Some, None, bytes_eq, codes, if◌then◌else◌}
use Rattle.jc_api.specs.Options.{◌>>=◌}
use Rattle.jc_api.specs.Text.{words_of, decimal_up_to, spelled_aid}
use Rattle.jc_api.specs.Class.{package_with, class_of}
use Rattle.jc_api.specs.Member.{member_of}
use Rattle.jc_api.specs.Token.{class_token_limit, member_token_limit}
use Rattle.jc_api.specs.declared.statement.Statement.{Statement}
use Rattle.jc_api.specs.declared.statement.Statement.TheVariants.{Package, Class, Member}

-- the greatest number of a package, class or member, and of a version
abbrev pub greatest_number : ℕ
greatest_number = 255

-- `package K AID MAJOR MINOR`
unfoldable pub package_stated : List (List ℕ) → Option Statement
package_stated (number ∷ aid ∷ major ∷ minor ∷ []) = do
  n ← decimal_up_to greatest_number number
  which ← package_with n
  bytes ← spelled_aid aid
  m ← decimal_up_to greatest_number major
  k ← decimal_up_to greatest_number minor
  Some (Package which (record { minor = k; major = m; aid = bytes }))
package_stated _ = None

-- `class K TOKEN`
unfoldable pub class_stated : List (List ℕ) → Option Statement
class_stated (number ∷ token ∷ []) = do
  n ← decimal_up_to greatest_number number
  class ← class_of n
  t ← decimal_up_to class_token_limit token
  Some (Class class t)
class_stated _ = None

-- `member K TOKEN`
unfoldable pub member_stated : List (List ℕ) → Option Statement
member_stated (number ∷ token ∷ []) = do
  n ← decimal_up_to greatest_number number
  member ← member_of n
  t ← decimal_up_to (member_token_limit member.kind) token
  Some (Member n t)
member_stated _ = None

-- the keyword selects the statement
unfoldable pub stated : List (List ℕ) → Option Statement
stated [] = None
stated (keyword ∷ words) =
    if bytes_eq keyword (codes "package") then package_stated words
    else (if bytes_eq keyword (codes "class") then class_stated words
    else (if bytes_eq keyword (codes "member") then member_stated words
    else None))

unfoldable pub statement_of : List ℕ → Option Statement
statement_of line = stated (words_of line)
