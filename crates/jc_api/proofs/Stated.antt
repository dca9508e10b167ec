-- Statements of lines are in range.
use Rattle.std.proofs.Common.{◌≡◌, ℕ, ◌≤◌, ◌&&◌, Bool, true, false, cond, List, [], ◌∷◌, length, Option, Some, None, nat_le, nat_lt, refl, subst, arith, bytes_eq, codes}
use Rattle.jc_base.proofs.Binding.{the_some}
use Rattle.jc_api.specs.Options.{◌>>=◌}
use Rattle.std.specs.Char.{is_ascii_digit}
use Rattle.std.specs.List.{list_all}
use Rattle.jc_api.specs.Text.{decimal_up_to, spelled_aid, value_of, words_of}
use Rattle.jc_api.specs.Class.{package_with, class_of}
use Rattle.jc_api.specs.Member.{ApiMember, member_of}
use Rattle.jc_api.specs.Token.{class_token_limit, member_token_limit}
use Rattle.jc_api.specs.Statement.{package_stated, class_stated, member_stated, stated, statement_of, greatest_number}
use Rattle.jc_api.specs.declared.statement.Statement.{Statement}
use Rattle.jc_api.specs.declared.statement.Statement.TheVariants.{Package, Class, Member}

abbrev pub IsStated : Statement → Type 0
IsStated (Package which info) = Unit {0}
IsStated (Class class token) = token ≤ class_token_limit
IsStated (Member number token) = (m : ApiMember) × (member_of number ≡ Some m) × (token ≤ member_token_limit m.kind)

some_bind : {A B : Type 0} (o : Option A) (f : A → Option B) (y : B) → (o >>= f) ≡ Some y → (x : A) × (o ≡ Some x) × (f x ≡ Some y)
some_bind (Some x) f y h = (x, refl, h)
some_bind None f y h = absurd cc

within : (limit t : ℕ) (word : List ℕ) → decimal_up_to limit word ≡ Some t → t ≤ limit
unfolding decimal_up_to
within limit t word h = part (nat_lt 0 (length word) && list_all is_ascii_digit word) (value_of word) (nat_le (value_of word) limit) refl h
  where
    part : (a : Bool) (v : ℕ) (c : Bool) → nat_le v limit ≡ c → cond (a && c) (Some v) None ≡ Some t → t ≤ limit
    part true v true small e = let s : v ≡ t = cc in let l : v ≤ limit = grind arith in omega arith
    part true v false small e = absurd cc
    part false v c small e = absurd cc

package_kept : (words : List (List ℕ)) (s : Statement) → package_stated words ≡ Some s → IsStated s
unfolding package_stated
package_kept (number ∷ aid ∷ major ∷ minor ∷ []) s h =
    let a = some_bind (decimal_up_to greatest_number number) _ s h in
    let b = some_bind (package_with a.0) _ s a.2 in
    let d = some_bind (spelled_aid aid) _ s b.2 in
    let e = some_bind (decimal_up_to greatest_number major) _ s d.2 in
    let f = some_bind (decimal_up_to greatest_number minor) _ s e.2 in
    subst IsStated (the_some (Package b.0 (record { minor = f.0; major = e.0; aid = d.0 })) s f.2) tt
package_kept _ s h = absurd cc

class_kept : (words : List (List ℕ)) (s : Statement) → class_stated words ≡ Some s → IsStated s
unfolding class_stated
class_kept (number ∷ token ∷ []) s h =
    let a = some_bind (decimal_up_to greatest_number number) _ s h in
    let b = some_bind (class_of a.0) _ s a.2 in
    let d = some_bind (decimal_up_to class_token_limit token) _ s b.2 in
    subst IsStated (the_some (Class b.0 d.0) s d.2) (within class_token_limit d.0 token d.1)
class_kept _ s h = absurd cc

member_kept : (words : List (List ℕ)) (s : Statement) → member_stated words ≡ Some s → IsStated s
unfolding member_stated
member_kept (number ∷ token ∷ []) s h =
    let a = some_bind (decimal_up_to greatest_number number) _ s h in
    let b = some_bind (member_of a.0) _ s a.2 in
    let d = some_bind (decimal_up_to (member_token_limit b.0.kind) token) _ s b.2 in
    subst IsStated (the_some (Member a.0 d.0) s d.2) (b.0, b.1, within (member_token_limit b.0.kind) d.0 token d.1)
member_kept _ s h = absurd cc

stated_kept : (words : List (List ℕ)) (s : Statement) → stated words ≡ Some s → IsStated s
unfolding stated
stated_kept [] s h = absurd cc
stated_kept (keyword ∷ words) s h = part (bytes_eq keyword (codes "package")) (bytes_eq keyword (codes "class")) (bytes_eq keyword (codes "member")) h
  where
    part : (a b c : Bool) → cond a (package_stated words) (cond b (class_stated words) (cond c (member_stated words) None)) ≡ Some s → IsStated s
    part true b c h = package_kept words s h
    part false true c h = class_kept words s h
    part false false true h = member_kept words s h
    part false false false h = absurd cc

pub statement_kept : (line : List ℕ) (s : Statement) → statement_of line ≡ Some s → IsStated s
unfolding statement_of
statement_kept line s h = stated_kept (words_of line) s h
