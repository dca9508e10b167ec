-- What is known of loaded packages: their methods with code have headers.
use Rattle.std.proofs.Common.{◌≡◌, ℕ, ◌+◌, ◌<◌, ◌≤◌, List, [], ◌∷◌, ◌++◌, length, map, take}
use Rattle.std.proofs.Common.{drop, get_or, Option, Some, None, is_some, refl, sym, ap, ◌∙◌, arith}
use Rattle.std.proofs.lemmas.Bool.{le-ltb}
use Rattle.std.proofs.lemmas.List.{append_assoc, drop_more, length-map, length-take, take-append-le, take-map}
use Rattle.std.specs.Option.{option_and_then}
use Rattle.jc_cap_desc.specs.Shape.{Shape}
use Rattle.jc_classes.specs.Members.{DeclaredMethod, method_at}
use Rattle.jc_classes.specs.Methods.{method_name}
use Rattle.jc_link.specs.Linked.{IsKnown, LinkedBody}
use Rattle.jc_names.specs.Names.{home_at}
use Rattle.jc_names.specs.declared.name.MethodName.TheVariants.{Loaded}
use Rattle.jc_program.specs.PrivateLaid.{HaveHeaders}

named : (number offset : ℕ) → 1 ≤ number → method_name (home_at number) offset ≡ Loaded number offset
named number offset h1 = grind (arith, le-ltb)

pub have_headers : (world : List Shape) (number : ℕ) (body : LinkedBody) → IsKnown world (home_at number) body
    → 1 ≤ number
    → HaveHeaders world number body.kept.methods
have_headers world number body known some n b at =
    let found = known.declared n b at in
    ap (λ (o : Option DeclaredMethod). is_some (option_and_then (λ (d : DeclaredMethod). d.method.header) o))
    (ap (method_at world) (sym (named number b.offset some)) ∙ found.there)
    ∙ ap is_some found.concrete.there

-- ---- methods that are put behind others

those_there : {A : Type 0} → List (Option A) → List A
those_there [] = []
those_there (None ∷ os) = those_there os
those_there (Some x ∷ os) = x ∷ those_there os

all_there : {A : Type 0} (xs : List A) → those_there (map Some xs) ≡ xs
unfolding those_there
all_there [] = refl
all_there (x ∷ xs) = ap (λ ys. x ∷ ys) (all_there xs)

-- what begins with a list still does with more behind it
pub begins_still : {A : Type 0} (first old new : List A) (more : List (Option A))
    → map Some new ≡ map Some old ++ more → take (length first) old ≡ first → take (length first) new ≡ first
begins_still first old new more are begins =
    let n = length first in
    let count = length-take n old in let same = ap (λ xs. length xs) begins in let all = length-map old Some in
    sym (all_there (take n new))
    ∙ ap those_there (sym (take-map Some n new) ∙ ap (take n) are
    ∙ take-append-le n (map Some old) more (omega (arith, count, same, all)) ∙ take-map Some n old)
    ∙ all_there (take n old) ∙ begins

-- one method more of those that are put behind others
pub one_put : {A B : Type 0} (f : A → B) (xs : List A) (so_far total : List B) (i : ℕ) (x : A)
    → so_far ++ map f (drop i xs) ≡ total → i < length xs → x ≡ get_or xs i x
    → (so_far ++ f x ∷ []) ++ map f (drop (i + 1) xs) ≡ total
one_put f xs so_far total i x all less is = grind (arith, append_assoc, map, drop, drop_more)
