-- Types that are told to be the same are the same.
use Rattle.std.proofs.Common.{◌≡◌, ℕ, ◌==◌, true, cond, List, [], ◌∷◌, Option, Some, None, refl, ap, sym, ◌∙◌, slice_get, arith}
use Rattle.std.proofs.lemmas.Bool.{eqb-true}
use Rattle.jc_base.specs.Signature.{Signature}
use Rattle.jc_base.specs.declared.declared_type.DeclaredType.{DeclaredType}
use Rattle.jc_base.specs.declared.declared_type.DeclaredType.TheVariants.{Boolean, Byte, Short, Reference, BooleanArray, ByteArray, ShortArray, ReferenceArray}
use Rattle.jc_base.specs.declared.declared_type.ReturnType.{ReturnType}
use Rattle.jc_names.specs.declared.name.ClassName.{ClassName}
use Rattle.jc_link.proofs.GrownParts.{the_some}
use Rattle.jc_link.proofs.SameNames.{same_name}
use Rattle.jc_link.proofs.Nones.{true_false, left_true, right_true}
use Rattle.jc_link.specs.Found.{kind_of, class_in, is_same_class, is_same_type, are_same_types, is_same_return, is_same_signature}
use Rattle.jc_link.specs.MemberType.{have_same_type}

-- ---- types

-- a type, from what it is and its class
made : ℕ → Option ClassName → Option (DeclaredType ClassName)
made kind None = slice_get (Boolean ∷ Byte ∷ Short ∷ Boolean ∷ BooleanArray ∷ ByteArray ∷ ShortArray ∷ []) kind
made kind (Some c) = cond (kind == 3) (Some (Reference c)) (Some (ReferenceArray c))

made_again : (t : DeclaredType ClassName) → made (kind_of t) (class_in t) ≡ Some t
unfolding made
made_again Boolean = refl
made_again Byte = refl
made_again Short = refl
made_again (Reference c) = refl
made_again BooleanArray = refl
made_again ByteArray = refl
made_again ShortArray = refl
made_again (ReferenceArray c) = refl

same_if_there : (c d : Option ClassName) → is_same_class c d ≡ true → c ≡ d
same_if_there c d h1 = grind (arith, true_false, same_name)

same_type : (s t : DeclaredType ClassName) → is_same_type s t ≡ true → s ≡ t
same_type s t e = grind (arith, eqb-true, left_true, same_if_there, right_true, the_some, made_again, made)

same_types : (ss ts : List (DeclaredType ClassName)) → are_same_types ss ts ≡ true → ss ≡ ts
same_types [] [] e = refl
same_types [] (t ∷ ts) e = true_false (sym e)
same_types (s ∷ ss) [] e = true_false (sym e)
same_types (s ∷ ss) (t ∷ ts) e =
    ap (λ x. x ∷ ss) (same_type s t (left_true (is_same_type s t) (are_same_types ss ts) e))
    ∙ ap (λ xs. t ∷ xs) (same_types ss ts (right_true (is_same_type s t) (are_same_types ss ts) e))

same_return : (s t : ReturnType ClassName) → is_same_return s t ≡ true → s ≡ t
same_return s t h1 = grind (arith, true_false, same_type)

abbrev signed : List (DeclaredType ClassName) → ReturnType ClassName → Signature ClassName
signed parameters result = record { parameters = parameters; result = result }

pub same_signature : (s t : Signature ClassName) → is_same_signature s t ≡ true → s ≡ t
same_signature s t e =
    let parameters = same_types s.parameters t.parameters (left_true (are_same_types s.parameters t.parameters) (is_same_return s.result t.result) e) in
    let results = same_return s.result t.result (right_true (are_same_types s.parameters t.parameters) (is_same_return s.result t.result) e) in
    ap (λ ps. signed ps s.result) parameters ∙ ap (signed t.parameters) results

-- ---- types that were found

pub same_when_agree : (s t : Option (Signature ClassName)) → have_same_type s t ≡ true → s ≡ t
same_when_agree None t e = true_false (sym e)
same_when_agree (Some s) None e = true_false (sym e)
same_when_agree (Some s) (Some t) e = ap Some (same_signature s t e)

-- and both are there
pub there_when_agree : (s t : Option (Signature ClassName)) → have_same_type s t ≡ true → (u : Signature ClassName) × (s ≡ Some u) × (t ≡ Some u)
there_when_agree None t e = true_false (sym e)
there_when_agree (Some s) None e = true_false (sym e)
there_when_agree (Some s) (Some t) e = (t, ap Some (same_signature s t e), refl)
