-- Types that are one are so place by place.
use Rattle.std.proofs.Common.{◌≡◌, ◌↔◌, ℕ, zero, suc, ◌<◌, ◌≤◌, IsTrue, drop, arith, ◌&&◌, Bool, true, false, List, [], ◌∷◌, length, Option, Some, None, refl, ap, sym, ◌∙◌, is_some}
use Rattle.std.proofs.lemmas.List.{drop_all}
use Rattle.std.specs.List.{list_all}
use Rattle.std.specs.Option.{option_and_then, option_map}
use Rattle.jc_base.specs.Signature.{Signature}
use Rattle.jc_base.specs.declared.declared_type.DeclaredType.{DeclaredType}
use Rattle.jc_base.specs.declared.declared_type.ReturnType.{ReturnType}
use Rattle.jc_names.specs.declared.name.ClassName.{ClassName}
use Rattle.jc_link.specs.Found.{type_found, return_found, types_found, signature_found, is_same_type, are_same_types, is_same_return, is_same_signature, agree}
use Rattle.jc_link.specs.MemberType.{as_member}
use Rattle.jc_link.specs.PrivateAgree.{type_agrees, types_agree, signature_agrees}

-- what isn't found is equal to nothing
pub agree_none : {A : Type 0} (same : A → A → Bool) (o : Option A) → agree same o None ≡ false
agree_none same o = grind arith

and_false : (b : Bool) → (b && false) ≡ false
and_false b = grind arith

-- one more type in front of two lists
cons_agree : (a b : Option (DeclaredType ClassName)) (xs ys : Option (List (DeclaredType ClassName)))
    → agree are_same_types (option_and_then (λ t. option_map (λ ts. t ∷ ts) xs) a) (option_and_then (λ t. option_map (λ ts. t ∷ ts) ys) b)
    ≡ (agree is_same_type a b && agree are_same_types xs ys)
cons_agree a b xs ys = grind (arith, and_false)

nil_cons : (b : Option (DeclaredType ClassName)) (ys : Option (List (DeclaredType ClassName)))
    → agree are_same_types (Some []) (option_and_then (λ t. option_map (λ ts. t ∷ ts) ys) b) ≡ false
nil_cons b ys = grind arith

cons_nil : (a : Option (DeclaredType ClassName)) (xs : Option (List (DeclaredType ClassName)))
    → agree are_same_types (option_and_then (λ t. option_map (λ ts. t ∷ ts) xs) a) (Some []) ≡ false
cons_nil a xs = grind arith

-- two lists of types agree where they agree at each place
types_agree_is : {C D : Type 0} (find : C → Option ClassName) (look : D → Option ClassName) (xs : List (DeclaredType C)) (ys : List (DeclaredType D))
    → agree are_same_types (types_found find xs) (types_found look ys) ≡ types_agree find look xs ys
types_agree_is find look [] [] = refl
types_agree_is find look [] (d ∷ ys) = nil_cons (type_found look d) (types_found look ys)
types_agree_is find look (c ∷ xs) [] = cons_nil (type_found find c) (types_found find xs)
types_agree_is find look (c ∷ xs) (d ∷ ys) =
    cons_agree (type_found find c) (type_found look d) (types_found find xs) (types_found look ys)
    ∙ ap (λ b. type_agrees find look c d && b) (types_agree_is find look xs ys)

both_agree : (ps qs : Option (List (DeclaredType ClassName))) (r s : Option (ReturnType ClassName))
    → agree is_same_signature (option_and_then (λ parameters. option_map (λ result. record { parameters = parameters; result = result }) r) ps)
    (option_and_then (λ parameters. option_map (λ result. record { parameters = parameters; result = result }) s) qs)
    ≡ (agree are_same_types ps qs && agree is_same_return r s)
both_agree ps qs r s = grind (arith, and_false)

-- two members' types
pub signature_agrees_is : {C D : Type 0} (find : C → Option ClassName) (look : D → Option ClassName) (s : Signature C) (t : Signature D)
    → agree is_same_signature (signature_found find s) (signature_found look t) ≡ signature_agrees find look s t
signature_agrees_is find look s t = grind (arith, both_agree, types_agree_is)

abbrev the_signature : List (DeclaredType ClassName) → ReturnType ClassName → Signature ClassName
the_signature parameters result = record { parameters = parameters; result = result }

-- a field's type is a member's that takes nothing
field_found : {C : Type 0} (look : C → Option ClassName) (t : DeclaredType C) → signature_found look (as_member t) ≡ option_map as_member (type_found look t)
field_found look t = grind arith

pub field_agrees_is : {C D : Type 0} (find : C → Option ClassName) (look : D → Option ClassName) (s : Signature C) (t : DeclaredType D)
    → agree is_same_signature (signature_found find s) (option_map as_member (type_found look t)) ≡ signature_agrees find look s (as_member t)
field_agrees_is find look s t = ap (agree is_same_signature (signature_found find s)) (sym (field_found look t)) ∙ signature_agrees_is find look s (as_member t)

-- ---- a member's type that is there

cons_there : (a : Option (DeclaredType ClassName)) (xs : Option (List (DeclaredType ClassName)))
    → is_some (option_and_then (λ t. option_map (λ ts. t ∷ ts) xs) a) ≡ (is_some a && is_some xs)
cons_there a xs = grind arith

types_there : {C : Type 0} (find : C → Option ClassName) (xs : List (DeclaredType C)) → is_some (types_found find xs) ≡ list_all (λ t. is_some (type_found find t)) xs
types_there find [] = refl
types_there find (c ∷ xs) = cons_there (type_found find c) (types_found find xs) ∙ ap (λ b. is_some (type_found find c) && b) (types_there find xs)

both_there : (ps : Option (List (DeclaredType ClassName))) (r : Option (ReturnType ClassName))
    → is_some (option_and_then (λ parameters. option_map (the_signature parameters) r) ps) ≡ (is_some ps && is_some r)
both_there ps r = grind arith

pub signature_there : {C : Type 0} (find : C → Option ClassName) (s : Signature C)
    → is_some (signature_found find s) ≡ (list_all (λ t. is_some (type_found find t)) s.parameters && is_some (return_found find s.result))
signature_there find s =
    both_there (types_found find s.parameters) (return_found find s.result)
    ∙ ap (λ b. b && is_some (return_found find s.result)) (types_there find s.parameters)

-- ---- lists of different lengths

module _ {C D : Type 0} (find : C → Option ClassName) (look : D → Option ClassName) where
  pub other_lengths : (xs : List (DeclaredType C)) (ys : List (DeclaredType D)) → (length xs ≡ length ys → ⊥) → false ≡ types_agree find look xs ys
  other_lengths [] [] h = absurd (h refl)
  other_lengths [] (d ∷ ys) h = refl
  other_lengths (c ∷ xs) [] h = refl
  other_lengths (c ∷ xs) (d ∷ ys) h = sym (and_false (type_agrees find look c d)) ∙ ap (λ b. type_agrees find look c d && b) (other_lengths xs ys (λ e. h (ap suc e)))

  -- what is left of two lists, as far as one of them is at its end
  pub others_left : (total : Bool) (xs : List (DeclaredType C)) (ys : List (DeclaredType D)) (i : ℕ) → i < length ys → xs ≡ []
      → total ≡ types_agree find look xs (drop i ys) → false ≡ total
  others_left total xs ys i h e so_far = by_first ys i h (sym (so_far ∙ ap (λ l. types_agree find look l (drop i ys)) e))
    where
      by_first : (ys : List (DeclaredType D)) (i : ℕ) → i < length ys → types_agree find look [] (drop i ys) ≡ total → false ≡ total
      by_first [] i h e = absurd (omega arith)
      by_first (d ∷ ys) zero h e = e
      by_first (d ∷ ys) (suc i) h e = by_first ys i (omega arith) e

  pub none_left : (total empty : Bool) (xs : List (DeclaredType C)) (ys : List (DeclaredType D)) (i : ℕ) → length ys ≤ i → IsTrue empty ↔ (xs ≡ [])
      → total ≡ types_agree find look xs (drop i ys) → empty ≡ total
  none_left total empty xs ys i h is so_far = by_first xs empty is ∙ sym (so_far ∙ ap (types_agree find look xs) (drop_all i ys h))
    where
      by_first : (xs : List (DeclaredType C)) (empty : Bool) → IsTrue empty ↔ (xs ≡ []) → empty ≡ types_agree find look xs []
      by_first [] true is = refl
      by_first [] false is = let e : false ≡ true = is.1 refl in absurd cc
      by_first (x ∷ xs) true is = let e : x ∷ xs ≡ [] = is.0 refl in absurd cc
      by_first (x ∷ xs) false is = refl
