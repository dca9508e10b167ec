-- What is stated of types is what is claimed of them.
use Rattle.std.proofs.Common.{◌≡◌, List, [], ◌∷◌, ◌++◌, Option, Some, None, refl, sym, ap, subst, ◌∙◌, arith}
use Rattle.std.specs.Option.{option_and_then, option_map}
use Rattle.std.proofs.lemmas.Option.{none-some, same_Some}
use Rattle.jc_cert.specs.declared.stated_type.SpelledClass.{SpelledClass}
use Rattle.jc_cert.specs.declared.stated_type.StatedType.{StatedType}
use Rattle.jc_names.specs.declared.name.ClassName.{ClassName}
use Rattle.jc_types.specs.declared.ty.Ty.{Ty}
use Rattle.jc_cert.specs.Cert.{Stated}
use Rattle.jc_types.specs.State.{StateWithRoom}
use Rattle.jc_verify.specs.PrivateFlow.{Places}
use Rattle.jc_verify.specs.PrivateStated.{AreStateRows, IsStateRow, RowIf}
use Rattle.jc_verify.specs.declared.place.Place.{Place}
use Rattle.jc_check.specs.Claim.{type_claimed, types_claimed}

pub claimed_more : (class_of : SpelledClass → Option ClassName) (stated : List StatedType) (types : List Ty) (s : StatedType) (t : Ty) → types_claimed class_of stated ≡ Some types → type_claimed class_of s ≡ Some t
    → types_claimed class_of (stated ++ s ∷ []) ≡ Some (types ++ t ∷ [])
claimed_more class_of [] types s t h e = ap (λ o. option_and_then (λ one. Some (one ∷ [])) o) e ∙ ap (λ ts. Some (ts ++ t ∷ [])) (same_Some [] types h)
claimed_more class_of (r ∷ stated) types s t h e = by_first (type_claimed class_of r) (types_claimed class_of stated) (λ us k. claimed_more class_of stated us s t k e) h
  where
    by_first : (a : Option Ty) (o : Option (List Ty)) → ((us : List Ty) → o ≡ Some us → types_claimed class_of (stated ++ s ∷ []) ≡ Some (us ++ t ∷ [])) → option_and_then (λ one. option_map (λ more. one ∷ more) o) a ≡ Some types
        → option_and_then (λ one. option_map (λ more. one ∷ more) (types_claimed class_of (stated ++ s ∷ []))) a ≡ Some (types ++ t ∷ [])
    by_first a o h1 h2 = grind (arith, none-some, same_Some)

-- ---- rows of places

module _ (class_of : SpelledClass → Option ClassName) where
  -- a place more that holds nothing
  pub nothing_more : (places : Places) (p : Place StateWithRoom) (cs : List Stated) → p.held ≡ None → AreStateRows class_of places cs → AreStateRows class_of (places ++ p ∷ []) cs
  nothing_more [] p cs none h = subst (λ o. RowIf class_of p.pc o (λ ds. ds ≡ []) cs) (sym none) h
  nothing_more (q ∷ places) p cs none h = by_held q.held (λ ds k. nothing_more places p ds none k) h
    where
      by_held : (o : Option StateWithRoom) → ((ds : List Stated) → AreStateRows class_of places ds → AreStateRows class_of (places ++ p ∷ []) ds) → RowIf class_of q.pc o (AreStateRows class_of places) cs
          → RowIf class_of q.pc o (AreStateRows class_of (places ++ p ∷ [])) cs
      by_held o h1 h2 = grind arith

  -- a place more, with the row of what it holds
  pub row_more : (places : Places) (p : Place StateWithRoom) (s : StateWithRoom) (cs : List Stated) (c : Stated) → p.held ≡ Some s → IsStateRow class_of p.pc s.types c → AreStateRows class_of places cs
      → AreStateRows class_of (places ++ p ∷ []) (cs ++ c ∷ [])
  row_more [] p s cs c held is h =
      subst (λ o. RowIf class_of p.pc o (λ ds. ds ≡ []) (cs ++ c ∷ [])) (sym held) (record { row = c; rest = []; are = ap (λ ds. ds ++ c ∷ []) h; states = is; behind = refl })
  row_more (q ∷ places) p s cs c held is h = by_held q.held (λ ds k. row_more places p s ds c held is k) h
    where
      by_held : (o : Option StateWithRoom) → ((ds : List Stated) → AreStateRows class_of places ds → AreStateRows class_of (places ++ p ∷ []) (ds ++ c ∷ [])) → RowIf class_of q.pc o (AreStateRows class_of places) cs
          → RowIf class_of q.pc o (AreStateRows class_of (places ++ p ∷ [])) (cs ++ c ∷ [])
      by_held o h1 h2 = grind arith
