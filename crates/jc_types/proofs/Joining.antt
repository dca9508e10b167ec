-- Lists joined point by point, as a loop does.
use Rattle.std.proofs.Common.{◌≡◌, ℕ, zero, suc, ◌+◌, ◌≤◌, List, [], ◌∷◌, ◌++◌, length, take, drop, reverse, refl, sym, ap, ◌∙◌, arith}
use Rattle.std.proofs.lemmas.List.{take_at, take_all, length-take-le, length-reverse}
use Rattle.jc_names.specs.declared.name.ClassName.{ClassName}
use Rattle.jc_types.proofs.Turned.{joined_reversed}
use Rattle.jc_types.specs.declared.ty.Ty.{Ty}
use Rattle.jc_types.specs.Ty.{join_of}
use Rattle.jc_types.specs.State.{joined_all}

module _ (common : ClassName → ClassName → ClassName) where
  -- the points before one as they are, and the rest joined
  abbrev pub joined_from : ℕ → List Ty → List Ty → List Ty
  joined_from i ts us = take i ts ++ joined_all common (drop i ts) (drop i us)

  nothing_with : (us : List Ty) → joined_all common [] us ≡ []
  nothing_with us = grind arith

  with_nothing : (ts : List Ty) → joined_all common ts [] ≡ []
  with_nothing [] = refl
  with_nothing (a ∷ ts) = refl

  -- none are left behind as many as the others are
  none_left : (ts us : List Ty) → joined_from (length us) ts us ≡ take (length us) ts
  none_left ts [] = with_nothing ts
  none_left [] (b ∷ us) = nothing_with (drop (length us) us)
  none_left (a ∷ ts) (b ∷ us) = ap (λ (rest : List Ty). a ∷ rest) (none_left ts us)

  pub all_joined : (ts us : List Ty) (i : ℕ) (total : List Ty) → length us ≤ i → i ≤ length us → joined_from i ts us ≡ total → take (length us) ts ≡ total
  all_joined ts us i total le ge so_far = grind (arith, none_left)

  -- what stands past the shorter list isn't joined
  joined_within : (ts us : List Ty) (n : ℕ) → length us ≤ n → joined_all common ts us ≡ joined_all common (take n ts) us
  joined_within ts [] n l = with_nothing ts ∙ sym (with_nothing (take n ts))
  joined_within [] (b ∷ us) zero l = refl
  joined_within [] (b ∷ us) (suc n) l = refl
  joined_within (a ∷ ts) (b ∷ us) zero l = absurd (omega (arith, l))
  joined_within (a ∷ ts) (b ∷ us) (suc n) l = ap (λ (rest : List Ty). join_of common a b ∷ rest) (joined_within ts us n (omega (arith, l)))

  -- a whole list in place of the one that it was made from
  pub in_place : (ts us new rest : List Ty) (n : ℕ) → length new ≡ n → length new ≡ length us → take (length us) new ≡ joined_all common ts us → take n (new ++ rest) ≡ joined_all common ts us
  in_place ts us new rest n e same front = take_at new rest n e ∙ sym (take_all (length us) new (omega (arith, same))) ∙ front

  -- the operands, which are the slots below the depth turned round
  pub operands_in_place : (slots others new rest : List Ty) (depth depths n : ℕ) → length new ≡ n → depth ≤ length slots → depths ≤ length others
      → length (reverse (take depth slots)) ≡ length (reverse (take depths others)) → take (length (take depths others)) new ≡ joined_all common slots (take depths others)
      → reverse (take depth (take n (new ++ rest))) ≡ joined_all common (reverse (take depth slots)) (reverse (take depths others))
  operands_in_place slots others new rest depth depths n e within both same front =
      let one : length (take depth slots) ≡ depth = length-take-le depth slots within in
      let other : length (take depths others) ≡ depths = length-take-le depths others both in
      let alike : length (take depth slots) ≡ length (take depths others) = sym (length-reverse (take depth slots)) ∙ same ∙ length-reverse (take depths others) in
      let so_many : depth ≡ length (take depths others) = omega (arith, one, alike) in
      let joined : take depth new ≡ joined_all common (take depth slots) (take depths others) =
      ap (λ k. take k new) so_many ∙ front ∙ joined_within slots (take depths others) depth (omega (arith, so_many)) in
      ap (λ (ts : List Ty). reverse (take depth ts)) (take_at new rest n e) ∙ ap (λ (ts : List Ty). reverse ts) joined ∙ sym (joined_reversed common (take depth slots) (take depths others) alike)
