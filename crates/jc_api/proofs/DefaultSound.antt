-- The default table has no clash: tests on its rows say so, which are computed.
use Rattle.std.proofs.Common.{◌≡◌, ℕ, zero, suc, ◌≤◌, ◌&&◌, ◌==◌, not, Bool, true, false, List, [], ◌∷◌, zip, Some, slice_get, nat_le, refl, ap, ◌∙◌, sym, subst, arith, eq-eqb}
use Rattle.std.specs.List.{list_all}
use Rattle.std.proofs.lemmas.Bool.{leb-true}
use Rattle.jc_base.proofs.Binding.{the_some, both_true}
use Rattle.jc_api.specs.Numbered.{numbered}
use Rattle.jc_api.specs.Class.{numbered_classes}
use Rattle.jc_api.specs.Member.{ApiMember, members}
use Rattle.jc_api.specs.Token.{class_token_limit, member_token_limit, classes_meet, members_meet, is_at_or_above, chain}
use Rattle.jc_api.specs.Bound.{default_binding, default_classes, default_members}
use Rattle.jc_api.specs.NoClash.{HasNoClash, TokensDiffer}
use Rattle.jc_api.proofs.Sound.{classes_turned, members_turned}

-- whether no row behind another one meets it and has its token
abbrev pub all_clear : {A : Type 0} → (A → A → Bool) → List A → List ℕ → Bool
all_clear meets [] tokens = true
all_clear meets (x ∷ rows) [] = true
all_clear meets (x ∷ rows) (t ∷ tokens) = list_all (λ r. not (meets x r.0 && t == r.1)) (zip rows tokens) && all_clear meets rows tokens

clear_at : {A : Type 0} (meets : A → A → Bool) (x : A) (t : ℕ) (rows : List A) (tokens : List ℕ) (k : ℕ) (y : A) → list_all (λ r. not (meets x r.0 && t == r.1)) (zip rows tokens) ≡ true → slice_get rows k ≡ Some y → slice_get tokens k ≡ Some t → meets x y ≡ true → ⊥
clear_at meets x t [] tokens k y h row token met = absurd cc
clear_at meets x t (r ∷ rows) [] k y h row token met = absurd cc
clear_at meets x t (r ∷ rows) (u ∷ tokens) zero y h row token met =
    let met_r : meets x r ≡ true = ap (meets x) (the_some r y row) ∙ met in
    let same : (t == u) ≡ true = eq-eqb t u (sym (the_some u t token)) in
    first (meets x r) (t == u) met_r same (both_true _ _ h).0
  where
    first : (a b : Bool) → a ≡ true → b ≡ true → not (a && b) ≡ true → ⊥
    first true true p q e = cc
    first true false p q e = cc
    first false b p q e = cc
clear_at meets x t (r ∷ rows) (u ∷ tokens) (suc k) y h row token met = clear_at meets x t rows tokens k y (both_true _ _ h).1 row token met

clear_differ : {A : Type 0} (meets : A → A → Bool) → ((x y : A) → meets x y ≡ meets y x) → (rows : List A) (tokens : List ℕ) → all_clear meets rows tokens ≡ true → (i j t : ℕ) (x y : A) → slice_get rows i ≡ Some x → slice_get rows j ≡ Some y → meets x y ≡ true → slice_get tokens i ≡ Some t → slice_get tokens j ≡ Some t → i ≡ j
clear_differ meets turned [] tokens h i j t x y row_i row_j met token_i token_j = absurd cc
clear_differ meets turned (r ∷ rows) [] h i j t x y row_i row_j met token_i token_j = absurd cc
clear_differ meets turned (r ∷ rows) (u ∷ tokens) h zero zero t x y row_i row_j met token_i token_j = refl
clear_differ {A = A} meets turned (r ∷ rows) (u ∷ tokens) h zero (suc j) t x y row_i row_j met token_i token_j =
    absurd (clear_at meets r u rows tokens j y (both_true _ _ h).0 row_j (token_j ∙ sym token_i) (ap (λ (a : A). meets a y) (the_some r x row_i) ∙ met))
clear_differ {A = A} meets turned (r ∷ rows) (u ∷ tokens) h (suc i) zero t x y row_i row_j met token_i token_j =
    absurd (clear_at meets r u rows tokens i x (both_true _ _ h).0 row_i (token_i ∙ sym token_j) (ap (λ (a : A). meets a x) (the_some r y row_j) ∙ turned y x ∙ met))
clear_differ meets turned (r ∷ rows) (u ∷ tokens) h (suc i) (suc j) t x y row_i row_j met token_i token_j =
    ap suc (clear_differ meets turned rows tokens (both_true _ _ h).1 i j t x y row_i row_j met token_i token_j)

differ : {A : Type 0} (meets : A → A → Bool) → ((x y : A) → meets x y ≡ meets y x) → (rows : List A) (tokens : List ℕ) → all_clear meets rows tokens ≡ true → TokensDiffer meets rows tokens
differ meets turned rows tokens h zero j t x y row_i row_j met token_i token_j = absurd cc
differ meets turned rows tokens h (suc i) zero t x y row_i row_j met token_i token_j = absurd cc
differ meets turned rows tokens h (suc i) (suc j) t x y row_i row_j met token_i token_j = ap suc (clear_differ meets turned rows tokens h i j t x y row_i row_j met token_i token_j)

small_at : (limit : ℕ) (tokens : List ℕ) → list_all (λ t. nat_le t limit) tokens ≡ true → (k t : ℕ) → slice_get tokens k ≡ Some t → t ≤ limit
small_at limit [] h k t e = absurd cc
small_at limit (u ∷ tokens) h zero t e = let l = leb-true u limit (both_true _ _ h).0 in let s = the_some u t e in omega arith
small_at limit (u ∷ tokens) h (suc k) t e = small_at limit tokens (both_true _ _ h).1 k t e

small : (limit : ℕ) (tokens : List ℕ) → list_all (λ t. nat_le t limit) tokens ≡ true → (n t : ℕ) → numbered tokens n ≡ Some t → t ≤ limit
small limit tokens h zero t e = absurd cc
small limit tokens h (suc k) t e = small_at limit tokens h k t e

ranged_at : (rows : List ApiMember) (tokens : List ℕ) → list_all (λ r. nat_le r.1 (member_token_limit r.0.kind)) (zip rows tokens) ≡ true → (k t : ℕ) (m : ApiMember) → slice_get rows k ≡ Some m → slice_get tokens k ≡ Some t → t ≤ member_token_limit m.kind
ranged_at [] tokens h k t m row e = absurd cc
ranged_at (r ∷ rows) [] h k t m row e = absurd cc
ranged_at (r ∷ rows) (u ∷ tokens) h zero t m row e =
    let l = leb-true u (member_token_limit r.kind) (both_true _ _ h).0 in
    let s = the_some u t e in
    let P : ApiMember → Type 0 = λ q. t ≤ member_token_limit q.kind in
    subst P (the_some r m row) (omega arith)
ranged_at (r ∷ rows) (u ∷ tokens) h (suc k) t m row e = ranged_at rows tokens (both_true _ _ h).1 k t m row e

ranged : (rows : List ApiMember) (tokens : List ℕ) → list_all (λ r. nat_le r.1 (member_token_limit r.0.kind)) (zip rows tokens) ≡ true → (n t : ℕ) (m : ApiMember) → numbered rows n ≡ Some m → numbered tokens n ≡ Some t → t ≤ member_token_limit m.kind
ranged rows tokens h zero t m row e = absurd cc
ranged rows tokens h (suc k) t m row e = ranged_at rows tokens h k t m row e

members_clear : all_clear members_meet members default_members ≡ true
unfolding members_meet is_at_or_above chain
members_clear = refl

pub default_sound : HasNoClash default_binding
default_sound = record {
  class_count = refl;
  member_count = refl;
  class_range = small class_token_limit default_classes refl;
  member_range = ranged members default_members refl;
  aids = λ same. absurd cc;
  class_tokens = differ classes_meet classes_turned numbered_classes default_classes refl;
  member_tokens = differ members_meet members_turned members default_members members_clear;
}
