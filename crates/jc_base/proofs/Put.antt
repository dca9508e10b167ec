-- What keeping one more component changes.
use Rattle.std.proofs.Common.{◌≡◌, ℕ, zero, suc, ◌<◌, ◌≤◌, Bool, true, false, ltb, List, [], ◌∷◌, ◌++◌, length, get_or, set, IfSome, Option, Some, None, sym, ap, ◌∙◌, subst, arith, inl, inr}
use Rattle.std.specs.Option.{option_map, is_none}
use Rattle.std.proofs.lemmas.Bool.{cases_eq, lt-ltb}
use Rattle.std.proofs.lemmas.List.{get_or-set_same, get_or-set_other}
use Rattle.jc_base.specs.Cutting.{Piece, info_of, count_of}
use Rattle.jc_base.proofs.Pieces.{stays, comes, again}

none_is : {X : Type 0} (o : Option X) → is_none o ≡ true → o ≡ None
none_is o h1 = grind arith

some_is : {X : Type 0} (o : Option X) → is_none o ≡ false → (x : X) × (o ≡ Some x)
some_is o h1 = grind arith

-- what is kept, seen by f, is the first info of each tag
abbrev pub InfosAre : {X : Type 0} → (X → List ℕ) → List (Option X) → List Piece → Type 0
InfosAre f infos ps = (tag : ℕ) → tag < 13 → option_map f (get_or infos tag None) ≡ info_of tag ps

-- what is marked came twice
abbrev pub RepeatsAre : List Bool → List Piece → Type 0
RepeatsAre repeats ps = (tag : ℕ) → tag < 13 → get_or repeats tag false ≡ ltb 1 (count_of tag ps)

-- the first of its tag
pub infos_first : {X : Type 0} (f : X → List ℕ) (infos : List (Option X)) (ps : List Piece) (p : Piece) (x : X) → length infos ≡ 13 → p.tag < 13 → f x ≡ p.info
    → is_none (get_or infos p.tag None) ≡ true → InfosAre f infos ps → InfosAre f (set infos p.tag (Some x)) (ps ++ p ∷ [])
infos_first f infos ps p x len lt e none are tag t =
    let was : info_of p.tag ps ≡ None = sym (are p.tag lt) ∙ ap (λ o. option_map f o) (none_is (get_or infos p.tag None) none) in
    elim (cases_eq p.tag tag) [
      | inl same ↦ subst (λ n. option_map f (get_or (set infos p.tag (Some x)) n None) ≡ info_of n (ps ++ p ∷ [])) same
          (ap (λ o. option_map f o) (get_or-set_same infos p.tag (Some x) None (omega arith)) ∙ ap Some e ∙ sym (comes ps p was).info)
      | inr ne ↦ ap (λ o. option_map f o) (get_or-set_other infos p.tag tag (Some x) None (λ h. ne (sym h))) ∙ are tag t ∙ sym (stays tag ps p ne).info
    ]

pub repeats_first : (repeats : List Bool) (ps : List Piece) (p : Piece) → info_of p.tag ps ≡ None → RepeatsAre repeats ps → RepeatsAre repeats (ps ++ p ∷ [])
repeats_first repeats ps p was are tag t =
    elim (cases_eq p.tag tag) [
      | inl same ↦ subst (λ n. get_or repeats n false ≡ ltb 1 (count_of n (ps ++ p ∷ []))) same
          (are p.tag (omega arith) ∙ ap (ltb 1) ((comes ps p was).before) ∙ sym (ap (ltb 1) ((comes ps p was).count)))
      | inr ne ↦ are tag t ∙ ap (ltb 1) (sym (stays tag ps p ne).count)
    ]

-- one more of its tag
pub infos_again : {X : Type 0} (f : X → List ℕ) (infos : List (Option X)) (ps : List Piece) (p : Piece) (x : List ℕ) → info_of p.tag ps ≡ Some x → InfosAre f infos ps → InfosAre f infos (ps ++ p ∷ [])
infos_again f infos ps p x h1 h2 = grind (arith, cases_eq, inl, option_map, get_or, info_of, again, inr, stays)

pub repeats_again : (repeats : List Bool) (ps : List Piece) (p : Piece) (x : List ℕ) → length repeats ≡ 13 → p.tag < 13 → info_of p.tag ps ≡ Some x → RepeatsAre repeats ps → RepeatsAre (set repeats p.tag true) (ps ++ p ∷ [])
repeats_again repeats ps p x len lt was are tag t =
    elim (cases_eq p.tag tag) [
      | inl same ↦ subst (λ n. get_or (set repeats p.tag true) n false ≡ ltb 1 (count_of n (ps ++ p ∷ []))) same
          (get_or-set_same repeats p.tag true false (omega arith) ∙ sym (lt-ltb 1 _ (again ps p x was).count))
      | inr ne ↦ get_or-set_other repeats p.tag tag true false (λ h. ne (sym h)) ∙ are tag t ∙ ap (ltb 1) (sym (stays tag ps p ne).count)
    ]

-- a tag that is passed over
pub infos_skip : {X : Type 0} (f : X → List ℕ) (infos : List (Option X)) (ps : List Piece) (p : Piece) → 13 ≤ p.tag → InfosAre f infos ps → InfosAre f infos (ps ++ p ∷ [])
infos_skip f infos ps p le are tag t = are tag t ∙ sym (stays tag ps p (λ h. omega arith)).info

pub repeats_skip : (repeats : List Bool) (ps : List Piece) (p : Piece) → 13 ≤ p.tag → RepeatsAre repeats ps → RepeatsAre repeats (ps ++ p ∷ [])
repeats_skip repeats ps p le are tag t = are tag t ∙ ap (ltb 1) (sym (stays tag ps p (λ h. omega arith)).count)

-- what is kept says what came
pub was_none : {X : Type 0} (f : X → List ℕ) (infos : List (Option X)) (ps : List Piece) (tag : ℕ) → tag < 13 → InfosAre f infos ps → is_none (get_or infos tag None) ≡ true → info_of tag ps ≡ None
was_none f infos ps tag lt are none = sym (are tag lt) ∙ ap (λ o. option_map f o) (none_is (get_or infos tag None) none)

pub was_some : {X : Type 0} (f : X → List ℕ) (infos : List (Option X)) (ps : List Piece) (tag : ℕ) → tag < 13 → InfosAre f infos ps → is_none (get_or infos tag None) ≡ false → (x : List ℕ) × (info_of tag ps ≡ Some x)
was_some f infos ps tag h1 h2 h3 = grind (arith, some_is, get_or, option_map)

-- what holds of each that is there, and of one more
pub holds_set : {X : Type 0} (P : X → Type 0) (xs : List (Option X)) (place : ℕ) (x : X) → P x → ((n : ℕ) → IfSome (get_or xs n None) P)
    → (n : ℕ) → IfSome (get_or (set xs place (Some x)) n None) P
holds_set P [] place x holds are n = are n
holds_set P (y ∷ xs) zero x holds are zero = holds
holds_set P (y ∷ xs) zero x holds are (suc n) = are (suc n)
holds_set P (y ∷ xs) (suc place) x holds are zero = are zero
holds_set P (y ∷ xs) (suc place) x holds are (suc n) = holds_set P xs place x holds (λ k. are (suc k)) n
