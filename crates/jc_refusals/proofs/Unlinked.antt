-- Why a package isn't linked.
use Rattle.std.proofs.Common.{◌≡◌, ◌⊎◌, ◌<◌, ℕ, Bool, true, false, List, length, take, Option, Some, None}
use Rattle.std.proofs.Common.{inl, inr, arith, refl, sym, ap, ◌∙◌, subst}
use Rattle.std.specs.Option.{option_map, option_or}
use Rattle.jc_base.specs.Fault.{number_of}
use Rattle.jc_base.specs.declared.fault.LoadFault.{LoadFault}
use Rattle.jc_base.specs.declared.fault.LoadFault.TheVariants.{BadClass, BadStatic, DuplicatePackage}
use Rattle.jc_base.specs.declared.fault.LoadFault.TheVariants.{MissingImport, TypeMismatch, Unresolved}
use Rattle.jc_cap_desc.specs.Shape.{Package, Shape}
use Rattle.jc_classes.specs.Growth.{grown}
use Rattle.jc_link.specs.Imports.{first_unmet, is_there_already}
use Rattle.jc_link.specs.Pool.{first_mistyped, first_unresolved}
use Rattle.jc_link.specs.Statics.{first_bad_static}
use Rattle.jc_link.specs.WellFormed.{duplicate, fault_behind, first_bad_class}
use Rattle.jc_refusals.proofs.Before.{Before, before_less, before_same}
use Rattle.jc_refusals.specs.Order.{IsBetween}

-- ---- the first of several

or_cases : (a b : Option LoadFault) (f : LoadFault) → option_or a b ≡ Some f
    → (a ≡ Some f) ⊎ ((a ≡ None) × (b ≡ Some f))
or_cases None b f e = inr (refl, e)
or_cases (Some x) b f e = inl e

or_left : (a b : Option LoadFault) → option_or a b ≡ None → a ≡ None
or_left None b e = refl
or_left (Some x) b e = absurd cc

or_right : (a b : Option LoadFault) → option_or a b ≡ None → b ≡ None
or_right None b e = e
or_right (Some x) b e = absurd cc

-- a place at which a refusal is told
record IsAt (tell : ℕ → LoadFault) (found : Option ℕ) (f : LoadFault) : Type 0 where
  place : ℕ
  there : found ≡ Some place
  is : tell place ≡ f

told_at : (tell : ℕ → LoadFault) (found : Option ℕ) (f : LoadFault) → option_map tell found ≡ Some f
    → IsAt tell found f
told_at tell None f e = absurd cc
told_at tell (Some place) f e = record { place = place; there = refl; is = (let same : tell place ≡ f = cc in same) }

none_at : (tell : ℕ → LoadFault) (found : Option ℕ) (place : ℕ) → found ≡ Some place → option_map tell found ≡ None → ⊥
none_at tell found place e none = let is = sym (ap (option_map tell) e) ∙ none in absurd cc

-- the first of two is told
first_before : (tell : ℕ → LoadFault) (found : Option ℕ) (b : Option LoadFault) (f : LoadFault) (place : ℕ)
    → option_or (option_map tell found) b ≡ Some f → found ≡ Some place → Before f (tell place)
first_before tell found b f place e at =
    let is = sym (ap (λ x. option_or (option_map tell x) b) at) ∙ e in
    let same : tell place ≡ f = cc in
    before_same f (tell place) (sym same)

-- the first isn't told after another one, or it isn't there
passed : (n : ℕ) (tell : ℕ → LoadFault) (found : Option ℕ) (b : Option LoadFault) (f g : LoadFault)
    → ((place : ℕ) → number_of (tell place) < number_of g) → option_or (option_map tell found) b ≡ Some f
    → (b ≡ Some f → Before f g) → Before f g
passed n tell None b f g less e k = k e
passed n tell (Some place) b f g less e k =
    let same : tell place ≡ f = cc in
    subst (λ (x : LoadFault). Before x g) same (before_less (tell place) g (less place))

duplicate_found : (found : Bool) (f : LoadFault) → duplicate found ≡ Some f → (found ≡ true) × (DuplicatePackage ≡ f)
duplicate_found true f e = (refl, let same : DuplicatePackage ≡ f = cc in same)
duplicate_found false f e = absurd cc

module _ (before : List Shape) (p : Package) where
  abbrev world : List Shape
  world = grown before p.shape

  abbrev home : ℕ
  home = length before

  -- ---- the tests, each by itself

  abbrev unmet : Option ℕ
  unmet = first_unmet world home p.shape

  abbrev unresolved_at : Option ℕ
  unresolved_at = first_unresolved world home p.body.pool

  abbrev mistyped_at : Option ℕ
  mistyped_at = first_mistyped world home p.body

  abbrev bad_class_at : Option ℕ
  bad_class_at = first_bad_class world home p.shape

  abbrev bad_static_at : Option ℕ
  bad_static_at = first_bad_static p.body.statics p.shape

  abbrev is_duplicate : Bool
  is_duplicate = is_there_already (take home world) p.shape

-- a refusal of linking that applies to a package behind those of a world
pub data OfLinking (before : List Shape) (p : Package) : LoadFault → Type 0 where
  no_import : (token : ℕ) → unmet before p ≡ Some token → OfLinking before p (MissingImport token)
  no_target : (index : ℕ) → unresolved_at before p ≡ Some index → OfLinking before p (Unresolved index)
  other_type : (index : ℕ) → mistyped_at before p ≡ Some index → OfLinking before p (TypeMismatch index)
  ill_class : (offset : ℕ) → bad_class_at before p ≡ Some offset → OfLinking before p (BadClass offset)
  ill_static : (offset : ℕ) → bad_static_at before p ≡ Some offset → OfLinking before p (BadStatic offset)
  same_aid : is_duplicate before p ≡ true → OfLinking before p DuplicatePackage

pub link_number : (before : List Shape) (p : Package) (g : LoadFault) → OfLinking before p g → IsBetween 10 15 g
link_number before p _ (no_import token e) = record { from = omega arith; to = omega arith }
link_number before p _ (no_target index e) = record { from = omega arith; to = omega arith }
link_number before p _ (other_type index e) = record { from = omega arith; to = omega arith }
link_number before p _ (ill_class offset e) = record { from = omega arith; to = omega arith }
link_number before p _ (ill_static offset e) = record { from = omega arith; to = omega arith }
link_number before p _ (same_aid e) = record { from = omega arith; to = omega arith }

module _ (before : List Shape) (p : Package) where
  -- the tests from each one on
  abbrev from_static : Option LoadFault
  from_static = option_or (option_map BadStatic (bad_static_at before p)) (duplicate (is_duplicate before p))

  abbrev from_class : Option LoadFault
  from_class = option_or (option_map BadClass (bad_class_at before p)) from_static

  abbrev from_types : Option LoadFault
  from_types = option_or (option_map TypeMismatch (mistyped_at before p)) from_class

  abbrev from_entries : Option LoadFault
  from_entries = option_or (option_map Unresolved (unresolved_at before p)) from_types

  in_order : fault_behind before p ≡ option_or (option_map MissingImport (unmet before p)) from_entries
  in_order = refl

  -- ---- what is told applies

  module _ (f : LoadFault) where
    abbrev Applies : Type 0
    Applies = OfLinking before p f

    by_duplicate : duplicate (is_duplicate before p) ≡ Some f → Applies
    by_duplicate e =
        let found = duplicate_found (is_duplicate before p) f e in
        subst (OfLinking before p) found.1 (same_aid found.0)

    by_static : from_static ≡ Some f → Applies
    by_static e = part (or_cases _ _ f e)
      where
        part : (option_map BadStatic (bad_static_at before p) ≡ Some f)
            ⊎ ((option_map BadStatic (bad_static_at before p) ≡ None)
            × (duplicate (is_duplicate before p) ≡ Some f)) → Applies
        part (inl h) =
            let at = told_at BadStatic (bad_static_at before p) f h in
            subst (OfLinking before p) at.is (ill_static at.place at.there)
        part (inr k) = by_duplicate k.1

    by_class : from_class ≡ Some f → Applies
    by_class e = part (or_cases _ _ f e)
      where
        part : (option_map BadClass (bad_class_at before p) ≡ Some f)
            ⊎ ((option_map BadClass (bad_class_at before p) ≡ None) × (from_static ≡ Some f)) → Applies
        part (inl h) =
            let at = told_at BadClass (bad_class_at before p) f h in
            subst (OfLinking before p) at.is (ill_class at.place at.there)
        part (inr k) = by_static k.1

    by_types : from_types ≡ Some f → Applies
    by_types e = part (or_cases _ _ f e)
      where
        part : (option_map TypeMismatch (mistyped_at before p) ≡ Some f)
            ⊎ ((option_map TypeMismatch (mistyped_at before p) ≡ None) × (from_class ≡ Some f)) → Applies
        part (inl h) =
            let at = told_at TypeMismatch (mistyped_at before p) f h in
            subst (OfLinking before p) at.is (other_type at.place at.there)
        part (inr k) = by_class k.1

    by_entries : from_entries ≡ Some f → Applies
    by_entries e = part (or_cases _ _ f e)
      where
        part : (option_map Unresolved (unresolved_at before p) ≡ Some f)
            ⊎ ((option_map Unresolved (unresolved_at before p) ≡ None) × (from_types ≡ Some f)) → Applies
        part (inl h) =
            let at = told_at Unresolved (unresolved_at before p) f h in
            subst (OfLinking before p) at.is (no_target at.place at.there)
        part (inr k) = by_types k.1

    pub link_told : fault_behind before p ≡ Some f → Applies
    link_told e = part (or_cases _ _ f e)
      where
        part : (option_map MissingImport (unmet before p) ≡ Some f)
            ⊎ ((option_map MissingImport (unmet before p) ≡ None) × (from_entries ≡ Some f)) → Applies
        part (inl h) =
            let at = told_at MissingImport (unmet before p) f h in
            subst (OfLinking before p) at.is (no_import at.place at.there)
        part (inr k) = by_entries k.1

    -- ---- what applies isn't told before what is told

    past_imports : (g : LoadFault) → 10 < number_of g → fault_behind before p ≡ Some f
        → (from_entries ≡ Some f → Before f g) → Before f g
    past_imports g less e k =
        passed 10 MissingImport (unmet before p) from_entries f g (λ place. omega (arith, less)) e k

    past_entries : (g : LoadFault) → 11 < number_of g → fault_behind before p ≡ Some f
        → (from_types ≡ Some f → Before f g) → Before f g
    past_entries g less e k =
        past_imports g (omega (arith, less)) e (λ e.
        passed 11 Unresolved (unresolved_at before p) from_types f g (λ place. omega (arith, less)) e k)

    past_types : (g : LoadFault) → 12 < number_of g → fault_behind before p ≡ Some f
        → (from_class ≡ Some f → Before f g) → Before f g
    past_types g less e k =
        past_entries g (omega (arith, less)) e (λ e.
        passed 12 TypeMismatch (mistyped_at before p) from_class f g (λ place. omega (arith, less)) e k)

    past_classes : (g : LoadFault) → 13 < number_of g → fault_behind before p ≡ Some f
        → (from_static ≡ Some f → Before f g) → Before f g
    past_classes g less e k =
        past_types g (omega (arith, less)) e (λ e.
        passed 13 BadClass (bad_class_at before p) from_static f g (λ place. omega (arith, less)) e k)

    past_statics : (g : LoadFault) → 14 < number_of g → fault_behind before p ≡ Some f
        → (duplicate (is_duplicate before p) ≡ Some f → Before f g) → Before f g
    past_statics g less e k =
        past_classes g (omega (arith, less)) e (λ e.
        passed 14 BadStatic (bad_static_at before p) (duplicate (is_duplicate before p)) f g
        (λ place. omega (arith, less)) e k)

    pub link_before : (g : LoadFault) → fault_behind before p ≡ Some f → OfLinking before p g → Before f g
    link_before _ e (no_import token at) = first_before MissingImport (unmet before p) from_entries f token e at
    link_before _ e (no_target index at) =
        past_imports (Unresolved index) (omega arith) e (λ e.
        first_before Unresolved (unresolved_at before p) from_types f index e at)
    link_before _ e (other_type index at) =
        past_entries (TypeMismatch index) (omega arith) e (λ e.
        first_before TypeMismatch (mistyped_at before p) from_class f index e at)
    link_before _ e (ill_class offset at) =
        past_types (BadClass offset) (omega arith) e (λ e.
        first_before BadClass (bad_class_at before p) from_static f offset e at)
    link_before _ e (ill_static offset at) =
        past_classes (BadStatic offset) (omega arith) e (λ e.
        first_before BadStatic (bad_static_at before p) (duplicate (is_duplicate before p)) f offset e at)
    link_before _ e (same_aid is) =
        past_statics DuplicatePackage (omega arith) e (λ e.
        before_same f DuplicatePackage (sym (duplicate_found (is_duplicate before p) f e).1))

  -- ---- nothing applies to a package that is well-formed

  module _ (fine : fault_behind before p ≡ None) where
    no_entries : from_entries ≡ None
    no_entries = or_right (option_map MissingImport (unmet before p)) from_entries fine

    no_types : from_types ≡ None
    no_types = or_right (option_map Unresolved (unresolved_at before p)) from_types no_entries

    no_class : from_class ≡ None
    no_class = or_right (option_map TypeMismatch (mistyped_at before p)) from_class no_types

    no_static : from_static ≡ None
    no_static = or_right (option_map BadClass (bad_class_at before p)) from_static no_class

    pub never_linked : (g : LoadFault) → OfLinking before p g → ⊥
    never_linked _ (no_import token e) =
        none_at MissingImport (unmet before p) token e (or_left _ from_entries fine)
    never_linked _ (no_target index e) =
        none_at Unresolved (unresolved_at before p) index e (or_left _ from_types no_entries)
    never_linked _ (other_type index e) =
        none_at TypeMismatch (mistyped_at before p) index e (or_left _ from_class no_types)
    never_linked _ (ill_class offset e) =
        none_at BadClass (bad_class_at before p) offset e (or_left _ from_static no_class)
    never_linked _ (ill_static offset e) =
        none_at BadStatic (bad_static_at before p) offset e (or_left _ (duplicate (is_duplicate before p)) no_static)
    never_linked _ (same_aid is) =
        let none =
        or_right (option_map BadStatic (bad_static_at before p)) (duplicate (is_duplicate before p)) no_static in
        let e = sym (ap duplicate is) ∙ none in
        absurd cc
