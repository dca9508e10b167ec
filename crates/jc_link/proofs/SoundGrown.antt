-- Each class of a world that was built package by package is fit for it.
use Rattle.std.proofs.Common.{◌≡◌, ℕ, zero, suc, ◌<◌, ◌≤◌, ◌==◌, ◌||◌, ◌⊎◌, Bool, true, false, List, [], ◌∷◌, ◌++◌, length, Option, Some, None, refl, sym, ap, subst, ◌∙◌, arith, nat_lt, slice_get}
use Rattle.std.proofs.lemmas.Bool.{eq-eqb, eqb-true, lt-ltb, le-ltb, ltb-true, ltb-false}
use Rattle.std.specs.List.{find}
use Rattle.std.specs.Option.{option_map, option_map_or, option_or}
use Rattle.jc_cap_desc.specs.Shape.{ClassShape, Package, Shape}
use Rattle.jc_api.specs.Bound.{Bound}
use Rattle.jc_api.specs.NoClash.{HasNoClash}
use Rattle.jc_classes.specs.Api.{api_world}
use Rattle.jc_classes.specs.Growth.{grown, IsWithin, KeepsLookups}
use Rattle.jc_classes.specs.Members.{name_of}
use Rattle.jc_names.specs.Names.{home_of, name_in, offset_of}
use Rattle.jc_classes.specs.World.{class_in, package_at}
use Rattle.jc_names.specs.declared.name.ClassName.{ClassName}
use Rattle.jc_link.proofs.GrownClasses.{superclass_stays, round_stays, interfaces_stay, unknown_type_stays, bad_entries_stay}
use Rattle.jc_link.proofs.GrownHeirs.{length_more, loses_stays, overrides_stay, unfinished_stays}
use Rattle.jc_link.proofs.GrownNames.{packages_stay}
use Rattle.jc_link.proofs.GrownParts.{the_some, none_some, some_of, chosen_of}
use Rattle.jc_link.proofs.GrownWithin.{class_home}
use Rattle.jc_link.proofs.Nones.{true_false, left_false, right_false, none_first, found_at, found_passes}
use Rattle.jc_link.proofs.SameNames.{numbered_again}
use Rattle.jc_link.proofs.SoundChains.{api_low, package_there}
use Rattle.jc_link.specs.Built.{IsBuilt, api, loaded}
use Rattle.jc_link.specs.Classes.{lacks_superclass}
use Rattle.jc_link.specs.Growth.{HasApi}
use Rattle.jc_link.specs.PrivateFit.{AreAllFit, AreFit, IsFit, IsFitThere, IsRoot}
use Rattle.jc_link.specs.WellFormed.{is_bad, is_bad_alone, is_bad_class, is_bad_heir, IsWellFormed}

-- ---- classes by their names

-- the name of a class that is there is that of its place
name_again : (world : List Shape) (c : ClassName) (s : Shape) → package_at world c ≡ Some s → name_in (home_of c) (offset_of c) ≡ Some c
name_again world c s h1 = grind (arith, lt-ltb, api_low, numbered_again, eq-eqb, none_some, le-ltb)

pub fit_at : (world : List Shape) → AreAllFit world → AreFit world
fit_at world all c k e =
    let a = some_of (class_in (offset_of c)) (package_at world c) k e in
    let test : ClassShape → Bool = λ q. q.offset == offset_of c in
    let place = found_at test (a.0).classes k a.2 in
    let offset : k.offset ≡ offset_of c = eqb-true k.offset (offset_of c) (found_passes test (a.0).classes k a.2) in
    let there = all (home_of c) place.0 a.0 k (package_there world c a.0 a.1) place.1 in
    let named = chosen_of (nat_lt k.offset 0x10000) (name_in (home_of c) k.offset) there.class there.named in
    let same : there.class ≡ c = the_some _ _ (sym named ∙ ap (name_in (home_of c)) offset ∙ name_again world c a.0 a.1) in
    subst (λ c. IsFit world c k) same there.fit

-- ---- classes that were there before

module _ (world : List Shape) (more : Shape) (keeps : KeepsLookups world more) (has : HasApi world) where
  fit_stays : (c : ClassName) (k : ClassShape) → IsWithin world c → IsFit world c k → IsFit (grown world more) c k
  fit_stays c k w fit = record {
    superclass = by_kind fit.superclass;
    round = round_stays world more keeps c w ∙ fit.round;
    interfaces = interfaces_stay world more keeps (home_of c) k w ∙ fit.interfaces;
    types = unknown_type_stays world more keeps (home_of c) k w ∙ fit.types;
    sizes = fit.sizes;
    entries = bad_entries_stay world more keeps (home_of c) c k has w w ∙ fit.entries;
    words = fit.words;
    keeps = loses_stays world more keeps has (home_of c) c w ∙ fit.keeps;
    types_kept = overrides_stay world more keeps has (home_of c) c w ∙ fit.types_kept;
    finished = unfinished_stays world more keeps has c k w ∙ fit.finished;
  }
    where
      by_kind : IsRoot world c ⊎ (lacks_superclass world c k ≡ false) → IsRoot (grown world more) c ⊎ (lacks_superclass (grown world more) c k ≡ false)
      by_kind h1 = grind (arith, superclass_stays)

  there_stays : (home : ℕ) (k : ClassShape) → home < length world → IsFitThere world home k → IsFitThere (grown world more) home k
  there_stays home k h there =
      let same = class_home home k there.class there.named in
      record { class = there.class; named = there.named; fit = fit_stays there.class k (omega (arith, same, h)) there.fit }

-- ---- classes of a package that is well-formed

first_none : {A : Type 0} (a b : Option A) → option_or a b ≡ None → a ≡ None
first_none a b h1 = grind arith

second_none : {A : Type 0} (a b : Option A) → option_or a b ≡ None → b ≡ None
second_none a b h1 = grind (arith, none_some)

unmapped : {A B : Type 0} (f : A → B) (o : Option A) → option_map f o ≡ None → o ≡ None
unmapped f o h1 = grind (arith, none_some)

none_of_three : (a b c : Bool) → (a || b || c) ≡ false → (a ≡ false) × (b ≡ false) × (c ≡ false)
none_of_three a b c e = let l = left_false (a || b) c e in (left_false a b l, right_false a b l, right_false (a || b) c e)

none_of_eight : (a b c d p q r s : Bool) → (a || b || c || d || p || q || r || s) ≡ false
    → (a ≡ false) × (b ≡ false) × (c ≡ false) × (d ≡ false) × (p ≡ false) × (q ≡ false) × (r ≡ false) × (s ≡ false)
none_of_eight a b c d p q r s e = grind (arith, none_of_three, left_false, right_false)

module _ (world : List Shape) (home : ℕ) where
  fit_alone : (c : ClassName) (k : ClassShape) → home_of c ≡ home → is_bad_alone world home c k ≡ false → is_bad_heir world home c k ≡ false → IsFit world c k
  fit_alone c k same alone heir = grind (arith, none_of_eight, none_of_three)

  fit_there : (k : ClassShape) → is_bad_class world home k ≡ false → IsFitThere world home k
  fit_there k good = by_name (name_of home k) refl good
    where
      by_name : (o : Option ClassName) → name_of home k ≡ o → option_map_or (is_bad world home k) o true ≡ false → IsFitThere world home k
      by_name None named e = true_false e
      by_name (Some c) named e = grind (arith, fit_alone, class_home, left_false, right_false)

pub none_bad : (before : List Shape) (p : Package) → IsWellFormed before p
    → find (is_bad_class (grown before p.shape) (length before)) p.shape.classes ≡ None
none_bad before p well = grind (arith, second_none, first_none, unmapped)

-- ---- packages one behind the other

last_of : {A : Type 0} (xs : List A) (y z : A) (i : ℕ) → length xs ≤ i → slice_get (xs ++ y ∷ []) i ≡ Some z → (i ≡ length xs) × (y ≡ z)
last_of [] y z zero h e = (refl, the_some y z e)
last_of [] y z (suc i) h e = absurd (none_some z e)
last_of (x ∷ xs) y z zero h e = absurd (omega arith)
last_of (x ∷ xs) y z (suc i) h e = let rest = last_of xs y z i (omega arith) e in (ap suc rest.0, rest.1)

all_fit_behind : (before : List Shape) (p : Package) → KeepsLookups before p.shape → HasApi before → AreAllFit before → IsWellFormed before p → AreAllFit (grown before p.shape)
all_fit_behind before p keeps has all well home n shape k at there = by_place (nat_lt home (length before)) (ltb-true home (length before)) (ltb-false home (length before))
  where
    by_place : (b : Bool) → (b ≡ true → home < length before) → (b ≡ false → length before ≤ home) → IsFitThere (grown before p.shape) home k
    by_place true h l = grind (arith, there_stays, packages_stay)
    by_place false h l =
        let last = last_of before p.shape shape home (l refl) at in
        let its : slice_get p.shape.classes n ≡ Some k = ap (λ (s : Shape). slice_get s.classes n) last.1 ∙ there in
        let good = none_first (is_bad_class (grown before p.shape) (length before)) p.shape.classes n k (none_bad before p well) its in
        subst (λ i. IsFitThere (grown before p.shape) i k) (sym last.0) (fit_there (grown before p.shape) (length before) k good)

-- the API's packages have to be fit, and look-ups to be kept
module _ (api_fit : (bound : Bound) → HasNoClash bound → AreAllFit (api_world bound)) (keeps : (world : List Shape) (more : Shape) → KeepsLookups world more) where
  pub built_fit : (world : List Shape) → IsBuilt world → HasApi world × AreAllFit world
  built_fit _ (api bound clash) = (omega arith, api_fit bound clash)
  built_fit _ (loaded before p built well) = grind (arith, length_more, all_fit_behind, built_fit before built)
