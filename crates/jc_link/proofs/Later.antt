-- Many packages behind the others change nothing of what is said of those before them.
use Rattle.std.proofs.Common.{◌≡◌, ℕ, suc, ◌<◌, ◌≤◌, ◌⊎◌, inl, inr, List, [], ◌∷◌, ◌++◌, length, take, drop, Option, sym, ap, subst, arith, append_assoc, append-nil, take-append-drop}
use Rattle.std.proofs.lemmas.Bool.{cases_lt}
use Rattle.std.proofs.lemmas.List.{take-append-le, take_all}
use Rattle.std.specs.Option.{option_map_or}
use Rattle.jc_cap_desc.specs.Shape.{ClassShape, Shape}
use Rattle.jc_classes.specs.Api.{api_world}
use Rattle.jc_classes.specs.Growth.{grown, IsMethodWithin, IsWithin, KeepsLookups, LiesWithin}
use Rattle.jc_classes.specs.Record.{declared_size}
use Rattle.jc_names.specs.declared.name.ClassName.{ClassName}
use Rattle.jc_names.specs.declared.name.MethodName.{MethodName}
use Rattle.jc_link.proofs.GrownHeirs.{faults_stay, length_more}
use Rattle.jc_link.proofs.GrownNames.{cells_stay, counted_stays, declared_type_stays, field_type_stays, instance_type_stays, member_type_stays, method_type_stays, names_stay, static_type_stays, targets_stay}
use Rattle.jc_link.specs.Built.{IsBuilt, api, loaded}
use Rattle.jc_link.specs.Growth.{HasApi, KeepsAllLinking}

-- ---- one package more, and one behind the other

one_more : (before : List Shape) (more : Shape) → KeepsLookups before more → KeepsAllLinking before (grown before more)
one_more before more keeps = record {
  counts = counted_stays before more keeps;
  types = member_type_stays before more keeps;
  field_types = field_type_stays before more keeps;
  declared_types = declared_type_stays before more keeps;
  method_types = method_type_stays before more keeps;
  instance_types = instance_type_stays before more keeps;
  static_types = static_type_stays before more keeps;
  sizes = λ c w. ap (λ (o : Option ClassShape). option_map_or (λ k. declared_size k.body) o 0) (keeps.classes c w);
  cells = cells_stay before more keeps;
  names = names_stay before more keeps;
  targets = targets_stay before more keeps;
  faults = λ home p has h. faults_stay before more keeps has home p h;
}

no_more : (world : List Shape) → KeepsAllLinking world world
no_more world = grind arith

module _ (first middle last : List Shape) (count : length first ≤ length middle) (f : KeepsAllLinking first middle)
    (g : KeepsAllLinking middle last) where
  class_further : (c : ClassName) → IsWithin first c → IsWithin middle c
  class_further c w = omega (arith, w, count)

  home_further : (home : ℕ) → home < length first → home < length middle
  home_further home h = omega (arith, h, count)

  method_further : (m : MethodName) → IsMethodWithin first m → IsMethodWithin middle m
  method_further m w home e = home_further home (w home e)

  api_further : HasApi first → HasApi middle
  api_further has = omega (arith, has, count)

  both_keep : KeepsAllLinking first last
  both_keep = grind (arith, class_further, home_further, method_further, api_further)

-- ---- many packages

module _ (keeps : (world : List Shape) (more : Shape) → KeepsLookups world more) where
  all_behind : (before more : List Shape) → KeepsAllLinking before (before ++ more)
  all_behind before [] = subst (KeepsAllLinking before) (sym (append-nil before)) (no_more before)
  all_behind before (shape ∷ more) =
      both_keep before (grown before shape) (before ++ shape ∷ more) (omega (arith, length_more before shape))
      (one_more before shape (keeps before shape))
      (subst (KeepsAllLinking (grown before shape)) (append_assoc before (shape ∷ []) more)
      (all_behind (grown before shape) more))

  pub all_kept : (before after : List Shape) → LiesWithin before after → KeepsAllLinking before after
  all_kept before after lies =
      let whole : before ++ drop (length before) after ≡ after = grind (arith, take-append-drop) in
      subst (KeepsAllLinking before) whole (all_behind before (drop (length before) after))

-- ---- worlds that are built

pub built_has_api : (world : List Shape) → IsBuilt world → HasApi world
built_has_api world h1 = grind (arith, length_more)

pub first_built : (world : List Shape) (count : ℕ) → IsBuilt world → 2 ≤ count → IsBuilt (take count world)
first_built _ count (api bound clash) few = subst IsBuilt (sym (take_all count (api_world bound) few)) (api bound clash)
first_built _ count (loaded before p built well) few =
    by_place (cases_lt count (suc (length before))) (first_built before count built few)
  where
    by_place : (count < suc (length before)) ⊎ (suc (length before) ≤ count) → IsBuilt (take count before)
        → IsBuilt (take count (grown before p.shape))
    by_place (inl less) rest = grind (arith, take-append-le)
    by_place (inr past) rest =
        subst IsBuilt (sym (take_all count (grown before p.shape) (omega (arith, past, length_more before p.shape))))
        (loaded before p built well)
