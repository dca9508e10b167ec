-- No code of packages is found by classes of the API, and Applet alone is below Applet.
use Rattle.std.proofs.Common.{◌≡◌, ℕ, zero, suc, Bool, true, false, ◌||◌, List, arith, Option, Some, refl, sym, ap, ◌∙◌}
use Rattle.std.specs.Option.{option_map, option_map_or}
use Rattle.jc_api.specs.Class as tables
use Rattle.jc_api.specs.Token.{is_same_class}
use Rattle.jc_api.specs.declared.class.ApiClass.{ApiClass}
use Rattle.jc_api.specs.declared.class.ApiClass.TheVariants as api_classes
use Rattle.jc_cap_desc.specs.Shape.{Shape}
use Rattle.jc_classes.specs.Subtype.{is_at_or_above}
use Rattle.jc_classes.specs.World.{superclass_of}
use Rattle.jc_link.specs.ApiClasses.{StandsOnApi, StandsThere}
use Rattle.jc_names.specs.Names.{is_same_name}
use Rattle.jc_names.specs.declared.name.ClassName.{ClassName}
use Rattle.jc_names.specs.declared.name.ClassName.TheVariants as classes
use Rattle.jc_machine.specs.Apart.{HaveApiMembers}

-- ---- tests

either : (a b : Bool) (P : Type 0) → (a ≡ true → P) → (b ≡ true → P) → (a || b) ≡ true → P
either a b P h1 h2 h3 = grind arith

-- no class of the API has Applet as its superclass
below_applet : (c d : ApiClass) → tables.superclass_of c ≡ Some d → is_same_class d api_classes.Applet ≡ true → ⊥
below_applet c d h1 h2 = grind arith

module _ (world : List Shape) (stand : (c : ApiClass) → StandsThere world c) where
  abbrev is_below_applet : ℕ → ClassName → Bool
  is_below_applet steps c = is_at_or_above world steps (classes.Api api_classes.Applet) c

  none_above : (steps : ℕ)
      → ((d : ApiClass) → is_below_applet steps (classes.Api d) ≡ true → is_same_class d api_classes.Applet ≡ true)
      → (c : ApiClass) (above : Option ApiClass) → tables.superclass_of c ≡ above
      → option_map_or (is_below_applet steps) (option_map classes.Api above) false ≡ true → ⊥
  none_above steps h1 c above h2 h3 = grind (arith, below_applet)

  pub applet_alone : (steps : ℕ) (c : ApiClass) → is_below_applet steps (classes.Api c) ≡ true
      → is_same_class c api_classes.Applet ≡ true
  applet_alone zero c h = absurd cc
  applet_alone (suc n) c h =
      either (is_same_name (classes.Api c) (classes.Api api_classes.Applet))
      (option_map_or (is_below_applet n) (superclass_of world (classes.Api c)) false)
      (is_same_class c api_classes.Applet ≡ true) (λ same. same)
      (λ up. absurd (none_above n (applet_alone n) c (tables.superclass_of c) refl
      (sym (ap (λ (o : Option ClassName). option_map_or (is_below_applet n) o false) (stand c).superclass) ∙ up))) h

pub have_api_members : (world : List Shape) → StandsOnApi world → HaveApiMembers world
have_api_members world on = grind (arith, applet_alone)
