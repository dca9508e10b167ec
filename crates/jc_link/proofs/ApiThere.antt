-- The classes of the API stand in every world that is built, with the cells that the API's tables say.
use Rattle.std.proofs.Common.{◌≡◌, ℕ, zero, suc, ◌+◌, ◌-◌, not, Bool, true, cond, List, [], ◌∷◌, ◌++◌, take, Option, Some, None, refl, sym, ap, ◌∙◌, arith}
use Rattle.std.proofs.lemmas.Bool.{eqb-true}
use Rattle.std.specs.Option.{option_and_then, option_map, option_map_or}
use Rattle.jc_cap.specs.ClassComponent.{is_class}
use Rattle.jc_cap.specs.declared.record.RecordBody.{RecordBody}
use Rattle.jc_cap_desc.specs.Shape.{ClassShape, Shape}
use Rattle.jc_api.specs.Bound.{Bound}
use Rattle.jc_api.specs.Class as tables
use Rattle.jc_api.specs.NoClash.{HasNoClash}
use Rattle.jc_api.specs.Token.{is_virtual}
use Rattle.jc_api.specs.declared.class.ApiClass.{ApiClass}
use Rattle.jc_classes.specs.Api.{api_world, class_in_api}
use Rattle.jc_classes.specs.Growth.{KeepsAllLookups, LiesWithin}
use Rattle.jc_classes.specs.Record.{declared_size}
use Rattle.jc_classes.specs.Walk.{most_classes}
use Rattle.jc_classes.specs.World.{class_at, superclass_of}
use Rattle.jc_names.specs.declared.name.ClassName.TheVariants.{Api}
use Rattle.jc_names.specs.declared.name.MethodName.TheVariants as Method
use Rattle.jc_link.proofs.ApiClasses.{each_class}
use Rattle.jc_link.proofs.ApiMembers.{class_body, member_there, member_type_is}
use Rattle.jc_link.proofs.ApiTables.{found_member}
use Rattle.jc_link.proofs.ApiVirtual.{has_virtual, its_class, its_method, its_superclass, method_within, public_there}
use Rattle.jc_link.proofs.Nones.{true_false}
use Rattle.jc_link.proofs.SoundChains.{api_low}
use Rattle.jc_link.proofs.Superclasses.{most_is}
use Rattle.jc_link.specs.ApiClasses.{StandsOnApi, StandsThere, cells_of}
use Rattle.jc_link.specs.Built.{IsBuilt, api, loaded}
use Rattle.jc_link.specs.Growth.{KeepsAllLinking}
use Rattle.jc_link.specs.MemberType.{declared_type_of}
use Rattle.jc_link.specs.Named.{cells_above, size_of}
use Rattle.jc_link.specs.Target.{instance_type_of}

-- ---- one class in the API's world, and in larger ones

record IsAsTold (world : List Shape) (c : ApiClass) : Type 0 where
  shape : ClassShape
  there : class_at world (Api c) ≡ Some shape
  class_or_not : is_class shape.body ≡ not (tables.is_interface c)
  abstract_or_not : shape.is_abstract ≡ tables.is_abstract c
  declared : declared_size shape.body ≡ tables.size_of c
  no_fields : shape.fields ≡ []
  superclass : superclass_of world (Api c) ≡ option_map Api (tables.superclass_of c)

-- an interface has no cells
no_size : (c : ApiClass) → tables.is_interface c ≡ true → tables.size_of c ≡ 0
no_size c e = grind (arith, each_class, not, eqb-true, true_false)

its_size : (b : Bool) (x y : RecordBody) (size : ℕ) → (b ≡ true → size ≡ 0) → declared_size x ≡ 0
    → declared_size y ≡ size
    → declared_size (cond b x y) ≡ size
its_size b x y size h1 h2 h3 = grind arith

-- ---- the API's packages are the first of a world

record BeginsWithApi (world : List Shape) : Type 0 where
  bound : Bound
  clear : HasNoClash bound
  lies : LiesWithin (api_world bound) world

first_two : (before : List Shape) (p : Shape) (b : Bound) → take 2 before ≡ api_world b
    → take 2 (before ++ p ∷ []) ≡ api_world b
first_two before p b h1 = grind arith

begins : (world : List Shape) → IsBuilt world → BeginsWithApi world
begins _ (api bound clear) = record { bound = bound; clear = clear; lies = refl }
begins _ (loaded before p built well) = grind (arith, first_two, begins before built)

told : (world : List Shape) (bound : Bound) → HasNoClash bound → KeepsAllLookups (api_world bound) world
    → (c : ApiClass) → IsAsTold world c
told world bound clear looks c = record {
  shape = class_in_api bound c;
  there = its_class world bound clear looks c;
  class_or_not = class_body bound c;
  abstract_or_not = refl;
  declared = its_size (tables.is_interface c) _ _ (tables.size_of c) (no_size c) refl refl;
  no_fields = refl;
  superclass = its_superclass world bound clear looks c;
}

-- ---- cells

-- those of the superclasses, by the tables
abbrev above : ℕ → ApiClass → ℕ
above zero c = 0
above (suc n) c = option_map_or (λ d. tables.size_of d + above n d) (tables.superclass_of c) 0

size_is : (world : List Shape) (c : ApiClass) → IsAsTold world c → size_of world (Api c) ≡ tables.size_of c
size_is world c told = grind arith

cells_are : (world : List Shape) → ((c : ApiClass) → IsAsTold world c) → (n : ℕ) (c : ApiClass)
    → cells_above world n (Api c) ≡ above n c
cells_are world told zero c = refl
cells_are world told (suc n) c =
    grind (arith, (told c).superclass, by_superclass (tables.superclass_of c) (λ d. cells_are world told n d))
  where
    by_superclass : (o : Option ApiClass) → ((d : ApiClass) → cells_above world n (Api d) ≡ above n d)
        → option_map_or (λ d. size_of world d + cells_above world n d) (option_map Api o) 0
        ≡ option_map_or (λ d. tables.size_of d + above n d) o 0
    by_superclass None rest = refl
    by_superclass (Some d) rest =
        ap (λ i. i + cells_above world n (Api d)) (size_is world d (told d)) ∙ ap (λ i. tables.size_of d + i) (rest d)

-- six classes are enough
six_enough : (n : ℕ) (c : ApiClass) → tables.size_of c + above (suc (suc (suc (suc (suc (suc n)))))) c ≡ cells_of c
six_enough n c = grind arith

all_cells : (world : List Shape) → ((c : ApiClass) → IsAsTold world c) → (c : ApiClass)
    → size_of world (Api c) + cells_above world most_classes (Api c) ≡ cells_of c
all_cells world told c =
    let six : most_classes ≡ suc (suc (suc (suc (suc (suc (most_classes - 6)))))) = omega (arith, most_is) in
    grind (arith, size_is, told, cells_are, six_enough)

-- ---- fields

no_field : (world : List Shape) (c : ApiClass) → IsAsTold world c → (token : ℕ)
    → instance_type_of world (Api c) token ≡ None
no_field world c told token = grind arith

module _ (lookups : (before after : List Shape) → LiesWithin before after → KeepsAllLookups before after) where
  pub api_stands_there : (world : List Shape) → IsBuilt world → (c : ApiClass) → StandsThere world c
  api_stands_there world built c =
      let s = begins world built in
      let all = told world s.bound s.clear (lookups (api_world s.bound) world s.lies) in
      let told = all c in
      grind (arith, told, size_is, all_cells, no_field)

  -- and so do its members
  pub stands_on_api : ((before after : List Shape) → LiesWithin before after → KeepsAllLinking before after)
      → (world : List Shape) → IsBuilt world → StandsOnApi world
  stands_on_api linking world built =
      let s = begins world built in
      let first = api_world s.bound in
      let looks = lookups first world s.lies in
      record {
        stands = api_stands_there world built;
        bound = s.bound;
        classes = its_class world s.bound s.clear looks;
        members = its_method world s.bound s.clear looks;
        types = λ n m e. (linking first world s.lies).method_types (Method.Api n)
            (method_within world s.bound s.clear looks n)
            ∙ ap (option_and_then (declared_type_of first)) (member_there s.bound n m e)
            ∙ member_type_is s.bound s.clear n m e;
        found = λ c token asker name e.
            let m = found_member s.bound s.clear asker token c name
            (sym (looks.virtual_methods (Api c) token asker (api_low (tables.package_of c))) ∙ e) in
            (m.number, m.name);
        public = public_there s.bound s.clear;
        virtual = λ n m e kind. has_virtual world s.bound s.clear looks n m e (ap is_virtual kind);
      }
