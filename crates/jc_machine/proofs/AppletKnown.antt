-- An applet's package behind the API's packages is what is known of a loaded package.
use Rattle.std.proofs.Common.{◌≡◌, ℕ, ◌+◌, ◌==◌, Bool, true, false, cond, List, [], ◌∷◌, Option, Some, None, is_some}
use Rattle.std.proofs.Common.{slice_get, refl, ap, ◌∙◌, arith, eqb-true}
use Rattle.std.proofs.lemmas.Option.{none-some, same_Some}
use Rattle.std.specs.List.{find}
use Rattle.std.specs.Option.{option_and_then, option_map}
use Rattle.jc_api.specs.Bound.{default_binding}
use Rattle.jc_api.specs.NoClash.{HasNoClash}
use Rattle.jc_base.specs.declared.class_ref.ClassRef.TheVariants.{External}
use Rattle.jc_base.specs.declared.declared_type.DeclaredType.TheVariants.{Byte, Short, Reference, ByteArray}
use Rattle.jc_base.specs.declared.declared_type.ReturnType.TheVariants.{Void}
use Rattle.jc_cap.specs.declared.record.RecordBody.TheVariants as Record
use Rattle.jc_cap.specs.declared.applets.Applet.{Applet}
use Rattle.jc_cap_desc.specs.Shape.{ClassShape, HasBody, HasConcrete, HasInstallMethod, HaveBodies, HaveHeaders}
use Rattle.jc_cap_desc.specs.Shape.{InstallMethods, IsConcrete, IsOfClass, MethodBody, MethodShape, StandApart}
use Rattle.jc_classes.specs.Api.{api_world}
use Rattle.jc_classes.specs.Members.{DeclaredMethod, method_at, name_of}
use Rattle.jc_classes.specs.Methods.{method_name, method_of_class}
use Rattle.jc_link.specs.Applet.{applet}
use Rattle.jc_link.specs.Built.IsBuilt.{api, loaded}
use Rattle.jc_link.specs.Linked.{AreCoded, AreDeclared, AreHeaded, AreInstallable, HasDeclared, HasInstall}
use Rattle.jc_link.specs.Linked.{IsKnown, IsLoadedAt, IsWorld, LinkedBody}
use Rattle.jc_link.specs.WellFormed.{IsWellFormed}
use Rattle.jc_names.specs.declared.name.ClassName.{ClassName}
use Rattle.jc_names.specs.declared.name.ClassName.TheVariants.{Loaded}
use Rattle.jc_machine.specs.TypedExamples.{applet_body, applet_world}
use Rattle.jc_machine.proofs.ApiResults.{bound_some, mapped_some}
use Rattle.jc_machine.proofs.FirstFrame.{applet_resolved, install_code}

-- ---- its parts

abbrev pub process_code : MethodBody
process_code = record { offset = 10; code_offset = 12; code = 0x7A ∷ []; handlers = [] }

abbrev bodies : List MethodBody
bodies = install_code ∷ process_code ∷ []

abbrev install_shape : MethodShape
install_shape = record {
  token = 0xFF;
  is_static = true;
  offset = 1;
  header = Some (record { is_abstract = false; max_stack = 1; nargs = 3; max_locals = 0 });
  signature = record { parameters = ByteArray ∷ Short ∷ Byte ∷ []; result = Void };
}

abbrev process_shape : MethodShape
process_shape = record {
  token = 5;
  is_static = false;
  offset = 10;
  header = Some (record { is_abstract = false; max_stack = 0; nargs = 2; max_locals = 0 });
  signature = record { parameters = Reference (External 0 6) ∷ []; result = Void };
}

abbrev applet_class : ClassShape
applet_class = record {
  offset = 0;
  body = Record.Class (record {
    superclass = Some (External 0 7);
    declared_size = 0;
    public_methods = record { base = 5; methods = 10 ∷ 0xFFFF ∷ 0xFFFF ∷ [] };
    package_methods = record { base = 0; methods = [] };
    interfaces = [];
  });
  is_abstract = false;
  fields = [];
  methods = install_shape ∷ process_shape ∷ [];
}

abbrev the_applet : Applet
the_applet = record { aid = 0xF0 ∷ 1 ∷ 2 ∷ 3 ∷ 4 ∷ 1 ∷ []; install = 1 }

-- what holds of both of two holds of each
each_of_two : {A : Type 0} (P : ℕ → A → Type 0) (one other : A) → P 0 one → P 1 other → (n : ℕ) (x : A)
    → slice_get (one ∷ other ∷ []) n ≡ Some x → P n x
each_of_two P one other h1 h2 n x h3 = grind (arith, same_Some, none-some)

pub each_body : (P : ℕ → MethodBody → Type 0) → P 0 install_code → P 1 process_code → (n : ℕ) (b : MethodBody)
    → slice_get bodies n ≡ Some b → P n b
each_body P a b = each_of_two P install_code process_code a b

each_of_class : (P : MethodShape → Type 0) → P install_shape → P process_shape → (m : MethodShape)
    → IsOfClass applet.shape m → P m
each_of_class P a b m h = by_place h.class_place h.class h.class_there h.there
  where
    by_place : (n : ℕ) (k : ClassShape) → slice_get (applet_class ∷ []) n ≡ Some k
        → slice_get k.methods h.place ≡ Some m → P m
    by_place n k h1 h2 = grind (arith, each_of_two, same_Some, none-some)

-- ---- it was read

install_concrete : IsConcrete install_shape
install_concrete = grind arith

process_concrete : IsConcrete process_shape
process_concrete = grind arith

install_of_class : IsOfClass applet.shape install_shape
install_of_class =
    record { class = applet_class; class_place = 0; class_there = refl; class_is = refl; place = 0; there = refl }

process_of_class : IsOfClass applet.shape process_shape
process_of_class =
    record { class = applet_class; class_place = 0; class_there = refl; class_is = refl; place = 1; there = refl }

install_has_body : HasBody bodies 1
install_has_body = record { body = install_code; place = 0; there = refl; offset_is = refl }

process_has_body : HasBody bodies 10
process_has_body = record { body = process_code; place = 1; there = refl; offset_is = refl }

apart : StandApart bodies
apart = grind (arith, each_body)

headers : HaveHeaders applet.shape
headers = grind (arith, each_of_two, same_Some, none-some)

have_bodies : HaveBodies applet
have_bodies = record {
  declared = each_body (λ n b. HasConcrete applet.shape b.offset)
      (record { method = install_shape; of_class = install_of_class; offset_is = refl; concrete = install_concrete })
      (record { method = process_shape; of_class = process_of_class; offset_is = refl; concrete = process_concrete });
  coded = each_of_class (λ m. IsConcrete m → HasBody bodies m.offset) (λ c. install_has_body) (λ c. process_has_body);
  differ = λ m n of_class also.
      each_of_class (λ m. m.offset ≡ n.offset → m ≡ n)
      (each_of_class (λ n. 1 ≡ n.offset → install_shape ≡ n) (λ e. refl) (λ e. absurd (omega (arith, e))) n also)
      (each_of_class (λ n. 10 ≡ n.offset → process_shape ≡ n) (λ e. absurd (omega (arith, e))) (λ e. refl) n also)
      m of_class;
}

-- of the one applet
of_the_applet : (P : Applet → Type 0) → P the_applet → (applets : List Applet) (n : ℕ) (a : Applet)
    → Some (the_applet ∷ []) ≡ Some applets → slice_get applets n ≡ Some a → P a
of_the_applet P here applets n a e at =
    by_place n (ap (λ applets. slice_get applets n) (same_Some (the_applet ∷ []) applets e) ∙ at)
  where
    by_place : (n : ℕ) → slice_get (the_applet ∷ []) n ≡ Some a → P a
    by_place n h1 = grind (arith, same_Some, none-some)

installs : InstallMethods applet
installs = of_the_applet (λ a. HasInstallMethod applet a.install) (record {
  method = install_shape;
  of_class = install_of_class;
  offset_is = refl;
  static = refl;
  installs = refl;
  coded = install_has_body;
})

-- ---- its methods where it stands

abbrev declared : MethodShape → DeclaredMethod
declared m = record { class = Loaded 1 0; method = m }

only : {A : Type 0} (x y : A) (b : Bool) → cond b (Some x) None ≡ Some y → x ≡ y
only x y b h1 = grind (arith, same_Some, none-some)

abbrev declared_of : ℕ → ClassShape → Option DeclaredMethod
declared_of offset k =
    option_and_then
    (λ (class : ClassName).
    option_map (λ (m : MethodShape). record { class = class; method = m }) (method_of_class offset k)) (name_of 2 k)

each_declared : (P : ℕ → DeclaredMethod → Type 0) → P 1 (declared install_shape) → P 10 (declared process_shape)
    → (offset : ℕ) (d : DeclaredMethod) → method_at applet_world.shapes (method_name 2 offset) ≡ Some d → P offset d
each_declared P a b offset d e =
    let found = bound_some (declared_of offset)
    (find (λ k. is_some (method_of_class offset k)) (applet_class ∷ [])) d e in
    let is = only applet_class found.0 (is_some (method_of_class offset applet_class)) found.1 in
    let here = mapped_some declared (method_of_class offset applet_class) d (ap (declared_of offset) is ∙ found.2) in
    first here.0 here.2 (1 == offset) refl here.1
  where
    moved : (at : ℕ) (x m : MethodShape) → (at == offset) ≡ true → Some x ≡ Some m → declared m ≡ d
        → P at (declared x) → P offset d
    moved at x m there same is h = grind (arith, eqb-true, same_Some)

    second : (m : MethodShape) → declared m ≡ d → (t : Bool) → (10 == offset) ≡ t
        → cond t (Some process_shape) None ≡ Some m → P offset d
    second m h1 t h2 h3 = grind (arith, moved, none-some)

    first : (m : MethodShape) → declared m ≡ d → (t : Bool) → (1 == offset) ≡ t
        → cond t (Some install_shape) (cond (10 == offset) (Some process_shape) None) ≡ Some m → P offset d
    first m h1 t h2 h3 = grind (arith, moved, second)

headed : AreHeaded applet_world.shapes 2
headed = each_declared (λ offset d. is_some d.method.header ≡ true) refl refl

coded : AreCoded applet_world.shapes 2 bodies
coded = grind (arith, each_declared, install_has_body, process_has_body)

are_declared : AreDeclared applet_world.shapes 2 bodies
are_declared = each_body (λ n b. HasDeclared applet_world.shapes 2 b.offset)
    (record { declared = declared install_shape; there = refl; concrete = install_concrete })
    (record { declared = declared process_shape; there = refl; concrete = process_concrete })

installable : AreInstallable applet_world.shapes 2 applet_body.kept
installable = of_the_applet (λ a. HasInstall applet_world.shapes 2 bodies a.install) (record {
  declared = declared install_shape;
  there = refl;
  static = refl;
  installs = refl;
  coded = install_has_body;
})

-- ---- it is known

module _ (fine : IsWellFormed (api_world default_binding) applet) where
  was_loaded : IsLoadedAt applet_world.shapes 2 applet_body.kept
  was_loaded = grind (arith, apart, headers, have_bodies, installs)

  known : IsKnown applet_world.shapes 2 applet_body
  known = search (arith, was_loaded, applet_resolved, headed, coded, are_declared, installs, installable)

  pub applet_is_world : HasNoClash default_binding → IsWorld applet_world
  applet_is_world clear = record {
    built = loaded (api_world default_binding) applet (api default_binding clear) fine;
    count = refl;
    known = by_place;
  }
    where
      by_place : (n : ℕ) (body : LinkedBody) → slice_get applet_world.bodies n ≡ Some body
          → IsKnown applet_world.shapes (2 + n) body
      by_place n body h1 = grind (arith, same_Some, known, none-some)
