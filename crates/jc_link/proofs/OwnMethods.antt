-- The methods of a loaded package, as they are looked up in the world: each is one of a class of the package, each of
-- those is found, and so headers and code are those of the package.
use Rattle.std.proofs.Common.{◌≡◌, ℕ, suc, ◌-◌, ◌≤◌, ◌==◌, Bool, true, refl, sym, ap, ◌∙◌}
use Rattle.std.proofs.Common.{arith, List, Option, Some, is_some, nat_lt, slice_get}
use Rattle.std.proofs.lemmas.Bool.{eq-eqb, eqb-true, le-ltb}
use Rattle.std.specs.List.{find}
use Rattle.std.specs.Option.{option_and_then, option_map}
use Rattle.jc_cap_desc.specs.Shape.{ClassShape, HaveBodies, HaveHeaders, IsOfClass, MethodShape}
use Rattle.jc_cap_desc.specs.Shape.{InstallMethods, Package, Shape}
use Rattle.jc_classes.specs.Members.{DeclaredMethod, declared_in, method_at, name_of}
use Rattle.jc_classes.specs.Methods.{method_name, method_of_class}
use Rattle.jc_names.specs.declared.name.ClassName.{ClassName}
use Rattle.jc_names.specs.declared.name.ClassName.TheVariants as Name
use Rattle.jc_names.specs.declared.name.MethodName.TheVariants.{Loaded}
use Rattle.jc_link.proofs.GrownParts.{the_some, none_some, some_of, chosen_of, chosen_true}
use Rattle.jc_link.proofs.Nones.{found_at, found_passes, none_first, there_some, true_false}
use Rattle.jc_link.proofs.SoundGrown.{none_bad}
use Rattle.jc_link.specs.Kept.{Kept, kept_of}
use Rattle.jc_link.specs.Linked.{AreCoded, AreDeclared, AreHeaded, AreInstallable}
use Rattle.jc_link.specs.WellFormed.{IsWellFormed}

-- ---- what is looked up is the package's

-- the name of a method of a loaded package
named : (n offset : ℕ) → method_name (suc (suc n)) offset ≡ Loaded (suc n) offset
named n offset = grind (arith, le-ltb)

-- a method of a class of a package, at an offset
record IsOwn (shape : Shape) (offset : ℕ) (m : MethodShape) : Type 0 where
  of_class : IsOfClass shape m
  offset_is : m.offset ≡ offset

module _ (offset : ℕ) where
  own_of : (shape : Shape) (n : ℕ) (k : ClassShape) (m : MethodShape) → slice_get shape.classes n ≡ Some k
      → method_of_class offset k ≡ Some m → IsOwn shape offset m
  own_of shape n k m at is = grind (arith, chosen_of, found_at, chosen_true, eqb-true, found_passes)

  -- a method that a loaded package declares
  looked_up : (world : List Shape) (home : ℕ) (shape : Shape) → 2 ≤ home → slice_get world home ≡ Some shape
      → (d : DeclaredMethod) → method_at world (method_name home offset) ≡ Some d → IsOwn shape offset d.method
  looked_up world home shape loaded at d e =
      let two : home ≡ suc (suc (home - 2)) = omega (arith, loaded) in
      by_home (home - 2) two (ap (λ n. method_at world (method_name n offset)) (sym two) ∙ e)
    where
      its_method : (c : ClassName) (o : Option MethodShape)
          → option_map (λ m. record { class = c; method = m }) o ≡ Some d → o ≡ Some d.method
      its_method c o h1 = grind (arith, none_some, the_some)

      by_home : (n : ℕ) → home ≡ suc (suc n) → method_at world (method_name (suc (suc n)) offset) ≡ Some d
          → IsOwn shape offset d.method
      by_home n two e =
          let with_name : ClassShape → ClassName → Option DeclaredMethod
          = λ k class. option_map (λ m. record { class = class; method = m }) (method_of_class offset k) in
          let in_class : ClassShape → Option DeclaredMethod
          = λ k. option_and_then (with_name k) (name_of (suc (suc n)) k) in
          let has : ClassShape → Bool = λ k. is_some (method_of_class offset k) in
          let its = ap (method_at world) (sym (named n offset)) ∙ e in
          let there = some_of (declared_in (suc (suc n)) offset) (slice_get world (suc (suc n))) d its in
          let same : there.0 ≡ shape = the_some there.0 shape (sym there.1 ∙ ap (slice_get world) (sym two) ∙ at) in
          let k = some_of in_class (find has (there.0).classes) d there.2 in
          let name = some_of (with_name k.0) (name_of (suc (suc n)) k.0) d k.2 in
          let place = found_at has (there.0).classes k.0 k.1 in
          own_of shape place.0 k.0 d.method (ap (λ (s : Shape). slice_get s.classes place.0) (sym same) ∙ place.1)
          (its_method name.0 (method_of_class offset k.0) name.2)

-- ---- what the package has is looked up

-- each class of a package has an offset that names count with
abbrev pub AreNamed : Shape → Type 0
AreNamed shape = (n : ℕ) (k : ClassShape) → slice_get shape.classes n ≡ Some k → nat_lt k.offset 0x10000 ≡ true

-- a class without a name is refused
pub all_named : (before : List Shape) (p : Package) → IsWellFormed before p → AreNamed p.shape
all_named before p well n k at = grind (arith, none_first, none_bad, true_false)

-- what passes is found, or another
found_some : {A : Type 0} (p : A → Bool) (xs : List A) (n : ℕ) (x : A) → slice_get xs n ≡ Some x → p x ≡ true
    → (y : A) × (find p xs ≡ Some y)
found_some {A = A} p xs n x at passes = by_found (find p xs) refl
  where
    by_found : (o : Option A) → find p xs ≡ o → (y : A) × (find p xs ≡ Some y)
    by_found o h1 = grind (arith, true_false, none_first)

module _ (world : List Shape) (shape : Shape) (names : AreNamed shape) where
  -- a method of a class is declared
  found_own : (home : ℕ) → 2 ≤ home → slice_get world home ≡ Some shape → (m : MethodShape) → IsOfClass shape m
      → (d : DeclaredMethod) × (method_at world (method_name home m.offset) ≡ Some d)
  found_own home loaded at m of =
      let two : home ≡ suc (suc (home - 2)) = omega (arith, loaded) in
      let found = by_home (home - 2) (ap (slice_get world) (sym two) ∙ at) in
      (found.0, ap (λ n. method_at world (method_name n m.offset)) two ∙ found.1)
    where
      by_home : (n : ℕ) → slice_get world (suc (suc n)) ≡ Some shape
          → (d : DeclaredMethod) × (method_at world (method_name (suc (suc n)) m.offset) ≡ Some d)
      by_home n at =
          let has : ClassShape → Bool = λ k. is_some (method_of_class m.offset k) in
          let here : MethodShape → Bool = λ x. x.offset == m.offset in
          let row = found_some here of.class.methods of.place m of.there (eq-eqb m.offset m.offset refl) in
          let its : has of.class ≡ true = grind arith in
          let k = found_some has shape.classes of.class_place of.class of.class_there its in
          let place = found_at has shape.classes k.0 k.1 in
          let method = there_some (method_of_class m.offset k.0) (found_passes has shape.classes k.0 k.1) in
          let class : ClassName = Name.Loaded (suc (suc n) - 1) (k.0).offset in
          let name : name_of (suc (suc n)) k.0 ≡ Some class = grind (arith, le-ltb) in
          let d : DeclaredMethod = record { class = class; method = method.0 } in
          let with_name : ClassShape → ClassName → Option DeclaredMethod
          = λ k class. option_map (λ x. record { class = class; method = x }) (method_of_class m.offset k) in (
            d,
            ap (method_at world) (named n m.offset)
                ∙ ap (option_and_then (declared_in (suc (suc n)) m.offset)) at
                ∙ ap (option_and_then (λ k. option_and_then (with_name k) (name_of (suc (suc n)) k))) k.1
                ∙ ap (option_and_then (with_name k.0)) name
                ∙ ap (option_map (λ x. record { class = class; method = x })) method.1,
          )

-- a method is what is declared at its offset
record IsDeclaredAs (world : List Shape) (home : ℕ) (m : MethodShape) : Type 0 where
  declared : DeclaredMethod
  there : method_at world (method_name home m.offset) ≡ Some declared
  same : m ≡ declared.method

-- ---- what is known of them

module _ (world : List Shape) (home : ℕ) where
  -- methods of classes have headers in the world, as they have in the package
  pub headed_at : (shape : Shape) → 2 ≤ home → slice_get world home ≡ Some shape → HaveHeaders shape
      → AreHeaded world home
  headed_at shape loaded at have offset d e =
      let own = looked_up offset world home shape loaded at d e in
      let of = own.of_class in
      have of.class_place of.place of.class d.method of.class_there of.class_is of.there

  module _ (p : Package) (loaded : 2 ≤ home) (at : slice_get world home ≡ Some p.shape) (have : HaveBodies p)
      (kept : Kept) (is : kept ≡ kept_of p.body) where
    -- and code, unless they are abstract
    pub coded_at : AreCoded world home kept.methods
    coded_at offset d e concrete =
        let own = looked_up offset world home p.shape loaded at d e in
        let its = have.coded d.method own.of_class concrete in
        grind arith

    -- a method of a class is the one that is declared at its offset
    the_own : AreNamed p.shape → (m : MethodShape) → IsOfClass p.shape m → IsDeclaredAs world home m
    the_own names m of =
        let found = found_own world p.shape names home loaded at m of in
        let own = looked_up m.offset world home p.shape loaded at found.0 found.1 in
        let same = sym (have.differ (found.0).method m own.of_class of own.offset_is) in
        record { declared = found.0; there = found.1; same = same }

    -- and what has code is one of them
    pub declared_at : AreNamed p.shape → AreDeclared world home kept.methods
    declared_at names n b e =
        let its = have.declared n b (ap (λ (k : Kept). slice_get k.methods n) (sym is) ∙ e) in
        let own = the_own names its.method its.of_class in
        grind arith

    -- and applets name install methods
    pub installable_at : AreNamed p.shape → InstallMethods p → AreInstallable world home kept
    installable_at names install applets n a e there =
        let its = install applets n a (ap (λ (k : Kept). k.applets) (sym is) ∙ e) there in
        let own = the_own names its.method its.of_class in
        grind arith
