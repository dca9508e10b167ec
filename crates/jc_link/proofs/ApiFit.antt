-- Under every binding each class of the API is fit for its world.
use Rattle.std.proofs.Common.{◌≡◌, ℕ, zero, suc, ◌<◌, ◌==◌, ◌&&◌, ◌||◌, ◌⊎◌, not, Bool, true, false, List, [], Option, Some, None, refl, ap, sym, subst, ◌∙◌, arith, is_some, slice_get, unwrap_or}
use Rattle.std.proofs.lemmas.Bool.{eq-eqb, ne_eqb}
use Rattle.std.specs.List.{list_any}
use Rattle.std.specs.Option.{option_and_then, option_map, option_map_or}
use Rattle.jc_api.specs.Class.{last_class}
use Rattle.jc_api.specs.Member.{last_member}
use Rattle.jc_cap.specs.ClassComponent.{is_class}
use Rattle.jc_cap.specs.declared.record.RecordBody.{RecordBody}
use Rattle.jc_cap.specs.declared.record.RecordBody.TheVariants.{Interface, Class}
use Rattle.jc_cap_desc.specs.Shape.{ClassShape, Shape}
use Rattle.jc_api.specs.Bound.{Bound}
use Rattle.jc_api.specs.Class.{is_abstract, is_interface, number_of, package_of, superclass_of}
use Rattle.jc_api.specs.Member.{ApiMember, member_of}
use Rattle.jc_api.specs.NoClash.{HasNoClash}
use Rattle.jc_api.specs.Token as Token
use Rattle.jc_api.specs.Token.{chain, is_virtual}
use Rattle.jc_api.specs.declared.class.ApiClass.{ApiClass}
use Rattle.jc_api.specs.declared.class.ApiClass.TheVariants.{Object, Applet}
use Rattle.jc_api.specs.declared.class.ApiPackage.{ApiPackage}
use Rattle.jc_api.specs.declared.class.ApiPackage.TheVariants.{Lang}
use Rattle.jc_api.specs.declared.member.MemberKind.{MemberKind}
use Rattle.jc_classes.specs.Api.{api_shape, api_world, class_in_api, class_shape_of, is_static, number_to, record_in, those_to}
use Rattle.jc_classes.specs.Members.{method_at, name_of}
use Rattle.jc_classes.specs.Methods.{declared_above, method_name, virtual_method_of}
use Rattle.jc_classes.specs.Record.{interface_rows, package_entries, public_entries}
use Rattle.jc_classes.specs.Subtype.{is_class_at, is_interface_at, is_at_or_above}
use Rattle.jc_classes.specs.Walk.{most_classes}
use Rattle.jc_classes.specs.World as World
use Rattle.jc_names.specs.Names.{api_home}
use Rattle.jc_classes.specs.World.{class_named, listed_refs}
use Rattle.jc_names.specs.declared.name.ClassName.TheVariants as Names
use Rattle.jc_names.specs.declared.name.MethodName.{MethodName}
use Rattle.jc_names.specs.declared.name.MethodName.TheVariants.{Api}
use Rattle.jc_link.proofs.ApiClasses.{class_itself, class_there, each_class, named_again, same_class, shape_is, super_before, superclass_is}
use Rattle.jc_link.proofs.ApiLists.{each_from, none_anywhere, none_of, those_from}
use Rattle.jc_link.proofs.ApiMembers.{class_body, each_member, member_there, types_known, words_right}
use Rattle.jc_link.proofs.ApiTables.{IsDeclared, IsMember, class_record, declared_token, entry, found_below, found_member, is_declared, room}
use Rattle.jc_link.proofs.GrownParts.{none_some, the_some}
use Rattle.jc_link.proofs.Nones.{neither, true_false}
use Rattle.jc_link.proofs.Superclasses.{most_is}
use Rattle.jc_link.specs.Classes.{has_bad_entry, is_bad_entry, is_inherited, lacks_superclass, leads_round}
use Rattle.jc_link.specs.Inherited.{is_abstract_at, is_other_type, is_same_method, is_unfinished, leaves_at, loses_at, retypes_at, rows_along, virtual_tokens}
use Rattle.jc_link.specs.PrivateFit.{AreAllFit, IsFit, IsFitThere, IsRoot}

-- ---- what a record of the API says

-- what a record gives, where that of an interface gives it and that of a class does
of_record : {A : Type 0} (f : RecordBody → A) (x : A) (bound : Bound) (c : ApiClass)
    → f (Interface (record { superinterfaces = [] })) ≡ x → f (Class (class_record bound c)) ≡ x → f (record_in bound c) ≡ x
of_record f x bound c i r = grind (arith, class_record)

nothing_listed : (bound : Bound) (c : ApiClass) → listed_refs (record_in bound c) ≡ []
nothing_listed bound c = of_record listed_refs [] bound c refl refl

nothing_implemented : (bound : Bound) (c : ApiClass) → interface_rows (record_in bound c) ≡ []
nothing_implemented bound c = of_record interface_rows [] bound c refl refl

nothing_visible : (bound : Bound) (c : ApiClass) → package_entries (record_in bound c) ≡ []
nothing_visible bound c = of_record package_entries [] bound c refl refl

entry_from : (bound : Bound) (c : ApiClass) (i x : ℕ) → slice_get (public_entries (record_in bound c)) i ≡ Some x → (t : ℕ) × (x ≡ entry bound c t)
entry_from bound c i x e = grind (arith, class_record, entry, none_some, each_from, room)

-- ---- members that are abstract, and those that aren't static

or_other : (a b : Bool) → (not a || b) ≡ true → a ≡ true → b ≡ true
or_other a b h1 h2 = grind (arith, true_false)

concrete : (n : ℕ) (m : ApiMember) (c : ApiClass) → member_of n ≡ Some m → Token.is_at_or_above m.class c ≡ true → is_abstract c ≡ false → m.is_abstract ≡ false
unfolding Token.is_at_or_above chain
concrete n m c e h f = by_test m.is_abstract refl
  where
    by_test : (b : Bool) → m.is_abstract ≡ b → m.is_abstract ≡ false
    by_test true g =
        let its : m.class ≡ Applet = same_class m.class Applet (or_other m.is_abstract (Token.is_same_class m.class Applet)
        (each_member (λ m. not m.is_abstract || Token.is_same_class m.class Applet) refl n m e) g) in
        let below : Token.is_at_or_above Applet c ≡ true = ap (λ a. Token.is_at_or_above a c) (sym its) ∙ h in
        let its_own : is_abstract c ≡ true = grind (arith, or_other, each_class, not) in
        true_false (sym its_own ∙ f)
    by_test false g = g

not_static : (kind : MemberKind) → is_virtual kind ≡ true → is_static kind ≡ false
not_static kind h1 = grind (arith, true_false)

api_method : (p : ApiPackage) (n : ℕ) → method_name (api_home p) n ≡ Api n
api_method p n = grind arith

same_method : (m : MethodName) → is_same_method m m ≡ true
same_method m = grind (arith, eq-eqb)

false_right : (b : Bool) → (b && false) ≡ false
false_right b = grind arith

unfinished_not : (a b c : Bool) → (b ≡ false → c ≡ false) → ((a && not b) && c) ≡ false
unfinished_not a b c h1 = grind arith

module _ (bound : Bound) (clear : HasNoClash bound) where
  abbrev world : List Shape
  world = api_world bound

  -- ---- superclasses

  is_class_there : (c : ApiClass) → is_class_at world (Names.Api c) ≡ not (is_interface c)
  is_class_there c = ap (λ o. option_map_or (λ (k : ClassShape). is_class k.body) o false) (class_there bound c) ∙ class_body bound c

  has_superclass : (c : ApiClass) → IsRoot world (Names.Api c) ⊎ (lacks_superclass world (Names.Api c) (class_in_api bound c) ≡ false)
  has_superclass c =
      by_super (superclass_of c) refl
      (each_class (λ a. option_map_or (λ d. not (is_interface d)) (superclass_of a) (is_interface a || Token.is_same_class a Object)) refl c)
    where
      at_top : superclass_of c ≡ None → (b : Bool) → is_interface c ≡ b → (b || Token.is_same_class c Object) ≡ true
          → IsRoot world (Names.Api c) ⊎ (lacks_superclass world (Names.Api c) (class_in_api bound c) ≡ false)
      at_top h1 b h2 h3 = grind (arith, not, class_body, same_class, superclass_is)

      by_super : (o : Option ApiClass) → superclass_of c ≡ o → option_map_or (λ d. not (is_interface d)) o (is_interface c || Token.is_same_class c Object) ≡ true
          → IsRoot world (Names.Api c) ⊎ (lacks_superclass world (Names.Api c) (class_in_api bound c) ≡ false)
      by_super None e h = at_top e (is_interface c) refl h
      by_super (Some d) e h = grind (arith, not, superclass_is, is_class_there, false_right)

  -- a class with a greater number isn't met
  not_met : (n : ℕ) (a b : ApiClass) → number_of b < number_of a → is_at_or_above world n (Names.Api a) (Names.Api b) ≡ false
  not_met zero a b h = refl
  not_met (suc n) a b h =
      neither (number_of b == number_of a) (option_map_or (is_at_or_above world n (Names.Api a)) (World.superclass_of world (Names.Api b)) false)
      (ne_eqb (number_of b) (number_of a) (λ e. absurd (omega (arith, e, h))))
      (ap (λ o. option_map_or (is_at_or_above world n (Names.Api a)) o false) (superclass_is bound clear b)
      ∙ by_super (superclass_of b) (λ d e. let less = super_before b d e in not_met n a d (omega (arith, less))))
    where
      by_super : (o : Option ApiClass) → ((d : ApiClass) → o ≡ Some d → is_at_or_above world n (Names.Api a) (Names.Api d) ≡ false)
          → option_map_or (is_at_or_above world n (Names.Api a)) (option_map Names.Api o) false ≡ false
      by_super o h1 = grind arith

  not_round : (c : ApiClass) → leads_round world (Names.Api c) ≡ false
  not_round c = grind (arith, superclass_is, not_met, super_before)

  met_itself : (n : ℕ) (c : ApiClass) → 0 < n → is_at_or_above world n (Names.Api c) (Names.Api c) ≡ true
  met_itself n c h1 = grind (arith, class_itself)

  -- ---- entries of tables

  entry_good : (c : ApiClass) (t : ℕ) → is_bad_entry world (api_home (package_of c)) (Names.Api c) (entry bound c t) ≡ false
  entry_good c t = by_number (number_to last_member (declared_token bound c) t) refl
    where
      inherited : (n : ℕ) → IsDeclared bound c t n
          → option_map_or (is_inherited world (Names.Api c)) (method_at world (method_name (api_home (package_of c)) n)) false ≡ true
      inherited n d =
          grind (
            arith,
            api_method (package_of c) n,
            member_there bound n d.member d.number,
            not_static (d.member).kind d.virtual,
            d.class,
            met_itself most_classes c (omega (arith, most_is)),
          )

      by_number : (o : Option ℕ) → number_to last_member (declared_token bound c) t ≡ o
          → is_bad_entry world (api_home (package_of c)) (Names.Api c) (unwrap_or o declared_above) ≡ false
      by_number o h1 = grind (arith, not, inherited, is_declared, false_right)

  entries_good : (c : ApiClass) → has_bad_entry world (api_home (package_of c)) (Names.Api c) (class_in_api bound c) ≡ false
  entries_good c =
      neither (list_any (is_bad_entry world (api_home (package_of c)) (Names.Api c)) (public_entries (record_in bound c)))
      (list_any (is_bad_entry world (api_home (package_of c)) (Names.Api c)) (package_entries (record_in bound c)))
      (none_of (is_bad_entry world (api_home (package_of c)) (Names.Api c)) (public_entries (record_in bound c)) each)
      (ap (list_any (is_bad_entry world (api_home (package_of c)) (Names.Api c))) (nothing_visible bound c))
    where
      each : (i x : ℕ) → slice_get (public_entries (record_in bound c)) i ≡ Some x → is_bad_entry world (api_home (package_of c)) (Names.Api c) x ≡ false
      each i x e =
          let t = entry_from bound c i x e in
          ap (is_bad_entry world (api_home (package_of c)) (Names.Api c)) t.1 ∙ entry_good c t.0

  -- ---- what is inherited

  kept_at : (c : ApiClass) (home token : ℕ) → loses_at world home (Names.Api c) token ≡ false
  kept_at c home token = grind (arith, superclass_is bound clear c, by_super (superclass_of c) refl)
    where
      by_found : (o : Option MethodName) → ((m : MethodName) → o ≡ Some m → virtual_method_of world (Names.Api c) token home ≡ Some m)
          → (is_some o && not (is_some (virtual_method_of world (Names.Api c) token home))) ≡ false
      by_found None k = refl
      by_found (Some m) k = ap (λ o. not (is_some o)) (k m refl)

      by_super : (o : Option ApiClass) → superclass_of c ≡ o
          → (is_some (option_and_then (λ d. virtual_method_of world d token home) (option_map Names.Api o))
          && not (is_some (virtual_method_of world (Names.Api c) token home))) ≡ false
      by_super None e = refl
      by_super (Some d) e = by_found (virtual_method_of world (Names.Api d) token home) (λ m. found_below bound clear home token c d m e)

  retyped_not : (c : ApiClass) (home token : ℕ) → retypes_at world home (Names.Api c) token ≡ false
  retyped_not c home token =
      ap (λ o. option_map_or (λ m. option_map_or (is_other_type world m) (option_and_then (λ d. virtual_method_of world d token home) o) false)
      (virtual_method_of world (Names.Api c) token home) false) (superclass_is bound clear c)
      ∙ by_super (superclass_of c) refl
    where
      never : (o : Option MethodName) → option_map_or (λ m. false) o false ≡ false
      never o = grind arith

      by_found : (o : Option MethodName) → ((m : MethodName) → o ≡ Some m → virtual_method_of world (Names.Api c) token home ≡ Some m)
          → option_map_or (λ m. option_map_or (is_other_type world m) o false) (virtual_method_of world (Names.Api c) token home) false ≡ false
      by_found o h1 = grind (arith, never, not, same_method)

      by_super : (o : Option ApiClass) → superclass_of c ≡ o
          → option_map_or (λ m. option_map_or (is_other_type world m) (option_and_then (λ d. virtual_method_of world d token home) (option_map Names.Api o)) false)
          (virtual_method_of world (Names.Api c) token home) false ≡ false
      by_super None e = never (virtual_method_of world (Names.Api c) token home)
      by_super (Some d) e = by_found (virtual_method_of world (Names.Api d) token home) (λ m. found_below bound clear home token c d m e)

  -- ---- nothing is left abstract

  left_not : (c : ApiClass) (asker token : ℕ) → is_abstract c ≡ false → leaves_at world (Names.Api c) asker token ≡ false
  left_not c asker token f = by_found (virtual_method_of world (Names.Api c) token asker) refl
    where
      by_member : (m : MethodName) → IsMember bound c token m → is_abstract_at world m ≡ false
      by_member m i =
          grind (
            arith,
            i.name,
            member_there bound i.number i.member i.is_number,
            concrete i.number i.member c i.is_number i.class f,
          )

      by_found : (o : Option MethodName) → virtual_method_of world (Names.Api c) token asker ≡ o → option_map_or (is_abstract_at world) o false ≡ false
      by_found o h1 = grind (arith, by_member, found_member)

  no_rows : (n : ℕ) (c : ApiClass) → rows_along world n (Names.Api c) ≡ []
  no_rows zero c = refl
  no_rows (suc n) c =
      grind (
        arith,
        class_there bound c,
        nothing_implemented bound c,
        superclass_is bound clear c,
        by_super (superclass_of c) (λ d. no_rows n d),
      )
    where
      by_super : (o : Option ApiClass) → ((d : ApiClass) → rows_along world n (Names.Api d) ≡ []) → option_map_or (rows_along world n) (option_map Names.Api o) [] ≡ []
      by_super None k = refl
      by_super (Some d) k = k d

  finished : (c : ApiClass) → is_unfinished world (Names.Api c) (class_in_api bound c) ≡ false
  finished c = grind (arith, unfinished_not, neither, none_anywhere, left_not, no_rows)

  -- ---- all together

  class_fit : (c : ApiClass) → IsFit world (Names.Api c) (class_in_api bound c)
  class_fit c = record {
    superclass = has_superclass c;
    round = not_round c;
    interfaces = ap (list_any (λ ref. not (option_map_or (is_interface_at world) (class_named world (api_home (package_of c)) ref) false))) (nothing_listed bound c);
    types = types_known bound clear c;
    sizes = refl;
    entries = entries_good c;
    words = words_right bound c;
    keeps = none_anywhere (loses_at world (api_home (package_of c)) (Names.Api c)) virtual_tokens (kept_at c (api_home (package_of c)));
    types_kept = none_anywhere (retypes_at world (api_home (package_of c)) (Names.Api c)) virtual_tokens (retyped_not c (api_home (package_of c)));
    finished = finished c;
  }

  in_package : (which : ApiPackage) (n : ℕ) (k : ClassShape) → slice_get (those_to last_class (class_shape_of bound which)) n ≡ Some k
      → IsFitThere world (api_home which) k
  in_package which n k e =
      let m = those_from (class_shape_of bound which) last_class n k e in
      let a = shape_is bound which m.0 k m.1 in
      record {
        class = Names.Api a.0;
        named = ap (name_of (api_home which)) (sym a.3) ∙ ap (λ p. name_of (api_home p) (class_in_api bound a.0)) (sym a.2) ∙ named_again bound a.0;
        fit = subst (IsFit world (Names.Api a.0)) a.3 (class_fit a.0);
      }

pub api_fit : (bound : Bound) → HasNoClash bound → AreAllFit (api_world bound)
api_fit bound clear zero n shape k e f = in_package bound clear Lang n k (ap (λ (s : Shape). slice_get s.classes n) (the_some (api_shape bound Lang) shape e) ∙ f)
api_fit bound clear (suc zero) n shape k e f = grind (arith, in_package, the_some)
api_fit bound clear (suc (suc home)) n shape k e f = absurd (none_some shape e)
