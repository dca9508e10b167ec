-- What is known of a package while its methods are checked one after the other.
use Rattle.std.proofs.Common.{◌≡◌, ℕ, ◌+◌, ◌<◌, ◌≤◌, Bool, true, false, List, length, Option, Some, None, refl, sym, ap, subst, ◌∙◌, arith, nat_lt, slice_get}
use Rattle.std.proofs.lemmas.Bool.{ltb-true, ltb-false}
use Rattle.std.proofs.lemmas.Option.{none-some, same_Some, slice_get_within}
use Rattle.jc_base.specs.declared.fault.LoadFault.{LoadFault}
use Rattle.jc_base.specs.declared.fault.LoadFault.TheVariants.{Memory, MethodRefused}
use Rattle.jc_cap_desc.specs.Shape.{MethodBody}
use Rattle.jc_cert.specs.Cert.{Row, Stated}
use Rattle.jc_classes.specs.Subtype.{IsOrder, is_class_below}
use Rattle.jc_names.specs.declared.name.ClassName.{ClassName}
use Rattle.jc_code.specs.Listing.{ListingLaws}
use Rattle.jc_link.specs.Linked.{Linked}
use Rattle.jc_types.specs.State.{Types, types_below}
use Rattle.jc_check.specs.Carried.{Carries}
use Rattle.jc_check.specs.Checked.{CarriesPackage, IsFirstRefusal, IsMethodCarried, IsPackageTyped, IsCheckRefusal}
use Rattle.jc_check.specs.Checked.{method, stated_for, stray_offset}
use Rattle.jc_check.specs.FirstFault.{IsFirstFault}
use Rattle.jc_check.specs.Method.{CheckedMethod}
use Rattle.jc_check.specs.Package.{method_of, package_rules}
use Rattle.jc_check.specs.PrivateFirst.{LeastOf}
use Rattle.jc_check.specs.Rules.{Rules}
use Rattle.jc_check.specs.declared.fault.Fault.{Fault}
use Rattle.jc_check.specs.declared.fault.MethodFault.{MethodFault}
use Rattle.jc_check.proofs.Shaped.{KeepShapes, shaped}
use Rattle.jc_check.proofs.Typed.{typed}

module _ (l : Linked) (rows : List Row) where
  abbrev methods : List MethodBody
  methods = l.body.kept.methods

  -- ---- one method more

  -- it is carried
  carried_more : (n : ℕ) (b : MethodBody) → slice_get methods n ≡ Some b → IsMethodCarried l rows b → (P : MethodBody → Type 0) → ((c : MethodBody) → IsMethodCarried l rows c → P c)
      → ((k : ℕ) (c : MethodBody) → k < n → slice_get methods k ≡ Some c → P c) → (k : ℕ) (c : MethodBody) → k < n + 1 → slice_get methods k ≡ Some c → P c
  carried_more n b is carried P gives before k c h e = by_place (nat_lt k n) refl
    where
      by_place : (t : Bool) → nat_lt k n ≡ t → P c
      by_place true t = before k c (ltb-true k n t) e
      by_place false t = subst P (the_one (sym (ap (λ i. slice_get methods i) (same (ltb-false k n t))) ∙ is)) (gives b carried)
        where
          same : n ≤ k → n ≡ k
          same l = omega (arith, l, h)

          the_one : slice_get methods k ≡ Some b → b ≡ c
          the_one f = same_Some b c (sym f ∙ e)

  pub one_carried : (n : ℕ) (b : MethodBody) (told : Option MethodFault) → slice_get methods n ≡ Some b → IsMethodCarried l rows b → LeastOf l rows n told → LeastOf l rows (n + 1) told
  one_carried n b None is carried h = carried_more n b is carried (IsMethodCarried l rows) (λ c g. g) h
  one_carried n b (Some f) is carried h = search (arith, carried_more)

  -- ---- all methods

  pub all_carried : stray_offset methods rows ≡ None → LeastOf l rows (length methods) None → CarriesPackage l rows
  all_carried none h = record { no_stray = none; methods = λ n b e. h n b (slice_get_within methods n b e) e }

  pub first_told : (f : MethodFault) → stray_offset methods rows ≡ None → LeastOf l rows (length methods) (Some f) → IsFirstRefusal l rows (MethodRefused f.method f.fault.pc f.fault.reason)
  first_told f none h =
      subst (λ o. IsFirstRefusal l rows (MethodRefused o f.fault.pc f.fault.reason)) (sym h.fault.method)
      (method h.b f.fault none (record {
        place = h.place;
        is = h.is;
        first = h.fault.first;
        before = λ n c e less. h.before n c (slice_get_within methods n c e) e (omega (arith, less, h.fault.method));
      }))

  -- ---- what carries a package has no first refusal

  pub none_refused : ((rules : Rules) → ListingLaws rules.decoder → (m : CheckedMethod) (states : List Stated) (fault : Fault) → IsFirstFault rules m states fault → Carries rules m states → ⊥)
      → ListingLaws (package_rules l).decoder → CarriesPackage l rows → (fault : LoadFault) → IsFirstRefusal l rows fault → ⊥
  none_refused h1 h2 h3 fault h4 = grind (arith, none-some)

  pub memory_alone : ((rules : Rules) → ListingLaws rules.decoder → (m : CheckedMethod) (states : List Stated) (fault : Fault) → IsFirstFault rules m states fault → Carries rules m states → ⊥)
      → ListingLaws (package_rules l).decoder → CarriesPackage l rows → (fault : LoadFault)
      → IsCheckRefusal l rows fault → fault ≡ Memory
  memory_alone h1 h2 h3 fault h4 = grind (arith, none_refused)

  -- ---- it is well typed

  pub carried_typed : IsOrder (is_class_below l.world) → ((below : ClassName → ClassName → Bool) → IsOrder below → (s : Types) → types_below below s s ≡ true)
      → ListingLaws (package_rules l).decoder → KeepShapes (package_rules l) → CarriesPackage l rows → IsPackageTyped l
  carried_typed order self laws keeps carries = record {
    each = λ n b e.
        let c = carries.methods n b e in
        let below = self (is_class_below l.world) order in record {
          typing = c.typing;
          typed = typed (package_rules l) below (method_of l b) (stated_for rows b.offset) c;
          shaped = shaped (package_rules l) laws keeps (method_of l b) (stated_for rows b.offset) c;
        };
  }
