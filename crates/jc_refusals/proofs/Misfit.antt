-- The tests across components: what is told, and what each test finds by itself.
use Rattle.std.specs.Prelude.{◌≡◌, ◌⊎◌, ℕ, ◌==◌, ◌&&◌, Bool, true, false, List, length, Option, Some, None}
use Rattle.std.specs.Prelude.{Result, Ok, Err}
use Rattle.std.proofs.Common.{inl, inr, refl, sym, ap, subst}
use Rattle.std.specs.List.{list_all}
use Rattle.std.specs.Result.{result_ok}
use Rattle.jc_base.specs.Parts.{Infos}
use Rattle.jc_base.specs.Tag.{applet_tag, descriptor_tag, method_tag}
use Rattle.jc_base.specs.declared.fault.LoadFault.{LoadFault}
use Rattle.jc_base.specs.declared.fault.LoadFault.TheVariants.{Malformed}
use Rattle.jc_base.specs.declared.placed_rows.Placed.{Placed}
use Rattle.jc_cap.specs.Applets.{applets_of}
use Rattle.jc_cap.specs.Header.{header_of}
use Rattle.jc_cap.specs.MethodComponent.{MethodComponent, methods_of}
use Rattle.jc_cap.specs.Pool.{pool_of}
use Rattle.jc_cap.specs.declared.applets.Applet.{Applet}
use Rattle.jc_cap.specs.declared.entry.PoolEntry.{PoolEntry}
use Rattle.jc_cap.specs.declared.record.Record.{Record}
use Rattle.jc_cap_desc.specs.Across.{applets_install, class_methods, is_described, methods_differ, rows_match}
use Rattle.jc_cap_desc.specs.Across.{stands_inside}
use Rattle.jc_cap_desc.specs.Component as Descriptor
use Rattle.jc_cap_desc.specs.Package.{across_fault, applets_fault, classes_fault, layout_in, methods_fault, pool_fault}
use Rattle.jc_cap_desc.specs.Package.{told, unless}
use Rattle.jc_cap_desc.specs.declared.component.DescriptorInfo.{DescriptorInfo}
use Rattle.jc_refusals.proofs.Before.{ToldFor, told_from, told_itself, told_left, told_right}
use Rattle.jc_refusals.specs.Reading.{HasRows, IsMisfit}
use Rattle.jc_refusals.specs.Reading.IsMisfit.{entries, installs, mismatched, outside, undescribed}

-- the tests across all components
abbrev pub across_of : Infos → Option LoadFault
across_of parts =
    across_fault (result_ok (Descriptor.layout_of parts.descriptor)) (layout_in (header_of parts.header) parts.class)
    (result_ok (pool_of parts.constant_pool)) (result_ok (applets_of parts.applet))
    (result_ok (methods_of parts.method))

-- a test that fails
record Fails (fine : Bool) (tag : ℕ) (f : LoadFault) : Type 0 where
  unfit : fine ≡ false
  is : Malformed tag ≡ f

failed : (fine : Bool) (tag : ℕ) (f : LoadFault) → unless fine tag ≡ Some f → Fails fine tag f
failed true tag f e = absurd cc
failed false tag f e = record { unfit = refl; is = (let same : Malformed tag ≡ f = cc in same) }

is_ok : {A : Type 0} (r : Result A LoadFault) (x : A) → result_ok r ≡ Some x → r ≡ Ok x
is_ok (Ok y) x e = (let same : y ≡ x = cc in ap Ok same)
is_ok (Err g) x e = absurd cc

-- ---- what is told

-- a component doesn't fit, and that is the refusal
pub record Misfits (parts : Infos) (f : LoadFault) : Type 0 where
  pub tag : ℕ
  pub unfit : IsMisfit parts tag
  pub is : Malformed tag ≡ f

module _ (parts : Infos) (f : LoadFault) (info : DescriptorInfo)
    (is_info : Descriptor.layout_of parts.descriptor ≡ Ok info) where
  of_pool : (pool : Option (List PoolEntry)) → result_ok (pool_of parts.constant_pool) ≡ pool
      → pool_fault pool info ≡ Some f → Misfits parts f
  of_pool None is e = absurd cc
  of_pool (Some pool) is e =
      let bad = failed (length pool == length info.pool_types) descriptor_tag f e in
      record {
        tag = descriptor_tag;
        unfit = entries info pool is_info (is_ok (pool_of parts.constant_pool) pool is) bad.unfit;
        is = bad.is;
      }

  module _ (records : List (Placed Record)) (are : layout_in (header_of parts.header) parts.class ≡ Some records) where
    abbrev rows : HasRows parts
    rows = record { info = info; records = records; is_info = is_info; are_records = are }

    of_applets : (applets : Option (Option (List Applet))) → result_ok (applets_of parts.applet) ≡ applets
        → applets_fault records info applets ≡ Some f → Misfits parts f
    of_applets None is e = absurd cc
    of_applets (Some None) is e = absurd cc
    of_applets (Some (Some applets)) is e =
        let bad = failed (applets_install records info.classes info.types applets) applet_tag f e in
        record {
          tag = applet_tag;
          unfit = installs rows applets (is_ok (applets_of parts.applet) (Some applets) is) bad.unfit;
          is = bad.is;
        }

    of_methods : (methods : Option MethodComponent) → result_ok (methods_of parts.method) ≡ methods
        → methods_fault records info methods ≡ Some f → Misfits parts f
    of_methods None is e = absurd cc
    of_methods (Some methods) is e = part (told_from f _ _ e)
      where
        part : (unless (list_all (stands_inside methods) (class_methods records info.classes)) method_tag ≡ Some f)
            ⊎ (unless (list_all (is_described methods) (class_methods records info.classes)) descriptor_tag ≡ Some f)
            → Misfits parts f
        part (inl h) =
            let bad =
            failed (list_all (stands_inside methods) (class_methods records info.classes)) method_tag f h in
            record {
              tag = method_tag;
              unfit = outside rows methods (is_ok (methods_of parts.method) methods is) bad.unfit;
              is = bad.is;
            }
        part (inr k) =
            let bad =
            failed (list_all (is_described methods) (class_methods records info.classes)) descriptor_tag f k in
            record {
              tag = descriptor_tag;
              unfit = undescribed rows methods (is_ok (methods_of parts.method) methods is) bad.unfit;
              is = bad.is;
            }

    of_rows : unless (rows_match records info.classes && methods_differ records info.classes) descriptor_tag ≡ Some f
        → Misfits parts f
    of_rows e =
        let bad =
        failed (rows_match records info.classes && methods_differ records info.classes) descriptor_tag f e in
        record { tag = descriptor_tag; unfit = mismatched rows bad.unfit; is = bad.is }

    abbrev applets_part : Option LoadFault
    applets_part = applets_fault records info (result_ok (applets_of parts.applet))

    abbrev methods_part : Option LoadFault
    methods_part = methods_fault records info (result_ok (methods_of parts.method))

    abbrev rows_part : Option LoadFault
    rows_part = unless (rows_match records info.classes && methods_differ records info.classes) descriptor_tag

    of_records : told applets_part (told methods_part rows_part) ≡ Some f → Misfits parts f
    of_records e = part (told_from f _ _ e)
      where
        others : (methods_part ≡ Some f) ⊎ (rows_part ≡ Some f) → Misfits parts f
        others (inl h) = of_methods (result_ok (methods_of parts.method)) refl h
        others (inr k) = of_rows k

        part : (applets_part ≡ Some f) ⊎ (told methods_part rows_part ≡ Some f) → Misfits parts f
        part (inl h) = of_applets (result_ok (applets_of parts.applet)) refl h
        part (inr k) = others (told_from f methods_part rows_part k)

  of_classes : (records : Option (List (Placed Record))) → layout_in (header_of parts.header) parts.class ≡ records
      → classes_fault records info (result_ok (applets_of parts.applet)) (result_ok (methods_of parts.method)) ≡ Some f
      → Misfits parts f
  of_classes None are e = absurd cc
  of_classes (Some records) are e = of_records records are e

by_both : (parts : Infos) (f : LoadFault) (info : DescriptorInfo) → Descriptor.layout_of parts.descriptor ≡ Ok info
    → (pool_fault (result_ok (pool_of parts.constant_pool)) info ≡ Some f)
    ⊎ (classes_fault (layout_in (header_of parts.header) parts.class) info
    (result_ok (applets_of parts.applet)) (result_ok (methods_of parts.method)) ≡ Some f) → Misfits parts f
by_both parts f info is (inl h) = of_pool parts f info is (result_ok (pool_of parts.constant_pool)) refl h
by_both parts f info is (inr k) = of_classes parts f info is (layout_in (header_of parts.header) parts.class) refl k

by_info : (parts : Infos) (f : LoadFault) (info : Option DescriptorInfo)
    → result_ok (Descriptor.layout_of parts.descriptor) ≡ info
    → across_fault info (layout_in (header_of parts.header) parts.class)
    (result_ok (pool_of parts.constant_pool)) (result_ok (applets_of parts.applet))
    (result_ok (methods_of parts.method)) ≡ Some f → Misfits parts f
by_info parts f None is e = absurd cc
by_info parts f (Some info) is e =
    by_both parts f info (is_ok (Descriptor.layout_of parts.descriptor) info is) (told_from f _ _ e)

pub misfit_told : (parts : Infos) (f : LoadFault) → across_of parts ≡ Some f → Misfits parts f
misfit_told parts f e = by_info parts f (result_ok (Descriptor.layout_of parts.descriptor)) refl e

-- ---- what each test finds

fails : (fine : Bool) (tag : ℕ) → fine ≡ false → ToldFor (Malformed tag) (unless fine tag)
fails fine tag e = told_itself (Malformed tag) (unless fine tag) (ap (λ b. unless b tag) e)

module _ (parts : Infos) (g : LoadFault) where
  abbrev Told : Option LoadFault → Type 0
  Told found = ToldFor g found

  abbrev Pool : Option (List PoolEntry)
  Pool = result_ok (pool_of parts.constant_pool)

  abbrev Rows : Option (List (Placed Record))
  Rows = layout_in (header_of parts.header) parts.class

  abbrev Applets : Option (Option (List Applet))
  Applets = result_ok (applets_of parts.applet)

  abbrev Methods : Option MethodComponent
  Methods = result_ok (methods_of parts.method)

  at_pool : (info : DescriptorInfo) → Descriptor.layout_of parts.descriptor ≡ Ok info → Told (pool_fault Pool info)
      → Told (across_of parts)
  at_pool info is h =
      subst Told (sym (ap (λ r. across_fault (result_ok r) Rows Pool Applets Methods) is))
      (told_left g (pool_fault Pool info) (classes_fault Rows info Applets Methods) h)

  at_rows : (h : HasRows parts) → Told (classes_fault (Some h.records) h.info Applets Methods) → Told (across_of parts)
  at_rows h k =
      subst Told (sym (ap (λ r. across_fault (result_ok r) Rows Pool Applets Methods) h.is_info))
      (told_right g (pool_fault Pool h.info) (classes_fault Rows h.info Applets Methods)
      (subst Told (sym (ap (λ r. classes_fault r h.info Applets Methods) h.are_records)) k))

  module _ (h : HasRows parts) where
    abbrev applets_of_rows : Option LoadFault
    applets_of_rows = applets_fault h.records h.info Applets

    abbrev methods_of_rows : Option LoadFault
    methods_of_rows = methods_fault h.records h.info Methods

    abbrev matching : Option LoadFault
    matching = unless (rows_match h.records h.info.classes && methods_differ h.records h.info.classes) descriptor_tag

    at_applets : Told applets_of_rows → Told (across_of parts)
    at_applets k = at_rows h (told_left g applets_of_rows (told methods_of_rows matching) k)

    at_methods : Told methods_of_rows → Told (across_of parts)
    at_methods k =
        at_rows h
        (told_right g applets_of_rows (told methods_of_rows matching) (told_left g methods_of_rows matching k))

    at_matching : Told matching → Told (across_of parts)
    at_matching k =
        at_rows h
        (told_right g applets_of_rows (told methods_of_rows matching) (told_right g methods_of_rows matching k))

pub misfit_for : (parts : Infos) (tag : ℕ) → IsMisfit parts tag → ToldFor (Malformed tag) (across_of parts)
misfit_for parts _ (entries info pool is its bad) =
    at_pool parts (Malformed descriptor_tag) info is
    (subst (ToldFor (Malformed descriptor_tag)) (sym (ap (λ r. pool_fault (result_ok r) info) its))
    (fails (length pool == length info.pool_types) descriptor_tag bad))
misfit_for parts _ (installs h applets its bad) =
    at_applets parts (Malformed applet_tag) h
    (subst (ToldFor (Malformed applet_tag)) (sym (ap (λ r. applets_fault h.records h.info (result_ok r)) its))
    (fails (applets_install h.records h.info.classes h.info.types applets) applet_tag bad))
misfit_for parts _ (outside h methods its bad) =
    at_methods parts (Malformed method_tag) h
    (subst (ToldFor (Malformed method_tag)) (sym (ap (λ r. methods_fault h.records h.info (result_ok r)) its))
    (told_left (Malformed method_tag) _ _
    (fails (list_all (stands_inside methods) (class_methods h.records h.info.classes)) method_tag bad)))
misfit_for parts _ (undescribed h methods its bad) =
    at_methods parts (Malformed descriptor_tag) h
    (subst (ToldFor (Malformed descriptor_tag)) (sym (ap (λ r. methods_fault h.records h.info (result_ok r)) its))
    (told_right (Malformed descriptor_tag)
    (unless (list_all (stands_inside methods) (class_methods h.records h.info.classes)) method_tag) _
    (fails (list_all (is_described methods) (class_methods h.records h.info.classes)) descriptor_tag bad)))
misfit_for parts _ (mismatched h bad) =
    at_matching parts (Malformed descriptor_tag) h
    (fails (rows_match h.records h.info.classes && methods_differ h.records h.info.classes) descriptor_tag bad)
