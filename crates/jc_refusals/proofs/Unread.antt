-- Why components aren't read as a package.
use Rattle.std.specs.Prelude.{◌≡◌, ◌⊎◌, ℕ, List, Option, Some, None, Result, Ok, Err}
use Rattle.std.proofs.Common.{inl, inr, arith, refl, sym, ap, ◌∙◌, subst}
use Rattle.std.proofs.lemmas.Option.{none-some}
use Rattle.jc_base.specs.Parts.{Infos}
use Rattle.jc_base.specs.Results.{◌>>=◌}
use Rattle.jc_base.specs.declared.fault.LoadFault.{LoadFault}
use Rattle.jc_base.specs.declared.fault.LoadFault.TheVariants.{BadMagic, FormatVersion, IntPackage, Malformed}
use Rattle.jc_cap.specs.Applets.{applets_of}
use Rattle.jc_cap.specs.ClassComponent.{classes_of}
use Rattle.jc_cap.specs.Exports.{exports_of}
use Rattle.jc_cap.specs.Header.{Heading, header_of}
use Rattle.jc_cap.specs.Imports.{imports_of}
use Rattle.jc_cap.specs.MethodComponent.{methods_of}
use Rattle.jc_cap.specs.Pool.{pool_of}
use Rattle.jc_cap.specs.Statics.{static_fields_of}
use Rattle.jc_cap_desc.specs.Package.{class_fault, component_fault}
use Rattle.jc_cap_desc.specs.Package.{components_of, fault_of, package_fault, package_of}
use Rattle.jc_cap_desc.specs.Package.{refused, told}
use Rattle.jc_cap_desc.specs.Shape.{Package}
use Rattle.jc_cap_desc.specs.Types.{descriptor_of}
use Rattle.jc_refusals.proofs.Before.{Before, ToldFor, none_left, none_right, told_from, told_itself, told_left}
use Rattle.jc_refusals.proofs.Before.{told_right}
use Rattle.jc_refusals.proofs.Descriptors.{in_classes, in_descriptor}
use Rattle.jc_refusals.proofs.Heading.{OfHeader, header_before, header_told}
use Rattle.jc_refusals.proofs.Heading.OfHeader.{bad_format, bad_magic, other, uses_int}
use Rattle.jc_refusals.proofs.Misfit.{across_of, misfit_for, misfit_told}
use Rattle.jc_refusals.proofs.Ranges.{OfPart, Refuses, Tells, bad_aid, bad_layout, silent, told_of}
use Rattle.jc_refusals.proofs.Readers.{in_applets, in_exports, in_imports, in_methods, in_pool, in_static_fields}
use Rattle.jc_refusals.specs.Order.{IsBetween}
use Rattle.jc_refusals.specs.Reading.{HasBadMagic, IsRefused, UsesInt, format_in}
use Rattle.jc_refusals.specs.Reading.IsRefused.{across as across_part, applets as applets_part, classes as classes_part}
use Rattle.jc_refusals.specs.Reading.IsRefused.{descriptor as descriptor_part, exports as exports_part}
use Rattle.jc_refusals.specs.Reading.IsRefused.{header as header_part, imports as imports_part, methods as methods_part}
use Rattle.jc_refusals.specs.Reading.IsRefused.{pool as pool_part, statics as statics_part}

told_class : (heading : Result Heading LoadFault) (info : List ℕ) → Tells OfPart (class_fault heading info)
told_class (Ok heading) info = told_of OfPart (classes_of heading.format info) (in_classes heading.format info)
told_class (Err fault) info = silent OfPart

-- ---- the refusals of reading

-- a refusal of reading that applies to components
pub data OfReading (parts : Infos) : LoadFault → Type 0 where
  without_magic : HasBadMagic parts.header → OfReading parts BadMagic
  without_format : format_in parts.header ≡ Err FormatVersion → OfReading parts FormatVersion
  with_int : UsesInt parts.header → OfReading parts IntPackage
  refused_part : (fault : LoadFault) → OfPart fault → IsRefused parts fault → OfReading parts fault

pub read_number : (parts : Infos) (g : LoadFault) → OfReading parts g → IsBetween 5 9 g
read_number parts _ (without_magic h) = record { from = omega arith; to = omega arith }
read_number parts _ (without_format h) = record { from = omega arith; to = omega arith }
read_number parts _ (with_int h) = record { from = omega arith; to = omega arith }
read_number parts _ (refused_part _ bad_aid h) = record { from = omega arith; to = omega arith }
read_number parts _ (refused_part _ (bad_layout tag) h) = record { from = omega arith; to = omega arith }

-- the fault of a result
erred : {A : Type 0} (r : Result A LoadFault) (f : LoadFault) → fault_of r ≡ Some f → r ≡ Err f
erred (Ok x) f e = absurd cc
erred (Err g) f e = (let same : g ≡ f = cc in ap Err same)

module _ (parts : Infos) where
  -- ---- the readers from each one on

  abbrev from_exports : Option LoadFault
  from_exports = told (fault_of (exports_of parts.export)) (fault_of (descriptor_of parts.descriptor))

  abbrev from_statics : Option LoadFault
  from_statics = told (fault_of (static_fields_of parts.static_field)) from_exports

  abbrev from_methods : Option LoadFault
  from_methods = told (fault_of (methods_of parts.method)) from_statics

  abbrev from_classes : Option LoadFault
  from_classes = told (class_fault (header_of parts.header) parts.class) from_methods

  abbrev from_pool : Option LoadFault
  from_pool = told (fault_of (pool_of parts.constant_pool)) from_classes

  abbrev from_imports : Option LoadFault
  from_imports = told (fault_of (imports_of parts.imports)) from_pool

  abbrev from_applets : Option LoadFault
  from_applets = told (fault_of (applets_of parts.applet)) from_imports

  -- ---- what is told applies

  module _ (f : LoadFault) where
    abbrev Reads : Type 0
    Reads = OfReading parts f

    -- of a reader
    by_reader : {A : Type 0} (r : Result A LoadFault) → Refuses OfPart r → (r ≡ Err f → IsRefused parts f)
        → fault_of r ≡ Some f → Reads
    by_reader r of make e = let is = erred r f e in refused_part f (of.each f is) (make is)

    by_exports : from_exports ≡ Some f → Reads
    by_exports e = part (told_from f _ _ e)
      where
        part : (fault_of (exports_of parts.export) ≡ Some f) ⊎ (fault_of (descriptor_of parts.descriptor) ≡ Some f)
            → Reads
        part (inl h) = by_reader (exports_of parts.export) (in_exports parts.export) (exports_part f) h
        part (inr k) = by_reader (descriptor_of parts.descriptor) (in_descriptor parts.descriptor) (descriptor_part f) k

    by_statics : from_statics ≡ Some f → Reads
    by_statics e = part (told_from f _ _ e)
      where
        part : (fault_of (static_fields_of parts.static_field) ≡ Some f) ⊎ (from_exports ≡ Some f) → Reads
        part (inl h) =
            by_reader (static_fields_of parts.static_field) (in_static_fields parts.static_field) (statics_part f) h
        part (inr k) = by_exports k

    by_methods : from_methods ≡ Some f → Reads
    by_methods e = part (told_from f _ _ e)
      where
        part : (fault_of (methods_of parts.method) ≡ Some f) ⊎ (from_statics ≡ Some f) → Reads
        part (inl h) = by_reader (methods_of parts.method) (in_methods parts.method) (methods_part f) h
        part (inr k) = by_statics k

    by_classes : from_classes ≡ Some f → Reads
    by_classes e = part (told_from f _ _ e)
      where
        part : (class_fault (header_of parts.header) parts.class ≡ Some f) ⊎ (from_methods ≡ Some f) → Reads
        part (inl h) =
            let of = told_class (header_of parts.header) parts.class in
            refused_part f (of.each f h) (classes_part f h)
        part (inr k) = by_methods k

    by_pool : from_pool ≡ Some f → Reads
    by_pool e = part (told_from f _ _ e)
      where
        part : (fault_of (pool_of parts.constant_pool) ≡ Some f) ⊎ (from_classes ≡ Some f) → Reads
        part (inl h) = by_reader (pool_of parts.constant_pool) (in_pool parts.constant_pool) (pool_part f) h
        part (inr k) = by_classes k

    by_imports : from_imports ≡ Some f → Reads
    by_imports e = part (told_from f _ _ e)
      where
        part : (fault_of (imports_of parts.imports) ≡ Some f) ⊎ (from_pool ≡ Some f) → Reads
        part (inl h) = by_reader (imports_of parts.imports) (in_imports parts.imports) (imports_part f) h
        part (inr k) = by_pool k

    by_applets : from_applets ≡ Some f → Reads
    by_applets e = part (told_from f _ _ e)
      where
        part : (fault_of (applets_of parts.applet) ≡ Some f) ⊎ (from_imports ≡ Some f) → Reads
        part (inl h) = by_reader (applets_of parts.applet) (in_applets parts.applet) (applets_part f) h
        part (inr k) = by_imports k

    of_header : (g : LoadFault) → OfHeader parts.header g → OfReading parts g
    of_header _ (bad_magic h) = without_magic h
    of_header _ (bad_format e) = without_format e
    of_header _ (uses_int u) = with_int u
    of_header _ (other g e of) = refused_part g of (header_part g e)

    by_component : component_fault parts ≡ Some f → Reads
    by_component e = part (told_from f _ _ e)
      where
        part : (fault_of (header_of parts.header) ≡ Some f) ⊎ (from_applets ≡ Some f) → Reads
        part (inl h) = of_header f (header_told parts.header f (erred (header_of parts.header) f h))
        part (inr k) = by_applets k

    by_package : package_fault parts ≡ Some f → Reads
    by_package e = part (told_from f _ _ e)
      where
        part : (component_fault parts ≡ Some f) ⊎ (across_of parts ≡ Some f) → Reads
        part (inl h) = by_component h
        part (inr k) =
            let found = misfit_told parts f k in
            subst (OfReading parts) found.is
            (refused_part (Malformed found.tag) (bad_layout found.tag) (across_part found.tag found.unfit))

  -- ---- without a fault there is a package

  ok_behind : {A B : Type 0} (r : Result A LoadFault) (next : A → Result B LoadFault) (f : LoadFault)
      → fault_of r ≡ None → ((x : A) → r ≡ Ok x → next x ≡ Err f → ⊥) → (r >>= next) ≡ Err f → ⊥
  ok_behind (Ok x) next f none k e = k x refl e
  ok_behind (Err g) next f none k e = absurd cc

  module _ (none : package_fault parts ≡ None) where
    no_component : component_fault parts ≡ None
    no_component = none_left (component_fault parts) (across_of parts) none

    no_applets : from_applets ≡ None
    no_applets = none_right (fault_of (header_of parts.header)) from_applets no_component

    no_imports : from_imports ≡ None
    no_imports = none_right (fault_of (applets_of parts.applet)) from_imports no_applets

    no_pool : from_pool ≡ None
    no_pool = none_right (fault_of (imports_of parts.imports)) from_pool no_imports

    no_classes : from_classes ≡ None
    no_classes = none_right (fault_of (pool_of parts.constant_pool)) from_classes no_pool

    no_methods : from_methods ≡ None
    no_methods = none_right (class_fault (header_of parts.header) parts.class) from_methods no_classes

    no_statics : from_statics ≡ None
    no_statics = none_right (fault_of (methods_of parts.method)) from_statics no_methods

    no_exports : from_exports ≡ None
    no_exports = none_right (fault_of (static_fields_of parts.static_field)) from_exports no_statics

    all_read : (f : LoadFault) → components_of parts ≡ Err f → ⊥
    unfolding components_of
    all_read f e =
        ok_behind (header_of parts.header) _ f (none_left _ from_applets no_component) (λ heading is e.
        ok_behind (applets_of parts.applet) _ f (none_left _ from_imports no_applets) (λ applets its e.
        ok_behind (imports_of parts.imports) _ f (none_left _ from_pool no_imports) (λ imports its e.
        ok_behind (pool_of parts.constant_pool) _ f (none_left _ from_classes no_pool) (λ pool its e.
        ok_behind (classes_of heading.format parts.class) _ f
        (sym (ap (λ (h : Result Heading LoadFault). class_fault h parts.class) is)
        ∙ none_left _ from_methods no_classes) (λ records its e.
        ok_behind (methods_of parts.method) _ f (none_left _ from_statics no_methods) (λ methods its e.
        ok_behind (static_fields_of parts.static_field) _ f (none_left _ from_exports no_statics) (λ statics its e.
        ok_behind (exports_of parts.export) _ f
        (none_left _ (fault_of (descriptor_of parts.descriptor)) no_exports) (λ exports its e.
        ok_behind (descriptor_of parts.descriptor) _ f
        (none_right (fault_of (exports_of parts.export)) _ no_exports) (λ info its e. absurd cc)
        e) e) e) e) e) e) e) e) e

  -- the fault of a package that isn't read is the reported one
  is_package_fault : (found : Option LoadFault) → package_fault parts ≡ found → (f : LoadFault)
      → refused found (components_of parts) ≡ Err f → package_fault parts ≡ Some f
  is_package_fault None none f e = absurd (all_read none f e)
  is_package_fault (Some g) is f e = (let same : g ≡ f = cc in is ∙ ap Some same)

  module _ (f : LoadFault) (unread : package_of parts ≡ Err f) where
    its_fault : package_fault parts ≡ Some f
    its_fault = is_package_fault (package_fault parts) refl f unread

    pub read_told : OfReading parts f
    read_told = by_package f its_fault

  -- ---- what applies isn't told before what is told

  module _ (g : LoadFault) where
    abbrev Told : Option LoadFault → Type 0
    Told found = ToldFor g found

    -- of a reader
    by_itself : {A : Type 0} (r : Result A LoadFault) → r ≡ Err g → Told (fault_of r)
    by_itself r e = told_itself g (fault_of r) (ap fault_of e)

    at_component : Told (component_fault parts) → Told (package_fault parts)
    at_component h = told_left g (component_fault parts) (across_of parts) h

    past_header : Told from_applets → Told (package_fault parts)
    past_header h = at_component (told_right g (fault_of (header_of parts.header)) from_applets h)

    past_applets : Told from_imports → Told (package_fault parts)
    past_applets h = past_header (told_right g (fault_of (applets_of parts.applet)) from_imports h)

    past_imports : Told from_pool → Told (package_fault parts)
    past_imports h = past_applets (told_right g (fault_of (imports_of parts.imports)) from_pool h)

    past_pool : Told from_classes → Told (package_fault parts)
    past_pool h = past_imports (told_right g (fault_of (pool_of parts.constant_pool)) from_classes h)

    past_classes : Told from_methods → Told (package_fault parts)
    past_classes h = past_pool (told_right g (class_fault (header_of parts.header) parts.class) from_methods h)

    past_methods : Told from_statics → Told (package_fault parts)
    past_methods h = past_classes (told_right g (fault_of (methods_of parts.method)) from_statics h)

    past_statics : Told from_exports → Told (package_fault parts)
    past_statics h = past_methods (told_right g (fault_of (static_fields_of parts.static_field)) from_exports h)

    by_heading : OfHeader parts.header g → Told (package_fault parts)
    by_heading h =
        let found = header_before parts.header g h in
        at_component
        (told_left g (fault_of (header_of parts.header)) from_applets
        (record { fault = found.fault; is = ap fault_of found.is; before = found.before }))

  part_for : (g : LoadFault) → OfPart g → IsRefused parts g → ToldFor g (package_fault parts)
  part_for _ of (header_part g e) = by_heading g (other g e of)
  part_for _ of (applets_part g e) =
      past_header g (told_left g _ from_imports (by_itself g (applets_of parts.applet) e))
  part_for _ of (imports_part g e) =
      past_applets g (told_left g _ from_pool (by_itself g (imports_of parts.imports) e))
  part_for _ of (pool_part g e) =
      past_imports g (told_left g _ from_classes (by_itself g (pool_of parts.constant_pool) e))
  part_for _ of (classes_part g e) =
      past_pool g
      (told_left g (class_fault (header_of parts.header) parts.class) from_methods
      (told_itself g (class_fault (header_of parts.header) parts.class) e))
  part_for _ of (methods_part g e) =
      past_classes g (told_left g _ from_statics (by_itself g (methods_of parts.method) e))
  part_for _ of (statics_part g e) =
      past_methods g (told_left g _ from_exports (by_itself g (static_fields_of parts.static_field) e))
  part_for _ of (exports_part g e) =
      past_statics g
      (told_left g _ (fault_of (descriptor_of parts.descriptor)) (by_itself g (exports_of parts.export) e))
  part_for _ of (descriptor_part g e) =
      past_statics g
      (told_right g (fault_of (exports_of parts.export)) _ (by_itself g (descriptor_of parts.descriptor) e))
  part_for _ of (across_part tag unfit) =
      told_right (Malformed tag) (component_fault parts) (across_of parts) (misfit_for parts tag unfit)

  reading_for : (g : LoadFault) → OfReading parts g → ToldFor g (package_fault parts)
  reading_for _ (without_magic h) = by_heading BadMagic (bad_magic h)
  reading_for _ (without_format e) = by_heading FormatVersion (bad_format e)
  reading_for _ (with_int u) = by_heading IntPackage (uses_int u)
  reading_for _ (refused_part g of h) = part_for g of h

  pub read_before : (f : LoadFault) → package_of parts ≡ Err f → (g : LoadFault) → OfReading parts g → Before f g
  read_before f unread g h =
      let told = reading_for g h in
      let e = sym told.is ∙ its_fault f unread in
      let same : told.fault ≡ f = cc in
      subst (λ (x : LoadFault). Before x g) same told.before

  -- ---- nothing applies to components that are a package

  is_faultless : (found : Option LoadFault) → package_fault parts ≡ found → (p : Package)
      → refused found (components_of parts) ≡ Ok p → package_fault parts ≡ None
  is_faultless None none p e = none
  is_faultless (Some g) is p e = absurd cc

  pub never_read : (p : Package) → package_of parts ≡ Ok p → (g : LoadFault) → OfReading parts g → ⊥
  never_read p read g h =
      let told = reading_for g h in
      none-some told.fault (sym (is_faultless (package_fault parts) refl p read) ∙ told.is)
