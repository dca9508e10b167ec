-- All layouts, read before any fault is told, are the components that are read one behind the other, where the tests
-- behind these layouts find nothing.
use Rattle.std.proofs.Common.{◌≡◌, ℕ, List, Bool, true, false, cond, Option, Some, None, Result, Ok, Err, IfOk, refl}
use Rattle.std.proofs.Common.{sym, ap, subst, ◌∙◌}
use Rattle.std.specs.Result.{result_ok}
use Rattle.jc_base.specs.Parts.{Infos}
use Rattle.jc_base.specs.Results.{◌>>=◌}
use Rattle.jc_base.specs.Tag.{class_tag, descriptor_tag}
use Rattle.jc_base.specs.declared.fault.LoadFault.{LoadFault}
use Rattle.jc_base.specs.declared.fault.LoadFault.TheVariants.{Malformed}
use Rattle.jc_base.specs.declared.placed_rows.Placed.{Placed}
use Rattle.jc_cap.specs.ClassComponent as Class
use Rattle.jc_cap.specs.declared.record.Record.{Record}
use Rattle.jc_cap.specs.Applets.{applets_of}
use Rattle.jc_cap.specs.Exports.{exports_of}
use Rattle.jc_cap.specs.Imports.{imports_of}
use Rattle.jc_cap.specs.Statics.{static_fields_of}
use Rattle.jc_cap.specs.Header.{Heading, header_of}
use Rattle.jc_cap.specs.MethodComponent.{methods_of}
use Rattle.jc_cap.specs.Pool.{pool_of}
use Rattle.jc_cap_desc.proofs.Few.{few_in, none_told, rows_in}
use Rattle.jc_cap_desc.proofs.Typing.{classes_typed}
use Rattle.jc_cap_desc.specs.Component as Descriptor
use Rattle.jc_cap_desc.specs.Package.{class_fault, component_fault, components_of, fault_of, layout_in}
use Rattle.jc_cap_desc.specs.Package.{package_fault, package_of, refused, told, unless}
use Rattle.jc_cap_desc.specs.PrivatePackage.{HasEachRow, HasFewRecords, HasFewRows, HasTypes, class_fault_in}
use Rattle.jc_cap_desc.specs.PrivatePackage.{components_in, descriptor_fault, joined, package_fault_in, records_fault}
use Rattle.jc_cap_desc.specs.PrivatePackage.{records_in}
use Rattle.jc_cap_desc.specs.Types.{classes_are_typed, descriptor_of, types_are_there}
use Rattle.jc_cap_desc.specs.declared.component.DescriptorInfo.{DescriptorInfo}
use Rattle.jc_cap_desc.specs.declared.package.Components.{Components}

-- ---- a layout, and the test behind it

-- what is read where a layout passes a test
abbrev tested : {A : Type 0} → (A → Bool) → ℕ → Result A LoadFault → Result A LoadFault
tested test tag read = read >>= λ x. cond (test x) (Ok x) (Err (Malformed tag))

-- the fault of the layout, or of the test
abbrev layout_fault : {A : Type 0} → (A → Bool) → ℕ → Result A LoadFault → Option LoadFault
layout_fault test tag (Ok x) = unless (test x) tag
layout_fault test tag (Err fault) = Some fault

tested_fault : {A : Type 0} (test : A → Bool) (tag : ℕ) (r : Result A LoadFault)
    → layout_fault test tag r ≡ fault_of (tested test tag r)
tested_fault test tag (Err fault) = refl
tested_fault {A = A} test tag (Ok x) = by_test (test x)
  where
    by_test : (b : Bool) → unless b tag ≡ fault_of {A = A} (cond b (Ok x) (Err (Malformed tag)))
    by_test true = refl
    by_test false = refl

-- where nothing is told it is the layout
tested_is : {A : Type 0} (test : A → Bool) (tag : ℕ) (r : Result A LoadFault) → fault_of (tested test tag r) ≡ None
    → tested test tag r ≡ r
tested_is test tag (Err fault) e = refl
tested_is {A = A} test tag (Ok x) e = by_test (test x) e
  where
    by_test : (b : Bool) → fault_of {A = A} (cond b (Ok x) (Err (Malformed tag))) ≡ None
        → ◌≡◌ {A = Result A LoadFault} (cond b (Ok x) (Err (Malformed tag))) (Ok x)
    by_test true e = refl
    by_test false e = absurd cc

-- and it passes
passes : {A : Type 0} (test : A → Bool) (tag : ℕ) (r : Result A LoadFault) → fault_of (tested test tag r) ≡ None
    → IfOk r (λ x. test x ≡ true)
passes test tag (Err fault) e = tt
passes {A = A} test tag (Ok x) e = by_test (test x) e
  where
    by_test : (b : Bool) → fault_of {A = A} (cond b (Ok x) (Err (Malformed tag))) ≡ None → b ≡ true
    by_test true e = refl
    by_test false e = absurd cc

-- ---- the fault that is told

records_tested : (r : Result (List (Placed Record)) LoadFault)
    → records_fault r ≡ fault_of (tested Class.none_remote class_tag r)
records_tested (Ok records) = tested_fault Class.none_remote class_tag (Ok records)
records_tested (Err fault) = refl

info_tested : (r : Result DescriptorInfo LoadFault)
    → descriptor_fault r ≡ fault_of (tested types_are_there descriptor_tag r)
info_tested (Ok info) = tested_fault types_are_there descriptor_tag (Ok info)
info_tested (Err fault) = refl

same_class : (h : Result Heading LoadFault) (info : List ℕ) → class_fault_in h (records_in h info) ≡ class_fault h info
same_class (Ok heading) info = records_tested (Class.layout_of heading.format info)
same_class (Err fault) info = refl

same_layout : (h : Result Heading LoadFault) (info : List ℕ) → result_ok (records_in h info) ≡ layout_in h info
same_layout (Ok heading) info = refl
same_layout (Err fault) info = refl

same_fault : (infos : Infos) → package_fault_in (components_in infos) ≡ package_fault infos
same_fault infos =
    rw (
      same_class (header_of infos.header) infos.class,
      same_layout (header_of infos.header) infos.class,
      info_tested (Descriptor.layout_of infos.descriptor),
    ) refl

-- ---- where none is told

record AreFine (infos : Infos) : Type 0 where
  class : class_fault (header_of infos.header) infos.class ≡ None
  info : fault_of (descriptor_of infos.descriptor) ≡ None

are_fine : (infos : Infos) → package_fault infos ≡ None → AreFine infos
are_fine infos fine =
    let a = none_told (fault_of (header_of infos.header)) _ (none_told (component_fault infos) _ fine).0 in
    let b = none_told (fault_of (applets_of infos.applet)) _ a.1 in
    let c = none_told (fault_of (imports_of infos.imports)) _ b.1 in
    let d = none_told (fault_of (pool_of infos.constant_pool)) _ c.1 in
    let f = none_told (class_fault (header_of infos.header) infos.class) _ d.1 in
    let g = none_told (fault_of (methods_of infos.method)) _ f.1 in
    let h = none_told (fault_of (static_fields_of infos.static_field)) _ g.1 in
    let i = none_told (fault_of (exports_of infos.export)) _ h.1 in
    record { class = f.0; info = i.1 }

joined_is : (infos : Infos) → AreFine infos → joined (components_in infos) ≡ components_of infos
unfolding joined components_of
joined_is infos fine = by_header (header_of infos.header) refl
  where
    by_header : (h : Result Heading LoadFault) → header_of infos.header ≡ h
        → joined (components_in infos) ≡ components_of infos
    by_header (Ok heading) e =
        let of_class : fault_of (Class.classes_of heading.format infos.class) ≡ None
        = ap (λ h. class_fault h infos.class) (sym e) ∙ fine.class in
        let records : Class.classes_of heading.format infos.class ≡ Class.layout_of heading.format infos.class
        = tested_is Class.none_remote class_tag (Class.layout_of heading.format infos.class) of_class in
        let info : descriptor_of infos.descriptor ≡ Descriptor.layout_of infos.descriptor
        = tested_is types_are_there descriptor_tag (Descriptor.layout_of infos.descriptor) fine.info in
        rw (e, records, info) refl
    by_header (Err fault) e = rw e refl

typed_in : (infos : Infos) → AreFine infos → HasTypes (components_in infos)
typed_in infos fine =
    by_layout (Descriptor.layout_of infos.descriptor)
    (passes types_are_there descriptor_tag (Descriptor.layout_of infos.descriptor) fine.info)
  where
    by_layout : (r : Result DescriptorInfo LoadFault) → IfOk r (λ info. types_are_there info ≡ true)
        → IfOk r (λ info. classes_are_typed info.types info.classes ≡ true)
    by_layout (Ok info) there = classes_typed info there
    by_layout (Err fault) there = tt

-- what was read is the package that is to be read, where no fault is told
pub record IsJoined (infos : Infos) (found : Components) : Type 0 where
  pub few : HasFewRecords found
  pub typed : HasTypes found
  pub rows : HasEachRow found
  pub read : joined found ≡ package_of infos

pub all_read : (infos : Infos) (found : Components) (fault : Option LoadFault) → found ≡ components_in infos
    → HasFewRows found → fault ≡ package_fault_in found → fault ≡ None → IsJoined infos found
all_read infos found fault are few is none =
    let fine = sym (same_fault infos) ∙ ap package_fault_in (sym are) ∙ sym is ∙ none in
    let parts = are_fine infos fine in
    let few_rows : HasFewRows (components_in infos) = subst HasFewRows are few in
    let made : IsJoined infos (components_in infos) = record {
      few = few_in infos few_rows fine;
      typed = typed_in infos parts;
      rows = rows_in infos fine;
      read = joined_is infos parts ∙ ap (λ o. refused o (components_of infos)) (sym fine);
    } in
    subst (IsJoined infos) (sym are) made

pub refusal : (infos : Infos) (found : Components) (told : Option LoadFault) (fault : LoadFault)
    → found ≡ components_in infos → told ≡ package_fault_in found → told ≡ Some fault
    → Err fault ≡ package_of infos
refusal infos found told fault are is some =
    let telling = sym (same_fault infos) ∙ ap package_fault_in (sym are) ∙ sym is ∙ some in
    ap (λ o. refused o (components_of infos)) (sym telling)
