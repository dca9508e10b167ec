-- What a package that was read is put together from.
use Rattle.std.proofs.Common.{◌≡◌, ℕ, List, Option, Some, None, true, Ok, refl, sym, ap, subst}
use Rattle.std.specs.List.{filter_map}
use Rattle.std.specs.Result.{result_ok}
use Rattle.jc_base.specs.Parts.{Infos}
use Rattle.jc_base.specs.Tag.{descriptor_tag}
use Rattle.jc_base.specs.declared.fault.LoadFault.{LoadFault}
use Rattle.jc_base.specs.declared.fault.LoadFault.TheVariants.{Malformed}
use Rattle.jc_base.specs.declared.placed_rows.Placed.{Placed}
use Rattle.jc_base.proofs.Binding.{bind_ok, guard_ok, the_ok, ok_err}
use Rattle.jc_cap.specs.ClassComponent as Class
use Rattle.jc_cap.specs.declared.record.Record.{Record}
use Rattle.jc_cap.specs.Applets.{applets_of}
use Rattle.jc_cap.specs.Exports.{exports_of}
use Rattle.jc_cap.specs.Imports.{imports_of}
use Rattle.jc_cap.specs.Statics.{static_fields_of}
use Rattle.jc_cap.specs.declared.applets.Applet.{Applet}
use Rattle.jc_cap.specs.Header.{Heading, header_of}
use Rattle.jc_cap.specs.MethodComponent.{MethodComponent, methods_of}
use Rattle.jc_cap.specs.Pool.{pool_of}
use Rattle.jc_cap_desc.proofs.Few.{Ascend, descriptor_is, layout_is, none_told, records_ascend}
use Rattle.jc_cap_desc.proofs.Tested.{IsTested, tested}
use Rattle.jc_cap_desc.proofs.Typing.{classes_typed}
use Rattle.jc_cap_desc.specs.Across.{class_methods}
use Rattle.jc_cap_desc.specs.Component as Descriptor
use Rattle.jc_cap_desc.specs.Package.{across_fault, layout_in, component_fault, package_fault}
use Rattle.jc_cap_desc.specs.Package.{components_of, package_of, refused}
use Rattle.jc_cap_desc.specs.Shape.{Package, body_of_method, class_shape}
use Rattle.jc_cap_desc.specs.Types.{classes_are_typed, descriptor_of, types_are_there}
use Rattle.jc_cap_desc.specs.declared.component.DescriptorInfo.{DescriptorInfo}

-- rows name types that are there
descriptor_typed : (info : List ℕ) (found : DescriptorInfo) → descriptor_of info ≡ Ok found
    → classes_are_typed found.types found.classes ≡ true
descriptor_typed info found e =
    let a = bind_ok (Descriptor.layout_of info) _ found e in
    let b = guard_ok (types_are_there a.0) (Ok a.0) (Malformed descriptor_tag) found a.2 in
    subst (λ (d : DescriptorInfo). classes_are_typed d.types d.classes ≡ true) (the_ok a.0 found b.1)
    (classes_typed a.0 b.0)

-- the parts that its classes and its methods with code are made of
pub record IsRead (infos : Infos) (p : Package) : Type 0 where
  pub heading : Heading
  pub applets : Option (List Applet)
  pub records : List (Placed Record)
  pub methods : MethodComponent
  pub info : DescriptorInfo
  pub is_heading : header_of infos.header ≡ Ok heading
  pub are_applets : applets_of infos.applet ≡ Ok applets
  pub are_records : Class.classes_of heading.format infos.class ≡ Ok records
  pub are_methods : methods_of infos.method ≡ Ok methods
  pub is_info : descriptor_of infos.descriptor ≡ Ok info
  pub typed : classes_are_typed info.types info.classes ≡ true
  pub its_applets : applets ≡ p.body.applets
  pub classes : filter_map (class_shape info methods) records ≡ p.shape.classes
  pub bodies : filter_map (body_of_method methods) (class_methods records info.classes) ≡ p.body.methods

is_read : (infos : Infos) (p : Package) → components_of infos ≡ Ok p → IsRead infos p
unfolding components_of
is_read infos p e =
    let a = bind_ok (header_of infos.header) _ p e in
    let b = bind_ok (applets_of infos.applet) _ p a.2 in
    let c = bind_ok (imports_of infos.imports) _ p b.2 in
    let d = bind_ok (pool_of infos.constant_pool) _ p c.2 in
    let f = bind_ok (Class.classes_of (a.0).format infos.class) _ p d.2 in
    let g = bind_ok (methods_of infos.method) _ p f.2 in
    let h = bind_ok (static_fields_of infos.static_field) _ p g.2 in
    let i = bind_ok (exports_of infos.export) _ p h.2 in
    let j = bind_ok (descriptor_of infos.descriptor) _ p i.2 in
    record {
      heading = a.0;
      applets = b.0;
      records = f.0;
      methods = g.0;
      info = j.0;
      is_heading = a.1;
      are_applets = b.1;
      are_records = f.1;
      are_methods = g.1;
      is_info = j.1;
      typed = descriptor_typed infos.descriptor j.0 j.1;
      its_applets = ap (λ (p : Package). p.body.applets) (the_ok _ p j.2);
      classes = ap (λ (p : Package). p.shape.classes) (the_ok _ p j.2);
      bodies = ap (λ (p : Package). p.body.methods) (the_ok _ p j.2);
    }

-- records ascend
pub ascends : (infos : Infos) (p : Package) (r : IsRead infos p) → Ascend 0 r.records
ascends infos p r =
    let layout = layout_is r.heading.format infos.class r.records r.are_records in
    records_ascend r.heading.format infos.class r.records layout

-- the parts pass the tests across them
is_tested : (infos : Infos) (p : Package) (r : IsRead infos p) → package_fault infos ≡ None
    → IsTested r.records r.info r.methods r.applets
is_tested infos p r fine =
    let heading = r.is_heading in
    let applets = r.are_applets in
    let records = layout_is r.heading.format infos.class r.records r.are_records in
    let methods = r.are_methods in
    let info = descriptor_is infos.descriptor r.info r.is_info in
    let pool = result_ok (pool_of infos.constant_pool) in
    let across : across_fault (result_ok (Descriptor.layout_of infos.descriptor))
    (layout_in (header_of infos.header) infos.class) pool (result_ok (applets_of infos.applet))
    (result_ok (methods_of infos.method)) ≡ None
    = (none_told (component_fault infos) _ fine).1 in
    tested r.info r.records pool r.applets r.methods (rw (info, heading, records, methods, applets) at across)

-- a package that was read, with the parts that it is made of
pub record IsFine (infos : Infos) (p : Package) : Type 0 where
  pub read : IsRead infos p
  pub tested : IsTested read.records read.info read.methods read.applets

pub read_of : (infos : Infos) (p : Package) → Ok p ≡ package_of infos → IsFine infos p
read_of infos p e = by_fault (package_fault infos) refl (sym e)
  where
    by_fault : (o : Option LoadFault) → package_fault infos ≡ o → refused o (components_of infos) ≡ Ok p
        → IsFine infos p
    by_fault None fine e = let r = is_read infos p e in record { read = r; tested = is_tested infos p r fine }
    by_fault (Some fault) is e = absurd (ok_err p fault (sym e))
