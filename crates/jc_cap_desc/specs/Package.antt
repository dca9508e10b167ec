-- A whole package, and which of its faults is reported (Java Card Virtual Machine Specification, CAP file format).
use Rattle.std.specs.Prelude.{ℕ, ◌==◌, Bool, List, length, Option, Some, None, Result, Ok, Err, ◌&&◌, if◌then◌else◌}
use Rattle.std.specs.List.{list_all}
use Rattle.std.specs.Result.{result_ok}
use Rattle.jc_base.specs.Fault.{least_of}
use Rattle.jc_base.specs.Parts.{Infos}
use Rattle.jc_base.specs.Results.{◌>>=◌}
use Rattle.jc_base.specs.Tag.{applet_tag, method_tag, descriptor_tag}
use Rattle.jc_base.specs.declared.fault.LoadFault.{LoadFault}
use Rattle.jc_base.specs.declared.fault.LoadFault.TheVariants.{Malformed}
use Rattle.jc_base.specs.declared.placed_rows.Placed.{Placed}
use Rattle.jc_cap.specs.ClassComponent as Class
use Rattle.jc_cap.specs.declared.record.Record.{Record}
use Rattle.jc_cap.specs.Applets.{applets_of}
use Rattle.jc_cap.specs.Exports.{exports_of}
use Rattle.jc_cap.specs.Imports.{imports_of}
use Rattle.jc_cap.specs.Statics.{static_fields_of}
use Rattle.jc_cap.specs.declared.applets.Applet.{Applet}
use Rattle.jc_cap.specs.Header.{Heading, header_of}
use Rattle.jc_cap.specs.MethodComponent.{MethodComponent, methods_of}
use Rattle.jc_cap.specs.Pool.{pool_of}
use Rattle.jc_cap.specs.declared.entry.PoolEntry.{PoolEntry}
use Rattle.jc_cap_desc.specs.Component as Descriptor
use Rattle.jc_cap_desc.specs.Types.{descriptor_of}
use Rattle.jc_cap_desc.specs.Across.{class_methods, rows_match, methods_differ, stands_inside, is_described}
use Rattle.jc_cap_desc.specs.Across.{applets_install}
use Rattle.jc_cap_desc.specs.Shape.{Package, shape_of, body_of}
use Rattle.jc_cap_desc.specs.declared.component.DescriptorInfo.{DescriptorInfo}

-- the fault of a read that failed
abbrev pub fault_of : {A : Type 0} → Result A LoadFault → Option LoadFault
fault_of (Ok x) = None
fault_of (Err fault) = Some fault

-- the fault of a component if a test finds it malformed
abbrev pub unless : Bool → ℕ → Option LoadFault
unless fine tag = if fine then None else Some (Malformed tag)

-- the one of two faults that is reported
abbrev pub told : Option LoadFault → Option LoadFault → Option LoadFault
told None b = b
told (Some a) None = Some a
told (Some a) (Some b) = Some (least_of a b)

-- the tests on methods, if the handler table of the Method component fits
abbrev pub methods_fault : List (Placed Record) → DescriptorInfo → Option MethodComponent → Option LoadFault
methods_fault records info None = None
methods_fault records info (Some methods) =
    told (unless (list_all (stands_inside methods) (class_methods records info.classes)) method_tag)
    (unless (list_all (is_described methods) (class_methods records info.classes)) descriptor_tag)

-- the test on applets, if there are any
abbrev pub applets_fault : List (Placed Record) → DescriptorInfo → Option (Option (List Applet)) → Option LoadFault
applets_fault records info None = None
applets_fault records info (Some None) = None
applets_fault records info (Some (Some applets)) =
    unless (applets_install records info.classes info.types applets) applet_tag

-- the tests with classes, if the Class component follows its layout
abbrev pub classes_fault : Option (List (Placed Record)) → DescriptorInfo → Option (Option (List Applet))
    → Option MethodComponent → Option LoadFault
classes_fault None info applets methods = None
classes_fault (Some records) info applets methods =
    told (applets_fault records info applets)
    (told (methods_fault records info methods)
    (unless (rows_match records info.classes && methods_differ records info.classes) descriptor_tag))

-- the test with the constant pool
abbrev pub pool_fault : Option (List PoolEntry) → DescriptorInfo → Option LoadFault
pool_fault None info = None
pool_fault (Some pool) info = unless (length pool == length info.pool_types) descriptor_tag

-- all tests across components, if the Descriptor component follows its layout
abbrev pub across_fault : Option DescriptorInfo → Option (List (Placed Record)) → Option (List PoolEntry)
    → Option (Option (List Applet)) → Option MethodComponent → Option LoadFault
across_fault None records pool applets methods = None
across_fault (Some info) records pool applets methods =
    told (pool_fault pool info) (classes_fault records info applets methods)

-- the records of the Class component, whose layout the Header's format selects
abbrev pub layout_in : Result Heading LoadFault → List ℕ → Option (List (Placed Record))
layout_in (Ok heading) info = result_ok (Class.layout_of heading.format info)
layout_in (Err fault) info = None

-- the fault of the Class component; none if the Header has a fault, which is reported first
abbrev pub class_fault : Result Heading LoadFault → List ℕ → Option LoadFault
class_fault (Ok heading) info = fault_of (Class.classes_of heading.format info)
class_fault (Err fault) info = None

-- the reported fault of single components
abbrev pub component_fault : Infos → Option LoadFault
component_fault infos =
    told (fault_of (header_of infos.header))
    (told (fault_of (applets_of infos.applet))
    (told (fault_of (imports_of infos.imports))
    (told (fault_of (pool_of infos.constant_pool))
    (told (class_fault (header_of infos.header) infos.class)
    (told (fault_of (methods_of infos.method))
    (told (fault_of (static_fields_of infos.static_field))
    (told (fault_of (exports_of infos.export))
    (fault_of (descriptor_of infos.descriptor)))))))))

-- the reported fault
abbrev pub package_fault : Infos → Option LoadFault
package_fault infos =
    told (component_fault infos)
    (across_fault (result_ok (Descriptor.layout_of infos.descriptor)) (layout_in (header_of infos.header) infos.class)
    (result_ok (pool_of infos.constant_pool))
    (result_ok (applets_of infos.applet)) (result_ok (methods_of infos.method)))

-- all components, each as it is read alone
unfoldable pub components_of : Infos → Result Package LoadFault
components_of infos = do
  heading ← header_of infos.header
  applets ← applets_of infos.applet
  imports ← imports_of infos.imports
  pool ← pool_of infos.constant_pool
  records ← Class.classes_of heading.format infos.class
  methods ← methods_of infos.method
  statics ← static_fields_of infos.static_field
  exports ← exports_of infos.export
  info ← descriptor_of infos.descriptor
  Ok (record {
    shape = shape_of heading.«package» imports exports records info methods;
    body = body_of heading.name applets pool statics records info methods;
  })

-- the reported fault, or else the package
abbrev pub refused : Option LoadFault → Result Package LoadFault → Result Package LoadFault
refused None found = found
refused (Some fault) found = Err fault

-- the package of an image with these infos, or its refusal
abbrev pub package_of : Infos → Result Package LoadFault
package_of infos = refused (package_fault infos) (components_of infos)
