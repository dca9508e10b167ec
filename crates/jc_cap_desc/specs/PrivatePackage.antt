-- Private. The components as they are read, each once, in the order of the code: the Class and the Descriptor component
-- by their layouts, and apart from that the tests after these layouts.
use Rattle.std.specs.Prelude.{◌≡◌, ℕ, ◌≤◌, true, List, length, Option, Some, None, Result, Ok, Err, IfOk}
use Rattle.std.specs.Result.{result_ok}
use Rattle.jc_base.specs.Parts.{Infos}
use Rattle.jc_base.specs.Results.{◌>>=◌}
use Rattle.jc_base.specs.Tag.{class_tag, descriptor_tag}
use Rattle.jc_base.specs.declared.fault.LoadFault.{LoadFault}
use Rattle.jc_base.specs.declared.placed_rows.Placed.{Placed}
use Rattle.jc_cap.specs.ClassComponent as Class
use Rattle.jc_cap.specs.declared.record.Record.{Record}
use Rattle.jc_cap.specs.Applets.{applets_of}
use Rattle.jc_cap.specs.Exports.{exports_of}
use Rattle.jc_cap.specs.Imports.{imports_of}
use Rattle.jc_cap.specs.Statics.{static_fields_of}
use Rattle.jc_cap.specs.Header.{Heading, header_of}
use Rattle.jc_cap.specs.MethodComponent.{methods_of}
use Rattle.jc_cap.specs.Pool.{pool_of}
use Rattle.jc_cap_desc.specs.Component as Descriptor
use Rattle.jc_cap_desc.specs.Types.{classes_are_typed, types_are_there}
use Rattle.jc_cap_desc.specs.Shape.{Package, shape_of, body_of}
use Rattle.jc_cap_desc.specs.Package.{across_fault, fault_of, told, unless}
use Rattle.jc_cap_desc.specs.PrivateRecordRows.{each_has_row}
use Rattle.jc_cap_desc.specs.PrivateTypes.{IndexesTypes}
use Rattle.jc_cap_desc.specs.declared.component.DescriptorInfo.{DescriptorInfo}
use Rattle.jc_cap_desc.specs.declared.package.Components.{Components}
use Rattle.jc_cap_desc.specs.declared.type_index.TypeIndex.{TypeIndex}

abbrev pub records_in : Result Heading LoadFault → List ℕ → Result (List (Placed Record)) LoadFault
records_in (Ok heading) info = Class.layout_of heading.format info
records_in (Err fault) info = Err fault

abbrev pub components_in : Infos → Components
components_in infos = record {
  header = header_of infos.header;
  applets = applets_of infos.applet;
  imports = imports_of infos.imports;
  pool = pool_of infos.constant_pool;
  records = records_in (header_of infos.header) infos.class;
  methods = methods_of infos.method;
  statics = static_fields_of infos.static_field;
  exports = exports_of infos.export;
  descriptor = Descriptor.layout_of infos.descriptor;
}

abbrev pub records_fault : Result (List (Placed Record)) LoadFault → Option LoadFault
records_fault (Ok records) = unless (Class.none_remote records) class_tag
records_fault (Err fault) = Some fault

abbrev pub class_fault_in : Result Heading LoadFault → Result (List (Placed Record)) LoadFault → Option LoadFault
class_fault_in (Ok heading) records = records_fault records
class_fault_in (Err fault) records = None

abbrev pub descriptor_fault : Result DescriptorInfo LoadFault → Option LoadFault
descriptor_fault (Ok info) = unless (types_are_there info) descriptor_tag
descriptor_fault (Err fault) = Some fault

abbrev pub component_fault_in : Components → Option LoadFault
component_fault_in found =
    told (fault_of found.header)
    (told (fault_of found.applets)
    (told (fault_of found.imports)
    (told (fault_of found.pool)
    (told (class_fault_in found.header found.records)
    (told (fault_of found.methods)
    (told (fault_of found.statics)
    (told (fault_of found.exports)
    (descriptor_fault found.descriptor))))))))

abbrev pub package_fault_in : Components → Option LoadFault
package_fault_in found =
    told (component_fault_in found)
    (across_fault (result_ok found.descriptor) (result_ok found.records) (result_ok found.pool)
    (result_ok found.applets) (result_ok found.methods))

unfoldable pub joined : Components → Result Package LoadFault
joined found = do
  heading ← found.header
  applets ← found.applets
  imports ← found.imports
  pool ← found.pool
  records ← found.records
  methods ← found.methods
  statics ← found.statics
  exports ← found.exports
  info ← found.descriptor
  Ok (record {
    shape = shape_of heading.«package» imports exports records info methods;
    body = body_of heading.name applets pool statics records info methods;
  })

-- at most 255 rows of classes, and at most 255 records if both were read
abbrev pub HasFewRows : Components → Type 0
HasFewRows found = IfOk found.descriptor (λ info. length info.classes ≤ 255)

abbrev pub HasFewRecords : Components → Type 0
HasFewRecords found = IfOk found.records (λ records. IfOk found.descriptor (λ info. length records ≤ 255))

-- at most 255 imports
abbrev pub HasFewImports : Components → Type 0
HasFewImports found = IfOk found.imports (λ imports. length imports ≤ 255)

-- the types of the fields and methods of classes exist
abbrev pub HasTypes : Components → Type 0
HasTypes found = IfOk found.descriptor (λ info. classes_are_typed info.types info.classes ≡ true)

-- each record has exactly one row, if both were read
abbrev pub HasEachRow : Components → Type 0
HasEachRow found =
    IfOk found.records (λ records. IfOk found.descriptor (λ info. each_has_row records info.classes ≡ true))

-- an index of the type descriptors, if the layout was read
abbrev pub IsIndexOf : TypeIndex → Result DescriptorInfo LoadFault → Type 0
IsIndexOf index layout = IfOk layout (λ info. IndexesTypes index info.types)
