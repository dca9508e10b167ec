-- A package that was read has all classes, fields, methods and code of its components (Java Card Virtual Machine
-- Specification, CAP file format: Class component; Descriptor component; Method component).
use Rattle.std.specs.Prelude.{◌≡◌, ◌≤◌, ℕ, true, List, length, map, Option, Some, Ok, slice_get}
use Rattle.std.specs.List.{filter, find}
use Rattle.jc_base.specs.Parts.{Infos}
use Rattle.jc_base.specs.declared.placed_rows.Placed.{Placed}
use Rattle.jc_cap.specs.ClassComponent.{classes_of}
use Rattle.jc_cap.specs.declared.record.Record.{Record}
use Rattle.jc_cap.specs.Header.{Heading, header_of}
use Rattle.jc_cap.specs.MethodComponent.{MethodComponent, methods_of}
use Rattle.jc_cap_desc.specs.Across.{class_methods, has_code, is_row_of, rows_match}
use Rattle.jc_cap_desc.specs.Shape.{ClassShape, Package, body_of_method, class_shape, field_shape, headers_of}
use Rattle.jc_cap_desc.specs.Shape.{method_shape}
use Rattle.jc_cap_desc.specs.Types.{descriptor_of}
use Rattle.jc_cap_desc.specs.declared.class_row.ClassRow.{ClassRow}
use Rattle.jc_cap_desc.specs.declared.component.DescriptorInfo.{DescriptorInfo}

-- f gives a result for each element, and these are the others, in order
abbrev pub AllGive : {A B : Type 0} → (A → Option B) → List A → List B → Type 0
AllGive f xs ys = map f xs ≡ map Some ys

-- a class has each field and each method of its record's row
pub record HasWholeRow (info : DescriptorInfo) (bodies : MethodComponent) (r : Placed Record) (k : ClassShape)
    : Type 0 where
  pub row : ClassRow
  pub its : find (is_row_of r.offset) info.classes ≡ Some row
  pub fields : AllGive (field_shape info.types) row.fields k.fields
  pub methods : AllGive (method_shape info.types (headers_of bodies r.row.body)) row.methods k.methods

-- each record has exactly one row, and each row names a record; each record is a class of the package, which has all of
-- its row; and each method of a class with code is a body of the package
pub record IsWhole (records : List (Placed Record)) (info : DescriptorInfo) (methods : MethodComponent)
    (p : Package) : Type 0 where
  pub matched : rows_match records info.classes ≡ true
  pub classes : AllGive (class_shape info methods) records p.shape.classes
  pub rows : (n : ℕ) (r : Placed Record) (k : ClassShape) → slice_get records n ≡ Some r
      → slice_get p.shape.classes n ≡ Some k → HasWholeRow info methods r k
  pub bodies : AllGive (body_of_method methods) (filter has_code (class_methods records info.classes)) p.body.methods

-- the package has all of the records, the rows and the methods of an image
pub record HasWholeOf (infos : Infos) (p : Package) : Type 0 where
  pub heading : Heading
  pub records : List (Placed Record)
  pub info : DescriptorInfo
  pub methods : MethodComponent
  pub is_heading : header_of infos.header ≡ Ok heading
  pub are_records : classes_of heading.format infos.class ≡ Ok records
  pub is_info : descriptor_of infos.descriptor ≡ Ok info
  pub are_methods : methods_of infos.method ≡ Ok methods
  pub whole : IsWhole records info methods p

-- a package has no more classes than its Descriptor has rows of classes
pub record HasRows (infos : Infos) (p : Package) : Type 0 where
  pub info : DescriptorInfo
  pub its_info : descriptor_of infos.descriptor ≡ Ok info
  pub few : length p.shape.classes ≤ length info.classes
