-- A package in two halves: its shape, which look-ups, subtypes and types of members use, and its body, from which its
-- methods are built.
use Rattle.std.specs.Prelude.{◌≡◌, ℕ, suc, ◌^◌, ◌<◌, ◌==◌, Bool, true, false, List, map, take, Option, Some, None}
use Rattle.std.specs.Prelude.{is_some, slice_get, if◌then◌else◌}
use Rattle.std.specs.List.{filter_map, find}
use Rattle.std.specs.Option.{option_map, option_and_then}
use Rattle.jc_base.specs.PlacedRows.{row_at}
use Rattle.jc_base.specs.Rows.{part}
use Rattle.jc_base.specs.Signature.{Signature}
use Rattle.jc_base.specs.declared.class_ref.ClassRef.{ClassRef}
use Rattle.jc_base.specs.declared.declared_type.DeclaredType.{DeclaredType}
use Rattle.jc_base.specs.declared.package_info.PackageInfo.{PackageInfo}
use Rattle.jc_base.specs.declared.placed_rows.Placed.{Placed}
use Rattle.jc_cap.specs.ClassComponent.{is_class}
use Rattle.jc_cap.specs.declared.record.Record.{Record}
use Rattle.jc_cap.specs.declared.record.RecordBody.{RecordBody}
use Rattle.jc_cap.specs.Statics.{StaticImage}
use Rattle.jc_cap.specs.declared.applets.Applet.{Applet}
use Rattle.jc_cap.specs.declared.exports.ExportedClass.{ExportedClass}
use Rattle.jc_cap.specs.MethodComponent.{MethodComponent, method_at, header_at}
use Rattle.jc_cap.specs.declared.handler.Handler.{Handler}
use Rattle.jc_cap.specs.declared.method_header.MethodHeader.{MethodHeader}
use Rattle.jc_cap.specs.declared.entry.PoolEntry.{PoolEntry}
use Rattle.jc_cap_desc.specs.Types.{type_of_field, no_type}
use Rattle.jc_cap_desc.specs.Across.{class_methods, has_code, is_install_signature, is_row_of}
use Rattle.jc_cap_desc.specs.declared.class_row.ClassRow.{ClassRow}
use Rattle.jc_cap_desc.specs.declared.class_row.FieldPlace.{FieldPlace}
use Rattle.jc_cap_desc.specs.declared.class_row.FieldRow.{FieldRow}
use Rattle.jc_cap_desc.specs.declared.class_row.MethodRow.{MethodRow}
use Rattle.jc_cap_desc.specs.declared.component.DescriptorInfo.{DescriptorInfo}

-- a field: its place and its type
pub record FieldShape : Type 0 where
  pub place : FieldPlace
  pub type : DeclaredType ClassRef

-- a method: its token, which is used in an interface; its offset and its header, which are used in a class; and its
-- signature
pub record MethodShape : Type 0 where
  pub token : ℕ
  pub is_static : Bool
  pub offset : ℕ
  pub header : Option MethodHeader
  pub signature : Signature ClassRef

-- a class or an interface at its offset: its record joined with its row
pub record ClassShape : Type 0 where
  pub offset : ℕ
  pub body : RecordBody
  pub is_abstract : Bool
  pub fields : List FieldShape
  pub methods : List MethodShape

-- the shape of a package: its AID and version, its imports and exports by their tokens, and its classes in the order of
-- their records
pub record Shape : Type 0 where
  pub «package» : PackageInfo
  pub imports : List PackageInfo
  pub exports : List ExportedClass
  pub classes : List ClassShape

-- each method of a class has its header
abbrev pub HaveHeaders : Shape → Type 0
HaveHeaders shape =
    (n i : ℕ) (k : ClassShape) (m : MethodShape) → slice_get shape.classes n ≡ Some k → is_class k.body ≡ true
    → slice_get k.methods i ≡ Some m → is_some m.header ≡ true

-- a method with code: the method's offset, the offset of its first byte of code, its code, and its handlers
pub record MethodBody : Type 0 where
  pub offset : ℕ
  pub code_offset : ℕ
  pub code : List ℕ
  pub handlers : List Handler

-- methods with code have different offsets, and each begins within the 65,535 bytes that a component may have
pub record StandApart (methods : List MethodBody) : Type 0 where
  pub differ : (n k : ℕ) (b c : MethodBody) → slice_get methods n ≡ Some b → slice_get methods k ≡ Some c
      → b.offset ≡ c.offset → n ≡ k
  pub within : (n : ℕ) (b : MethodBody) → slice_get methods n ≡ Some b → suc b.offset < 2 ^ 16

-- the body of a package: its name; its applets, or none if it is a library; its constant pool, with the types of
-- entries; its static fields; and its methods with code
pub record Body : Type 0 where
  pub name : List ℕ
  pub applets : Option (List Applet)
  pub pool : List PoolEntry
  pub pool_types : List (Option (Signature ClassRef))
  pub statics : StaticImage
  pub methods : List MethodBody

-- a package
pub record Package : Type 0 where
  pub shape : Shape
  pub body : Body

-- a method of a class, and its place in the shape. An interface's methods have neither header nor code
pub record IsOfClass (shape : Shape) (m : MethodShape) : Type 0 where
  pub class : ClassShape
  pub class_place : ℕ
  pub class_there : slice_get shape.classes class_place ≡ Some class
  pub class_is : is_class class.body ≡ true
  pub place : ℕ
  pub there : slice_get class.methods place ≡ Some m

-- a method whose header isn't an abstract method's
pub record IsConcrete (m : MethodShape) : Type 0 where
  pub header : MethodHeader
  pub there : m.header ≡ Some header
  pub concrete : header.is_abstract ≡ false

-- a method of a class that isn't abstract stands at an offset
pub record HasConcrete (shape : Shape) (offset : ℕ) : Type 0 where
  pub method : MethodShape
  pub of_class : IsOfClass shape method
  pub offset_is : method.offset ≡ offset
  pub concrete : IsConcrete method

-- the method at an offset has code
pub record HasBody (methods : List MethodBody) (offset : ℕ) : Type 0 where
  pub body : MethodBody
  pub place : ℕ
  pub there : slice_get methods place ≡ Some body
  pub offset_is : body.offset ≡ offset

-- a package's declarations match its code: each method with code is declared by a class and isn't abstract; each method
-- of a class that isn't abstract has code; and two methods of classes at one offset are equal
pub record HaveBodies (p : Package) : Type 0 where
  pub declared : (n : ℕ) (b : MethodBody) → slice_get p.body.methods n ≡ Some b → HasConcrete p.shape b.offset
  pub coded : (m : MethodShape) → IsOfClass p.shape m → IsConcrete m → HasBody p.body.methods m.offset
  pub differ : (m n : MethodShape) → IsOfClass p.shape m → IsOfClass p.shape n → m.offset ≡ n.offset → m ≡ n

-- a static method of a class, with code and the signature of an install method, stands at an offset
pub record HasInstallMethod (p : Package) (offset : ℕ) : Type 0 where
  pub method : MethodShape
  pub of_class : IsOfClass p.shape method
  pub offset_is : method.offset ≡ offset
  pub static : method.is_static ≡ true
  pub installs : is_install_signature method.signature ≡ true
  pub coded : HasBody p.body.methods offset

-- each applet names an install method
abbrev pub InstallMethods : Package → Type 0
InstallMethods p = (applets : List Applet) (n : ℕ) (a : Applet) → p.body.applets ≡ Some applets
    → slice_get applets n ≡ Some a → HasInstallMethod p a.install

-- a field's row, if its type exists
abbrev pub field_shape : List (Placed (Signature ClassRef)) → FieldRow → Option FieldShape
field_shape types f = option_map (λ type. record { place = f.place; type = type }) (type_of_field types f.stated)

-- a method's row, if its type exists
abbrev pub method_shape : List (Placed (Signature ClassRef)) → (ℕ → Option MethodHeader) → MethodRow
    → Option MethodShape
method_shape types header m =
    option_map (λ signature. record {
      token = m.token;
      is_static = m.is_static;
      offset = m.offset;
      header = header m.offset;
      signature = signature;
    })
    (row_at m.type_offset types)

-- the headers of a class's methods; an interface's have none
abbrev pub headers_of : MethodComponent → RecordBody → ℕ → Option MethodHeader
headers_of methods body offset = if is_class body then header_at offset methods else None

-- a record joined with its row
abbrev pub joined : List (Placed (Signature ClassRef)) → MethodComponent → Placed Record → ClassRow → ClassShape
joined types methods p row = record {
  offset = p.offset;
  body = p.row.body;
  is_abstract = row.is_abstract;
  fields = filter_map (field_shape types) row.fields;
  methods = filter_map (method_shape types (headers_of methods p.row.body)) row.methods;
}

-- a record, if it has a row
abbrev pub class_shape : DescriptorInfo → MethodComponent → Placed Record → Option ClassShape
class_shape info methods p = option_map (joined info.types methods p) (find (is_row_of p.offset) info.classes)

-- the shape. In a package that is read each record has a row and each row's types exist, so nothing is left out
abbrev pub shape_of : PackageInfo → List PackageInfo → List ExportedClass → List (Placed Record) → DescriptorInfo
    → MethodComponent → Shape
shape_of named imports exports records info methods = record {
  «package» = named;
  imports = imports;
  exports = exports;
  classes = filter_map (class_shape info methods) records;
}

-- the code and the handlers of a method of a class, if it has code
abbrev pub body_of_method : MethodComponent → MethodRow → Option MethodBody
body_of_method methods m =
    if has_code m
    then option_and_then (λ found. option_map (λ handlers. record {
      offset = m.offset;
      code_offset = found.code_offset;
      code = take m.bytecode_count found.code;
      handlers = handlers;
    })
    (part m.handler_index m.handler_count methods.handlers)) (method_at m.offset methods)
    else None

-- the type of a pool entry, if it has one
abbrev pub pool_type : List (Placed (Signature ClassRef)) → ℕ → Option (Signature ClassRef)
pool_type types offset = if offset == no_type then None else row_at offset types

-- the body
abbrev pub body_of : List ℕ → Option (List Applet) → List PoolEntry → StaticImage → List (Placed Record)
    → DescriptorInfo → MethodComponent → Body
body_of name applets pool statics records info methods = record {
  name = name;
  applets = applets;
  pool = pool;
  pool_types = map (pool_type info.types) info.pool_types;
  statics = statics;
  methods = filter_map (body_of_method methods) (class_methods records info.classes);
}
