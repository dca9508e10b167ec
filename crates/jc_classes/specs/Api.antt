-- The packages of the API as shapes, with a binding (Java Card API Specification; Java Card Virtual Machine
-- Specification, Binary Compatibility: Token-based linking). The offset of a class is its number, and that of a method
-- its member's number.
use Rattle.std.specs.Prelude.{ℕ, ◌+◌, ◌==◌, ◌&&◌, Bool, true, false, not, List, [], ◌∷◌, length, Option, Some, None}
use Rattle.std.specs.Prelude.{unwrap_or, if◌then◌else◌, map, max}
use Rattle.std.specs.List.{filter_map, find, range_with_len}
use Rattle.std.specs.Option.{option_map, option_and_then}
use Rattle.jc_api.specs.Class.{last_class}
use Rattle.jc_api.specs.Member.{last_member}
use Rattle.jc_base.specs.Signature.{signature_map}
use Rattle.jc_base.specs.declared.class_ref.ClassRef.{ClassRef}
use Rattle.jc_base.specs.declared.class_ref.ClassRef.TheVariants.{Internal, External}
use Rattle.jc_base.specs.declared.package_info.PackageInfo.{PackageInfo}
use Rattle.jc_cap.specs.declared.record.RecordBody.{RecordBody}
use Rattle.jc_cap.specs.declared.record.RecordBody.TheVariants as Record
use Rattle.jc_cap.specs.declared.record.VirtualTable.{VirtualTable}
use Rattle.jc_cap.specs.declared.exports.ExportedClass.{ExportedClass}
use Rattle.jc_cap_desc.specs.Shape.{ClassShape, MethodShape, Shape}
use Rattle.jc_api.specs.Bound.{Bound, package_in}
use Rattle.jc_api.specs.Class.{class_of, is_abstract, is_interface, number_of, package_of, size_of, superclass_of}
use Rattle.jc_api.specs.Member.{ApiMember, member_of}
use Rattle.jc_api.specs.Numbered.{numbered}
use Rattle.jc_api.specs.Token.{is_at_or_above, is_same_class, is_same_package, is_virtual}
use Rattle.jc_api.specs.declared.class.ApiClass.{ApiClass}
use Rattle.jc_api.specs.declared.class.ApiPackage.{ApiPackage}
use Rattle.jc_api.specs.declared.class.ApiPackage.TheVariants.{Lang, Framework}
use Rattle.jc_api.specs.declared.member.MemberKind.{MemberKind}
use Rattle.jc_api.specs.declared.member.MemberKind.TheVariants.{Constructor, Static, Virtual}
use Rattle.jc_classes.specs.Methods.{declared_above}
use Rattle.jc_classes.specs.declared.api.Tokens.{Tokens}
use Rattle.jc_classes.specs.declared.api.Tokens.TheVariants as Of

-- the values of f at 1 to `last`, in order, without those that are missing
unfoldable pub those_to : {A : Type 0} → ℕ → (ℕ → Option A) → List A
those_to last f = filter_map f (range_with_len 1 last)

-- the values of f at each token below `room`, in order
unfoldable pub each_below : {A : Type 0} → ℕ → (ℕ → A) → List A
each_below room f = map f (range_with_len 0 room)

-- one more than the greatest of these tokens, or 0 if there are none
abbrev pub room_for : List ℕ → ℕ
room_for [] = 0
room_for (token ∷ tokens) = max (token + 1) (room_for tokens)

-- the room for the tokens of the numbers from 1 to `last`
unfoldable pub room_to : ℕ → (ℕ → Option ℕ) → ℕ
room_to last tokens = room_for (filter_map tokens (range_with_len 1 last))

-- the first number from 1 to `last` that has a token
abbrev pub is_token : ℕ → Option ℕ → Bool
is_token token None = false
is_token token (Some found) = found == token

unfoldable pub number_to : ℕ → (ℕ → Option ℕ) → ℕ → Option ℕ
number_to last tokens token = find (λ number. is_token token (tokens number)) (range_with_len 1 last)

-- the token of the member with a number, if the member counts
abbrev pub member_token : (ApiMember → Bool) → Bound → ℕ → Option ℕ
member_token counts bound number =
    option_and_then (λ m. if counts m then numbered bound.members number else None) (member_of number)

-- the token of a number: of a class of a package; of a virtual method of a class or of a superclass of it; of a virtual
-- method of a class itself; of a constructor or static method of a class
abbrev pub token_in : Bound → Tokens → ℕ → Option ℕ
token_in bound (Of.Classes which) number =
    option_and_then (λ c. if is_same_package (package_of c) which then numbered bound.classes number else None)
    (class_of number)
token_in bound (Of.Inherited class) number =
    member_token (λ m. is_virtual m.kind && is_at_or_above m.class class) bound number
token_in bound (Of.Declared class) number =
    member_token (λ m. is_virtual m.kind && is_same_class m.class class) bound number
token_in bound (Of.Called class) number =
    member_token (λ m. not (is_virtual m.kind) && is_same_class m.class class) bound number

-- one more than the greatest of these tokens, and the number with a token; no class has a number above the last
-- member's
abbrev pub room_of : Bound → Tokens → ℕ
room_of bound tokens = room_to last_member (token_in bound tokens)

abbrev pub number_with : Bound → Tokens → ℕ → Option ℕ
number_with bound tokens token = number_to last_member (token_in bound tokens) token

-- the member that has a token, or FFFF if none has it, and the members that have the tokens from 0 to below `room`
abbrev pub entry_of : Bound → Tokens → ℕ → ℕ
entry_of bound tokens token = unwrap_or (number_with bound tokens token) declared_above

abbrev pub entries_of : Bound → Tokens → ℕ → List ℕ
entries_of bound tokens room = each_below room (entry_of bound tokens)

-- the reference to a class in a package of the API, whose only import is the other one
abbrev pub spelled_in : Bound → ApiPackage → ApiClass → ClassRef
spelled_in bound which class =
    if is_same_package (package_of class) which then Internal (number_of class)
    else External 0 (unwrap_or (numbered bound.classes (number_of class)) 0)

-- the empty table: there are no package-visible methods
abbrev pub no_table : VirtualTable
no_table = record { base = 0; methods = [] }

-- the public methods that a class declares, from token 0 to the greatest that it has or inherits
abbrev pub public_table : Bound → ApiClass → VirtualTable
public_table bound class =
    record { base = 0; methods = entries_of bound (Of.Declared class) (room_of bound (Of.Inherited class)) }

-- a class's record
abbrev pub record_in : Bound → ApiClass → RecordBody
record_in bound class =
    if is_interface class then Record.Interface (record { superinterfaces = [] })
    else Record.Class (record {
      superclass = option_map (spelled_in bound (package_of class)) (superclass_of class);
      declared_size = size_of class;
      public_methods = public_table bound class;
      package_methods = no_table;
      interfaces = [];
    })

-- a constructor isn't static: it is called on an object
abbrev pub is_static : MemberKind → Bool
is_static Constructor = false
is_static Static = true
is_static Virtual = false

-- how many words of arguments a member takes, `this` among them
abbrev pub nargs_of : ApiMember → ℕ
nargs_of m = if is_static m.kind then length m.signature.parameters else length m.signature.parameters + 1

-- the method of a member
abbrev pub method_in : Bound → ℕ → ApiMember → MethodShape
method_in bound number m = record {
  token = 0;
  is_static = is_static m.kind;
  offset = number;
  header = Some (record { is_abstract = m.is_abstract; max_stack = 0; nargs = nargs_of m; max_locals = 0 });
  signature = signature_map (spelled_in bound (package_of m.class)) m.signature;
}

-- the member with a number, if a class declares it, and its method
abbrev pub declared_by : ApiClass → ℕ → Option ApiMember
declared_by class number =
    option_and_then (λ m. if is_same_class m.class class then Some m else None) (member_of number)

abbrev pub method_of : Bound → ApiClass → ℕ → Option MethodShape
method_of bound class number = option_map (method_in bound number) (declared_by class number)

-- the class of the API as a shape
abbrev pub class_in_api : Bound → ApiClass → ClassShape
class_in_api bound class = record {
  offset = number_of class;
  body = record_in bound class;
  is_abstract = is_abstract class;
  fields = [];
  methods = those_to last_member (method_of bound class);
}

-- the class with a number, if a package has it, and its shape
abbrev pub class_with : ApiPackage → ℕ → Option ApiClass
class_with which number =
    option_and_then (λ class. if is_same_package (package_of class) which then Some class else None) (class_of number)

abbrev pub class_shape_of : Bound → ApiPackage → ℕ → Option ClassShape
class_shape_of bound which number = option_map (class_in_api bound) (class_with which number)

-- the export row of a token; no class stands at offset 0
abbrev pub export_row : Bound → Option ApiClass → ExportedClass
export_row bound None = record { class = 0; fields = []; methods = [] }
export_row bound (Some class) =
    record {
      class = number_of class;
      fields = [];
      methods = entries_of bound (Of.Called class) (room_of bound (Of.Called class));
    }

abbrev pub export_of : Bound → ApiPackage → ℕ → ExportedClass
export_of bound which token = export_row bound (option_and_then class_of (number_with bound (Of.Classes which) token))

-- javacard.framework imports java.lang alone
abbrev pub imports_of : Bound → ApiPackage → List PackageInfo
imports_of bound Lang = []
imports_of bound Framework = bound.lang ∷ []

-- a package of the API
abbrev pub api_shape : Bound → ApiPackage → Shape
api_shape bound which = record {
  «package» = package_in bound which;
  imports = imports_of bound which;
  exports = each_below (room_of bound (Of.Classes which)) (export_of bound which);
  classes = those_to last_class (class_shape_of bound which);
}

-- the world without loaded packages
abbrev pub api_world : Bound → List Shape
api_world bound = api_shape bound Lang ∷ api_shape bound Framework ∷ []
