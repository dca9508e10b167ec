-- The effects of the instructions on references on types, with the targets of their package's constant pool (Java Card
-- Virtual Machine Specification, instruction set).
use Rattle.std.specs.Prelude.{ℕ, ◌+◌, ◌==◌, Bool, true, false, ◌&&◌, not, List, [], ◌∷◌, ◌++◌, length, map, Option}
use Rattle.std.specs.Prelude.{Some, None, is_some, slice_get, if◌then◌else◌}
use Rattle.std.specs.List.{find}
use Rattle.std.specs.Option.{option_and_then, option_map, option_map_or}
use Rattle.jc_base.specs.Signature.{Signature}
use Rattle.jc_base.specs.declared.declared_type.DeclaredType.{DeclaredType}
use Rattle.jc_base.specs.declared.declared_type.DeclaredType.TheVariants as Declared
use Rattle.jc_base.specs.declared.declared_type.ReturnType.{ReturnType}
use Rattle.jc_base.specs.declared.declared_type.ReturnType.TheVariants.{Void, Value}
use Rattle.jc_cap.specs.ClassComponent.{is_class}
use Rattle.jc_cap_desc.specs.Shape.{Shape}
use Rattle.jc_api.specs.declared.class.ApiClass.TheVariants.{Object, Throwable}
use Rattle.jc_code.specs.declared.object.Creation.{Creation}
use Rattle.jc_code.specs.declared.object.Creation.TheVariants as Creations
use Rattle.jc_code.specs.declared.object.FieldAccess.{FieldAccess}
use Rattle.jc_code.specs.declared.object.FieldAction.{FieldAction}
use Rattle.jc_code.specs.declared.object.FieldAction.TheVariants.{Get, Put}
use Rattle.jc_code.specs.declared.object.Form.{Form}
use Rattle.jc_code.specs.declared.object.Form.TheVariants as Forms
use Rattle.jc_code.specs.declared.object.Holder.{Holder}
use Rattle.jc_code.specs.declared.object.Holder.TheVariants as Holders
use Rattle.jc_code.specs.declared.object.Invocation.{Invocation}
use Rattle.jc_code.specs.declared.object.Invocation.TheVariants.{Virtual, Special, Static, Interface}
use Rattle.jc_code.specs.declared.object.ObjectOperation.{ObjectOperation}
use Rattle.jc_code.specs.declared.object.ObjectOperation.TheVariants.{PushNull, Load, Store, LoadComponent}
use Rattle.jc_code.specs.declared.object.ObjectOperation.TheVariants.{StoreComponent, ArrayLength, Branch, Field}
use Rattle.jc_code.specs.declared.object.ObjectOperation.TheVariants.{Invoke, Create, CheckCast, InstanceOf, Throw}
use Rattle.jc_code.specs.declared.object.ObjectOperation.TheVariants.{ReturnReference, ReturnVoid}
use Rattle.jc_code.specs.declared.object.ReferenceCondition.{ReferenceCondition}
use Rattle.jc_code.specs.declared.object.ReferenceCondition.TheVariants as Conditions
use Rattle.jc_code.specs.declared.object.TestedType.{TestedType}
use Rattle.jc_code.specs.declared.object.TestedType.TheVariants as Tested
use Rattle.jc_code.specs.declared.object.WordKind.{WordKind}
use Rattle.jc_code.specs.declared.object.WordKind.TheVariants as Kinds
use Rattle.jc_names.specs.Names.{home_of}
use Rattle.jc_classes.specs.World.{class_at}
use Rattle.jc_names.specs.declared.name.ClassName.{ClassName}
use Rattle.jc_names.specs.declared.name.ClassName.TheVariants.{Api}
use Rattle.jc_link.specs.MemberType.{counted, member_type_of}
use Rattle.jc_link.specs.declared.target.PoolTarget.{PoolTarget}
use Rattle.jc_link.specs.declared.target.PoolTarget.TheVariants as To
use Rattle.jc_types.specs.declared.ty.Ty.{Ty}
use Rattle.jc_types.specs.declared.ty.Ty.TheVariants.{Top, Word, Null, Class, BooleanArray, ByteArray, ShortArray}
use Rattle.jc_types.specs.declared.ty.Ty.TheVariants.{ReferenceArray}
use Rattle.jc_types.specs.Ty.{type_of_declared}
use Rattle.jc_effects.specs.declared.row.Demand.{Demand}
use Rattle.jc_effects.specs.declared.row.Demand.TheVariants.{Below, Reference, Bytes, Array}
use Rattle.jc_effects.specs.declared.row.Given.{Given}
use Rattle.jc_effects.specs.declared.row.Given.TheVariants.{Nothing, Exactly, OfLocal, ComponentOf}
use Rattle.jc_effects.specs.Row.{Row, is_object_or_null}
use Rattle.jc_effects.specs.Words.{takes, reads, writes, word}

-- the setting of a method's code: the world, the targets of its package's constant pool, and the type of its result,
-- unless it is void
pub record Setting : Type 0 where
  pub world : List Shape
  pub targets : List PoolTarget
  pub returned : Option Ty

-- ---- arrays

-- the demand on an array with components of a form
abbrev pub array_of : Form → Demand
array_of Forms.Reference = Below (ReferenceArray (Api Object))
array_of Forms.Byte = Bytes
array_of Forms.Short = Below ShortArray

-- the type of a component that is loaded from it
abbrev pub component_loaded : Form → Given
component_loaded Forms.Reference = ComponentOf 0
component_loaded Forms.Byte = Exactly Word
component_loaded Forms.Short = Exactly Word

-- the demand on a component that is stored in it. The type of a reference isn't tested here: the class of the array's
-- components is tested when the instruction runs
abbrev pub component_stored : Form → Demand
component_stored Forms.Reference = Reference
component_stored Forms.Byte = word
component_stored Forms.Short = word

-- ---- branches

-- the demands on the references that a branch compares
abbrev pub references_compared : ReferenceCondition → List Demand
references_compared Conditions.Null = Reference ∷ []
references_compared Conditions.NotNull = Reference ∷ []
references_compared Conditions.Same = Reference ∷ Reference ∷ []
references_compared Conditions.Different = Reference ∷ Reference ∷ []

-- ---- fields

-- whether the instructions of a form take fields of a type
abbrev pub is_form_of : Form → DeclaredType ClassName → Bool
is_form_of Forms.Reference Declared.Boolean = false
is_form_of Forms.Reference Declared.Byte = false
is_form_of Forms.Reference Declared.Short = false
is_form_of Forms.Reference (Declared.Reference c) = true
is_form_of Forms.Reference Declared.BooleanArray = true
is_form_of Forms.Reference Declared.ByteArray = true
is_form_of Forms.Reference Declared.ShortArray = true
is_form_of Forms.Reference (Declared.ReferenceArray c) = true
is_form_of Forms.Byte Declared.Boolean = true
is_form_of Forms.Byte Declared.Byte = true
is_form_of Forms.Byte Declared.Short = false
is_form_of Forms.Byte (Declared.Reference c) = false
is_form_of Forms.Byte Declared.BooleanArray = false
is_form_of Forms.Byte Declared.ByteArray = false
is_form_of Forms.Byte Declared.ShortArray = false
is_form_of Forms.Byte (Declared.ReferenceArray c) = false
is_form_of Forms.Short Declared.Boolean = false
is_form_of Forms.Short Declared.Byte = false
is_form_of Forms.Short Declared.Short = true
is_form_of Forms.Short (Declared.Reference c) = false
is_form_of Forms.Short Declared.BooleanArray = false
is_form_of Forms.Short Declared.ByteArray = false
is_form_of Forms.Short Declared.ShortArray = false
is_form_of Forms.Short (Declared.ReferenceArray c) = false

-- the row for a static field
abbrev pub static_row : FieldAction → Ty → Row
static_row Get t = takes [] (Exactly t)
static_row Put t = takes (Below t ∷ []) Nothing

-- the row for an instance field, with the object on the operand stack
abbrev pub operand_row : FieldAction → ClassName → Ty → Row
operand_row Get class t = takes (Below (Class class) ∷ []) (Exactly t)
operand_row Put class t = takes (Below (Class class) ∷ Below t ∷ []) Nothing

-- the row for an instance field of the object in local 0
abbrev pub this_row : FieldAction → ClassName → Ty → Row
this_row Get class t = reads 0 (Below (Class class)) [] (Exactly t)
this_row Put class t = reads 0 (Below (Class class)) (Below t ∷ []) Nothing

-- a row that applies only if this holds
abbrev pub if_form : Bool → Row → Row
if_form fits row = record row { fits = fits }

-- the row for a static field, by its holder; such an instruction has no object
abbrev pub static_holder_row : Holder → FieldAction → Ty → Option Row
static_holder_row Holders.Class action t = Some (static_row action t)
static_holder_row Holders.Operand action t = None
static_holder_row Holders.This action t = None

-- the row for an instance field, by its holder
abbrev pub object_holder_row : Holder → FieldAction → ClassName → Ty → Option Row
object_holder_row Holders.Class action class t = None
object_holder_row Holders.Operand action class t = Some (operand_row action class t)
object_holder_row Holders.This action class t = Some (this_row action class t)

-- the row for a static field with a declared type
abbrev pub row_of_static : FieldAccess → DeclaredType ClassName → Option Row
row_of_static access declared =
    option_map (if_form (is_form_of access.form declared))
    (static_holder_row access.holder access.action (type_of_declared declared))

-- the row for an instance field with a declared type
abbrev pub row_of_instance : FieldAccess → ClassName → DeclaredType ClassName → Option Row
row_of_instance access class declared =
    option_map (if_form (is_form_of access.form declared))
    (object_holder_row access.holder access.action class (type_of_declared declared))

-- the row for a target that is a field of the instruction's kind
abbrev pub field_row : FieldAccess → PoolTarget → Option Row
field_row access (To.Class c) = None
field_row access (To.InstanceField class cell declared) = row_of_instance access class declared
field_row access (To.StaticField place declared) = row_of_static access declared
field_row access (To.VirtualMethod class token signature) = None
field_row access (To.SuperMethod class method signature) = None
field_row access (To.StaticMethod class method is_static signature) = None

-- ---- calls

-- what a call pushes
abbrev pub result_given : ReturnType ClassName → Given
result_given Void = Nothing
result_given (Value declared) = Exactly (type_of_declared declared)

-- the row of a call: the object, if there is one, and the arguments are below their declared types
abbrev pub call : List Demand → Signature ClassName → Row
call object signature =
    takes (object ++ map (λ declared. Below (type_of_declared declared)) signature.parameters)
    (result_given signature.result)

-- the type of an interface's method: that of its token in the interface's own rows
abbrev pub interface_method_type : List Shape → ClassName → ℕ → Option (Signature ClassName)
interface_method_type world c token =
    option_and_then (λ k.
    if is_class k.body then None
    else option_and_then (λ m. member_type_of world (home_of c) m.signature) (find (λ m. m.token == token) k.methods))
    (class_at world c)

-- the row of a call of an interface's method, on any reference; the instruction states the number of words that the
-- method takes, the object included
abbrev pub interface_row : ℕ → Signature ClassName → Option Row
interface_row arguments signature =
    if arguments == 1 + length signature.parameters then Some (call (Reference ∷ []) signature) else None

-- the row of a call of a method that is looked up from the object's class
abbrev pub virtual_row : PoolTarget → Option Row
virtual_row (To.Class c) = None
virtual_row (To.InstanceField class cell declared) = None
virtual_row (To.StaticField place declared) = None
virtual_row (To.VirtualMethod class token signature) = Some (call (Below (Class class) ∷ []) signature)
virtual_row (To.SuperMethod class method signature) = None
virtual_row (To.StaticMethod class method is_static signature) = None

-- the row of a call of a superclass's method or of a constructor
abbrev pub special_row : PoolTarget → Option Row
special_row (To.Class c) = None
special_row (To.InstanceField class cell declared) = None
special_row (To.StaticField place declared) = None
special_row (To.VirtualMethod class token signature) = None
special_row (To.SuperMethod class method signature) = Some (call (Below (Class class) ∷ []) signature)
special_row (To.StaticMethod class method true signature) = None
special_row (To.StaticMethod class method false signature) = Some (call (Below (Class class) ∷ []) signature)

-- the row of a call of a static method
abbrev pub static_call_row : PoolTarget → Option Row
static_call_row (To.Class c) = None
static_call_row (To.InstanceField class cell declared) = None
static_call_row (To.StaticField place declared) = None
static_call_row (To.VirtualMethod class token signature) = None
static_call_row (To.SuperMethod class method signature) = None
static_call_row (To.StaticMethod class method true signature) = Some (call [] signature)
static_call_row (To.StaticMethod class method false signature) = None

-- the row of a call of the interface's method with a token, if the target is the interface
abbrev pub interface_target_row : List Shape → ℕ → ℕ → PoolTarget → Option Row
interface_target_row world arguments token (To.Class c) =
    option_and_then (interface_row arguments) (interface_method_type world c token)
interface_target_row world arguments token (To.InstanceField class cell declared) = None
interface_target_row world arguments token (To.StaticField place declared) = None
interface_target_row world arguments token (To.VirtualMethod class number signature) = None
interface_target_row world arguments token (To.SuperMethod class method signature) = None
interface_target_row world arguments token (To.StaticMethod class method is_static signature) = None

-- the row of a call
abbrev pub invocation_row : Setting → Invocation → Option Row
invocation_row set (Virtual index) = option_and_then virtual_row (slice_get set.targets index)
invocation_row set (Special index) = option_and_then special_row (slice_get set.targets index)
invocation_row set (Static index) = option_and_then static_call_row (slice_get set.targets index)
invocation_row set (Interface arguments index token) =
    option_and_then (interface_target_row set.world arguments token) (slice_get set.targets index)

-- ---- creation and tests of objects

-- the class that is a target, if it is one
abbrev pub class_target : PoolTarget → Option ClassName
class_target (To.Class c) = Some c
class_target (To.InstanceField class cell declared) = None
class_target (To.StaticField place declared) = None
class_target (To.VirtualMethod class token signature) = None
class_target (To.SuperMethod class method signature) = None
class_target (To.StaticMethod class method is_static signature) = None

-- the class that is the target of the entry at an index
abbrev pub class_of_entry : Setting → ℕ → Option ClassName
class_of_entry set index = option_and_then class_target (slice_get set.targets index)

-- whether a class has objects: it is no interface, and isn't abstract
abbrev pub has_objects : List Shape → ClassName → Bool
has_objects world c = option_map_or (λ k. is_class k.body && not k.is_abstract) (class_at world c) false

-- the type of arrays of a kind of words
abbrev pub word_array : WordKind → Ty
word_array Kinds.Boolean = BooleanArray
word_array Kinds.Byte = ByteArray
word_array Kinds.Short = ShortArray

-- the type of arrays of references to a class; an interface counts as Object
abbrev pub reference_array : List Shape → ClassName → Ty
reference_array world c = ReferenceArray (counted world c)

-- the row of an instruction that creates an object or an array
abbrev pub creation_row : Setting → Creation → Option Row
creation_row set (Creations.Object index) =
    option_map (λ c. if_form (has_objects set.world c) (takes [] (Exactly (Class c)))) (class_of_entry set index)
creation_row set (Creations.WordArray kind) = Some (takes (word ∷ []) (Exactly (word_array kind)))
creation_row set (Creations.ReferenceArray index) =
    option_map (λ c. takes (word ∷ []) (Exactly (reference_array set.world c))) (class_of_entry set index)

-- the type of an object that passes a test
abbrev pub tested_type : Setting → TestedType → Option Ty
tested_type set (Tested.Class index) = option_map (λ c. Class (counted set.world c)) (class_of_entry set index)
tested_type set (Tested.WordArray kind) = Some (word_array kind)
tested_type set (Tested.ReferenceArray index) = option_map (reference_array set.world) (class_of_entry set index)

-- ---- returns

-- the row of areturn: the method's result has to be a reference
abbrev pub return_row : Option Ty → Row
return_row None = if_form false (takes (Below Top ∷ []) Nothing)
return_row (Some t) = if_form (is_object_or_null t) (takes (Below t ∷ []) Nothing)

-- the row of an operation, if the target of its pool's entry is of the kind that it needs
unfoldable pub object_row : Setting → ObjectOperation → Option Row
object_row set PushNull = Some (takes [] (Exactly Null))
object_row set (Load local) = Some (reads local Reference [] OfLocal)
object_row set (Store local) = Some (writes local Reference)
object_row set (LoadComponent form) = Some (takes (array_of form ∷ word ∷ []) (component_loaded form))
object_row set (StoreComponent form) = Some (takes (array_of form ∷ word ∷ component_stored form ∷ []) Nothing)
object_row set ArrayLength = Some (takes (Array ∷ []) (Exactly Word))
object_row set (Branch when offset) = Some (takes (references_compared when) Nothing)
object_row set (Field access index) = option_and_then (field_row access) (slice_get set.targets index)
object_row set (Invoke invocation) = invocation_row set invocation
object_row set (Create creation) = creation_row set creation
object_row set (CheckCast tested) = option_map (λ t. takes (Reference ∷ []) (Exactly t)) (tested_type set tested)
object_row set (InstanceOf tested) = option_map (λ t. takes (Reference ∷ []) (Exactly Word)) (tested_type set tested)
object_row set Throw = Some (takes (Below (Class (Api Throwable)) ∷ []) Nothing)
object_row set ReturnReference = Some (return_row set.returned)
object_row set ReturnVoid = Some (if_form (not (is_some set.returned)) (takes [] Nothing))
