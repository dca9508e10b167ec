-- Which refusals the readers of the Class and Descriptor components, and of types, have.
use Rattle.std.specs.Prelude.{ℕ, zero, suc, ◌*◌, ◌+◌, ◌/◌, ◌%◌, ◌==◌, Bool, true, false, List, length}
use Rattle.std.specs.Prelude.{Result, Ok}
use Rattle.jc_base.specs.Cursor.{next_bytes, next_u1, next_u2}
use Rattle.jc_base.specs.Signature.{Signature}
use Rattle.jc_base.specs.Tag.{class_tag, descriptor_tag}
use Rattle.jc_base.specs.declared.class_ref.ClassRef.{ClassRef}
use Rattle.jc_base.specs.declared.declared_type.DeclaredType.{DeclaredType}
use Rattle.jc_base.specs.declared.declared_type.DeclaredType.TheVariants.{Boolean, BooleanArray, Byte, ByteArray}
use Rattle.jc_base.specs.declared.declared_type.DeclaredType.TheVariants.{Reference, ReferenceArray, Short, ShortArray}
use Rattle.jc_base.specs.declared.declared_type.ReturnType.{ReturnType}
use Rattle.jc_base.specs.declared.declared_type.ReturnType.TheVariants.{Void, Value}
use Rattle.jc_base.specs.declared.fault.LoadFault.{LoadFault}
use Rattle.jc_base.specs.declared.fault.LoadFault.TheVariants.{Malformed}
use Rattle.jc_cap.specs.ClassComponent as Class
use Rattle.jc_cap.specs.ClassComponent.{first_record, interfaces_first, none_remote}
use Rattle.jc_cap.specs.Interfaces.{next_implemented, next_superinterface}
use Rattle.jc_cap.specs.Record.{next_body, next_class_record, next_interface, next_methods, next_record}
use Rattle.jc_cap.specs.Record.{next_table_size}
use Rattle.jc_cap_desc.specs.ClassRow.{acc_static, next_class_row, next_field_row, next_method_row, next_place}
use Rattle.jc_base.specs.Numbers.{has_flag}
use Rattle.jc_cap_desc.specs.Component as Descriptor
use Rattle.jc_cap_desc.specs.Types.{descriptor_of, types_are_there}
use Rattle.jc_cap.specs.declared.header.Format.{Format}
use Rattle.jc_cap.specs.declared.header.Format.TheVariants.{TwoOne, TwoTwo}
use Rattle.jc_cap.specs.DeclaredType.{next_class, next_coded_return, next_coded_type, next_return, no_more}
use Rattle.jc_cap.specs.DeclaredType.{boolean_array_code, boolean_code, byte_array_code, byte_code, of_class}
use Rattle.jc_cap.specs.DeclaredType.{reference_array_code, reference_code, short_array_code, short_code}
use Rattle.jc_cap.specs.DeclaredType.{void_code}
use Rattle.jc_cap.specs.Descriptor.{next_descriptor, signature_in, signature_of, with_parameter}
use Rattle.jc_cap.specs.Nibbles.{next_nibble, next_nibbles}
use Rattle.jc_refusals.proofs.Ranges.{OfPart, Refuses, behind, either, gives, guarded, in_field, in_placed_rows}
use Rattle.jc_refusals.proofs.Ranges.{in_rows}
use Rattle.jc_refusals.proofs.Ranges.{malformed, refuses}

-- ---- the Class component

in_superinterface : (bytes : List ℕ) → Refuses OfPart (next_superinterface bytes)
unfolding next_superinterface
in_superinterface bytes =
    behind OfPart _ _ (in_field class_tag (next_u2 bytes)) (λ number.
    gives OfPart _)

in_implemented : (bytes : List ℕ) → Refuses OfPart (next_implemented bytes)
unfolding next_implemented
in_implemented bytes =
    behind OfPart _ _ (in_field class_tag (next_u2 bytes)) (λ number.
    behind OfPart _ _ (in_field class_tag (next_u1 number.rest)) (λ count.
    behind OfPart _ _ (in_field class_tag (next_bytes count.value count.rest)) (λ indexes.
    gives OfPart _)))

in_table_size : (bytes : List ℕ) → Refuses OfPart (next_table_size bytes)
unfolding next_table_size
in_table_size bytes =
    behind OfPart _ _ (in_field class_tag (next_u1 bytes)) (λ base.
    behind OfPart _ _ (in_field class_tag (next_u1 base.rest)) (λ count.
    gives OfPart _))

in_methods_of : (count : ℕ) (bytes : List ℕ) → Refuses OfPart (next_methods count bytes)
unfolding next_methods
in_methods_of count bytes =
    behind OfPart _ _ (in_field class_tag (next_bytes (2 * count) bytes)) (λ methods.
    gives OfPart _)

in_interface : (count : ℕ) (bytes : List ℕ) → Refuses OfPart (next_interface count bytes)
unfolding next_interface
in_interface count bytes =
    behind OfPart _ _ (in_rows next_superinterface in_superinterface count bytes) (λ interfaces.
    gives OfPart _)

in_class_record : (count : ℕ) (bytes : List ℕ) → Refuses OfPart (next_class_record count bytes)
unfolding next_class_record
in_class_record count bytes =
    behind OfPart _ _ (in_field class_tag (next_u2 bytes)) (λ superclass.
    behind OfPart _ _ (in_field class_tag (next_u1 superclass.rest)) (λ size.
    behind OfPart _ _ (in_field class_tag (next_bytes 2 size.rest)) (λ references.
    behind OfPart _ _ (in_table_size references.rest) (λ public_size.
    behind OfPart _ _ (in_table_size public_size.rest) (λ package_size.
    behind OfPart _ _ (in_methods_of public_size.value.count package_size.rest) (λ public_offsets.
    behind OfPart _ _ (in_methods_of package_size.value.count public_offsets.rest) (λ package_offsets.
    behind OfPart _ _ (in_rows next_implemented in_implemented count package_offsets.rest) (λ interfaces.
    gives OfPart _))))))))

in_body : (front : ℕ) (bytes : List ℕ) → Refuses OfPart (next_body front bytes)
unfolding next_body
in_body front bytes =
    either OfPart _ _ _ (behind OfPart _ _ (in_interface (front % 16) bytes) (λ x. gives OfPart _))
    (behind OfPart _ _ (in_class_record (front % 16) bytes) (λ x. gives OfPart _))

in_record : (bytes : List ℕ) → Refuses OfPart (next_record bytes)
unfolding next_record
in_record bytes =
    behind OfPart _ _ (in_field class_tag (next_u1 bytes)) (λ front.
    behind OfPart _ _ (in_body front.value front.rest) (λ body.
    gives OfPart _))

in_first_record : (format : Format) (info : List ℕ) → Refuses OfPart (first_record format info)
unfolding first_record
in_first_record TwoOne info = gives OfPart _
in_first_record TwoTwo info =
    behind OfPart _ _ (in_field class_tag (next_u2 info)) (λ size.
    behind OfPart _ _ (in_field class_tag (next_bytes size.value size.rest)) (λ pool.
    gives OfPart _))

in_class_layout : (format : Format) (info : List ℕ) → Refuses OfPart (Class.layout_of format info)
unfolding Class.layout_of
in_class_layout format info =
    behind OfPart _ _ (in_first_record format info) (λ first.
    behind OfPart _ _ (in_placed_rows next_record in_record first info) (λ records.
    guarded class_tag (interfaces_first records) records))

pub in_classes : (format : Format) (info : List ℕ) → Refuses OfPart (Class.classes_of format info)
in_classes format info =
    behind OfPart _ _ (in_class_layout format info) (λ records. guarded class_tag (none_remote records) records)

-- ---- types

in_nibbles : (n : ℕ) (bytes : List ℕ) → Refuses OfPart (next_nibbles n bytes)
unfolding next_nibbles
in_nibbles n bytes =
    behind OfPart _ _ (in_field descriptor_tag (next_bytes ((n + 1) / 2) bytes)) (λ packed.
    gives OfPart _)

in_class : (nibbles : List ℕ) → Refuses OfPart (next_class nibbles)
unfolding next_class
in_class nibbles =
    behind OfPart _ _ (in_field descriptor_tag (next_nibble nibbles)) (λ a.
    behind OfPart _ _ (in_field descriptor_tag (next_nibble a.rest)) (λ b.
    behind OfPart _ _ (in_field descriptor_tag (next_nibble b.rest)) (λ c.
    behind OfPart _ _ (in_field descriptor_tag (next_nibble c.rest)) (λ d.
    gives OfPart _))))

in_class_type : (type : ClassRef → DeclaredType ClassRef) (nibbles : List ℕ) → Refuses OfPart (of_class type nibbles)
in_class_type type nibbles = behind OfPart _ _ (in_class nibbles) (λ class. gives OfPart _)

in_coded_type : (code : ℕ) (nibbles : List ℕ) → Refuses OfPart (next_coded_type code nibbles)
unfolding next_coded_type
in_coded_type code nibbles =
    either OfPart (code == boolean_code) (no_more Boolean nibbles) _ (gives OfPart _)
    (either OfPart (code == byte_code) (no_more Byte nibbles) _ (gives OfPart _)
    (either OfPart (code == short_code) (no_more Short nibbles) _ (gives OfPart _)
    (either OfPart (code == reference_code) (of_class Reference nibbles) _ (in_class_type Reference nibbles)
    (either OfPart (code == boolean_array_code) (no_more BooleanArray nibbles) _ (gives OfPart _)
    (either OfPart (code == byte_array_code) (no_more ByteArray nibbles) _ (gives OfPart _)
    (either OfPart (code == short_array_code) (no_more ShortArray nibbles) _ (gives OfPart _)
    (either OfPart (code == reference_array_code) (of_class ReferenceArray nibbles) _
    (in_class_type ReferenceArray nibbles)
    (refuses OfPart (Malformed descriptor_tag) (malformed descriptor_tag)))))))))

in_coded_return : (code : ℕ) (nibbles : List ℕ) → Refuses OfPart (next_coded_return code nibbles)
unfolding next_coded_return
in_coded_return code nibbles =
    either OfPart (code == void_code) (Ok (record { value = Void; rest = nibbles })) _ (gives OfPart _)
    (behind OfPart _ _ (in_coded_type code nibbles) (λ type. gives OfPart _))

in_return : (nibbles : List ℕ) → Refuses OfPart (next_return nibbles)
unfolding next_return
in_return nibbles =
    behind OfPart _ _ (in_field descriptor_tag (next_nibble nibbles)) (λ code. in_coded_return code.value code.rest)

in_more : (type : ReturnType ClassRef) (others : Result (Signature ClassRef) LoadFault) → Refuses OfPart others
    → Refuses OfPart (with_parameter type others)
in_more Void others h = refuses OfPart (Malformed descriptor_tag) (malformed descriptor_tag)
in_more (Value type) others h = behind OfPart others _ h (λ s. gives OfPart _)

in_signature_in : (steps : ℕ) (nibbles : List ℕ) → Refuses OfPart (signature_in steps nibbles)
in_signature_in zero nibbles = refuses OfPart (Malformed descriptor_tag) (malformed descriptor_tag)
in_signature_in (suc steps) nibbles =
    behind OfPart _ _ (in_return nibbles) (λ next.
    either OfPart _ _ _ (gives OfPart _)
    (in_more next.value (signature_in steps next.rest) (in_signature_in steps next.rest)))

in_signature : (nibbles : List ℕ) → Refuses OfPart (signature_of nibbles)
unfolding signature_of
in_signature nibbles = in_signature_in (length nibbles) nibbles

in_type_descriptor : (bytes : List ℕ) → Refuses OfPart (next_descriptor bytes)
unfolding next_descriptor
in_type_descriptor bytes =
    behind OfPart _ _ (in_field descriptor_tag (next_u1 bytes)) (λ count.
    behind OfPart _ _ (in_nibbles count.value count.rest) (λ nibbles.
    behind OfPart _ _ (in_signature nibbles.value) (λ signature.
    gives OfPart _)))

-- ---- the Descriptor component

in_place : (static : Bool) (bytes : List ℕ) → Refuses OfPart (next_place static bytes)
unfolding next_place
in_place true bytes =
    behind OfPart _ _ (in_field descriptor_tag (next_u1 bytes)) (λ padding.
    behind OfPart _ _ (in_field descriptor_tag (next_u2 padding.rest)) (λ offset.
    gives OfPart _))
in_place false bytes =
    behind OfPart _ _ (in_field descriptor_tag (next_u2 bytes)) (λ class.
    behind OfPart _ _ (in_field descriptor_tag (next_u1 class.rest)) (λ token.
    gives OfPart _))

in_field_row : (bytes : List ℕ) → Refuses OfPart (next_field_row bytes)
unfolding next_field_row
in_field_row bytes =
    behind OfPart _ _ (in_field descriptor_tag (next_u1 bytes)) (λ token.
    behind OfPart _ _ (in_field descriptor_tag (next_u1 token.rest)) (λ flags.
    behind OfPart _ _ (in_place (has_flag flags.value acc_static) flags.rest) (λ place.
    behind OfPart _ _ (in_field descriptor_tag (next_u2 place.rest)) (λ number.
    gives OfPart _))))

in_method_row : (bytes : List ℕ) → Refuses OfPart (next_method_row bytes)
unfolding next_method_row
in_method_row bytes =
    behind OfPart _ _ (in_field descriptor_tag (next_u1 bytes)) (λ token.
    behind OfPart _ _ (in_field descriptor_tag (next_u1 token.rest)) (λ flags.
    behind OfPart _ _ (in_field descriptor_tag (next_u2 flags.rest)) (λ offset.
    behind OfPart _ _ (in_field descriptor_tag (next_u2 offset.rest)) (λ type_offset.
    behind OfPart _ _ (in_field descriptor_tag (next_u2 type_offset.rest)) (λ bytecode_count.
    behind OfPart _ _ (in_field descriptor_tag (next_u2 bytecode_count.rest)) (λ handler_count.
    behind OfPart _ _ (in_field descriptor_tag (next_u2 handler_count.rest)) (λ handler_index.
    gives OfPart _)))))))

in_class_row : (bytes : List ℕ) → Refuses OfPart (next_class_row bytes)
unfolding next_class_row
in_class_row bytes =
    behind OfPart _ _ (in_field descriptor_tag (next_u1 bytes)) (λ token.
    behind OfPart _ _ (in_field descriptor_tag (next_u1 token.rest)) (λ flags.
    behind OfPart _ _ (in_field descriptor_tag (next_u2 flags.rest)) (λ this.
    behind OfPart _ _ (in_field descriptor_tag (next_u1 this.rest)) (λ interface_count.
    behind OfPart _ _ (in_field descriptor_tag (next_u2 interface_count.rest)) (λ field_count.
    behind OfPart _ _ (in_field descriptor_tag (next_u2 field_count.rest)) (λ method_count.
    behind OfPart _ _ (in_field descriptor_tag (next_bytes (2 * interface_count.value) method_count.rest))
    (λ interfaces.
    behind OfPart _ _ (in_rows next_field_row in_field_row field_count.value interfaces.rest) (λ fields.
    behind OfPart _ _ (in_rows next_method_row in_method_row method_count.value fields.rest) (λ methods.
    gives OfPart _)))))))))

in_layout : (info : List ℕ) → Refuses OfPart (Descriptor.layout_of info)
unfolding Descriptor.layout_of
in_layout info =
    behind OfPart _ _ (in_field descriptor_tag (next_u1 info)) (λ class_count.
    behind OfPart _ _ (in_rows next_class_row in_class_row class_count.value class_count.rest) (λ classes.
    behind OfPart _ _ (in_field descriptor_tag (next_u2 classes.rest)) (λ pool_count.
    behind OfPart _ _ (in_field descriptor_tag (next_bytes (2 * pool_count.value) pool_count.rest)) (λ offsets.
    behind OfPart _ _ (in_placed_rows next_descriptor in_type_descriptor (2 + 2 * pool_count.value) classes.rest)
    (λ types.
    gives OfPart _)))))

pub in_descriptor : (info : List ℕ) → Refuses OfPart (descriptor_of info)
in_descriptor info = behind OfPart _ _ (in_layout info) (λ found. guarded descriptor_tag (types_are_there found) found)
