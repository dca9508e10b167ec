-- Faults of a class or an interface that don't depend on what it inherits (Java Card Virtual Machine Specification,
-- Class component; Descriptor component). `home` is the place of its package, and `c` is its name.
use Rattle.std.specs.Prelude.{ℕ, ◌+◌, ◌==◌, Bool, false, not, ◌&&◌, ◌||◌, nat_le, List, length, Option, Some, None}
use Rattle.std.specs.Prelude.{is_some, if◌then◌else◌}
use Rattle.std.specs.List.{filter_map, list_any}
use Rattle.std.specs.Option.{option_map_or}
use Rattle.jc_cap.specs.ClassComponent.{is_class}
use Rattle.jc_cap_desc.specs.Across.{are_distinct}
use Rattle.jc_cap_desc.specs.Shape.{ClassShape, FieldShape, MethodShape, Shape}
use Rattle.jc_cap_desc.specs.declared.class_row.FieldPlace.{FieldPlace}
use Rattle.jc_cap_desc.specs.declared.class_row.FieldPlace.TheVariants.{Static, Instance}
use Rattle.jc_classes.specs.Members.{DeclaredMethod, method_at}
use Rattle.jc_classes.specs.Methods.{declared_above, method_name}
use Rattle.jc_classes.specs.Record.{declared_size, package_entries, public_entries}
use Rattle.jc_classes.specs.Subtype.{is_at_or_above, is_class_at, is_interface_at}
use Rattle.jc_classes.specs.Walk.{most_classes}
use Rattle.jc_classes.specs.World.{class_named, listed_refs, superclass_of}
use Rattle.jc_names.specs.declared.name.ClassName.{ClassName}
use Rattle.jc_link.specs.MemberType.{field_type_of, member_type_of}

-- a class whose superclass is missing, isn't named, or is an interface
abbrev pub lacks_superclass : List Shape → ClassName → ClassShape → Bool
lacks_superclass world c k = is_class k.body && not (option_map_or (is_class_at world) (superclass_of world c) false)

-- a class whose superclass chain has a cycle through it
abbrev pub leads_round : List Shape → ClassName → Bool
leads_round world c = option_map_or (is_at_or_above world most_classes c) (superclass_of world c) false

-- a class or an interface that lists something that is missing, or a class instead of an interface
abbrev pub lists_no_interface : List Shape → ℕ → ClassShape → Bool
lists_no_interface world home k =
    list_any (λ ref. not (option_map_or (is_interface_at world) (class_named world home ref) false))
    (listed_refs k.body)

-- a type of its fields or methods names something that is neither a class nor an interface
abbrev pub has_unknown_type : List Shape → ℕ → ClassShape → Bool
has_unknown_type world home k =
    list_any (λ f. not (is_some (field_type_of world home f))) k.fields
    || list_any (λ m. not (is_some (member_type_of world home m.signature))) k.methods

-- the token of an instance field
abbrev pub instance_token : FieldShape → Option ℕ
instance_token f = token_in f.place
  where
    token_in : FieldPlace → Option ℕ
    token_in (Static offset) = None
    token_in (Instance class token) = Some token

-- two instance fields have the same token
abbrev pub has_field_twice : ClassShape → Bool
has_field_twice k = not (are_distinct (filter_map instance_token k.fields))

-- an instance field has a token at or above the number of cells that the class declares; an interface declares none
abbrev pub has_field_past_size : ClassShape → Bool
has_field_past_size k = list_any (λ token. nat_le (declared_size k.body) token) (filter_map instance_token k.fields)

-- whether a method isn't static, and is declared by the class or a superclass of it
abbrev pub is_inherited : List Shape → ClassName → DeclaredMethod → Bool
is_inherited world c d = not d.method.is_static && is_at_or_above world most_classes d.class c

-- an entry of a table is neither FFFF nor such a method's offset
abbrev pub is_bad_entry : List Shape → ℕ → ClassName → ℕ → Bool
is_bad_entry world home c entry =
    not (entry == declared_above)
    && not (option_map_or (is_inherited world c) (method_at world (method_name home entry)) false)

abbrev pub has_bad_entry : List Shape → ℕ → ClassName → ClassShape → Bool
has_bad_entry world home c k =
    list_any (is_bad_entry world home c) (public_entries k.body)
    || list_any (is_bad_entry world home c) (package_entries k.body)

-- how many words of arguments a method takes by its type, `this` included
abbrev pub argument_count : MethodShape → ℕ
argument_count m = if m.is_static then length m.signature.parameters else length m.signature.parameters + 1

-- a method's header states another number
abbrev pub has_other_nargs : ClassShape → Bool
has_other_nargs k =
    list_any (λ m. option_map_or (λ header. not (header.nargs == argument_count m)) m.header false) k.methods
