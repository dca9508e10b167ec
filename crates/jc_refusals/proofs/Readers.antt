-- Which refusals the readers of the Header, Applet, Import, StaticField, Export, ConstantPool and Method components
-- have.
use Rattle.std.specs.Prelude.{◌≡◌, ℕ, ◌-◌, ◌*◌, ◌==◌, ◌&&◌, List}
use Rattle.std.specs.Prelude.{Option, Some, None, Result, Ok}
use Rattle.std.proofs.Common.{refl}
use Rattle.std.specs.Option.{ok_or}
use Rattle.jc_base.specs.Aid.{next_aid}
use Rattle.jc_base.specs.Cursor.{Read, next_bytes, next_u1, next_u2}
use Rattle.jc_base.specs.PackageInfo.{next_package_info}
use Rattle.jc_base.specs.Tag.{applet_tag, constant_pool_tag, export_tag, header_tag}
use Rattle.jc_base.specs.Tag.{import_tag, method_tag, static_field_tag}
use Rattle.jc_base.specs.declared.fault.LoadFault.{LoadFault}
use Rattle.jc_base.specs.declared.fault.LoadFault.TheVariants.{BadAid, FormatVersion, Malformed}
use Rattle.jc_cap.specs.Applets.{applets_in, applets_of, next_applet}
use Rattle.jc_cap.specs.Arrays.{array_of, next_static_array}
use Rattle.jc_cap.specs.Exports.{exports_in, exports_of, next_exported_class}
use Rattle.jc_cap.specs.Imports.{imports_in, imports_of}
use Rattle.jc_cap.specs.Statics.{fits, next_static_image, static_fields_of}
use Rattle.jc_cap.specs.Header.{format_of, next_format, next_heading, next_name}
use Rattle.jc_cap.specs.declared.header.Format.{Format}
use Rattle.jc_cap.specs.declared.header.Format.TheVariants.{TwoOne, TwoTwo}
use Rattle.jc_cap.specs.MethodComponent.{methods_of}
use Rattle.jc_cap.specs.Handler.{next_handler}
use Rattle.jc_cap.specs.Entry.{as_entry, next_entry, next_external, next_internal, next_member_ref}
use Rattle.jc_cap.specs.Entry.{next_static_ref, next_tagged_entry}
use Rattle.jc_cap.specs.Pool.{pool_of}
use Rattle.jc_cap.specs.declared.entry.PoolEntry.{PoolEntry}
use Rattle.jc_cap.specs.declared.entry.PoolEntry.TheVariants.{Classref, InstanceFieldref, StaticFieldref}
use Rattle.jc_cap.specs.declared.entry.PoolEntry.TheVariants.{StaticMethodref, SuperMethodref, VirtualMethodref}
use Rattle.jc_refusals.proofs.Ranges.{OfPart, Refuses, bad_aid, behind, either, gives, guarded, in_field, in_rows}
use Rattle.jc_refusals.proofs.Ranges.{in_whole, malformed, refuses}

-- ---- AIDs and packages

in_aid : (tag : ℕ) (bytes : List ℕ) → Refuses OfPart (next_aid tag bytes)
unfolding next_aid
in_aid tag bytes =
    behind OfPart _ _ (in_field tag (next_u1 bytes)) (λ len.
    either OfPart _ _ _ (in_field tag (next_bytes len.value len.rest))
    (refuses OfPart BadAid bad_aid))

in_package_info : (tag : ℕ) (bytes : List ℕ) → Refuses OfPart (next_package_info tag bytes)
unfolding next_package_info
in_package_info tag bytes =
    behind OfPart _ _ (in_field tag (next_u1 bytes)) (λ minor.
    behind OfPart _ _ (in_field tag (next_u1 minor.rest)) (λ major.
    behind OfPart _ _ (in_aid tag major.rest) (λ aid.
    gives OfPart _)))

-- ---- the Header component

-- the format's version is refused, and nothing else
abbrev pub IsVersion : LoadFault → Type 0
IsVersion fault = fault ≡ FormatVersion

the_version : {A : Type 0} (found : Option A) → Refuses IsVersion (ok_or found FormatVersion)
the_version None = refuses IsVersion FormatVersion refl
the_version (Some x) = gives IsVersion x

in_format_of : (minor major : ℕ) → Refuses IsVersion (format_of minor major)
in_format_of minor major =
    either IsVersion (major == 2 && minor == 1) (Ok TwoOne) _ (gives IsVersion TwoOne)
    (either IsVersion (major == 2 && minor == 2) (Ok TwoTwo) _
    (gives IsVersion TwoTwo) (refuses IsVersion FormatVersion refl))

pub in_format : (bytes : List ℕ) → Refuses IsVersion (next_format bytes)
unfolding next_format
in_format bytes =
    behind IsVersion _ _ (the_version (next_u1 bytes)) (λ minor.
    behind IsVersion _ _ (the_version (next_u1 minor.rest)) (λ major.
    behind IsVersion _ _ (in_format_of minor.value major.value) (λ format.
    gives IsVersion _)))

in_name : (format : Format) (bytes : List ℕ) → Refuses OfPart (next_name format bytes)
unfolding next_name
in_name TwoOne bytes = gives OfPart _
in_name TwoTwo bytes =
    behind OfPart _ _ (in_field header_tag (next_u1 bytes)) (λ size.
    in_field header_tag (next_bytes size.value size.rest))

pub in_heading : (format : Format) (bytes : List ℕ) → Refuses OfPart (next_heading format bytes)
in_heading format bytes =
    behind OfPart _ _ (in_package_info header_tag bytes) (λ found.
    behind OfPart _ _ (in_name format found.rest) (λ name.
    gives OfPart _))

-- ---- the Applet, Import, StaticField and Export components

in_applet : (bytes : List ℕ) → Refuses OfPart (next_applet bytes)
unfolding next_applet
in_applet bytes =
    behind OfPart _ _ (in_aid applet_tag bytes) (λ aid.
    behind OfPart _ _ (in_field applet_tag (next_u2 aid.rest)) (λ install.
    gives OfPart _))

in_applets_in : (info : List ℕ) → Refuses OfPart (applets_in info)
unfolding applets_in
in_applets_in info =
    behind OfPart _ _ (in_field applet_tag (next_u1 info)) (λ count.
    in_whole applet_tag _ (in_rows next_applet in_applet count.value count.rest))

pub in_applets : (info : Option (List ℕ)) → Refuses OfPart (applets_of info)
in_applets None = gives OfPart _
in_applets (Some info) = behind OfPart _ _ (in_applets_in info) (λ applets. gives OfPart _)

in_imports_in : (info : List ℕ) → Refuses OfPart (imports_in info)
unfolding imports_in
in_imports_in info =
    behind OfPart _ _ (in_field import_tag (next_u1 info)) (λ count.
    in_whole import_tag _ (in_rows (next_package_info import_tag) (in_package_info import_tag) count.value count.rest))

pub in_imports : (info : Option (List ℕ)) → Refuses OfPart (imports_of info)
in_imports None = gives OfPart _
in_imports (Some info) = in_imports_in info

in_static_array : (bytes : List ℕ) → Refuses OfPart (next_static_array bytes)
unfolding next_static_array
in_static_array bytes =
    behind OfPart _ _ (in_field static_field_tag (next_u1 bytes)) (λ kind.
    behind OfPart _ _ (in_field static_field_tag (next_u2 kind.rest)) (λ size.
    behind OfPart _ _ (in_field static_field_tag (next_bytes size.value size.rest)) (λ values.
    behind OfPart _ _ (in_field static_field_tag (array_of kind.value values.value)) (λ array.
    gives OfPart _))))

in_static_image : (info : List ℕ) → Refuses OfPart (next_static_image info)
unfolding next_static_image
in_static_image info =
    behind OfPart _ _ (in_field static_field_tag (next_u2 info)) (λ size.
    behind OfPart _ _ (in_field static_field_tag (next_u2 size.rest)) (λ references.
    behind OfPart _ _ (in_field static_field_tag (next_u2 references.rest)) (λ count.
    behind OfPart _ _ (in_rows next_static_array in_static_array count.value count.rest) (λ arrays.
    behind OfPart _ _ (in_field static_field_tag (next_u2 arrays.rest)) (λ defaults.
    behind OfPart _ _ (in_field static_field_tag (next_u2 defaults.rest)) (λ given.
    behind OfPart _ _ (in_field static_field_tag (next_bytes given.value given.rest)) (λ values.
    gives OfPart _)))))))

pub in_static_fields : (info : List ℕ) → Refuses OfPart (static_fields_of info)
in_static_fields info =
    behind OfPart _ _ (in_whole static_field_tag (next_static_image info) (in_static_image info)) (λ image.
    guarded static_field_tag (fits image) image)

in_exported_class : (bytes : List ℕ) → Refuses OfPart (next_exported_class bytes)
unfolding next_exported_class
in_exported_class bytes =
    behind OfPart _ _ (in_field export_tag (next_u2 bytes)) (λ offset.
    behind OfPart _ _ (in_field export_tag (next_u1 offset.rest)) (λ fields_count.
    behind OfPart _ _ (in_field export_tag (next_u1 fields_count.rest)) (λ methods_count.
    behind OfPart _ _ (in_field export_tag (next_bytes (2 * fields_count.value) methods_count.rest)) (λ fields.
    behind OfPart _ _ (in_field export_tag (next_bytes (2 * methods_count.value) fields.rest)) (λ methods.
    gives OfPart _)))))

in_exports_in : (info : List ℕ) → Refuses OfPart (exports_in info)
unfolding exports_in
in_exports_in info =
    behind OfPart _ _ (in_field export_tag (next_u1 info)) (λ count.
    in_whole export_tag _ (in_rows next_exported_class in_exported_class count.value count.rest))

pub in_exports : (info : Option (List ℕ)) → Refuses OfPart (exports_of info)
in_exports None = gives OfPart _
in_exports (Some info) = in_exports_in info

-- ---- the ConstantPool component

in_member_ref : (bytes : List ℕ) → Refuses OfPart (next_member_ref bytes)
unfolding next_member_ref
in_member_ref bytes =
    behind OfPart _ _ (in_field constant_pool_tag (next_u2 bytes)) (λ class.
    behind OfPart _ _ (in_field constant_pool_tag (next_u1 class.rest)) (λ token.
    gives OfPart _))

in_internal : (bytes : List ℕ) → Refuses OfPart (next_internal bytes)
in_internal bytes =
    behind OfPart _ _ (in_field constant_pool_tag (next_u2 bytes)) (λ offset.
    gives OfPart _)

in_external : (import : ℕ) (bytes : List ℕ) → Refuses OfPart (next_external import bytes)
in_external import bytes =
    behind OfPart _ _ (in_field constant_pool_tag (next_u1 bytes)) (λ class.
    behind OfPart _ _ (in_field constant_pool_tag (next_u1 class.rest)) (λ token.
    gives OfPart _))

in_static_ref : (bytes : List ℕ) → Refuses OfPart (next_static_ref bytes)
unfolding next_static_ref
in_static_ref bytes =
    behind OfPart _ _ (in_field constant_pool_tag (next_u1 bytes)) (λ front.
    either OfPart _ _ _ (in_internal front.rest) (in_external (front.value - 0x80) front.rest))

in_entry_as : {A : Type 0} (entry : A → PoolEntry) (found : Result (Read A) LoadFault) → Refuses OfPart found
    → Refuses OfPart (as_entry entry found)
in_entry_as entry found h = behind OfPart found _ h (λ r. gives OfPart _)

in_tagged_entry : (tag : ℕ) (bytes : List ℕ) → Refuses OfPart (next_tagged_entry tag bytes)
unfolding next_tagged_entry
in_tagged_entry tag bytes =
    either OfPart _ _ _ (in_entry_as (λ m. Classref m.class) (next_member_ref bytes) (in_member_ref bytes))
    (either OfPart _ _ _ (in_entry_as InstanceFieldref (next_member_ref bytes) (in_member_ref bytes))
    (either OfPart _ _ _ (in_entry_as VirtualMethodref (next_member_ref bytes) (in_member_ref bytes))
    (either OfPart _ _ _ (in_entry_as SuperMethodref (next_member_ref bytes) (in_member_ref bytes))
    (either OfPart _ _ _ (in_entry_as StaticFieldref (next_static_ref bytes) (in_static_ref bytes))
    (either OfPart _ _ _ (in_entry_as StaticMethodref (next_static_ref bytes) (in_static_ref bytes))
    (refuses OfPart (Malformed constant_pool_tag) (malformed constant_pool_tag)))))))

in_entry : (bytes : List ℕ) → Refuses OfPart (next_entry bytes)
unfolding next_entry
in_entry bytes =
    behind OfPart _ _ (in_field constant_pool_tag (next_u1 bytes)) (λ tag.
    in_tagged_entry tag.value tag.rest)

pub in_pool : (info : List ℕ) → Refuses OfPart (pool_of info)
unfolding pool_of
in_pool info =
    behind OfPart _ _ (in_field constant_pool_tag (next_u2 info)) (λ count.
    in_whole constant_pool_tag _ (in_rows next_entry in_entry count.value count.rest))

-- ---- the Method component

in_handler : (bytes : List ℕ) → Refuses OfPart (next_handler bytes)
unfolding next_handler
in_handler bytes =
    behind OfPart _ _ (in_field method_tag (next_u2 bytes)) (λ start.
    behind OfPart _ _ (in_field method_tag (next_u2 start.rest)) (λ length.
    behind OfPart _ _ (in_field method_tag (next_u2 length.rest)) (λ target.
    behind OfPart _ _ (in_field method_tag (next_u2 target.rest)) (λ caught.
    gives OfPart _))))

pub in_methods : (info : List ℕ) → Refuses OfPart (methods_of info)
unfolding methods_of
in_methods info =
    behind OfPart _ _ (in_field method_tag (next_u1 info)) (λ count.
    behind OfPart _ _ (in_rows next_handler in_handler count.value count.rest) (λ table.
    gives OfPart _))
