-- Which refusals of cutting and of reading apply to components, whatever others apply.
use Rattle.std.specs.Prelude.{◌≡◌, ℕ, ◌==◌, true, false, not, ◌&&◌, List, [], ◌∷◌, length, Option, Some, None, Result}
use Rattle.std.specs.Prelude.{Ok, Err, is_some}
use Rattle.std.specs.List.{find, list_all}
use Rattle.jc_base.specs.Cutting.{Piece, info_of}
use Rattle.jc_base.specs.Cursor.{Read, field, next_u1, next_u4, whole}
use Rattle.jc_base.specs.Numbers.{has_flag}
use Rattle.jc_base.specs.Parts.{Infos}
use Rattle.jc_base.specs.Results.{◌>>=◌}
use Rattle.jc_base.specs.Tag.{applet_tag, class_tag, constant_pool_tag, descriptor_tag, header_tag, method_tag}
use Rattle.jc_base.specs.Tag.{static_field_tag}
use Rattle.jc_base.specs.declared.fault.LoadFault.{LoadFault}
use Rattle.jc_base.specs.declared.fault.LoadFault.TheVariants.{BadMagic, FormatVersion, Malformed}
use Rattle.jc_base.specs.declared.placed_rows.Placed.{Placed}
use Rattle.jc_cap.specs.Applets.{applets_of}
use Rattle.jc_cap.specs.Exports.{exports_of}
use Rattle.jc_cap.specs.Header.{Heading, acc_int, behind_magic, header_of, next_format, next_heading}
use Rattle.jc_cap.specs.Imports.{imports_of}
use Rattle.jc_cap.specs.MethodComponent.{MethodComponent, methods_of}
use Rattle.jc_cap.specs.Pool.{pool_of}
use Rattle.jc_cap.specs.Statics.{static_fields_of}
use Rattle.jc_cap.specs.declared.applets.Applet.{Applet}
use Rattle.jc_cap.specs.declared.entry.PoolEntry.{PoolEntry}
use Rattle.jc_cap.specs.declared.header.Format.{Format}
use Rattle.jc_cap.specs.declared.record.Record.{Record}
use Rattle.jc_cap_desc.specs.Across.{applets_install, class_methods, is_described, methods_differ, rows_match}
use Rattle.jc_cap_desc.specs.Across.{stands_inside}
use Rattle.jc_cap_desc.specs.Component as Descriptor
use Rattle.jc_cap_desc.specs.Package.{class_fault, layout_in}
use Rattle.jc_cap_desc.specs.Types.{descriptor_of}
use Rattle.jc_cap_desc.specs.declared.component.DescriptorInfo.{DescriptorInfo}

-- ---- missing components

-- the tags of the required components, the least first; and the first that no component has
abbrev pub required : List ℕ
required = header_tag ∷ constant_pool_tag ∷ class_tag ∷ method_tag ∷ static_field_tag ∷ descriptor_tag ∷ []

abbrev pub first_missing : List Piece → Option ℕ
first_missing pieces = find (λ tag. not (is_some (info_of tag pieces))) required

-- ---- the Header

-- it doesn't begin with the magic number
abbrev pub HasBadMagic : List ℕ → Type 0
HasBadMagic info = behind_magic (next_u4 info) ≡ Err BadMagic

-- its format, whatever its first four bytes are; with fewer bytes it has none
abbrev pub format_behind : Option (Read ℕ) → Result (Read Format) LoadFault
format_behind None = Err FormatVersion
format_behind (Some magic) = next_format magic.rest

abbrev pub format_in : List ℕ → Result (Read Format) LoadFault
format_in info = format_behind (next_u4 info)

-- its flags say that the package uses int
pub record UsesInt (info : List ℕ) : Type 0 where
  pub format : Read Format
  pub flags : Read ℕ
  pub is_format : format_in info ≡ Ok format
  pub are_flags : next_u1 format.rest ≡ Some flags
  pub uses : has_flag flags.value acc_int ≡ true

-- what stands after its flags, whatever its magic number and its flags are
abbrev pub heading_in : List ℕ → Result Heading LoadFault
heading_in info =
    format_in info >>= λ format. field header_tag (next_u1 format.rest)
    >>= λ flags. whole (Malformed header_tag) (next_heading format.value flags.rest)

-- ---- what components say of one another

-- the Descriptor and the classes' records, by their layouts; the Header says which layout the Class component has
pub record HasRows (infos : Infos) : Type 0 where
  pub info : DescriptorInfo
  pub records : List (Placed Record)
  pub is_info : Descriptor.layout_of infos.descriptor ≡ Ok info
  pub are_records : layout_in (header_of infos.header) infos.class ≡ Some records

-- the component with a tag doesn't fit the others, by a test across components
pub data IsMisfit (infos : Infos) : ℕ → Type 0 where
  entries : (info : DescriptorInfo) (pool : List PoolEntry) → Descriptor.layout_of infos.descriptor ≡ Ok info
      → pool_of infos.constant_pool ≡ Ok pool → (length pool == length info.pool_types) ≡ false
      → IsMisfit infos descriptor_tag
  installs : (h : HasRows infos) (applets : List Applet) → applets_of infos.applet ≡ Ok (Some applets)
      → applets_install h.records h.info.classes h.info.types applets ≡ false → IsMisfit infos applet_tag
  outside : (h : HasRows infos) (methods : MethodComponent) → methods_of infos.method ≡ Ok methods
      → list_all (stands_inside methods) (class_methods h.records h.info.classes) ≡ false → IsMisfit infos method_tag
  undescribed : (h : HasRows infos) (methods : MethodComponent) → methods_of infos.method ≡ Ok methods
      → list_all (is_described methods) (class_methods h.records h.info.classes) ≡ false
      → IsMisfit infos descriptor_tag
  mismatched : (h : HasRows infos)
      → (rows_match h.records h.info.classes && methods_differ h.records h.info.classes) ≡ false
      → IsMisfit infos descriptor_tag

-- ---- all components

-- a component isn't read, whatever the others are, or doesn't fit the others; the Class component is read only behind a
-- Header that is
pub data IsRefused (infos : Infos) : LoadFault → Type 0 where
  header : (fault : LoadFault) → heading_in infos.header ≡ Err fault → IsRefused infos fault
  applets : (fault : LoadFault) → applets_of infos.applet ≡ Err fault → IsRefused infos fault
  imports : (fault : LoadFault) → imports_of infos.imports ≡ Err fault → IsRefused infos fault
  pool : (fault : LoadFault) → pool_of infos.constant_pool ≡ Err fault → IsRefused infos fault
  classes : (fault : LoadFault) → class_fault (header_of infos.header) infos.class ≡ Some fault
      → IsRefused infos fault
  methods : (fault : LoadFault) → methods_of infos.method ≡ Err fault → IsRefused infos fault
  statics : (fault : LoadFault) → static_fields_of infos.static_field ≡ Err fault → IsRefused infos fault
  exports : (fault : LoadFault) → exports_of infos.export ≡ Err fault → IsRefused infos fault
  descriptor : (fault : LoadFault) → descriptor_of infos.descriptor ≡ Err fault → IsRefused infos fault
  across : (tag : ℕ) → IsMisfit infos tag → IsRefused infos (Malformed tag)
