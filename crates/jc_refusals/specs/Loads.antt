-- Which refusals apply to a load: one case for each, in the order of their numbers, whatever others apply. A refusal
-- applies only to what is there: one of reading to an image that is cut into its components, one of linking to
-- components that are a package, one of the card to a package that is linked. Out of memory doesn't depend on what is
-- loaded, so it is none of these.
use Rattle.std.specs.Prelude.{◌≡◌, ℕ, ◌≤◌, true, false, List, length, take, Some, Ok, Err}
use Rattle.jc_base.specs.Cutting.{Piece, Splits, twice}
use Rattle.jc_base.specs.Fault.{number_of, place_of}
use Rattle.jc_base.specs.Parts.{Infos}
use Rattle.jc_base.specs.declared.fault.LoadFault.{LoadFault}
use Rattle.jc_base.specs.declared.fault.LoadFault.TheVariants as faults
use Rattle.jc_base.specs.declared.reason.Reason.{Reason}
use Rattle.jc_cap_desc.specs.Package.{package_of}
use Rattle.jc_cap_desc.specs.Shape.{Package, Shape}
use Rattle.jc_cert.specs.Cert.{Row}
use Rattle.jc_check.specs.Checked.{IsFirstRefusal}
use Rattle.jc_classes.specs.Growth.{grown}
use Rattle.jc_link.specs.Imports.{first_unmet, is_there_already}
use Rattle.jc_link.specs.Linked.{Linked}
use Rattle.jc_link.specs.Pool.{first_mistyped, first_unresolved}
use Rattle.jc_link.specs.Statics.{first_bad_static}
use Rattle.jc_link.specs.WellFormed.{first_bad_class}
use Rattle.jc_card.specs.Card.{CardState}
use Rattle.jc_card.specs.Load.{AreSpelled, IsCut, IsLinkedBehind, has_room}
use Rattle.jc_refusals.specs.Reading.{HasBadMagic, IsRefused, UsesInt, first_missing, format_in}

-- an image is read as a package
pub record IsRead (image : List ℕ) (p : Package) : Type 0 where
  pub parts : Infos
  pub cut : IsCut image (Ok parts)
  pub read : package_of parts ≡ Ok p

-- the world in which a package is linked behind those of a card, and its place there
abbrev pub world_with : CardState → Package → List Shape
world_with c p = grown c.world.shapes p.shape

abbrev pub place_in : CardState → ℕ
place_in c = length c.world.shapes

-- ---- the refusals

pub data Applies (c : CardState) (image certificate : List ℕ) : LoadFault → Type 0 where
  -- behind the whole components stands a tag with a size, and fewer bytes than that
  short_component : (pieces : List Piece) (rest : List ℕ) → Splits image pieces rest → 3 ≤ length rest
      → Applies c image certificate faults.ShortComponent
  -- one or two bytes stand there
  extra_bytes : (pieces : List Piece) (rest : List ℕ) → Splits image pieces rest → 1 ≤ length rest
      → length rest ≤ 2 → Applies c image certificate faults.ExtraBytes
  -- none of the whole components has a required tag
  missing_component : (pieces : List Piece) (rest : List ℕ) (tag : ℕ) → Splits image pieces rest
      → first_missing pieces ≡ Some tag → Applies c image certificate (faults.MissingComponent tag)
  -- two of them have a known tag
  repeated_component : (pieces : List Piece) (rest : List ℕ) (tag : ℕ) → Splits image pieces rest
      → twice pieces ≡ Some tag → Applies c image certificate (faults.RepeatedComponent tag)
  bad_magic : (parts : Infos) → IsCut image (Ok parts) → HasBadMagic parts.header
      → Applies c image certificate faults.BadMagic
  -- its format is none that is known
  format_version : (parts : Infos) → IsCut image (Ok parts) → format_in parts.header ≡ Err faults.FormatVersion
      → Applies c image certificate faults.FormatVersion
  int_package : (parts : Infos) → IsCut image (Ok parts) → UsesInt parts.header
      → Applies c image certificate faults.IntPackage
  -- a component's reader meets an AID that isn't 5 to 16 bytes long
  bad_aid : (parts : Infos) → IsCut image (Ok parts) → IsRefused parts faults.BadAid
      → Applies c image certificate faults.BadAid
  -- a component doesn't follow its layout, or doesn't fit the others
  malformed : (parts : Infos) (tag : ℕ) → IsCut image (Ok parts) → IsRefused parts (faults.Malformed tag)
      → Applies c image certificate (faults.Malformed tag)
  -- the first import that no package meets
  missing_import : (p : Package) (token : ℕ) → IsRead image p
      → first_unmet (world_with c p) (place_in c) p.shape ≡ Some token
      → Applies c image certificate (faults.MissingImport token)
  -- the first entry of the constant pool that names nothing, or not what its tag asks
  unresolved : (p : Package) (index : ℕ) → IsRead image p
      → first_unresolved (world_with c p) (place_in c) p.body.pool ≡ Some index
      → Applies c image certificate (faults.Unresolved index)
  -- the first entry of another type than its member
  type_mismatch : (p : Package) (index : ℕ) → IsRead image p
      → first_mistyped (world_with c p) (place_in c) p.body ≡ Some index
      → Applies c image certificate (faults.TypeMismatch index)
  -- the first class that isn't well-formed
  bad_class : (p : Package) (offset : ℕ) → IsRead image p
      → first_bad_class (world_with c p) (place_in c) p.shape ≡ Some offset
      → Applies c image certificate (faults.BadClass offset)
  -- the first static field or array that doesn't fit its image
  bad_static : (p : Package) (offset : ℕ) → IsRead image p → first_bad_static p.body.statics p.shape ≡ Some offset
      → Applies c image certificate (faults.BadStatic offset)
  -- a package of the card has its AID
  duplicate_package : (p : Package) → IsRead image p
      → is_there_already (take (place_in c) (world_with c p)) p.shape ≡ true
      → Applies c image certificate faults.DuplicatePackage
  -- no rows are encoded by the certificate, whatever the image is
  bad_certificate : ((rows : List Row) → AreSpelled certificate rows → ⊥)
      → Applies c image certificate faults.BadCertificate
  -- the certificate has a row for no method with code; if it has none, the first method that it doesn't carry. These
  -- are one case: such a row is reported before methods at smaller places
  method_refused : (l : Linked) (rows : List Row) (method pc : ℕ) (reason : Reason)
      → IsLinkedBehind c.world.shapes image l → AreSpelled certificate rows
      → IsFirstRefusal l rows (faults.MethodRefused method pc reason)
      → Applies c image certificate (faults.MethodRefused method pc reason)
  -- there is no room for the linked package, or for its arrays, whatever its certificate is
  full : (l : Linked) → IsLinkedBehind c.world.shapes image l → has_room c l ≡ false
      → Applies c image certificate faults.Full

-- a refusal applies. None that applies has a smaller number, and none of the same number a smaller place
pub record IsLeast (c : CardState) (image certificate : List ℕ) (fault : LoadFault) : Type 0 where
  pub applies : Applies c image certificate fault
  pub least : (other : LoadFault) → Applies c image certificate other → number_of fault ≤ number_of other
  pub first : (other : LoadFault) → Applies c image certificate other → number_of other ≡ number_of fault
      → place_of fault ≤ place_of other
