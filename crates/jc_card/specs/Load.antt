-- Loading a package: it is read and linked to those of the card, and checked with its certificate; then it gets its
-- static fields, and its initialised arrays are made (Java Card Virtual Machine Specification, Linking, Verification of
-- CAP files, StaticField component).
use Rattle.std.specs.Prelude.{◌≡◌, ◌⊎◌, ℕ, ◌&&◌, Bool, true, false, List, Option, Some, Result, Ok, Err, length, nat_lt}
use Rattle.jc_base.specs.Cutting.{Piece, Splits, answer}
use Rattle.jc_base.specs.Parts.{Infos}
use Rattle.jc_base.specs.declared.fault.LoadFault.{LoadFault}
use Rattle.jc_base.specs.declared.fault.LoadFault.TheVariants.{BadCertificate, Full, Memory}
use Rattle.jc_cap_desc.specs.Package.{package_of}
use Rattle.jc_cap_desc.specs.Shape.{Package, Shape}
use Rattle.jc_cert.specs.Cert.{IsCert, Row}
use Rattle.jc_cert.specs.Writing.{spelling}
use Rattle.jc_check.specs.Checked.{CarriesPackage, IsFirstRefusal}
use Rattle.jc_link.specs.Linked.{IsLinkedFrom, Linked, most_in_world, refusal_of, with_linked}
use Rattle.jc_safety.specs.Loading.{has_room_for, heap_behind, next_package, statics_behind}
use Rattle.jc_card.specs.Card.{CardState}

-- ---- the package and its certificate

-- the parts of an image, or its fault
pub record IsCut (image : List ℕ) (cut : Result Infos LoadFault) : Type 0 where
  pub pieces : List Piece
  pub rest : List ℕ
  pub splits : Splits image pieces rest
  pub is : cut ≡ answer pieces rest

-- the image is a package, and this is it, linked to the packages of a world
pub record IsLinkedBehind (before : List Shape) (image : List ℕ) (l : Linked) : Type 0 where
  pub parts : Infos
  pub cut : IsCut image (Ok parts)
  pub linked : IsLinkedFrom before parts l

-- why it is no package, or isn't linked
abbrev pub unlinked_for : List Shape → Result Infos LoadFault → Option LoadFault
unlinked_for before (Err fault) = Some fault
unlinked_for before (Ok parts) = refusal_of before (package_of parts)

-- the bytes are the encoding of a certificate
pub record AreSpelled (bytes : List ℕ) (rows : List Row) : Type 0 where
  pub cert : IsCert rows
  pub bytes_are : bytes ≡ spelling rows

-- the package is linked, and its certificate carries it
pub record IsFit (before : List Shape) (image certificate : List ℕ) (l : Linked) : Type 0 where
  pub linked : IsLinkedBehind before image l
  pub rows : List Row
  pub spelled : AreSpelled certificate rows
  pub carried : CarriesPackage l rows

-- the package isn't fit: for its own fault, for the bytes of its certificate, or for the refusal of its check; the
-- first that applies
pub data IsUnfit (before : List Shape) (image certificate : List ℕ) : LoadFault → Type 0 where
  unlinked : (cut : Result Infos LoadFault) (fault : LoadFault) → IsCut image cut
      → unlinked_for before cut ≡ Some fault → IsUnfit before image certificate fault
  unspelled : (l : Linked) → IsLinkedBehind before image l → ((rows : List Row) → AreSpelled certificate rows → ⊥)
      → IsUnfit before image certificate BadCertificate
  uncarried : (l : Linked) (rows : List Row) (fault : LoadFault) → IsLinkedBehind before image l
      → AreSpelled certificate rows → IsFirstRefusal l rows fault → IsUnfit before image certificate fault

-- ---- room

-- whether there is room for another package, and for its arrays
abbrev pub has_room : CardState → Linked → Bool
has_room c l =
    nat_lt (length c.world.shapes) most_in_world && has_room_for c.limits (heap_behind c.world c.heap l)

-- ---- results of loading

-- the card with a package added
abbrev pub with_package : CardState → Linked → CardState
with_package c l = record c {
  world = with_linked c.world l;
  heap = heap_behind c.world c.heap l;
  statics = statics_behind c.heap c.statics l;
}

-- a package is loaded if its certificate carries it and there is room
pub record IsLoaded (c : CardState) (image certificate : List ℕ) (number : ℕ) (after : CardState) : Type 0 where
  pub linked : Linked
  pub fit : IsFit c.world.shapes image certificate linked
  pub room : has_room c linked ≡ true
  pub number_is : number ≡ next_package c.world
  pub after_is : after ≡ with_package c linked

-- a fit package without room
pub record IsWithoutRoom (c : CardState) (image certificate : List ℕ) (fault : LoadFault) : Type 0 where
  pub is : fault ≡ Full
  pub linked : Linked
  pub fit : IsFit c.world.shapes image certificate linked
  pub room : has_room c linked ≡ false

-- memory may run out once the image is cut into its parts, and these are read as a package
pub record IsOutOfMemory (image : List ℕ) (fault : LoadFault) : Type 0 where
  pub is : fault ≡ Memory
  pub parts : Infos
  pub cut : IsCut image (Ok parts)
  pub «package» : Package
  pub read : package_of parts ≡ Ok «package»

-- a package that isn't loaded leaves the card unchanged, also if memory ran out
pub record IsNotLoaded (c : CardState) (image certificate : List ℕ) (fault : LoadFault) (after : CardState)
    : Type 0 where
  pub kept : after ≡ c
  pub why : IsOutOfMemory image fault ⊎ IsUnfit c.world.shapes image certificate fault
      ⊎ IsWithoutRoom c image certificate fault

-- the result of a load, and the card after it
abbrev pub IsLoad : CardState → List ℕ → List ℕ → Result ℕ LoadFault → CardState → Type 0
IsLoad c image certificate (Ok number) after = IsLoaded c image certificate number after
IsLoad c image certificate (Err fault) after = IsNotLoaded c image certificate fault after
