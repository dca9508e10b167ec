-- Private. The answers of the parts of `verify`.
use Rattle.std.specs.Prelude.{⊤, ◌≡◌, ◌≢◌, ◌⊎◌, ℕ, ◌<◌, ◌≤◌, List, [], ◌∷◌, ◌++◌, length}
use Rattle.jc_base.specs.declared.fault.LoadFault.{LoadFault}
use Rattle.jc_base.specs.declared.fault.LoadFault.TheVariants as faults
use Rattle.jc_cap_desc.specs.Shape.{Package, Shape}
use Rattle.jc_classes.specs.Growth.{grown}
use Rattle.jc_link.specs.Linked.{Linked, most_in_world}
use Rattle.jc_offcard.specs.Verify.{AreLoaded, IsCarriedByNone, IsFine, IsFirstRefusal, IsPackage, IsRefused}
use Rattle.jc_offcard.specs.Verify.{MayBeShort, SpellCarrying}
use Rattle.jc_offcard.specs.declared.unlinked.Unlinked.{Unlinked}
use Rattle.jc_offcard.specs.declared.unlinked.Unlinked.TheVariants as unlinked
use Rattle.jc_offcard.specs.declared.verify_answer.VerifyAnswer.{VerifyAnswer}
use Rattle.jc_offcard.specs.declared.verify_answer.VerifyAnswer.TheVariants.{Certificate, NoCertificate, Refused}
use Rattle.jc_offcard.specs.declared.verify_answer.VerifyAnswer.TheVariants.{Memory}

-- a package is appended to others
pub record IsPut (before : List Shape) (image : List ℕ) (after : List Shape) : Type 0 where
  pub «package» : Package
  pub fine : IsFine before image «package»
  pub room : length before < most_in_world
  pub world : after ≡ grown before «package».shape

-- the package is well-formed, but there is no room for it
pub record IsPastLast (before : List Shape) (image : List ℕ) (fault : LoadFault) : Type 0 where
  pub «package» : Package
  pub fine : IsFine before image «package»
  pub room : most_in_world ≤ length before
  pub told : fault ≡ faults.Full

-- the fault as why an image isn't linked
pub data Tells (fault : LoadFault) (why : Unlinked) : Type 0 where
  short : fault ≡ faults.Memory → why ≡ unlinked.Memory → Tells fault why
  refused : fault ≢ faults.Memory → why ≡ unlinked.Refused fault → Tells fault why

-- why an image isn't linked to others: it is refused, or memory ran out; then it is a package
abbrev pub IsUnlinked : List Shape → List ℕ → Unlinked → Type 0
IsUnlinked before image (unlinked.Refused fault) = IsRefused before image fault
IsUnlinked before image unlinked.Memory = IsPackage image

-- why it isn't appended to them
abbrev pub IsUnput : List Shape → List ℕ → Unlinked → Type 0
IsUnput before image (unlinked.Refused fault) = IsRefused before image fault ⊎ IsPastLast before image fault
IsUnput before image unlinked.Memory = IsPackage image

-- why the last of images isn't linked to the others
abbrev pub IsStopped : List Shape → List (List ℕ) → Unlinked → Type 0
IsStopped before images (unlinked.Refused fault) = IsFirstRefusal before images fault
IsStopped before images unlinked.Memory = MayBeShort before images

-- why images aren't loaded, whatever is linked after them
abbrev pub AreUnloaded : List Shape → List (List ℕ) → Unlinked → Type 0
AreUnloaded before images why = (image : List ℕ) → IsStopped before (images ++ image ∷ []) why

-- the result of images from a first world is the result of those that are left from a world
pub record Leads (first : List Shape) (images : List (List ℕ)) (world : List Shape)
    (left : List (List ℕ)) : Type 0 where
  pub loaded : (last : List Shape) → AreLoaded world left last → AreLoaded first images last
  pub stopped : (image : List ℕ) (why : Unlinked) → IsStopped world (left ++ image ∷ []) why
      → IsStopped first (images ++ image ∷ []) why

-- the answer to a linked package
abbrev pub IsInferred : Linked → VerifyAnswer → Type 0
IsInferred l (Certificate bytes) = SpellCarrying l bytes.items
IsInferred l (NoCertificate method fault) = IsCarriedByNone l method fault
IsInferred l (Refused fault) = ⊥
IsInferred l Memory = ⊤
