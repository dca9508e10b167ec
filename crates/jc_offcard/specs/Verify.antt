-- The answer of `verify` to a package after others, with a binding: a certificate that carries it, or that none does,
-- or the first refusal.
use Rattle.std.specs.Prelude.{◌≡◌, ℕ, ◌<◌, ◌≤◌, List, [], ◌∷◌, ◌++◌, length, Some, Result, Ok}
use Rattle.jc_api.specs.Bound.{Bound}
use Rattle.jc_base.specs.Cutting.{Piece, Splits, answer}
use Rattle.jc_base.specs.Results.{◌>>=◌}
use Rattle.jc_base.specs.declared.fault.LoadFault.{LoadFault}
use Rattle.jc_base.specs.declared.fault.LoadFault.TheVariants as faults
use Rattle.jc_cap_desc.specs.Package.{package_of}
use Rattle.jc_cap_desc.specs.Shape.{Package, Shape}
use Rattle.jc_cert.specs.Cert.{IsCert, Row}
use Rattle.jc_cert.specs.Writing.{spelling}
use Rattle.jc_check.specs.Checked.{CarriesPackage, IsPackageCarried}
use Rattle.jc_classes.specs.Api.{api_world}
use Rattle.jc_classes.specs.Growth.{grown}
use Rattle.jc_link.specs.Linked.{IsLinked, Linked, most_in_world, refusal_of}
use Rattle.jc_link.specs.WellFormed.{IsWellFormed}
use Rattle.jc_check.specs.declared.fault.Fault.{Fault}
use Rattle.jc_verify.specs.Refusal.{IsUncarried}
use Rattle.jc_offcard.specs.declared.verify_answer.VerifyAnswer.{VerifyAnswer}
use Rattle.jc_offcard.specs.declared.verify_answer.VerifyAnswer.TheVariants.{Certificate, NoCertificate, Refused}
use Rattle.jc_offcard.specs.declared.verify_answer.VerifyAnswer.TheVariants.{Memory}

-- the result of reading an image: it splits into components, which are a package or are refused, or it is refused
pub record IsReadAs (image : List ℕ) (read : Result Package LoadFault) : Type 0 where
  pub pieces : List Piece
  pub rest : List ℕ
  pub cut : Splits image pieces rest
  pub is : read ≡ (answer pieces rest >>= package_of)

-- the image is a package, which is well-formed in the world of those before it
pub record IsFine (before : List Shape) (image : List ℕ) (p : Package) : Type 0 where
  pub read : IsReadAs image (Ok p)
  pub fine : IsWellFormed before p

-- the image is refused after these packages
pub record IsRefused (before : List Shape) (image : List ℕ) (fault : LoadFault) : Type 0 where
  pub read : Result Package LoadFault
  pub is : IsReadAs image read
  pub refused : refusal_of before read ≡ Some fault

-- the images are packages, each well-formed in the world of those before it and appended to them, from a first world to
-- a last one
pub data AreLoaded : List Shape → List (List ℕ) → List Shape → Type 0 where
  none : (world : List Shape) → AreLoaded world [] world
  next : (before after : List Shape) (image : List ℕ) (images : List (List ℕ)) (p : Package) → IsFine before image p
      → length before < most_in_world
      → AreLoaded (grown before p.shape) images after → AreLoaded before (image ∷ images) after

-- the first refusal of images that are linked one after the other; each image before another one needs room in the
-- world
pub data IsFirstRefusal : List Shape → List (List ℕ) → LoadFault → Type 0 where
  here : (before : List Shape) (image : List ℕ) (images : List (List ℕ)) (fault : LoadFault)
      → IsRefused before image fault → IsFirstRefusal before (image ∷ images) fault
  full : (before : List Shape) (image next : List ℕ) (images : List (List ℕ)) (p : Package) → IsFine before image p
      → most_in_world ≤ length before → IsFirstRefusal before (image ∷ next ∷ images) faults.Full
  later : (before : List Shape) (image : List ℕ) (images : List (List ℕ)) (p : Package) (fault : LoadFault)
      → IsFine before image p
      → length before < most_in_world → IsFirstRefusal (grown before p.shape) images fault
      → IsFirstRefusal before (image ∷ images) fault

-- the image is a package
pub record IsPackage (image : List ℕ) : Type 0 where
  pub «package» : Package
  pub read : IsReadAs image (Ok «package»)

-- where memory may run out: at an image that is a package, after images that are appended one after the other
pub data MayBeShort : List Shape → List (List ℕ) → Type 0 where
  here : (before : List Shape) (image : List ℕ) (images : List (List ℕ)) → IsPackage image
      → MayBeShort before (image ∷ images)
  later : (before : List Shape) (image : List ℕ) (images : List (List ℕ)) (p : Package) → IsFine before image p
      → length before < most_in_world → MayBeShort (grown before p.shape) images → MayBeShort before (image ∷ images)

-- the image is a package, and this is it, linked to those before it
pub record IsLinkedBehind (before : List Shape) (image : List ℕ) (l : Linked) : Type 0 where
  pub «package» : Package
  pub read : IsReadAs image (Ok «package»)
  pub linked : IsLinked before «package» l

-- the earlier images are appended to the API's packages, and the image is linked to them
pub record IsLinkedAfter (binding : Bound) (earlier : List (List ℕ)) (image : List ℕ) (l : Linked) : Type 0 where
  pub world : List Shape
  pub loaded : AreLoaded (api_world binding) earlier world
  pub behind : IsLinkedBehind world image l

-- bytes are the encoding of a certificate that carries a linked package
pub record SpellCarrying (l : Linked) (bytes : List ℕ) : Type 0 where
  pub rows : List Row
  pub cert : IsCert rows
  pub carried : CarriesPackage l rows
  pub bytes_are : bytes ≡ spelling rows

-- the package is linked to the earlier ones, and the bytes are the encoding of a certificate that carries it
pub record IsCertified (binding : Bound) (earlier : List (List ℕ)) (image bytes : List ℕ) : Type 0 where
  pub linked : Linked
  pub after : IsLinkedAfter binding earlier image linked
  pub spelled : SpellCarrying linked bytes

-- no certificate carries a linked package: no states carry the method at an offset, with this fault, and those before
-- it can be carried
pub record IsCarriedByNone (l : Linked) (offset : ℕ) (fault : Fault) : Type 0 where
  pub uncarried : IsUncarried l offset fault
  pub none : IsPackageCarried l → ⊥

-- the package is linked to the earlier ones, and no certificate carries it
pub record IsUncertified (binding : Bound) (earlier : List (List ℕ)) (image : List ℕ) (offset : ℕ)
    (fault : Fault) : Type 0 where
  pub linked : Linked
  pub after : IsLinkedAfter binding earlier image linked
  pub uncarried : IsCarriedByNone linked offset fault

-- the answer to a package after earlier ones, with a binding
abbrev pub IsVerified : Bound → List (List ℕ) → List ℕ → VerifyAnswer → Type 0
IsVerified binding earlier image (Certificate bytes) = IsCertified binding earlier image bytes.items
IsVerified binding earlier image (NoCertificate method fault) = IsUncertified binding earlier image method fault
IsVerified binding earlier image (Refused fault) = IsFirstRefusal (api_world binding) (earlier ++ image ∷ []) fault
IsVerified binding earlier image Memory = MayBeShort (api_world binding) (earlier ++ image ∷ [])
