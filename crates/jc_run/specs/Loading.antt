-- Loads of packages on the card of the defensive machine, by names. Safety is said of any rule of loads that puts
-- packages on cards as their images say; which packages are accepted is said apart (Java Card Virtual Machine
-- Specification, Linking).
use Rattle.std.specs.Prelude.{⊤, ◌≡◌, ℕ, List, Result, Ok, Err, length}
use Rattle.jc_base.specs.declared.fault.LoadFault.{LoadFault}
use Rattle.jc_base.specs.Parts.{Infos}
use Rattle.jc_card.specs.Card.{CardState}
use Rattle.jc_card.specs.Load.{IsCut, IsLoad, with_package}
use Rattle.jc_cap_desc.specs.Package.{package_of}
use Rattle.jc_cap_desc.specs.Shape.{Package}
use Rattle.jc_classes.specs.Growth.{grown}
use Rattle.jc_link.specs.Kept.{kept_of}
use Rattle.jc_link.specs.Linked.{IsResolved, Linked}
use Rattle.jc_safety.specs.Loading.{next_package}

-- ---- what loads read and do

-- a card, an image and a certificate, the result of their load, and the card after it
abbrev pub LoadRule : Type 1
LoadRule = CardState → List ℕ → List ℕ → Result ℕ LoadFault → CardState → Type 0

-- the image of a package under a name, the bytes of a certificate under a name, and the rule of a load
pub record Loading : Type 1 where
  pub images : List ℕ → List ℕ → Type 0
  pub certificates : List ℕ → List ℕ → Type 0
  pub rule : LoadRule

abbrev pub loading_by : LoadRule → (images certificates : List ℕ → List ℕ → Type 0) → Loading
loading_by rule images certificates = record { images = images; certificates = certificates; rule = rule }

-- loads are accepted and refused exactly as jc_card Load says
abbrev pub exactly : (images certificates : List ℕ → List ℕ → Type 0) → Loading
exactly images certificates = loading_by IsLoad images certificates

-- whatever is loaded: a name may stand for any bytes
abbrev pub anything : List ℕ → List ℕ → Type 0
anything name bytes = ⊤

-- ---- safe loads

-- a package is put on a card as its image says: it is read from the image's parts, and stands behind the card's
-- packages; each entry of its pool has its target there; and it gets its static fields and arrays
pub record IsPut (c : CardState) (image : List ℕ) (number : ℕ) (after : CardState) : Type 0 where
  pub parts : Infos
  pub cut : IsCut image (Ok parts)
  pub «package» : Package
  pub read : package_of parts ≡ Ok «package»
  pub linked : Linked
  pub world : linked.world ≡ grown c.world.shapes «package».shape
  pub kept : linked.body.kept ≡ kept_of «package».body
  pub targets : IsResolved linked.world (length c.world.shapes) linked.body
  pub number_is : number ≡ next_package c.world
  pub after_is : after ≡ with_package c linked

-- .. or, whatever the refusal, the card stays as it is
abbrev pub PutsOrLeaves : CardState → List ℕ → Result ℕ LoadFault → CardState → Type 0
PutsOrLeaves c image (Ok number) after = IsPut c image number after
PutsOrLeaves c image (Err fault) after = after ≡ c

abbrev pub AreSafeLoads : LoadRule → Type 0
AreSafeLoads rule = (c : CardState) (image certificate : List ℕ) (result : Result ℕ LoadFault) (after : CardState)
    → rule c image certificate result after → PutsOrLeaves c image result after
