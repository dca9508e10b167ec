-- Why a package isn't fit, or is, by what each step of its check says; and a load of one that isn't.
use Rattle.std.proofs.Common.{◌≡◌, ◌⊎◌, inl, inr, ℕ, List, Some, Result, Ok, Err, refl, sym, ap, ◌∙◌, subst, arith}
use Rattle.jc_base.specs.Cutting.{Piece, Splits, answer}
use Rattle.jc_base.specs.Parts.{Infos}
use Rattle.jc_base.specs.declared.fault.LoadFault.{LoadFault}
use Rattle.jc_base.specs.declared.fault.LoadFault.TheVariants.{BadCertificate, Memory}
use Rattle.jc_cap_desc.specs.Package.{package_of}
use Rattle.jc_cap_desc.specs.Shape.{Package, Shape}
use Rattle.jc_cert.specs.Cert.{IsCert, Row}
use Rattle.jc_cert.specs.Writing.{spelling}
use Rattle.jc_check.specs.Checked as checks
use Rattle.jc_link.specs.Linked.{IsLinkedFrom, IsLinkRefusal, Linked, World, refusal_of}
use Rattle.jc_card.specs.Card.{CardState}
use Rattle.jc_card.specs.Load.{AreSpelled, IsCut, IsFit, IsLinkedBehind, IsOutOfMemory, IsUnfit, IsWithoutRoom}
use Rattle.jc_card.specs.Reads.{CardWords, Holds, LoadsFrom}

abbrev Unfit : List Shape → List ℕ → List ℕ → LoadFault → Type 0
Unfit before image certificate fault = IsOutOfMemory image fault ⊎ IsUnfit before image certificate fault

-- what a cutter finds
abbrev Found : List ℕ → Result Infos LoadFault → Type 0
Found image result = (pieces : List Piece) × (rest : List ℕ) × Splits image pieces rest × (result ≡ answer pieces rest)

pub is_cut : (image : List ℕ) (result : Result Infos LoadFault) → Found image result → IsCut image result
is_cut image result f = record { pieces = f.0; rest = f.1; splits = f.2; is = f.3 }

pub uncut : (before : List Shape) (image certificate : List ℕ) (fault : LoadFault)
    → Found image (Err fault) → Unfit before image certificate fault
uncut before image certificate fault f = inr (IsUnfit.unlinked (Err fault) fault (is_cut image (Err fault) f) refl)

unlinked_by : (before : List Shape) (image certificate : List ℕ) (parts : Infos) (read : Result Package LoadFault)
    (fault : LoadFault) → IsCut image (Ok parts) → package_of parts ≡ read → IsLinkRefusal before read fault
    → Unfit before image certificate fault
unlinked_by before image certificate parts (Err why) fault cut is r =
    inr (IsUnfit.unlinked (Ok parts) fault cut (ap (refusal_of before) is ∙ ap Some (sym r)))
unlinked_by before image certificate parts (Ok p) fault cut is (inl memory) =
    inl (record { is = memory; parts = parts; cut = cut; «package» = p; read = is })
unlinked_by before image certificate parts (Ok p) fault cut is (inr told) =
    inr (IsUnfit.unlinked (Ok parts) fault cut (ap (refusal_of before) is ∙ told))

pub unlinked : (before : List Shape) (image certificate : List ℕ) (parts : Infos) (fault : LoadFault)
    → Found image (Ok parts) → IsLinkRefusal before (package_of parts) fault → Unfit before image certificate fault
unlinked before image certificate parts fault f r =
    unlinked_by before image certificate parts (package_of parts) fault (is_cut image (Ok parts) f) refl r

-- of a package that is linked
pub out_of_memory : (before : List Shape) (image : List ℕ) (l : Linked) (fault : LoadFault)
    → IsLinkedBehind before image l → fault ≡ Memory → IsOutOfMemory image fault
out_of_memory before image l fault behind memory = grind arith

pub unspelled : (before : List Shape) (image certificate : List ℕ) (l : Linked) (fault : LoadFault)
    → IsLinkedBehind before image l
    → (fault ≡ BadCertificate → (rows : List Row) → IsCert rows → certificate ≡ spelling rows → ⊥)
    → (fault ≡ BadCertificate) ⊎ (fault ≡ Memory) → Unfit before image certificate fault
unspelled before image certificate l fault behind none (inl bad) =
    inr (subst (IsUnfit before image certificate) (sym bad)
    (IsUnfit.unspelled l behind (λ rows spelled. none bad rows spelled.cert spelled.bytes_are)))
unspelled before image certificate l fault behind none (inr memory) =
    inl (out_of_memory before image l fault behind memory)

pub uncarried : (before : List Shape) (image certificate : List ℕ) (l : Linked) (rows : List Row) (fault : LoadFault)
    → IsLinkedBehind before image l → AreSpelled certificate rows → checks.IsCheckRefusal l rows fault
    → Unfit before image certificate fault
uncarried before image certificate l rows fault behind spelled (inl memory) =
    inl (out_of_memory before image l fault behind memory)
uncarried before image certificate l rows fault behind spelled (inr first) =
    inr (IsUnfit.uncarried l rows fault behind spelled first)

-- ---- a package that is fit

pub is_fit : (before : List Shape) (image certificate : List ℕ) (l : Linked) (parts : Infos) (rows : List Row)
    → Found image (Ok parts) → IsLinkedFrom before parts l → IsCert rows × (certificate ≡ spelling rows)
    → checks.CarriesPackage l rows → IsFit before image certificate l
is_fit before image certificate l parts rows found linked spelled carried = grind (arith, is_cut)

-- ---- a load

with_room : (c : CardState) (image certificate : List ℕ) (fault : LoadFault)
    → Unfit c.world.shapes image certificate fault
    → IsOutOfMemory image fault ⊎ IsUnfit c.world.shapes image certificate fault
    ⊎ IsWithoutRoom c image certificate fault
with_room c image certificate fault h1 = grind arith

pub refused : (w : World) (k : CardWords) (c : CardState) (image certificate : List ℕ) (fault : LoadFault)
    → w ≡ c.world → Holds k c → Unfit w.shapes image certificate fault
    → LoadsFrom c k image certificate (Err fault)
refused w k c image certificate fault same h unfit = grind (arith, with_room)
