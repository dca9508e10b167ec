-- Each stage of a load tells refusals of its own range.
use Rattle.std.specs.Prelude.{◌≡◌, ℕ, List, Some, Err}
use Rattle.std.proofs.Common.{refl, ap, ◌∙◌}
use Rattle.jc_base.proofs.Once.{one_split}
use Rattle.jc_base.specs.Cutting.{Piece, Splits, answer}
use Rattle.jc_base.specs.Fault.{number_of}
use Rattle.jc_base.specs.Parts.{Infos}
use Rattle.jc_base.specs.declared.fault.LoadFault.{LoadFault}
use Rattle.jc_cap_desc.specs.Package.{package_of}
use Rattle.jc_cap_desc.specs.Shape.{Package, Shape}
use Rattle.jc_cert.specs.Cert.{Row}
use Rattle.jc_check.specs.Checked.{IsFirstRefusal, method, stray}
use Rattle.jc_link.specs.Linked.{Linked}
use Rattle.jc_link.specs.WellFormed.{fault_behind}
use Rattle.jc_refusals.proofs.Uncut.{cut_number, cut_told}
use Rattle.jc_refusals.proofs.Unlinked.{link_number, link_told}
use Rattle.jc_refusals.proofs.Unread.{read_number, read_told}
use Rattle.jc_refusals.specs.Order.{IsBetween}

pub cut : (pieces : List Piece) (rest : List ℕ) (fault : LoadFault) → answer pieces rest ≡ Err fault
    → IsBetween 1 4 fault
cut pieces rest fault e = cut_number pieces rest fault (cut_told pieces rest fault e)

pub cut_once : (image : List ℕ) (ps qs : List Piece) (rest others : List ℕ) → Splits image ps rest
    → Splits image qs others → answer ps rest ≡ answer qs others
cut_once image ps qs rest others a b =
    let same = one_split image ps qs rest others a b in
    ap (λ pieces. answer pieces rest) same.0 ∙ ap (λ left. answer qs left) same.1

pub read : (parts : Infos) (fault : LoadFault) → package_of parts ≡ Err fault → IsBetween 5 9 fault
read parts fault e = read_number parts fault (read_told parts fault e)

pub linked : (before : List Shape) (p : Package) (fault : LoadFault) → fault_behind before p ≡ Some fault
    → IsBetween 10 15 fault
linked before p fault e = link_number before p fault (link_told before p fault e)

pub checked : (l : Linked) (rows : List Row) (fault : LoadFault) → IsFirstRefusal l rows fault → number_of fault ≡ 17
checked l rows fault (stray offset found) = refl
checked l rows fault (method b refusal fine first) = refl
