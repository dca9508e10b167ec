-- Of the refusals that apply to a load the one with the least number and place is told.
use Rattle.std.proofs.Common.{◌≤◌, ◌<◌, ◌≡◌, ◌⊎◌, ℕ, ◌≢◌, true, false, List, Some, Result, Ok, Err, inl, inr}
use Rattle.std.proofs.Common.{refl, sym, ap, ◌∙◌, subst, arith, [], ◌∷◌, map, length}
use Rattle.std.proofs.lemmas.Bool.{cases_lt}
use Rattle.std.proofs.lemmas.Option.{none-some}
use Rattle.jc_base.proofs.Once.{one_split}
use Rattle.jc_base.specs.Cutting.{Piece, Splits}
use Rattle.jc_base.specs.Fault.{number_of}
use Rattle.jc_base.specs.Parts.{Infos}
use Rattle.jc_base.specs.declared.fault.LoadFault.{LoadFault}
use Rattle.jc_base.specs.declared.fault.LoadFault.TheVariants.{BadCertificate, Full, Memory}
use Rattle.jc_base.specs.declared.reason.Reason.TheVariants.{CertMismatch}
use Rattle.jc_cap_desc.specs.Package.{package_of}
use Rattle.jc_cap_desc.specs.Shape.{MethodBody, Package, Shape}
use Rattle.jc_cert.specs.Cert.{IsCert, Row, Stated}
use Rattle.jc_cert.specs.Writing.{spelling}
use Rattle.jc_check.specs.Carried.{Carries}
use Rattle.jc_check.specs.Checked.{CarriesPackage, IsFirstRefusal, IsFirstUncarried, IsMethodCarried, stated_for}
use Rattle.jc_check.specs.Checked.IsFirstRefusal.{method, stray}
use Rattle.jc_check.specs.FirstFault.{IsFirstFault}
use Rattle.jc_check.specs.Package.{method_of, package_rules}
use Rattle.jc_check.specs.Method.{CheckedMethod}
use Rattle.jc_check.specs.Rules.{Rules}
use Rattle.jc_check.specs.declared.fault.Fault.{Fault}
use Rattle.jc_code.specs.Instructions.{instr_at}
use Rattle.jc_code.specs.Listing.{ListingLaws}
use Rattle.jc_link.specs.Kept.{Kept}
use Rattle.jc_link.specs.Linked.{IsLinked, Linked, refusal_of}
use Rattle.jc_link.specs.Target.{pool_targets}
use Rattle.jc_link.specs.WellFormed.{fault_behind}
use Rattle.jc_link.specs.declared.target.PoolTarget.{PoolTarget}
use Rattle.jc_card.specs.Card.{CardState}
use Rattle.jc_card.specs.Load.{AreSpelled, IsCut, IsLinkedBehind, IsLoad, IsOutOfMemory, IsUnfit}
use Rattle.jc_card.specs.Load.{IsWithoutRoom, has_room}
use Rattle.jc_card.specs.Load.IsUnfit.{uncarried as not_carried, unlinked as not_linked, unspelled as not_spelled}
use Rattle.jc_refusals.proofs.Before.{Before, before_less, before_same}
use Rattle.jc_refusals.proofs.Ranges.{bad_aid, bad_layout}
use Rattle.jc_refusals.proofs.Stages.{checked, cut_once}
use Rattle.jc_refusals.proofs.Uncut.{OfCutting, cut_before, cut_number, cut_told, never_cut}
use Rattle.jc_refusals.proofs.Uncut.OfCutting.{extra, missing, repeated, short}
use Rattle.jc_refusals.proofs.Unlinked.{OfLinking, link_before, link_number, link_told, never_linked}
use Rattle.jc_refusals.proofs.Unlinked.OfLinking.{ill_class, ill_static, no_import, no_target, other_type, same_aid}
use Rattle.jc_refusals.proofs.Unread.{OfReading, never_read, read_before, read_number, read_told}
use Rattle.jc_refusals.proofs.Unread.OfReading.{refused_part, with_int, without_format, without_magic}
use Rattle.jc_refusals.specs.Loads.{Applies, IsLeast, IsRead}
use Rattle.jc_refusals.specs.Loads.Applies.{bad_aid as too_short_or_long, bad_certificate, bad_class, bad_magic}
use Rattle.jc_refusals.specs.Loads.Applies.{bad_static, duplicate_package, extra_bytes, format_version, full}
use Rattle.jc_refusals.specs.Loads.Applies.{int_package, malformed, method_refused, missing_component, missing_import}
use Rattle.jc_refusals.specs.Loads.Applies.{repeated_component, short_component, type_mismatch, unresolved}
use Rattle.jc_refusals.specs.Order.{IsBetween}

-- what the laws of lower crates say
pub record Laws : Type 0 where
  pub listing : ListingLaws instr_at
  pub never : (rules : Rules) → ListingLaws rules.decoder → (m : CheckedMethod) (states : List Stated) (fault : Fault)
      → IsFirstFault rules m states fault → Carries rules m states → ⊥
  pub spelled : (a b : List Row) → IsCert a → IsCert b → spelling a ≡ spelling b → a ≡ b

-- ---- the check of a certificate

module _ (s : Laws) (l : Linked) (rows : List Row) where
  never_first : (b : MethodBody) (fault : Fault)
      → IsFirstFault (package_rules l) (method_of l b) (stated_for rows b.offset) fault → IsMethodCarried l rows b → ⊥
  never_first b fault first carried =
      s.never (package_rules l) s.listing (method_of l b) (stated_for rows b.offset) fault first carried

  never_carried : (fault : LoadFault) → IsFirstRefusal l rows fault → CarriesPackage l rows → ⊥
  never_carried _ (stray offset e) carried = none-some offset (sym carried.no_stray ∙ e)
  never_carried _ (method b fault none u) carried = never_first b fault u.first (carried.methods u.place b u.is)

  -- of two methods that are the first ones that aren't carried, neither stands before the other
  pub none_lower : (b d : MethodBody) (f g : Fault) → IsFirstUncarried l rows b f → IsFirstUncarried l rows d g
      → b.offset ≤ d.offset
  none_lower b d f g u v = part (cases_lt d.offset b.offset)
    where
      part : (d.offset < b.offset) ⊎ (b.offset ≤ d.offset) → b.offset ≤ d.offset
      part (inl less) = absurd (never_first d g v.first (u.before v.place d v.is less))
      part (inr most) = most

  check_before : (f g : LoadFault) → IsFirstRefusal l rows f → IsFirstRefusal l rows g → Before f g
  check_before _ _ (stray offset e) (stray other d) =
      let is = sym e ∙ d in
      let same : offset ≡ other = cc in
      record { number = omega arith; place = λ k. omega (arith, same) }
  check_before _ _ (stray offset e) (method d g none v) = absurd (none-some offset (sym none ∙ e))
  check_before _ _ (method b f none u) (stray other d) = absurd (none-some other (sym none ∙ d))
  check_before _ _ (method b f none u) (method d g other v) =
      let least = none_lower b d f g u v in record { number = omega arith; place = λ k. omega (arith, least) }

-- ---- linked in one way

mapped_once : {A : Type 0} (xs ys : List A) → map Some xs ≡ map Some ys → xs ≡ ys
mapped_once [] [] e = refl
mapped_once [] (y ∷ ys) e = absurd cc
mapped_once (x ∷ xs) [] e = absurd cc
mapped_once {A = A} (x ∷ xs) (y ∷ ys) e =
    let first : x ≡ y = cc in
    let rest : map Some xs ≡ map Some ys = cc in
    ap (λ (z : A). z ∷ xs) first ∙ ap (λ (zs : List A). y ∷ zs) (mapped_once xs ys rest)

module _ (before : List Shape) (p : Package) (l m : Linked) (h : IsLinked before p l) (k : IsLinked before p m) where
  same_world : l.world ≡ m.world
  same_world = h.world ∙ sym k.world

  same_kept : l.body.kept ≡ m.body.kept
  same_kept = h.kept ∙ sym k.kept

  same_targets : l.body.targets ≡ m.body.targets
  same_targets =
      mapped_once l.body.targets m.body.targets
      (h.targets ∙ ap (λ (w : List Shape). pool_targets w (length before) l.body.kept.pool) same_world
      ∙ ap (λ (x : Kept). pool_targets m.world (length before) x.pool) same_kept ∙ sym k.targets)

  linked_once : l ≡ m
  linked_once =
      ap (λ (w : List Shape). record { world = w; body = l.body }) same_world
      ∙ ap (λ (x : Kept). record {
        world = m.world;
        body = record { kept = x; targets = l.body.targets };
      }) same_kept
      ∙ ap (λ (ts : List PoolTarget). record {
        world = m.world;
        body = record { kept = m.body.kept; targets = ts };
      }) same_targets

-- ---- the stages

-- a refusal that applies to a load, by its stage
data Staged (c : CardState) (image certificate : List ℕ) (other : LoadFault) : Type 0 where
  uncut : (pieces : List Piece) (rest : List ℕ) → Splits image pieces rest → OfCutting pieces rest other
      → Staged c image certificate other
  unread : (parts : Infos) → IsCut image (Ok parts) → OfReading parts other → Staged c image certificate other
  unlinked : (p : Package) → IsRead image p → OfLinking c.world.shapes p other → Staged c image certificate other
  unspelled : BadCertificate ≡ other → ((rows : List Row) → AreSpelled certificate rows → ⊥)
      → Staged c image certificate other
  uncarried : (l : Linked) (rows : List Row) → IsLinkedBehind c.world.shapes image l → AreSpelled certificate rows
      → IsFirstRefusal l rows other → Staged c image certificate other
  roomless : (l : Linked) → IsLinkedBehind c.world.shapes image l → has_room c l ≡ false → Full ≡ other
      → Staged c image certificate other

module _ (c : CardState) (image certificate : List ℕ) where
  staged : (other : LoadFault) → Applies c image certificate other → Staged c image certificate other
  staged _ (short_component pieces rest k h) = uncut pieces rest k (short h)
  staged _ (extra_bytes pieces rest k least most) = uncut pieces rest k (extra least most)
  staged _ (missing_component pieces rest tag k e) = uncut pieces rest k (missing tag e)
  staged _ (repeated_component pieces rest tag k e) = uncut pieces rest k (repeated tag e)
  staged _ (bad_magic parts k h) = unread parts k (without_magic h)
  staged _ (format_version parts k e) = unread parts k (without_format e)
  staged _ (int_package parts k h) = unread parts k (with_int h)
  staged other (too_short_or_long parts k h) = unread parts k (refused_part other bad_aid h)
  staged other (malformed parts tag k h) = unread parts k (refused_part other (bad_layout tag) h)
  staged _ (missing_import p token k e) = unlinked p k (no_import token e)
  staged _ (unresolved p index k e) = unlinked p k (no_target index e)
  staged _ (type_mismatch p index k e) = unlinked p k (other_type index e)
  staged _ (bad_class p offset k e) = unlinked p k (ill_class offset e)
  staged _ (bad_static p offset k e) = unlinked p k (ill_static offset e)
  staged _ (duplicate_package p k e) = unlinked p k (same_aid e)
  staged _ (bad_certificate none) = unspelled refl none
  staged _ (method_refused l rows at pc reason h k first) = uncarried l rows h k first
  staged _ (full l h no_room) = roomless l h no_room refl

  of_cutting : (pieces : List Piece) (rest : List ℕ) (f : LoadFault) → Splits image pieces rest
      → OfCutting pieces rest f → Applies c image certificate f
  of_cutting pieces rest _ k (short h) = short_component pieces rest k h
  of_cutting pieces rest _ k (extra least most) = extra_bytes pieces rest k least most
  of_cutting pieces rest _ k (missing tag e) = missing_component pieces rest tag k e
  of_cutting pieces rest _ k (repeated tag e) = repeated_component pieces rest tag k e

  of_reading : (parts : Infos) (f : LoadFault) → IsCut image (Ok parts) → OfReading parts f
      → Applies c image certificate f
  of_reading parts _ k (without_magic h) = bad_magic parts k h
  of_reading parts _ k (without_format e) = format_version parts k e
  of_reading parts _ k (with_int h) = int_package parts k h
  of_reading parts _ k (refused_part _ bad_aid h) = too_short_or_long parts k h
  of_reading parts _ k (refused_part _ (bad_layout tag) h) = malformed parts tag k h

  of_linking : (p : Package) (f : LoadFault) → IsRead image p → OfLinking c.world.shapes p f
      → Applies c image certificate f
  of_linking p _ k (no_import token e) = missing_import p token k e
  of_linking p _ k (no_target index e) = unresolved p index k e
  of_linking p _ k (other_type index e) = type_mismatch p index k e
  of_linking p _ k (ill_class offset e) = bad_class p offset k e
  of_linking p _ k (ill_static offset e) = bad_static p offset k e
  of_linking p _ k (same_aid e) = duplicate_package p k e

  of_check : (l : Linked) (rows : List Row) (f : LoadFault) → IsLinkedBehind c.world.shapes image l
      → AreSpelled certificate rows → IsFirstRefusal l rows f → Applies c image certificate f
  of_check l rows _ h k (stray offset e) = method_refused l rows offset 0 CertMismatch h k (stray offset e)
  of_check l rows _ h k (method b f none u) =
      method_refused l rows b.offset f.pc f.reason h k (method b f none u)

module _ (s : Laws) (c : CardState) (image certificate : List ℕ) where
  abbrev before : List Shape
  before = c.world.shapes

  abbrev Linked_as : Linked → Type 0
  Linked_as l = IsLinkedBehind before image l

  abbrev Stage : LoadFault → Type 0
  Stage other = Staged c image certificate other

  -- no refusal that applies is told before it
  abbrev HasNone : LoadFault → Type 0
  HasNone fault = (other : LoadFault) → Stage other → Before fault other

  -- ---- one image, one answer

  same_cutting : (ps qs : List Piece) (rest others : List ℕ) (g : LoadFault) → Splits image ps rest
      → Splits image qs others → OfCutting ps rest g → OfCutting qs others g
  same_cutting ps qs rest others g h k of =
      let same = one_split image ps qs rest others h k in
      subst (λ (x : List ℕ). OfCutting qs x g) same.1 (subst (λ (x : List Piece). OfCutting x rest g) same.0 of)

  pub same_cut : (one other : Result Infos LoadFault) → IsCut image one → IsCut image other → one ≡ other
  same_cut one other h k =
      h.is ∙ cut_once image h.pieces k.pieces h.rest k.rest h.splits k.splits ∙ sym k.is

  both_cut : (fault : LoadFault) (parts : Infos) → IsCut image (Err fault) → IsCut image (Ok parts) → ⊥
  both_cut fault parts h k = let e = same_cut (Err fault) (Ok parts) h k in cc

  same_parts : (parts more : Infos) → IsCut image (Ok parts) → IsCut image (Ok more) → parts ≡ more
  same_parts parts more h k = let e = same_cut (Ok parts) (Ok more) h k in cc

  same_read : (parts more : Infos) (one other : Result Package LoadFault) → IsCut image (Ok parts)
      → IsCut image (Ok more) → package_of parts ≡ one → package_of more ≡ other → one ≡ other
  same_read parts more one other h k e f =
      sym e ∙ ap package_of (same_parts parts more h k) ∙ f

  pub same_linked : (l m : Linked) → Linked_as l → Linked_as m → l ≡ m
  same_linked l m h k =
      let e =
      same_read h.parts k.parts (Ok h.linked.«package») (Ok k.linked.«package») h.cut k.cut h.linked.read
      k.linked.read in
      let same : k.linked.«package» ≡ h.linked.«package» = cc in
      linked_once before h.linked.«package» l m h.linked.linked
      (subst (λ (p : Package). IsLinked before p m) same k.linked.linked)

  same_rows : (rows more : List Row) → AreSpelled certificate rows → AreSpelled certificate more → rows ≡ more
  same_rows rows more h k = s.spelled rows more h.cert k.cert (sym h.bytes_are ∙ k.bytes_are)

  -- ---- an image that is cut, read, or linked

  -- nothing is wrong with the cutting of an image that is cut
  module _ (parts : Infos) (h : IsCut image (Ok parts)) where
    none_of_cutting : (pieces : List Piece) (rest : List ℕ) (g : LoadFault) → Splits image pieces rest
        → OfCutting pieces rest g → ⊥
    none_of_cutting pieces rest g k of =
        never_cut h.pieces h.rest parts g (sym h.is) (same_cutting pieces h.pieces rest h.rest g k h.splits of)

    its_reading : (more : Infos) (g : LoadFault) → IsCut image (Ok more) → OfReading more g → OfReading parts g
    its_reading more g k of = subst (λ (x : Infos). OfReading x g) (same_parts more parts k h) of

  -- nor with the reading of one that is read as a package
  module _ (parts : Infos) (p : Package) (h : IsCut image (Ok parts)) (read : package_of parts ≡ Ok p) where
    none_of_reading : (more : Infos) (g : LoadFault) → IsCut image (Ok more) → OfReading more g → ⊥
    none_of_reading more g k of = never_read parts p read g (its_reading parts h more g k of)

    its_linking : (q : Package) (g : LoadFault) → IsRead image q → OfLinking before q g → OfLinking before p g
    its_linking q g k of =
        let is = same_read parts k.parts (Ok p) (Ok q) h k.cut read k.read in
        let same : q ≡ p = cc in
        subst (λ (x : Package). OfLinking before x g) same of

  -- nor with the linking of one that is linked
  module _ (l : Linked) (h : Linked_as l) where
    none_of_linking : (q : Package) (g : LoadFault) → IsRead image q → OfLinking before q g → ⊥
    none_of_linking q g k of =
        never_linked before h.linked.«package» h.linked.linked.fine g
        (its_linking h.parts h.linked.«package» h.cut h.linked.read q g k of)

    not_uncut : (fault : LoadFault) → IsCut image (Err fault) → ⊥
    not_uncut fault k = both_cut fault h.parts k h.cut

    not_unread : (parts : Infos) (fault : LoadFault) → IsCut image (Ok parts) → package_of parts ≡ Err fault → ⊥
    not_unread parts fault k e =
        let f =
        same_read parts h.parts (Err fault) (Ok h.linked.«package») k h.cut e h.linked.read in cc

    not_unlinked : (parts : Infos) (p : Package) (fault : LoadFault) → IsCut image (Ok parts)
        → package_of parts ≡ Ok p → fault_behind before p ≡ Some fault → ⊥
    not_unlinked parts p fault k e f =
        let g = same_read parts h.parts (Ok p) (Ok h.linked.«package») k h.cut e h.linked.read in
        let same : p ≡ h.linked.«package» = cc in
        let n = sym f ∙ ap (fault_behind before) same ∙ h.linked.linked.fine in cc

  -- ---- the least, by the stage that tells it

  of_cut : (fault : LoadFault) (h : IsCut image (Err fault)) → OfCutting h.pieces h.rest fault
  of_cut fault h = cut_told h.pieces h.rest fault (sym h.is)

  less_than : (most least : ℕ) (fault other : LoadFault) → number_of fault ≤ most → most < least
      → least ≡ number_of other → Before fault other
  less_than most least fault other h k e = before_less fault other (omega (arith, h, k, e))

  least_uncut : (fault : LoadFault) → IsCut image (Err fault) → HasNone fault
  least_uncut fault h other (uncut pieces rest k of) =
      cut_before h.pieces h.rest fault other (sym h.is)
      (same_cutting pieces h.pieces rest h.rest other k h.splits of)
  least_uncut fault h other (unread parts k of) = absurd (both_cut fault parts h k)
  least_uncut fault h other (unlinked p k of) = absurd (both_cut fault k.parts h k.cut)
  least_uncut fault h other (unspelled is none) =
      let most = (cut_number h.pieces h.rest fault (of_cut fault h)).to in
      less_than 4 16 fault other most (omega arith) (ap number_of is)
  least_uncut fault h other (uncarried l rows linked spelled first) = absurd (not_uncut l linked fault h)
  least_uncut fault h other (roomless l linked no_room is) = absurd (not_uncut l linked fault h)

  least_unread : (parts : Infos) (fault : LoadFault) → IsCut image (Ok parts) → package_of parts ≡ Err fault
      → HasNone fault
  least_unread parts fault h e other (uncut pieces rest k of) =
      absurd (none_of_cutting parts h pieces rest other k of)
  least_unread parts fault h e other (unread more k of) =
      read_before parts fault e other (its_reading parts h more other k of)
  least_unread parts fault h e other (unlinked p k of) =
      let is = same_read parts k.parts (Err fault) (Ok p) h k.cut e k.read in absurd cc
  least_unread parts fault h e other (unspelled is none) =
      let most = (read_number parts fault (read_told parts fault e)).to in
      less_than 9 16 fault other most (omega arith) (ap number_of is)
  least_unread parts fault h e other (uncarried l rows linked spelled first) =
      absurd (not_unread l linked parts fault h e)
  least_unread parts fault h e other (roomless l linked no_room is) = absurd (not_unread l linked parts fault h e)

  least_unlinked : (parts : Infos) (p : Package) (fault : LoadFault) → IsCut image (Ok parts)
      → package_of parts ≡ Ok p → fault_behind before p ≡ Some fault → HasNone fault
  least_unlinked parts p fault h e f other (uncut pieces rest k of) =
      absurd (none_of_cutting parts h pieces rest other k of)
  least_unlinked parts p fault h e f other (unread more k of) =
      absurd (none_of_reading parts p h e more other k of)
  least_unlinked parts p fault h e f other (unlinked q k of) =
      link_before before p fault other f (its_linking parts p h e q other k of)
  least_unlinked parts p fault h e f other (unspelled is none) =
      let most = (link_number before p fault (link_told before p fault f)).to in
      less_than 15 16 fault other most (omega arith) (ap number_of is)
  least_unlinked parts p fault h e f other (uncarried l rows linked spelled first) =
      absurd (not_unlinked l linked parts p fault h e f)
  least_unlinked parts p fault h e f other (roomless l linked no_room is) =
      absurd (not_unlinked l linked parts p fault h e f)

  -- of a package that is linked: the stages behind linking are left
  module _ (l : Linked) (h : Linked_as l) where
    -- what the stages up to linking refuse
    data IsEarly (other : LoadFault) : Type 0 where
      by_cutting : (pieces : List Piece) (rest : List ℕ) → Splits image pieces rest → OfCutting pieces rest other
          → IsEarly other
      by_reading : (parts : Infos) → IsCut image (Ok parts) → OfReading parts other → IsEarly other
      by_linking : (p : Package) → IsRead image p → OfLinking before p other → IsEarly other

    none_early : (other : LoadFault) → IsEarly other → ⊥
    none_early other (by_cutting pieces rest k of) = none_of_cutting h.parts h.cut pieces rest other k of
    none_early other (by_reading more k of) =
        none_of_reading h.parts h.linked.«package» h.cut h.linked.read more other k of
    none_early other (by_linking q k of) = none_of_linking l h q other k of

    least_unspelled : HasNone BadCertificate
    least_unspelled other (uncut pieces rest k of) = absurd (none_early other (by_cutting pieces rest k of))
    least_unspelled other (unread parts k of) = absurd (none_early other (by_reading parts k of))
    least_unspelled other (unlinked p k of) = absurd (none_early other (by_linking p k of))
    least_unspelled other (unspelled is none) = before_same BadCertificate other is
    least_unspelled other (uncarried m rows linked spelled first) =
        less_than 16 17 BadCertificate other (omega arith) (omega arith) (sym (checked m rows other first))
    least_unspelled other (roomless m linked no_room is) =
        less_than 16 18 BadCertificate other (omega arith) (omega arith) (ap number_of is)

    -- another check is the same check
    pub its_check : (rows more : List Row) (m : Linked) (g : LoadFault) → AreSpelled certificate rows → Linked_as m
        → AreSpelled certificate more → IsFirstRefusal m more g → IsFirstRefusal l rows g
    its_check rows more m g spelled linked its first =
        subst (λ (x : Linked). IsFirstRefusal x rows g) (same_linked m l linked h)
        (subst (λ (x : List Row). IsFirstRefusal m x g) (same_rows more rows its spelled) first)

    least_uncarried : (rows : List Row) (fault : LoadFault) → AreSpelled certificate rows
        → IsFirstRefusal l rows fault → HasNone fault
    least_uncarried rows fault spelled first other (uncut pieces rest k of) =
        absurd (none_early other (by_cutting pieces rest k of))
    least_uncarried rows fault spelled first other (unread parts k of) =
        absurd (none_early other (by_reading parts k of))
    least_uncarried rows fault spelled first other (unlinked p k of) = absurd (none_early other (by_linking p k of))
    least_uncarried rows fault spelled first other (unspelled is none) = absurd (none rows spelled)
    least_uncarried rows fault spelled first other (uncarried m more linked its next) =
        check_before s l rows fault other first (its_check rows more m other spelled linked its next)
    least_uncarried rows fault spelled first other (roomless m linked no_room is) =
        let most = checked l rows fault first in
        less_than 17 18 fault other (omega (arith, most)) (omega arith) (ap number_of is)

    pub not_refused : (rows more : List Row) (m : Linked) (g : LoadFault) → AreSpelled certificate rows
        → CarriesPackage l rows → Linked_as m → AreSpelled certificate more → IsFirstRefusal m more g → ⊥
    not_refused rows more m g spelled carried linked its first =
        never_carried s l rows g (its_check rows more m g spelled linked its first) carried

    least_roomless : (rows : List Row) → AreSpelled certificate rows → CarriesPackage l rows
        → HasNone Full
    least_roomless rows spelled carried other (uncut pieces rest k of) =
        absurd (none_early other (by_cutting pieces rest k of))
    least_roomless rows spelled carried other (unread parts k of) = absurd (none_early other (by_reading parts k of))
    least_roomless rows spelled carried other (unlinked p k of) = absurd (none_early other (by_linking p k of))
    least_roomless rows spelled carried other (unspelled is none) = absurd (none rows spelled)
    least_roomless rows spelled carried other (uncarried m more linked its first) =
        absurd (not_refused rows more m other spelled carried linked its first)
    least_roomless rows spelled carried other (roomless m linked no_room is) = before_same Full other is

    -- nothing applies to a package that is carried and has room
    none_applies : (rows : List Row) → AreSpelled certificate rows → CarriesPackage l rows → has_room c l ≡ true
        → (other : LoadFault) → Stage other → ⊥
    none_applies rows spelled carried room other (uncut pieces rest k of) =
        none_early other (by_cutting pieces rest k of)
    none_applies rows spelled carried room other (unread parts k of) = none_early other (by_reading parts k of)
    none_applies rows spelled carried room other (unlinked p k of) = none_early other (by_linking p k of)
    none_applies rows spelled carried room other (unspelled is none) = none rows spelled
    none_applies rows spelled carried room other (uncarried m more linked its first) =
        not_refused rows more m other spelled carried linked its first
    none_applies rows spelled carried room other (roomless m linked no_room is) =
        let e = sym room ∙ ap (has_room c) (same_linked l m h linked) ∙ no_room in cc

  -- ---- a load

  least_read : (parts : Infos) (found : Result Package LoadFault) (fault : LoadFault) → IsCut image (Ok parts)
      → package_of parts ≡ found → refusal_of before found ≡ Some fault → HasNone fault
  least_read parts (Err g) fault h e f =
      let same : g ≡ fault = cc in
      subst HasNone same (least_unread parts g h e)
  least_read parts (Ok p) fault h e f = least_unlinked parts p fault h e f

  least_unfit : (fault : LoadFault) → IsUnfit before image certificate fault → HasNone fault
  least_unfit fault (not_linked (Err g) _ h e) =
      let same : g ≡ fault = cc in
      subst HasNone same (least_uncut g h)
  least_unfit fault (not_linked (Ok parts) _ h e) = least_read parts (package_of parts) fault h refl e
  least_unfit fault (not_spelled l h none) = least_unspelled l h
  least_unfit fault (not_carried l rows _ h spelled first) = least_uncarried l h rows fault spelled first

  least_without_room : (fault : LoadFault) → IsWithoutRoom c image certificate fault
      → HasNone fault
  least_without_room fault h =
      subst HasNone (sym h.is)
      (least_roomless h.linked h.fit.linked h.fit.rows h.fit.spelled h.fit.carried)

  -- ---- what is told applies

  abbrev Told : LoadFault → Type 0
  Told fault = Applies c image certificate fault

  applies_read : (parts : Infos) (found : Result Package LoadFault) (fault : LoadFault) → IsCut image (Ok parts)
      → package_of parts ≡ found → refusal_of before found ≡ Some fault → Told fault
  applies_read parts (Err g) fault h e f =
      let same : g ≡ fault = cc in
      subst Told same (of_reading c image certificate parts g h (read_told parts g e))
  applies_read parts (Ok p) fault h e f =
      of_linking c image certificate p fault (record { parts = parts; cut = h; read = e })
      (link_told before p fault f)

  applies_unfit : (fault : LoadFault) → IsUnfit before image certificate fault → Told fault
  applies_unfit fault (not_linked (Err g) _ h e) =
      let same : g ≡ fault = cc in
      subst Told same (of_cutting c image certificate h.pieces h.rest g h.splits (of_cut g h))
  applies_unfit fault (not_linked (Ok parts) _ h e) = applies_read parts (package_of parts) fault h refl e
  applies_unfit fault (not_spelled l h none) = bad_certificate none
  applies_unfit fault (not_carried l rows _ h spelled first) = of_check c image certificate l rows fault h spelled first

  applies_without_room : (fault : LoadFault) → IsWithoutRoom c image certificate fault → Told fault
  applies_without_room fault h = subst Told (sym h.is) (full h.linked h.fit.linked h.room)

  -- ---- where memory is out

  -- of an image that is read as a package
  module _ (parts : Infos) (p : Package) (cut : IsCut image (Ok parts)) (read : package_of parts ≡ Ok p) where
    read_refusals : (other : LoadFault) → Stage other → IsBetween 10 18 other
    read_refusals other (uncut pieces rest k of) = absurd (none_of_cutting parts cut pieces rest other k of)
    read_refusals other (unread more k of) = absurd (none_of_reading parts p cut read more other k of)
    read_refusals other (unlinked q k of) =
        let least = (link_number before q other of).from in
        let most = (link_number before q other of).to in
        record { from = omega (arith, least); to = omega (arith, most) }
    read_refusals other (unspelled is none) =
        let e = ap number_of is in record { from = omega (arith, e); to = omega (arith, e) }
    read_refusals other (uncarried l rows linked spelled first) =
        let is = checked l rows other first in record { from = omega (arith, is); to = omega (arith, is) }
    read_refusals other (roomless l linked no_room is) =
        let e = ap number_of is in record { from = omega (arith, e); to = omega (arith, e) }

  -- want of memory applies to nothing
  no_memory : (fault : LoadFault) → fault ≡ Memory → Told fault → ⊥
  no_memory fault is h = part (staged c image certificate fault h) (ap number_of is)
    where
      part : Stage fault → number_of fault ≡ 19 → ⊥
      part (uncut pieces rest k of) same = let most = (cut_number pieces rest fault of).to in omega (arith, most, same)
      part (unread parts k of) same = let most = (read_number parts fault of).to in omega (arith, most, same)
      part (unlinked p k of) same = let most = (link_number before p fault of).to in omega (arith, most, same)
      part (unspelled e none) same = let number = ap number_of e in omega (arith, number, same)
      part (uncarried l rows linked spelled first) same =
          let number = checked l rows fault first in omega (arith, number, same)
      part (roomless l linked no_room e) same = let number = ap number_of e in omega (arith, number, same)

  -- ---- both

  abbrev Reason : LoadFault → Type 0
  Reason fault =
      IsOutOfMemory image fault ⊎ IsUnfit before image certificate fault ⊎ IsWithoutRoom c image certificate fault

  is_least : (fault : LoadFault) → Told fault → HasNone fault → IsLeast c image certificate fault
  is_least fault h none = record {
    applies = h;
    least = λ other k. (none other (staged c image certificate other k)).number;
    first = λ other k. (none other (staged c image certificate other k)).place;
  }

  by_reason : (fault : LoadFault) → fault ≢ Memory → Reason fault → IsLeast c image certificate fault
  by_reason fault other (inl out) = absurd (other out.is)
  by_reason fault other (inr (inl unfit)) = is_least fault (applies_unfit fault unfit) (least_unfit fault unfit)
  by_reason fault other (inr (inr without)) =
      is_least fault (applies_without_room fault without) (least_without_room fault without)

  pub told_is_least : (after : CardState) (fault : LoadFault) → IsLoad c image certificate (Err fault) after
      → fault ≢ Memory → IsLeast c image certificate fault
  told_is_least after fault h other = by_reason fault other h.why

  behind_reading : Reason Memory → (other : LoadFault) → Applies c image certificate other → IsBetween 10 18 other
  behind_reading (inl out) other h =
      read_refusals out.parts out.«package» out.cut out.read other (staged c image certificate other h)
  behind_reading (inr (inl unfit)) other h = absurd (no_memory Memory refl (applies_unfit Memory unfit))
  behind_reading (inr (inr without)) other h = absurd (no_memory Memory refl (applies_without_room Memory without))

  pub memory_is_behind : (after : CardState) → IsLoad c image certificate (Err Memory) after
      → (other : LoadFault) → Applies c image certificate other → IsBetween 10 18 other
  memory_is_behind after h = behind_reading h.why

  pub loaded_has_none : (after : CardState) (number : ℕ) → IsLoad c image certificate (Ok number) after
      → (other : LoadFault) → Applies c image certificate other → ⊥
  loaded_has_none after number h other k =
      none_applies h.linked h.fit.linked h.fit.rows h.fit.spelled h.fit.carried h.room other
      (staged c image certificate other k)
