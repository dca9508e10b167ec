-- A load has one answer, out of memory apart.
use Rattle.std.proofs.Common.{◌≡◌, ◌<◌, ◌^◌, ◌⊎◌, ℕ, ◌≢◌, true, List, None, Some, Result, Ok, Err, inl, inr}
use Rattle.std.proofs.Common.{refl, sym, ap, ◌∙◌, subst, arith, length, slice_get}
use Rattle.std.proofs.lemmas.Option.{none-some}
use Rattle.jc_base.specs.Parts.{Infos}
use Rattle.jc_base.specs.declared.fault.LoadFault.{LoadFault}
use Rattle.jc_base.specs.declared.fault.LoadFault.TheVariants.{Memory, MethodRefused}
use Rattle.jc_base.specs.declared.reason.Reason.TheVariants.{CertMismatch}
use Rattle.jc_cap_desc.specs.Package.{package_of}
use Rattle.jc_cap_desc.specs.Shape.{MethodBody, Package, Shape, StandApart}
use Rattle.jc_cert.specs.Cert.{Row, Stated}
use Rattle.jc_check.specs.Checked.{IsFirstRefusal, IsFirstUncarried, stated_for}
use Rattle.jc_check.specs.Checked.IsFirstRefusal.{method, stray}
use Rattle.jc_check.specs.FirstFault.{IsFirstFault}
use Rattle.jc_check.specs.Method.{CheckedMethod}
use Rattle.jc_check.specs.Package.{method_of, package_rules}
use Rattle.jc_check.specs.Rules.{Rules}
use Rattle.jc_check.specs.declared.fault.Fault.{Fault}
use Rattle.jc_code.specs.Listing.{ListingLaws}
use Rattle.jc_link.specs.Kept.{Kept}
use Rattle.jc_link.specs.Linked.{Linked, refusal_of}
use Rattle.jc_natives.specs.Kept.{are_bytes}
use Rattle.jc_card.specs.Card.{CardState}
use Rattle.jc_card.specs.Load.{IsCut, IsFit, IsLinkedBehind, IsLoad, IsLoaded, IsNotLoaded, IsOutOfMemory, IsUnfit}
use Rattle.jc_card.specs.Load.{IsWithoutRoom, has_room, unlinked_for, with_package}
use Rattle.jc_card.specs.Load.IsUnfit.{uncarried, unlinked, unspelled}
use Rattle.jc_refusals.proofs.Least.{Laws, its_check, none_lower, not_refused, same_cut, same_linked}
use Rattle.jc_refusals.proofs.Sized.{method_is_short}

-- what the laws of lower crates say
pub record OnceLaws : Type 0 where
  pub least : Laws
  pub one_fault : (rules : Rules) → ListingLaws rules.decoder → (m : CheckedMethod) (states : List Stated)
      (a b : Fault) → IsFirstFault rules m states a → IsFirstFault rules m states b → a ≡ b
  pub apart : (parts : Infos) (p : Package) → package_of parts ≡ Ok p → length parts.method < 2 ^ 16
      → StandApart p.body.methods

-- ---- the check of a certificate has one first refusal

module _ (s : OnceLaws) (l : Linked) (rows : List Row) where
  one_method : (b d : MethodBody) (f g : Fault) → StandApart l.body.kept.methods → IsFirstUncarried l rows b f
      → IsFirstUncarried l rows d g → b ≡ d
  one_method b d f g apart u v =
      let low = none_lower s.least l rows b d f g u v in
      let high = none_lower s.least l rows d b g f v u in
      let place = apart.differ u.place v.place b d u.is v.is (omega (arith, low, high)) in
      let same = sym u.is ∙ ap (slice_get l.body.kept.methods) place ∙ v.is in cc

  same_fault : (b d : MethodBody) (f g : Fault) → b ≡ d → IsFirstUncarried l rows b f
      → IsFirstUncarried l rows d g → f ≡ g
  same_fault b d f g same u v =
      s.one_fault (package_rules l) s.least.listing (method_of l b) (stated_for rows b.offset) f g u.first
      (subst (λ (x : MethodBody). IsFirstFault (package_rules l) (method_of l x) (stated_for rows x.offset) g)
      (sym same) v.first)

  one_refusal : (f g : LoadFault) → StandApart l.body.kept.methods → IsFirstRefusal l rows f
      → IsFirstRefusal l rows g → f ≡ g
  one_refusal _ _ apart (stray offset e) (stray other d) =
      let is = sym e ∙ d in
      let same : offset ≡ other = cc in
      ap (λ (n : ℕ). MethodRefused n 0 CertMismatch) same
  one_refusal _ _ apart (stray offset e) (method d g none v) = absurd (none-some offset (sym none ∙ e))
  one_refusal _ _ apart (method b f none u) (stray other d) = absurd (none-some other (sym none ∙ d))
  one_refusal _ _ apart (method b f none u) (method d g other v) =
      let same = one_method b d f g apart u v in
      ap (λ (x : MethodBody). MethodRefused x.offset f.pc f.reason) same
      ∙ ap (λ (x : Fault). MethodRefused d.offset x.pc x.reason) (same_fault b d f g same u v)

-- ---- of one load

module _ (s : OnceLaws) (c : CardState) (image certificate : List ℕ) where
  abbrev before : List Shape
  before = c.world.shapes

  abbrev Linked_as : Linked → Type 0
  Linked_as l = IsLinkedBehind before image l

  -- why a package isn't loaded, memory apart
  abbrev Reason : LoadFault → Type 0
  Reason f = IsUnfit before image certificate f ⊎ IsWithoutRoom c image certificate f

  -- the methods of a package that is linked stand apart
  linked_apart : are_bytes image ≡ true → (l : Linked) → Linked_as l → StandApart l.body.kept.methods
  linked_apart bytes l h =
      subst StandApart (sym (ap (λ (k : Kept). k.methods) h.linked.linked.kept))
      (s.apart h.parts h.linked.«package» h.linked.read (method_is_short image h.parts bytes h.cut))

  one_cut : (cut other : Result Infos LoadFault) → IsCut image cut → IsCut image other → cut ≡ other
  one_cut = same_cut s.least c image certificate

  one_linked : (l m : Linked) → Linked_as l → Linked_as m → l ≡ m
  one_linked = same_linked s.least c image certificate

  -- a package that is linked isn't refused before its certificate is read
  not_unlinked : (l : Linked) → Linked_as l → (cut : Result Infos LoadFault) (f : LoadFault) → IsCut image cut
      → unlinked_for before cut ≡ Some f → ⊥
  not_unlinked l h cut f k e =
      let none : unlinked_for before (Ok h.parts) ≡ None =
      ap (refusal_of before) h.linked.read ∙ h.linked.linked.fine in
      none-some f (sym none ∙ ap (unlinked_for before) (one_cut (Ok h.parts) cut h.cut k) ∙ e)

  -- a package that isn't fit has one refusal
  one_unfit : are_bytes image ≡ true → (f g : LoadFault) → IsUnfit before image certificate f
      → IsUnfit before image certificate g → f ≡ g
  one_unfit bytes f g (unlinked cut _ h e) (unlinked other _ k d) =
      let same = sym e ∙ ap (unlinked_for before) (one_cut cut other h k) ∙ d in cc
  one_unfit bytes f _ (unlinked cut _ k e) (unspelled l h none) = absurd (not_unlinked l h cut f k e)
  one_unfit bytes f g (unlinked cut _ k e) (uncarried l rows _ h spelled first) =
      absurd (not_unlinked l h cut f k e)
  one_unfit bytes _ g (unspelled l h none) (unlinked cut _ k e) = absurd (not_unlinked l h cut g k e)
  one_unfit bytes _ _ (unspelled l h none) (unspelled m k other) = refl
  one_unfit bytes _ g (unspelled l h none) (uncarried m rows _ k spelled first) = absurd (none rows spelled)
  one_unfit bytes f g (uncarried l rows _ h spelled first) (unlinked cut _ k e) =
      absurd (not_unlinked l h cut g k e)
  one_unfit bytes f _ (uncarried l rows _ h spelled first) (unspelled m k none) = absurd (none rows spelled)
  one_unfit bytes f g (uncarried l rows _ h spelled first) (uncarried m more _ k its next) =
      one_refusal s l rows f g (linked_apart bytes l h) first
      (its_check s.least c image certificate l h rows more m g spelled k its next)

  -- a fit package isn't unfit
  not_unfit : (l : Linked) (f : LoadFault) → IsFit before image certificate l → IsUnfit before image certificate f → ⊥
  not_unfit l f h (unlinked cut _ k e) = not_unlinked l h.linked cut f k e
  not_unfit l _ h (unspelled m k none) = none h.rows h.spelled
  not_unfit l f h (uncarried m more _ k its first) =
      not_refused s.least c image certificate l h.linked h.rows more m f h.spelled h.carried k its first

  -- ---- its results

  one_reason : are_bytes image ≡ true → (f g : LoadFault) → Reason f → Reason g → f ≡ g
  one_reason bytes f g (inl unfit) (inl other) = one_unfit bytes f g unfit other
  one_reason bytes f g (inl unfit) (inr without) = absurd (not_unfit without.linked f without.fit unfit)
  one_reason bytes f g (inr without) (inl unfit) = absurd (not_unfit without.linked g without.fit unfit)
  one_reason bytes f g (inr without) (inr other) = without.is ∙ sym other.is

  reason_of : (f : LoadFault) (after : CardState) → IsNotLoaded c image certificate f after → f ≢ Memory → Reason f
  reason_of f after h other = part h.why
    where
      part : (IsOutOfMemory image f ⊎ Reason f) → Reason f
      part (inl out) = absurd (other out.is)
      part (inr why) = why

  -- a package that is loaded has none
  not_loaded : (number : ℕ) (f : LoadFault) (after : CardState) → IsLoaded c image certificate number after
      → Reason f → ⊥
  not_loaded number f after h (inl unfit) = not_unfit h.linked f h.fit unfit
  not_loaded number f after h (inr without) =
      let same = one_linked h.linked without.linked h.fit.linked without.fit.linked in
      let e = sym h.room ∙ ap (has_room c) same ∙ without.room in cc

  pub one_answer : (first second : CardState) (one other : Result ℕ LoadFault) → are_bytes image ≡ true
      → IsLoad c image certificate one first → IsLoad c image certificate other second → one ≢ Err Memory
      → other ≢ Err Memory → (one ≡ other) × (first ≡ second)
  one_answer first second (Ok n) (Ok m) bytes h k u v =
      let same = one_linked h.linked k.linked h.fit.linked k.fit.linked in
      (ap Ok (h.number_is ∙ sym k.number_is), h.after_is ∙ ap (with_package c) same ∙ sym k.after_is)
  one_answer first second (Ok n) (Err g) bytes h k u v =
      absurd (not_loaded n g first h (reason_of g second k (λ e. v (ap Err e))))
  one_answer first second (Err f) (Ok m) bytes h k u v =
      absurd (not_loaded m f second k (reason_of f first h (λ e. u (ap Err e))))
  one_answer first second (Err f) (Err g) bytes h k u v =
      let why = reason_of f first h (λ e. u (ap Err e)) in
      let other = reason_of g second k (λ e. v (ap Err e)) in
      (ap Err (one_reason bytes f g why other), h.kept ∙ sym k.kept)
