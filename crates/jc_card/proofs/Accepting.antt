-- The packages of a card are accepted behind a load of an image of bytes.
use Rattle.std.proofs.Common.{◌≡◌, ℕ, zero, suc, ◌≤◌, ◌++◌, List, [], ◌∷◌, Some, length, true, arith, sym, ap, subst}
use Rattle.std.specs.Prelude.{slice_get}
use Rattle.std.proofs.lemmas.List.{length-append}
use Rattle.jc_cap_desc.specs.Shape.{HaveBodies, HaveHeaders, InstallMethods, Package, Shape, StandApart}
use Rattle.jc_cert.specs.Cert.{Row}
use Rattle.jc_check.specs.Checked.{CarriesPackage, IsPackageCarried, IsPackageTyped}
use Rattle.jc_classes.specs.Growth.{grown}
use Rattle.jc_classes.specs.Limits.{IsSmall}
use Rattle.jc_link.specs.Built.{IsBuilt}
use Rattle.jc_link.specs.Linked.{IsBoundTo, IsLast, IsLinked, Linked, World, most_in_world, with_linked}
use Rattle.jc_machine.specs.Accepted.{HaveByteTokens, IsAccepted}
use Rattle.jc_natives.specs.Kept.{are_bytes}
use Rattle.jc_card.proofs.Cut.{cut_infos}
use Rattle.jc_card.proofs.Packages.{ReadLaws, read_well}
use Rattle.jc_card.specs.Load.{IsFit}

-- the laws of reading, of linking, of the check and of worlds
pub record LoadLaws : Type 0 where
  pub read : ReadLaws
  pub known : (before : List Shape) (p : Package) (l : Linked) → IsBuilt before → IsLinked before p l
      → StandApart p.body.methods → HaveHeaders p.shape → HaveBodies p → InstallMethods p → IsLast l
  pub typed : (l : Linked) → IsBuilt l.world → IsSmall l.world → (of : List Row) → CarriesPackage l of
      → IsPackageTyped l
  pub grown : (w : World) (l : Linked) → IsAccepted w → IsBoundTo w l → IsLast l → IsSmall l.world
      → HaveByteTokens l.body.kept.pool → IsPackageCarried l → IsPackageTyped l → IsAccepted (with_linked w l)

-- what holds of each that stands in a list, and of one behind it
each_behind : {A : Type 0} (P : A → Type 0) (xs : List A) (y : A)
    → ((i : ℕ) (x : A) → slice_get xs i ≡ Some x → P x) → P y → (i : ℕ) (x : A)
    → slice_get (xs ++ y ∷ []) i ≡ Some x → P x
each_behind P [] y each last zero x e = grind arith
each_behind P [] y each last (suc i) x e = absurd cc
each_behind P (z ∷ xs) y each last zero x e = each 0 x e
each_behind P (z ∷ xs) y each last (suc i) x e = each_behind P xs y (λ i. each (suc i)) last i x e

small_behind : (before : List Shape) (shape : Shape) → IsSmall before → length before ≤ most_in_world
    → length shape.classes ≤ 255 → IsSmall (grown before shape)
small_behind before shape small room few =
    let joined = length-append before (shape ∷ []) in
    record {
      packages = omega (arith, joined, room);
      classes = each_behind (λ (s : Shape). length s.classes ≤ 255) before shape small.classes few;
    }

-- behind a package that fits
pub fit_accepted : LoadLaws → (w : World) → IsAccepted w → length w.shapes ≤ most_in_world
    → (image certificate : List ℕ) → are_bytes image ≡ true → (l : Linked) → IsFit w.shapes image certificate l
    → IsAccepted (with_linked w l)
fit_accepted laws w accepted room image certificate bytes l fit =
    let parts = fit.linked.parts in
    let from = fit.linked.linked in
    let p = from.«package» in
    let is = from.linked in
    let well = read_well laws.read parts (cut_infos image parts bytes fit.linked.cut) p from.read in
    let last = laws.known w.shapes p l accepted.world.built is well.apart well.headers well.bodies well.installs in
    let small = subst IsSmall (sym is.world) (small_behind w.shapes p.shape accepted.small room well.few) in
    laws.grown w l accepted (p.shape, is.world) last small
    (subst HaveByteTokens (sym (ap (λ k. k.pool) is.kept)) well.tokens)
    (record { rows = fit.rows; cert = fit.spelled.cert; carried = fit.carried })
    (laws.typed l last.built small fit.rows fit.carried)
