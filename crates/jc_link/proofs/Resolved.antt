-- The pool of each package of a world is resolved, and stays so as packages come.
use Rattle.std.proofs.Common.{◌≡◌, ℕ, zero, suc, ◌+◌, ◌-◌, ◌<◌, ◌≤◌, Bool, true, false, List, [], ◌∷◌, ◌++◌, map}
use Rattle.std.proofs.Common.{length, take, Some, refl, ap, sym, ◌∙◌, subst, arith, nat_lt, slice_get}
use Rattle.std.proofs.Math.Path.{fun_ext}
use Rattle.std.proofs.Math.Seq.{take-length}
use Rattle.std.proofs.lemmas.Bool.{ltb-true, ltb-false}
use Rattle.std.proofs.lemmas.List.{take-append-le}
use Rattle.jc_cap_desc.specs.Shape.{HaveBodies, HaveHeaders, InstallMethods, Package, Shape, StandApart}
use Rattle.jc_classes.specs.Growth.{grown}
use Rattle.jc_link.proofs.GrownHeirs.{length_more}
use Rattle.jc_link.proofs.GrownParts.{the_some, none_some, get_before}
use Rattle.jc_link.proofs.OwnMethods.{all_named, coded_at, declared_at, headed_at, installable_at}
use Rattle.jc_link.specs.Built.{IsBuilt}
use Rattle.jc_link.specs.Built.IsBuilt.{loaded as built_behind}
use Rattle.jc_link.specs.Growth.{HasApi, KeepsLinking}
use Rattle.jc_link.specs.Kept.{Kept, kept_of}
use Rattle.jc_link.specs.Linked.{IsBoundTo, IsKnown, IsLast, IsLinked, IsResolved, IsWorld, Linked, LinkedBody, World}
use Rattle.jc_link.specs.Linked.{with_linked}
use Rattle.jc_link.specs.WellFormed.{IsWellFormed}
use Rattle.jc_link.specs.Target.{pool_targets}

-- what stands behind the last
behind_last : {A : Type 0} (xs : List A) (y z : A) (n : ℕ) → length xs ≤ n → slice_get (xs ++ y ∷ []) n ≡ Some z → (n ≡ length xs) × (y ≡ z)
behind_last [] y z zero h e = (refl, the_some y z e)
behind_last [] y z (suc n) h e = absurd (none_some z e)
behind_last (x ∷ xs) y z zero h e = absurd (omega arith)
behind_last (x ∷ xs) y z (suc n) h e = let rest = behind_last xs y z n (omega arith) e in (ap suc rest.0, rest.1)

-- what stands at the end of a world, and what stands before it
at_end : (before : List Shape) (shape : Shape) → slice_get (grown before shape) (length before) ≡ Some shape
at_end [] shape = refl
at_end (s ∷ before) shape = at_end before shape

before_end : (before : List Shape) (shape : Shape) → take (length before) (grown before shape) ≡ before
before_end before shape = take-append-le (length before) before (shape ∷ []) (omega arith) ∙ take-length before

-- what is known of a package where it stands, in a world with it at the end
known_at_end : (before : List Shape) (p : Package) (b : LinkedBody) → HasApi before → IsWellFormed before p → b.kept ≡ kept_of p.body
    → map Some b.targets ≡ pool_targets (grown before p.shape) (length before) p.body.pool → StandApart p.body.methods
    → HaveHeaders p.shape → HaveBodies p → InstallMethods p → IsKnown (grown before p.shape) (length before) b
known_at_end before p b api fine kept targets apart have bodies installs = record {
  loaded = grind (arith, at_end, before_end);
  resolved = targets ∙ ap (λ pool. pool_targets (grown before p.shape) (length before) pool) (sym (ap (λ k. k.pool) kept));
  headed = headed_at (grown before p.shape) (length before) p.shape api (at_end before p.shape) have;
  coded = coded_at (grown before p.shape) (length before) p api (at_end before p.shape) bodies b.kept kept;
  declared = grind (arith, declared_at, at_end, all_named);
  installs = grind (arith, installable_at, at_end, all_named);
}

-- a package that is bound is the last of its world
pub is_last : (before world : List Shape) (p : Package) (b : LinkedBody) → IsBuilt world → world ≡ grown before p.shape → IsWellFormed before p → b.kept ≡ kept_of p.body
    → map Some b.targets ≡ pool_targets world (length before) p.body.pool → StandApart p.body.methods → HasApi before
    → HaveHeaders p.shape → HaveBodies p → InstallMethods p → IsLast (record { world = world; body = b })
is_last before world p b built is fine kept targets apart api have bodies installs =
    let more = ap (λ w. length w) is ∙ length_more before p.shape in
    let home : length before ≡ length world - 1 = omega (arith, more) in
    let targets_there = targets ∙ ap (λ w. pool_targets w (length before) p.body.pool) is in
    let known = known_at_end before p b api fine kept targets_there apart have bodies installs in
    record { built = built; known = subst (λ h. IsKnown world h b) home (subst (λ w. IsKnown w (length before) b) (sym is) known) }

-- so is one that is linked behind others
pub linked_last : ((world : List Shape) → IsBuilt world → HasApi world) → (before : List Shape) (p : Package)
    (l : Linked) → IsBuilt before → IsLinked before p l → StandApart p.body.methods → HaveHeaders p.shape → HaveBodies p
    → InstallMethods p → IsLast l
linked_last has before p l built linked apart have bodies installs =
    let now = subst IsBuilt (sym linked.world) (built_behind before p built linked.fine) in
    let targets = subst (λ pool. map Some l.body.targets ≡ pool_targets l.world (length before) pool)
    (ap (λ (k : Kept). k.pool) linked.kept) linked.targets in
    is_last before l.world p l.body now linked.world linked.fine linked.kept targets apart (has before built) have bodies
    installs

-- a pool that is resolved in a world is in the world with a package more
still_resolved : (world : List Shape) (more : Shape) (home : ℕ) (b : LinkedBody) → KeepsLinking world more → HasApi world → home < length world
    → IsResolved world home b → IsResolved (grown world more) home b
still_resolved world more home b keeps api h resolved = grind (arith, fun_ext)

-- what is known of a package stays known
still_known : (world : List Shape) (more : Shape) (home : ℕ) (b : LinkedBody) → KeepsLinking world more → HasApi world → 2 ≤ home → home < length world
    → IsKnown world home b → IsKnown (grown world more) home b
still_known world more home b keeps api loaded h known =
    let was = known.loaded in
    let there : slice_get (grown world more) home ≡ Some (was.«package»).shape = grind (arith, get_before) in
    let names = all_named (take home world) was.«package» was.fine in
    record {
      loaded = grind (arith, take-append-le);
      resolved = still_resolved world more home b keeps api h known.resolved;
      headed = headed_at (grown world more) home (was.«package»).shape loaded there was.headers;
      coded = coded_at (grown world more) home was.«package» loaded there was.bodies b.kept was.kept_is;
      declared = declared_at (grown world more) home was.«package» loaded there was.bodies b.kept was.kept_is names;
      installs = grind (arith, installable_at);
    }

module _ (keeps : (world : List Shape) (more : Shape) → KeepsLinking world more) (w : World) (l : Linked) (is : IsWorld w) (last : IsLast l) (bound : IsBoundTo w l) where
  -- one of those before
  before_known : (n : ℕ) (body : LinkedBody) → n < length w.bodies → slice_get (w.bodies ++ l.body ∷ []) n ≡ Some body → IsKnown l.world (2 + n) body
  before_known n body h e =
      let count = is.count in
      let there = is.known n body (sym (get_before w.bodies l.body n h) ∙ e) in
      subst (λ world. IsKnown world (2 + n) body) (sym bound.1)
      (still_known w.shapes bound.0 (2 + n) body (keeps w.shapes bound.0) (omega (arith, count)) (omega arith) (omega (arith, count, h)) there)

  -- the last
  last_known : (n : ℕ) (body : LinkedBody) → length w.bodies ≤ n → slice_get (w.bodies ++ l.body ∷ []) n ≡ Some body → IsKnown l.world (2 + n) body
  last_known n body h e =
      let at = behind_last w.bodies l.body body n h e in
      let here = at.0 in
      let count = is.count in
      let one = ap (λ s. length s) bound.1 ∙ length_more w.shapes bound.0 in
      let home : length l.world - 1 ≡ 2 + n = omega (arith, one, count, here) in
      subst (λ home. IsKnown l.world home body) home (subst (λ b. IsKnown l.world (length l.world - 1) b) at.1 last.known)

  -- a world with a package that was bound to it
  pub world_added : IsWorld (with_linked w l)
  world_added =
      let one = ap (λ s. length s) bound.1 ∙ length_more w.shapes bound.0 in
      let bodies = length_more w.bodies l.body in
      let count = is.count in
      record {
        built = last.built;
        count = omega (arith, one, bodies, count);
        known = λ n body e. by_place n body e (nat_lt n (length w.bodies)) (ltb-true n (length w.bodies)) (ltb-false n (length w.bodies));
      }
    where
      by_place : (n : ℕ) (body : LinkedBody) → slice_get (w.bodies ++ l.body ∷ []) n ≡ Some body → (b : Bool) → (b ≡ true → n < length w.bodies) → (b ≡ false → length w.bodies ≤ n)
          → IsKnown l.world (2 + n) body
      by_place n body e true h k = before_known n body (h refl) e
      by_place n body e false h k = last_known n body (k refl) e
