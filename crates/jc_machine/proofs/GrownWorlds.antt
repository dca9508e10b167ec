-- A world with a package behind it that was bound to it is a world.
use Rattle.std.proofs.Common.{◌≡◌, ℕ, ◌+◌, ◌<◌, ◌≤◌, List, [], ◌∷◌, length, Some, slice_get}
use Rattle.std.proofs.Common.{sym, ap, ◌∙◌, ⊎_elim, arith, length-append, take_all, take-take}
use Rattle.std.proofs.Math.Path.{fun_ext}
use Rattle.std.proofs.lemmas.List.{take-append-le}
use Rattle.jc_cap_desc.specs.Shape.{MethodBody, Shape}
use Rattle.jc_classes.specs.Growth.{KeepsAllLookups, LiesWithin, StandWithin}
use Rattle.jc_classes.specs.Members.{method_at}
use Rattle.jc_classes.specs.Methods.{method_name}
use Rattle.jc_link.specs.Growth.{KeepsAllLinking}
use Rattle.jc_link.specs.Kept.{Kept}
use Rattle.jc_link.specs.Linked.{AreCoded, AreDeclared, AreHeaded, AreInstallable, IsBoundTo, IsKnown, IsLast}
use Rattle.jc_link.specs.Linked.{IsLoadedAt, IsResolved, IsWorld, Linked, LinkedBody, World, with_linked}
use Rattle.jc_machine.proofs.Accepting.{placed}

-- ---- what is known of a package stays known

module _ (before after : List Shape) (lies : LiesWithin before after) (lookups : KeepsAllLookups before after)
    (linking : KeepsAllLinking before after) (within : StandWithin before) (has : 2 ≤ length before) where
  same_method : (home offset : ℕ) → home < length before
      → method_at after (method_name home offset) ≡ method_at before (method_name home offset)
  same_method home offset low = lookups.methods (method_name home offset) (within.names home offset has low)

  still_loaded : (home : ℕ) (kept : Kept) → home < length before → IsLoadedAt before home kept
      → IsLoadedAt after home kept
  still_loaded home kept low was = grind (arith, take-take, lies)

  still_resolved : (home : ℕ) (b : LinkedBody) → home < length before → IsResolved before home b
      → IsResolved after home b
  still_resolved home b low resolved = grind (arith, fun_ext)

  still_headed : (home : ℕ) → home < length before → AreHeaded before home → AreHeaded after home
  still_headed home low headed offset d there = headed offset d (sym (same_method home offset low) ∙ there)

  still_coded : (home : ℕ) (methods : List MethodBody) → home < length before → AreCoded before home methods
      → AreCoded after home methods
  still_coded home methods low coded offset d there = coded offset d (sym (same_method home offset low) ∙ there)

  still_declared : (home : ℕ) (methods : List MethodBody) → home < length before → AreDeclared before home methods
      → AreDeclared after home methods
  still_declared home methods low declared n b at =
      let h = declared n b at in
      record { declared = h.declared; there = same_method home b.offset low ∙ h.there; concrete = h.concrete }

  still_installable : (home : ℕ) (kept : Kept) → home < length before → AreInstallable before home kept
      → AreInstallable after home kept
  still_installable home kept low installs applets n a are at =
      let h = installs applets n a are at in record {
        declared = h.declared;
        there = same_method home a.install low ∙ h.there;
        static = h.static;
        installs = h.installs;
        coded = h.coded;
      }

  still_known : (home : ℕ) (b : LinkedBody) → home < length before → IsKnown before home b → IsKnown after home b
  still_known home b low known = record {
    loaded = still_loaded home b.kept low known.loaded;
    resolved = still_resolved home b low known.resolved;
    headed = still_headed home low known.headed;
    coded = still_coded home b.kept.methods low known.coded;
    declared = still_declared home b.kept.methods low known.declared;
    installs = still_installable home b.kept low known.installs;
  }

-- ---- the world with one more

module _ (lookups : (before after : List Shape) → LiesWithin before after → KeepsAllLookups before after)
    (linking : (before after : List Shape) → LiesWithin before after → KeepsAllLinking before after)
    (within : (world : List Shape) → StandWithin world)
    (w : World) (l : Linked) (is : IsWorld w) (bound : IsBoundTo w l) (last : IsLast l) where
  lies : LiesWithin w.shapes l.world
  lies = grind (arith, take-append-le, take_all)

  one_more : length l.world ≡ length w.shapes + 1
  one_more = ap (λ world. length world) bound.1 ∙ length-append w.shapes (bound.0 ∷ [])

  earlier_known : (n : ℕ) (body : LinkedBody) → slice_get w.bodies n ≡ Some body → n < length w.bodies
      → IsKnown l.world (2 + n) body
  earlier_known n body there low =
      let count = is.count in
      still_known w.shapes l.world lies (lookups w.shapes l.world lies) (linking w.shapes l.world lies)
      (within w.shapes) (omega (arith, count)) (2 + n) body (omega (arith, count, low)) (is.known n body there)

  last_known : (n : ℕ) (body : LinkedBody) → n ≡ length w.bodies → l.body ≡ body → IsKnown l.world (2 + n) body
  last_known n body at same = grind (arith, one_more)

  pub grown_is_world : IsWorld (with_linked w l)
  grown_is_world =
      let count = is.count in
      let one = one_more in
      let bodies = length-append w.bodies (l.body ∷ []) in record {
        built = last.built;
        count = omega (arith, count, one, bodies);
        known = λ n body there.
            ⊎_elim (λ h. earlier_known n body h.0 h.1) (λ h. last_known n body h.0 h.1)
            (placed w.bodies l.body body n there);
      }
