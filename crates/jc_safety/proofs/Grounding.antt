-- What an accepted world gives a machine that runs in it, by the laws of the crates below.
use Rattle.std.proofs.Common.{◌≡◌, ℕ, zero, suc, ◌+◌, ◌<◌, List, [], ◌∷◌, length}
use Rattle.std.proofs.Common.{Some, slice_get, sym, ap, ◌∙◌, subst, arith, length-take}
use Rattle.std.specs.Option.{option_map}
use Rattle.jc_code.specs.Listing.{PlacedInstr}
use Rattle.jc_link.specs.Built.{IsBuilt}
use Rattle.jc_link.specs.Linked.{IsKnown, LinkedBody, World}
use Rattle.jc_machine.specs.Accepted.{IsAccepted, linked_as}
use Rattle.jc_machine.specs.Running.{MayRun}
use Rattle.jc_machine.specs.TypedWords.{KeepWordsTyped}
use Rattle.jc_machine.specs.Lookup.{body_at}
use Rattle.jc_machine.specs.Machine.{Surroundings}
use Rattle.jc_safety.proofs.Ground.{Ground, Stands}
use Rattle.jc_safety.proofs.Rows.{resolved}
use Rattle.jc_safety.proofs.Statics.{entry_of}
use Rattle.jc_safety.specs.PrivateLaws.{Laws}

within_list : {A : Type 0} (xs : List A) (n : ℕ) (x : A) → slice_get xs n ≡ Some x → n < length xs
within_list [] n x e = absurd cc
within_list (y ∷ xs) zero x e = omega arith
within_list (y ∷ xs) (suc n) x e = let k = within_list xs n x e in omega arith

module _ (laws : Laws) (w : World) (accepted : IsAccepted w) where
  built : IsBuilt w.shapes
  built = accepted.world.built

  stands : (number : ℕ) (body : LinkedBody) → body_at w number ≡ Some body → Stands w number body
  stands zero body e = absurd cc
  stands (suc n) body e =
      let before = (linked_as w (suc n) body).world in
      let count = accepted.world.count in
      let low = within_list w.bodies n body e in
      let taken = length-take (suc (suc (suc n))) w.shapes in
      let many : length before ≡ suc (suc (suc n)) = omega (arith, taken, count, low) in
      let lies = laws.first w.shapes (suc (suc (suc n))) in
      let first = laws.first_built w.shapes (suc (suc (suc n))) built (omega arith) in
      let small = laws.smaller before w.shapes lies accepted.small in
      let has = laws.has_api before first in
      let two : 2 + n ≡ suc (suc n) = omega arith in
      let known : IsKnown w.shapes (suc (suc n)) body =
      subst (λ (h : ℕ). IsKnown w.shapes h body) two (accepted.world.known n body e) in
      let linking = laws.linking before w.shapes lies in record {
        lookups = laws.lookups before w.shapes lies;
        linking = linking;
        members = laws.members before w.shapes lies;
        orders = laws.orders before w.shapes lies;
        own = laws.methods (linked_as w (suc n) body) w.shapes lies has;
        within = laws.stand before;
        place = omega (arith, many);
        known = known;
        named = λ index target there.
            let entry = entry_of w (suc n) index target (resolved w (suc n) body e known.resolved index target there) in
            let same = linking.targets (suc (suc n)) entry.entry has (omega (arith, many)) in
            (laws.names before small first).targets (suc (suc n)) entry.entry target (sym same ∙ entry.leads);
      }

pub grounded : Laws → {C : Type 0} → KeepWordsTyped C → (s : Surroundings C) → MayRun s → Ground s
grounded laws words s may =
    let w = s.world in
    let accepted = may.accepted in
    let is_built = accepted.world.built in
    let sound = laws.sound w.shapes accepted.small is_built in
    let orderly = sound.superclasses.orderly in
    let top = sound.superclasses.top in
    let cells = laws.cells w.shapes accepted.small is_built in record {
      accepted = accepted;
      lawful = may.natives;
      order = laws.order w.shapes orderly top;
      sound = sound;
      names = laws.names w.shapes accepted.small is_built;
      within = laws.stand w.shapes;
      subtypes = laws.classes w.shapes orderly top;
      below_subtypes = laws.below w.shapes;
      found = laws.found w.shapes;
      heirs = λ c d class below. (laws.along w.shapes orderly top c d class).1 below;
      on_api = laws.on_api w.shapes is_built;
      api = (laws.on_api w.shapes is_built).stands;
      code = laws.code w accepted.world;
      packages = stands laws w accepted;
      fields = λ home entry class cell declared e c below. cells.stand home entry c class cell declared e below;
      listed = λ code listing pc x whole there.
          laws.listed code listing pc whole ∙ ap (option_map (λ (x : PlacedInstr). x.instr)) there;
      listing = laws.listing;
      words = words;
      objects_stay = laws.stay;
      typed_methods = laws.typed w accepted;
      tokens = λ number body index ref loaded there. (accepted.packages number body loaded).tokens index ref there;
    }
