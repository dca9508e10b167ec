-- The card behind a part of a command stays typed: behind a call, behind what the runtime writes and clears, where it
-- keeps something else, and behind a load. And a new card is typed.
use Rattle.std.proofs.Common.{◌≡◌, ℕ, suc, ◌+◌, ◌<◌, ◌≤◌, List, [], ◌∷◌, ◌++◌, ◌&&◌, get_or, length, map, Bool, true}
use Rattle.std.proofs.Common.{false, cond, nat_le, Option, Some, None, Result, Ok, Err, sym, subst, arith}
use Rattle.std.proofs.lemmas.Bool.{and_parts, leb-true, ltb-true}
use Rattle.std.specs.List.{find, list_all}
use Rattle.std.specs.Option.{option_map_or}
use Rattle.jc_api.specs.Bound.{Bound}
use Rattle.jc_base.specs.declared.fault.LoadFault.{LoadFault}
use Rattle.jc_link.specs.Linked.{IsBoundTo, Linked, World, most_in_world, with_linked}
use Rattle.jc_machine.specs.Accepted.{IsAccepted, api_alone}
use Rattle.jc_machine.specs.Machine.{Frame, Machine, Surroundings}
use Rattle.jc_machine.specs.Natives.{IsLawful}
use Rattle.jc_machine.specs.Running.{MayRun}
use Rattle.jc_machine.specs.Runtime.{new_heap}
use Rattle.jc_machine.specs.Typed.{IsTypedBeside}
use Rattle.jc_machine.specs.TypedExamples.{idle_in, new_machine}
use Rattle.jc_names.specs.declared.owner.Owner.{Owner}
use Rattle.jc_natives.specs.Cells.{put_all}
use Rattle.jc_natives.specs.Kept.{Kept, are_bytes, has_numbers, instance_of, is_same_owner, nothing_kept}
use Rattle.jc_natives.specs.Meaning.{fits_command, fits_installing, fits_instance, meaning}
use Rattle.jc_natives.specs.declared.kept.Instance.{Instance}
use Rattle.jc_safety.specs.Loading.{MayLoad, around_behind, has_room_for, heap_behind, loaded_arrays, machine_behind}
use Rattle.jc_safety.specs.Loading.{next_package}
use Rattle.jc_safety.specs.Zeroing.{with_heap as machine_with_heap, zeroed_where}
use Rattle.jc_store.specs.Heap.{Heap, Object, cells_in, is_cleared_by, object_at, with_cell, with_object}
use Rattle.jc_store.specs.declared.kind.ClearingEvent.{ClearingEvent}
use Rattle.jc_store.specs.declared.kind.ObjectType.TheVariants.{ByteArray}
use Rattle.jc_words.specs.Values.{TaggedValue, Word}
use Rattle.jc_card.proofs.Heaps.{new_object, put_some}
use Rattle.jc_card.specs.Card.{CardState, around, at_rest, left_by, selected_instance, with_heap, with_kept}
use Rattle.jc_card.specs.Card.{with_selected, with_steps}
use Rattle.jc_card.specs.Load.{IsFit, IsLoad, has_room, with_package}
use Rattle.jc_card.specs.New.{new_card}
use Rattle.jc_card.specs.PrivateTyped.{KeepsTyped, ZeroedTyped}
use Rattle.jc_card.specs.Typed.{IsTypedCard}
use Rattle.jc_machine.specs.declared.limits.Limits.{Limits}

-- ---- calls, and what the runtime keeps

-- a machine that is typed beside its frames leaves a typed card
pub left_typed : (c : CardState) → IsTypedCard c → (selected : Option ℕ) (m : Machine Kept)
    → IsTypedBeside (around c selected) m → IsTypedCard (left_by c m)
left_typed c t selected m b = grind arith

-- the runtime may keep anything that fits the objects
pub kept_typed : (c : CardState) → IsTypedCard c → (kept : Kept) → meaning.fits c.world c.heap kept ≡ true
    → IsTypedCard (with_kept c kept)
kept_typed c t kept fits = grind arith

-- ---- the instance that is selected

-- another may be
pub selected_typed : (c : CardState) → IsTypedCard c → (selected : Option Owner)
    → IsTypedCard (with_selected c selected)
selected_typed c t selected = grind arith

-- calls may make another number of steps
pub steps_typed : (c : CardState) → IsTypedCard c → (steps : ℕ) → IsTypedCard (with_steps c steps)
steps_typed c t steps = grind arith

-- what is found of a list passes what all of it pass
found_passes : {A : Type 0} (test all : A → Bool) (xs : List A) (x : A) → find test xs ≡ Some x
    → list_all all xs ≡ true → all x ≡ true
found_passes test all [] x e h = absurd cc
found_passes {A} test all (y ∷ xs) x e h =
    let b = and_parts (all y) (list_all all xs) h in
    by_test (test y) e b.0 (λ q. found_passes test all xs x q b.1)
  where
    by_test : (b : Bool) → cond b (Some y) (find test xs) ≡ Some x → all y ≡ true
        → (find test xs ≡ Some x → all x ≡ true) → all x ≡ true
    by_test true q here later =
        let same : y ≡ x = cc in
        subst (λ (z : A). all z ≡ true) same here
    by_test false q here later = later q

-- the registered instance of an owner fits the objects
pub instance_fits : (c : CardState) → IsTypedCard c → (owner : Owner) (i : Instance)
    → instance_of c.kept.instances owner ≡ Some i → fits_instance c.world.shapes c.heap i ≡ true
instance_fits c t owner i e =
    let fits = fits_instance c.world.shapes c.heap in
    let one = and_parts (list_all fits c.kept.instances && option_map_or fits_installing c.kept.installing true)
    (fits_command c.kept && has_numbers c.kept) t.beside.fits in
    let two = and_parts (list_all fits c.kept.instances) (option_map_or fits_installing c.kept.installing true) one.0 in
    found_passes (λ (x : Instance). is_same_owner x.owner owner) fits c.kept.instances i e two.0

-- so does the one that is selected
pub selected_fits : (c : CardState) → IsTypedCard c → (i : Instance) → selected_instance c ≡ Some i
    → fits_instance c.world.shapes c.heap i ≡ true
selected_fits c t i e = grind (arith, instance_fits)

-- ---- what the runtime writes

module _ (stays : KeepsTyped) (s : Surroundings Kept) (may : MayRun s) (number : ℕ) where
  all_typed : (bytes : List ℕ) → ((n : ℕ) → get_or bytes n 0 < 256) → (m : Machine Kept) → IsTypedBeside s m
      → (from : ℕ) (object : Object TaggedValue) → object_at m.heap number ≡ Some object
      → object.kind.object_type ≡ ByteArray
      → IsTypedBeside s (machine_with_heap m (put_all m.heap number from (map Word bytes)))
  all_typed [] are m t from object e k =
      record { heap = t.heap; statics = t.statics; runtime_objects = t.runtime_objects; fits = t.fits }
  all_typed (b ∷ bytes) are m t from object e k =
      let one = with_cell object from (Word b) in
      let next = machine_with_heap m (with_object m.heap number one) in
      let typed = stays s may m t number from b object e k (are 0) in
      subst (λ (h : Heap TaggedValue).
      IsTypedBeside s (machine_with_heap m (put_all h number (from + 1) (map Word bytes))))
      (sym (put_some m.heap number from (Word b) object e))
      (all_typed bytes (λ n. are (suc n)) next typed (from + 1) one (new_object m.heap number object one e) k)

pub written_typed : IsLawful meaning → KeepsTyped → (c : CardState) → IsTypedCard c → (number : ℕ) (bytes : List ℕ)
    → ((n : ℕ) → get_or bytes n 0 < 256) → (object : Object TaggedValue) → object_at c.heap number ≡ Some object
    → object.kind.object_type ≡ ByteArray → IsTypedCard (with_heap c (put_all c.heap number 0 (map Word bytes)))
written_typed lawful stays c t number bytes are object there kind =
    let may : MayRun (around c None) = record { accepted = t.accepted; natives = lawful } in
    left_typed c t None (machine_with_heap (at_rest c) (put_all c.heap number 0 (map Word bytes)))
    (all_typed stays (around c None) may number bytes are (at_rest c) t.beside 0 object there kind)

-- ---- clearing

pub cleared_typed : IsLawful meaning → ZeroedTyped → (c : CardState) → IsTypedCard c → (event : ClearingEvent)
    (context : Option ℕ) → IsTypedCard (with_heap c (zeroed_where (is_cleared_by event context) c.heap))
cleared_typed lawful stays c t event context =
    let may : MayRun (around c None) = record { accepted = t.accepted; natives = lawful } in
    left_typed c t None (machine_with_heap (at_rest c) (zeroed_where (is_cleared_by event context) c.heap))
    (stays (around c None) may (at_rest c) t.beside (is_cleared_by event context))

-- ---- loads, and new cards

abbrev pub LoadsTyped : Type 0
LoadsTyped = (s : Surroundings Kept) (m : Machine Kept) (l : Linked) → MayLoad s m l
    → IsTypedBeside (around_behind s l) (machine_behind s m l)

abbrev pub LoadsFitting : Type 0
LoadsFitting = (w : World) (l : Linked) → IsBoundTo w l → (heap more : Heap TaggedValue) (k : Kept)
    → meaning.fits w heap k ≡ true → meaning.fits (with_linked w l) (heap ++ more) k ≡ true

-- a package that fits keeps the packages accepted
abbrev pub FitAccepted : Type 0
FitAccepted = (w : World) → IsAccepted w → length w.shapes ≤ most_in_world → (image certificate : List ℕ)
    → are_bytes image ≡ true → (l : Linked) → IsFit w.shapes image certificate l → IsAccepted (with_linked w l)

few_before : (c : CardState) (l : Linked) → has_room c l ≡ true → length c.world.shapes ≤ most_in_world
few_before c l room = grind (arith, ltb-true, and_parts)

pub room_behind : (c : CardState) (l : Linked) → has_room c l ≡ true
    → has_room_for c.limits (heap_behind c.world c.heap l) ≡ true
room_behind c l room = grind (arith, and_parts)

-- a package for which there is room may be loaded where the world with it is accepted
pub may_load : LoadsFitting → (c : CardState) → IsTypedCard c → (l : Linked) → IsBoundTo c.world l
    → IsAccepted (with_linked c.world l) → has_room c l ≡ true → MayLoad (around c None) (at_rest c) l
may_load fit c t l bound accepted room =
    let behind = heap_behind c.world c.heap l in
    let parts = and_parts (nat_le (length behind) c.limits.objects) (nat_le (cells_in behind) c.limits.cells)
    (room_behind c l room) in
    let within = leb-true (cells_in behind) c.limits.cells parts.1 in
    let most = t.cells in record {
      before = t.accepted;
      bound = bound;
      after = accepted;
      beside = t.beside;
      few = omega (arith, within, most);
      fits = fit c.world l bound c.heap (loaded_arrays (next_package c.world) l.body) c.kept t.beside.fits;
    }

pub package_typed : LoadsTyped → (c : CardState) → IsTypedCard c → (l : Linked)
    → MayLoad (around c None) (at_rest c) l → IsTypedCard (with_package c l)
package_typed stays c t l may = record {
  accepted = may.after;
  beside = stays (around c None) (at_rest c) l may;
  cells = t.cells;
}

-- what a load leaves
pub load_typed : FitAccepted → LoadsTyped → LoadsFitting → (c after : CardState) (image certificate : List ℕ)
    (result : Result ℕ LoadFault) → IsTypedCard c → are_bytes image ≡ true
    → IsLoad c image certificate result after → IsTypedCard after
load_typed accepts stays fit c after image certificate (Ok number) t bytes h =
    let l = h.linked in
    let linked = h.fit.linked.linked in
    let world = accepts c.world t.accepted (few_before c l h.room) image certificate bytes l h.fit in
    let may = may_load fit c t l (linked.«package».shape, linked.linked.world) world h.room in
    subst IsTypedCard (sym h.after_is) (package_typed stays c t l may)
load_typed accepts stays fit c after image certificate (Err fault) t bytes h = subst IsTypedCard (sym h.kept) t

pub new_typed : (l : Limits) → l.cells < 65536 → (bound : Bound) → IsAccepted (api_alone bound) → (frame : Frame)
    → IsTypedBeside (idle_in (api_alone bound)) (new_machine [] frame)
    → meaning.fits (api_alone bound) new_heap nothing_kept ≡ true → IsTypedCard (new_card l bound)
new_typed l cells bound accepted frame typed fits = grind arith
