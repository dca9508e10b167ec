-- A card behind a load.
use Rattle.std.proofs.Common.{◌≡◌, ℕ, suc, ◌+◌, ◌<◌, List, length, nat_le, true, None, arith, sym, ap, ◌∙◌, subst}
use Rattle.std.proofs.lemmas.Bool.{and_parts, leb-true}
use Rattle.std.proofs.lemmas.List.{length-append, length-map}
use Rattle.jc_interp.specs.Agree.{AgreeBeside}
use Rattle.jc_interp.specs.Loading.{LoadsWords, with_package as with_words}
use Rattle.jc_interp.specs.declared.machine.WordMachine.{WordMachine}
use Rattle.jc_link.specs.Linked.{IsBoundTo, Linked, World, with_linked}
use Rattle.jc_machine.specs.Reading.{ReadsObject}
use Rattle.jc_program.specs.Program.{IsProgramOf}
use Rattle.jc_program.specs.declared.program.Program.{Program}
use Rattle.jc_machine.specs.Accepted.{IsAccepted}
use Rattle.jc_machine.specs.Machine.{Machine, Surroundings}
use Rattle.jc_natives.specs.Kept.{Kept}
use Rattle.jc_safety.specs.Loading.{MayLoad, around_behind, heap_behind, machine_behind, next_package}
use Rattle.jc_store.specs.Heap.{Heap, next_number}
use Rattle.jc_words.specs.Values.{TaggedValue}
use Rattle.jc_card.specs.Card.{CardState, around, at_rest}
use Rattle.jc_card.proofs.Counting.{as_many}
use Rattle.jc_card.proofs.TypedCards.{LoadsFitting, LoadsTyped, may_load, package_typed, room_behind}
use Rattle.jc_card.specs.Load.{has_room, with_package}
use Rattle.jc_card.specs.PrivateLoad.{Grows}
use Rattle.jc_card.specs.Reads.{CardWords, Holds}

-- the laws of a load
abbrev StaysInAgreement : Type 0
StaysInAgreement = (s : Surroundings Kept) (p q : Program) (u : WordMachine) (kept : Kept) (m : Machine Kept)
    (l : Linked) (image : List ℕ) → LoadsWords s p q u kept m l image
    → AgreeBeside (around_behind s l) q (with_words u (next_package s.world) l.body image) kept (machine_behind s m l)

module _ (typed : LoadsTyped) (agree : StaysInAgreement) (fit : LoadsFitting) (k : CardWords) (c : CardState)
    (h : Holds k c) (l : Linked) (bound : IsBoundTo k.world l) (accepted : IsAccepted (with_linked k.world l))
    (room : has_room c l ≡ true) (few_objects : k.most_objects < 65536) where
  abbrev behind : Heap TaggedValue
  behind = heap_behind c.world c.heap l

  may : MayLoad (around c None) (at_rest c) l
  may = grind (arith, may_load)

  few_behind : length k.machine.store.objects + length l.body.kept.statics.arrays < 65536
  few_behind = grind (arith, and_parts, nat_le, room_behind, leb-true, length-append, length-map, as_many)

  module _ (number : ℕ) (number_is : number ≡ next_package c.world) (world : World)
      (world_is : world ≡ with_linked k.world l) (q : Program) (of : IsProgramOf world q) (machine : WordMachine)
      (g : Grows k.machine machine number l) where
    abbrev grown : WordMachine
    grown = with_words k.machine (next_package c.world) l.body g.words

    grown_is : machine ≡ grown
    grown_is = grind (arith, room_behind)

    same_world : world ≡ with_linked c.world l
    same_world = world_is ∙ ap (λ (w : World). with_linked w l) h.world

    next : suc (length k.machine.store.objects) ≡ next_number c.heap
    next = ap suc (as_many ReadsObject k.machine.store.objects c.heap h.beside.heap)

    loads : LoadsWords (around c None) k.program q k.machine k.kept (at_rest c) l g.words
    loads = grind (arith, may, same_world, next, few_behind)

    pub holds_behind : Holds (record k { world = world; program = q; machine = machine }) (with_package c l)
    holds_behind = record {
      typed = package_typed typed c h.typed l may;
      world = same_world;
      program = of;
      beside =
          subst (λ (u : WordMachine). AgreeBeside (around (with_package c l) None) q u k.kept
          (at_rest (with_package c l))) (sym grown_is)
          (agree (around c None) k.program q k.machine k.kept (at_rest c) l g.words loads);
      frames = ap (λ (u : WordMachine). u.frames.frames) grown_is ∙ h.frames;
      selected = h.selected;
      most_objects = h.most_objects;
      most_cells = h.most_cells;
      steps = h.steps;
    }
