-- Bytes that the runtime writes into its arrays.
use Rattle.std.proofs.Common.{◌≡◌, ℕ, ◌<◌, ◌≤◌, List, get_or, length, refl, sym, subst, arith}
use Rattle.jc_interp.specs.Agree.{AreNumbered, IsNumbered}
use Rattle.jc_machine.specs.Lookup.{class_of}
use Rattle.jc_machine.specs.Natives.{IsLawful}
use Rattle.jc_natives.specs.Meaning.{meaning}
use Rattle.jc_store.specs.Blocks.{HasCells, with_cells}
use Rattle.jc_store.specs.Heap.{with_object}
use Rattle.jc_store.specs.Store.{Store, with_objects}
use Rattle.jc_store.specs.declared.kind.ObjectKind.{ObjectKind}
use Rattle.jc_card.proofs.Heaps.{read_length, was, written_reads}
use Rattle.jc_card.proofs.Thrown.{Across, across}
use Rattle.jc_card.proofs.TypedCards.{written_typed}
use Rattle.jc_card.specs.PrivateTyped.{KeepsTyped}
use Rattle.jc_card.specs.Card.{CardState}
use Rattle.jc_card.specs.Parts.{write}
use Rattle.jc_card.specs.PrivateWords.{HasBytes}
use Rattle.jc_card.specs.Reads.{CardWords, GivesNothing, Holds, IsDone}
use Rattle.jc_card.specs.Typed.{IsTypedCard}

module _ (k : CardWords) (c : CardState) (h : Holds k c) (number : ℕ) (bytes : List ℕ)
    (array : HasBytes c.heap number (length bytes)) where
  pub its_words : Across k.machine.store.objects number array.object
  its_words = across k.machine.store.objects c.heap h.beside.heap number array.object array.there

  within : length bytes ≤ length (its_words.object).cells
  within = grind (arith, read_length, its_words)

  pub has_cells : HasCells k.machine.store number 0 (length bytes)
  has_cells = record { object = its_words.object; is = its_words.there; within = omega (arith, within) }

  abbrev pub store_after : Store
  store_after = with_objects k.machine.store (with_object k.machine.store.objects number (with_cells its_words.object
      0 bytes))

  abbrev pub card_after : CardWords
  card_after = record k {
    machine = record { store = store_after; frames = k.machine.frames; statics = k.machine.statics };
  }

  numbered_still : AreNumbered k.program.classes store_after
  numbered_still other y e =
      let w = was k.machine.store.objects number its_words.object (with_cells its_words.object 0 bytes)
      its_words.there refl other y e in
      let n = h.beside.numbered other w.object w.found in
      subst (λ (kind : ObjectKind). IsNumbered k.program.classes store_after other (class_of kind.object_type)) (sym w.kind)
      (record { named = n.named; kept = n.kept })

  module _ (lawful : IsLawful meaning) (stays : KeepsTyped) (are : (n : ℕ) → get_or bytes n 0 < 256) where
    pub write_done : IsDone card_after GivesNothing (write number bytes c)
    write_done =
        let b = h.beside in (
          record {
            typed = written_typed lawful stays c h.typed number bytes are array.object array.there array.bytes;
            world = h.world;
            program = h.program;
            beside = record {
              heap = written_reads k.machine.store.objects c.heap b.heap number bytes its_words.object array.object
                  its_words.reads array.there within;
              numbered = numbered_still;
              statics = b.statics;
              runtime = b.runtime;
              most_objects = b.most_objects;
              most_cells = b.most_cells;
              most_frames = b.most_frames;
              most_words = b.most_words;
            };
            frames = h.frames;
            selected = h.selected;
            most_objects = h.most_objects;
            most_cells = h.most_cells;
            steps = h.steps;
          },
          tt,
        )

-- ---- the runtime's arrays

-- those of a machine that is typed
pub has_buffer : (c : CardState) → IsTypedCard c → (count : ℕ) → count ≡ 261 → HasBytes c.heap 12 count
has_buffer c t count e = grind (arith, within)

pub has_parameters : (c : CardState) → IsTypedCard c → (count : ℕ) → count ≡ 127 → HasBytes c.heap 13 count
has_parameters c t count e = grind (arith, within)
