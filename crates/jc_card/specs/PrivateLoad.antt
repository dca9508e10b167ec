-- Private. The machine on words after a load.
use Rattle.std.specs.Prelude.{◌≡◌, ℕ, suc, ◌+◌, ◌<◌, ◌++◌, List, length, true}
use Rattle.jc_interp.specs.Agree.{HoldsFields}
use Rattle.jc_interp.specs.Loading.{with_package}
use Rattle.jc_interp.specs.declared.machine.WordMachine.{WordMachine}
use Rattle.jc_link.specs.Linked.{Linked}
use Rattle.jc_machine.specs.Machine.{Limits}
use Rattle.jc_machine.specs.Reading.{HeapReads}
use Rattle.jc_safety.specs.Loading.{has_room_for, loaded_arrays, loaded_statics}
use Rattle.jc_store.specs.Heap.{Heap}
use Rattle.jc_words.specs.Values.{TaggedValue}

-- words of static fields, which hold the fields if there are few objects; and if there is room, the machine has these
-- words and the package's arrays
pub record Grows (before after : WordMachine) (number : ℕ) (l : Linked) : Type 0 where
  pub words : List ℕ
  pub holds : length before.store.objects + length l.body.kept.statics.arrays < 65536
      → HoldsFields words (loaded_statics (suc (length before.store.objects)) l)
  pub counted : length before.store.classes ≡ length before.store.objects
  pub is : (limits : Limits) (heap : Heap TaggedValue) → limits.objects ≡ before.store.most_objects
      → limits.cells ≡ before.store.most_cells → HeapReads before.store.objects heap
      → has_room_for limits (heap ++ loaded_arrays number l.body) ≡ true
      → after ≡ with_package before number l.body words
