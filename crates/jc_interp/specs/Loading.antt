-- Loads of a linked package on words: the words of its static fields, and its initialised arrays in the store.
use Rattle.std.specs.Prelude.{◌≡◌, ℕ, Bool, List, [], ◌∷◌, ◌++◌, length, map, replicate}
use Rattle.jc_cap.specs.declared.arrays.StaticArray.{StaticArray}
use Rattle.jc_link.specs.Linked.{Linked, LinkedBody, with_linked}
use Rattle.jc_program.specs.Program.{IsProgramOf}
use Rattle.jc_program.specs.declared.program.Program.{Program}
use Rattle.jc_machine.specs.Machine.{Limits, Machine, Surroundings}
use Rattle.jc_machine.specs.Reading.{HeapReads}
use Rattle.jc_safety.specs.Loading.{MayLoad, has_room_for, kind_of_array, loaded_arrays, loaded_statics}
use Rattle.jc_safety.specs.Loading.{owner_of_arrays, words_of_array}
use Rattle.jc_store.specs.Heap.{Heap, Object, next_number}
use Rattle.jc_store.specs.Store.{Store}
use Rattle.jc_words.specs.Values.{TaggedValue}
use Rattle.jc_interp.specs.Agree.{AgreeBeside, HoldsFields}
use Rattle.jc_interp.specs.declared.machine.WordMachine.{WordMachine}

-- an initialised array of the package with a number, and all of them in order
abbrev pub word_array : ℕ → LinkedBody → StaticArray → Object ℕ
word_array number body array = record {
  kind = kind_of_array body array;
  owner = owner_of_arrays number body.kept.applets;
  cells = words_of_array array;
}

abbrev pub word_arrays : ℕ → LinkedBody → Heap ℕ
word_arrays number body = map (word_array number body) body.kept.statics.arrays

-- a store with arrays after its objects. Arrays are of class Object, which is the first of a world's classes
abbrev pub with_arrays : Store → Heap ℕ → Store
with_arrays s arrays = record {
  objects = s.objects ++ arrays;
  classes = s.classes ++ replicate (length arrays) 0;
  most_objects = s.most_objects;
  most_cells = s.most_cells;
}

-- a machine with the arrays of the package with a number, and with the words of its static fields
abbrev pub with_package : WordMachine → ℕ → LinkedBody → List ℕ → WordMachine
with_package u number body image = record {
  store = with_arrays u.store (word_arrays number body);
  frames = u.frames;
  statics = u.statics ++ image ∷ [];
}

-- the answer tells whether a package's arrays fit within so many objects and cells, for each heap that the store's
-- objects read
abbrev pub TellsRoom : ℕ → ℕ → Heap ℕ → LinkedBody → Bool → Type 0
TellsRoom objects cells os body answer =
    (limits : Limits) (heap : Heap TaggedValue) (number : ℕ) → limits.objects ≡ objects → limits.cells ≡ cells
    → HeapReads os heap → answer ≡ has_room_for limits (heap ++ loaded_arrays number body)

-- a package may be loaded on words: the words read the machine before the load over the world's tables, the store has
-- the class number of each object, the image holds the package's static fields, and `q` has the tables of the world
-- with the package
pub record LoadsWords {C : Type 0} (s : Surroundings C) (p q : Program) (u : WordMachine) (kept : C) (m : Machine C)
    (l : Linked) (image : List ℕ) : Type 0 where
  pub may : MayLoad s m l
  pub before : IsProgramOf s.world p
  pub after : IsProgramOf (with_linked s.world l) q
  pub agree : AgreeBeside s p u kept m
  pub counted : length u.store.classes ≡ length u.store.objects
  pub holds : HoldsFields image (loaded_statics (next_number m.heap) l)
