-- Where references may be stored: no field or component holds a reference to a temporary entry point or a global array.
-- Static fields don't either, except references to the initialised arrays of a library (Java Card Runtime Environment
-- Specification, JCRE Entry Point Objects, Global Arrays).
use Rattle.std.specs.Prelude.{◌≡◌, ℕ, ◌&&◌, ◌||◌, Bool, true, false, not, List, Some, nat_lt}
use Rattle.std.specs.List.{AllByRecursion}
use Rattle.std.specs.Option.{option_map_or}
use Rattle.jc_firewall.specs.Verdict.{is_global_array, is_never_stored}
use Rattle.jc_store.specs.Heap.{Heap, Object, object_at}
use Rattle.jc_machine.specs.Machine.{StaticValue}
use Rattle.jc_machine.specs.Runtime.{install_array}
use Rattle.jc_words.specs.Values.{Null, Ref, TaggedValue, Unset, Word}

-- an object whose reference may be stored
abbrev pub is_storable : Object TaggedValue → Bool
is_storable o = not (is_never_stored o.kind.mark)

-- a value that a field or a component may hold: a reference to an object must lead to an existing object of this kind
abbrev pub may_be_held : Heap TaggedValue → TaggedValue → Bool
may_be_held heap (Word n) = true
may_be_held heap (Ref n) = option_map_or is_storable (object_at heap n) false
may_be_held heap Null = true
may_be_held heap Unset = true

-- an array of a library: a global array that a load created. The runtime's own two, the APDU buffer and the array of an
-- install, have smaller numbers
abbrev pub is_librarys : ℕ → Object TaggedValue → Bool
is_librarys number o = is_global_array o.kind.mark && nat_lt install_array number

-- a value that a static field may hold: one that any field may hold, or a library's array
abbrev pub may_be_static : Heap TaggedValue → TaggedValue → Bool
may_be_static heap (Word n) = true
may_be_static heap (Ref n) = option_map_or (λ o. is_storable o || is_librarys n o) (object_at heap n) false
may_be_static heap Null = true
may_be_static heap Unset = true

-- all components of all objects hold values that a field may hold
abbrev pub HoldStorable : Heap TaggedValue → Type 0
HoldStorable heap = (number : ℕ) (o : Object TaggedValue) → object_at heap number ≡ Some o
    → AllByRecursion (λ (v : TaggedValue). may_be_held heap v ≡ true) o.cells

-- all static fields hold values that a static field may hold
abbrev pub FieldsHoldStorable : Heap TaggedValue → List (List StaticValue) → Type 0
FieldsHoldStorable heap statics =
    AllByRecursion (AllByRecursion (λ (s : StaticValue). may_be_static heap s.value ≡ true)) statics
