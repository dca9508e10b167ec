-- Objects whose components are set to zero or null (Java Card Runtime Environment Specification, Transient Objects).
use Rattle.std.specs.Prelude.{Bool, map, if◌then◌else◌}
use Rattle.jc_machine.specs.Machine.{Machine}
use Rattle.jc_store.specs.Heap.{Heap, Object}
use Rattle.jc_words.specs.Values.{Null, Ref, TaggedValue, Unset, Word}

-- zero for a word, null for a reference
abbrev pub zero_or_null : TaggedValue → TaggedValue
zero_or_null (Word n) = Word 0
zero_or_null (Ref n) = Null
zero_or_null Null = Null
zero_or_null Unset = Unset

abbrev pub zeroed : Object TaggedValue → Object TaggedValue
zeroed object = record object { cells = map zero_or_null object.cells }

-- the objects of a heap, with those that pass a test zeroed
abbrev pub zeroed_where : (Object TaggedValue → Bool) → Heap TaggedValue → Heap TaggedValue
zeroed_where test heap = map (λ object. if test object then zeroed object else object) heap

-- a machine with other objects
abbrev pub with_heap : {C : Type 0} → Machine C → Heap TaggedValue → Machine C
with_heap m heap = record m { heap = heap }
