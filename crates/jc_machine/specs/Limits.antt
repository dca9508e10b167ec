-- The limits that a card may have (Java Card Runtime Environment Specification, Lifetime of the Java Card Virtual
-- Machine, JCRE Entry Point Objects, Global Arrays).
use Rattle.std.specs.Prelude.{ℕ, ◌&&◌, nat_le, nat_lt, Bool, length}
use Rattle.jc_store.specs.Heap.{cells_in}
use Rattle.jc_machine.specs.Runtime.{new_heap}
use Rattle.jc_machine.specs.declared.limits.Limits.{Limits}

-- how many objects of its own the runtime has, and how many cells they take: 45, and 980
abbrev pub own_objects : ℕ
own_objects = length new_heap

abbrev pub own_cells : ℕ
own_cells = cells_in new_heap

-- the number of an object isn't negative as a short
abbrev pub most_objects : ℕ
most_objects = 32767

-- there is room for the runtime's own objects, and a call may make a step in a frame of one word
abbrev pub are_limits : Limits → Bool
are_limits l =
    nat_le own_objects l.objects && nat_le l.objects most_objects && nat_le own_cells l.cells && nat_lt 0 l.frames
    && nat_lt 0 l.frame_words && nat_lt 0 l.steps
