-- Private. The input of a native member's code: words, and objects without tags.
use Rattle.std.specs.Prelude.{ℕ, Bool, false, List, map, Option}
use Rattle.std.specs.Option.{option_map_or}
use Rattle.jc_api.specs.declared.class.ApiClass.TheVariants.{Aid}
use Rattle.jc_cap_desc.specs.Shape.{Shape}
use Rattle.jc_link.specs.Linked.{World}
use Rattle.jc_machine.specs.Lookup.{is_of_class}
use Rattle.jc_machine.specs.Machine.{NativeCall}
use Rattle.jc_names.specs.declared.name.ClassName.TheVariants.{Api}
use Rattle.jc_names.specs.declared.owner.Owner.{Owner}
use Rattle.jc_natives.specs.Cells.{bits}
use Rattle.jc_natives.specs.PrivateCells.{bared}
use Rattle.jc_store.specs.Heap.{Heap, object_at}

-- the packages; the objects; the active owner, and the one before the last switch; the context of the selected applet;
-- and the most objects and cells
pub record NativeInput : Type 0 where
  pub shapes : List Shape
  pub objects : Heap ℕ
  pub active : Owner
  pub previous : Option Owner
  pub selected : Option ℕ
  pub most_objects : ℕ
  pub most_cells : ℕ

-- the input from a call on tagged values, and its arguments
abbrev pub seen_of : {C : Type 0} → World → NativeCall C → NativeInput
seen_of w call = record {
  shapes = w.shapes;
  objects = bared call.heap;
  active = call.active;
  previous = call.previous;
  selected = call.selected;
  most_objects = call.limits.objects;
  most_cells = call.limits.cells;
}

abbrev pub arguments_of : {C : Type 0} → NativeCall C → List ℕ
arguments_of call = map bits call.arguments

-- whether a number is an AID's: of an object of class AID or below it
abbrev pub is_aid_object : NativeInput → ℕ → Bool
is_aid_object s number =
    option_map_or (λ object. is_of_class s.shapes (Api Aid) object.kind.object_type) (object_at s.objects number) false
