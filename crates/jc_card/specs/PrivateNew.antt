-- Private. Making the runtime's own objects, one after the other.
use Rattle.std.specs.Prelude.{◌≡◌, ℕ, zero, suc, ◌+◌, ◌<◌, ◌≤◌, List, [], ◌∷◌, ◌++◌, length, map, replicate, get_or}
use Rattle.std.specs.Prelude.{None}
use Rattle.jc_api.specs.declared.class.ApiClass.{ApiClass}
use Rattle.jc_api.specs.declared.class.ApiClass.TheVariants.{ArithmeticException, ArrayStoreException}
use Rattle.jc_api.specs.declared.class.ApiClass.TheVariants.{ClassCastException, ArrayIndexOutOfBoundsException}
use Rattle.jc_api.specs.declared.class.ApiClass.TheVariants.{NegativeArraySizeException, NullPointerException}
use Rattle.jc_api.specs.declared.class.ApiClass.TheVariants.{SecurityException, IsoException, SystemException}
use Rattle.jc_api.specs.declared.class.ApiClass.TheVariants.{ApduException, Aid, Apdu}
use Rattle.jc_firewall.specs.Verdict.{runtime}
use Rattle.jc_interp.specs.Agree.{AreNumbered}
use Rattle.jc_program.specs.Classes.{HasNumber}
use Rattle.jc_names.specs.declared.name.ClassName.{ClassName}
use Rattle.jc_names.specs.declared.name.ClassName.TheVariants.{Api}
use Rattle.jc_store.specs.Heap.{Heap, Object, cells_in}
use Rattle.jc_store.specs.Store.{Store}
use Rattle.jc_store.specs.declared.kind.Mark.TheVariants.{GlobalArray, PermanentEntryPoint, TemporaryEntryPoint}
use Rattle.jc_store.specs.declared.kind.ObjectType.TheVariants.{ByteArray, Instance}
use Rattle.jc_machine.specs.Limits.{own_cells, own_objects}
use Rattle.jc_card.specs.declared.runtime_objects.OwnObject.{OwnObject}

abbrev pub temporary : ApiClass → ℕ → OwnObject
temporary class size = record { object = Instance (Api class); mark = TemporaryEntryPoint; size = size }

abbrev pub global_bytes : ℕ → OwnObject
global_bytes size = record { object = ByteArray; mark = GlobalArray; size = size }

-- those that differ, and the AIDs after them
abbrev pub first_objects : List OwnObject
first_objects =
    temporary ArithmeticException 0 ∷ temporary ArrayStoreException 0 ∷ temporary ClassCastException 0
    ∷ temporary ArrayIndexOutOfBoundsException 0 ∷ temporary NegativeArraySizeException 0
    ∷ temporary NullPointerException 0 ∷ temporary SecurityException 0 ∷ temporary IsoException 1
    ∷ temporary SystemException 1 ∷ temporary ApduException 1 ∷ temporary Apdu 0 ∷ global_bytes 261
    ∷ global_bytes 127 ∷ []

abbrev pub aid_object : OwnObject
aid_object = record { object = Instance (Api Aid); mark = PermanentEntryPoint; size = 17 }

abbrev pub own_object : ℕ → OwnObject
own_object place = get_or first_objects place aid_object

-- the first n of them
unfoldable pub own_objects_until : ℕ → List OwnObject
own_objects_until zero = []
own_objects_until (suc n) = own_objects_until n ++ own_object n ∷ []

-- a store has room for one more of them
pub record HasRoomFor (s : Store) (own : OwnObject) : Type 0 where
  pub object : length s.objects < s.most_objects
  pub cells : cells_in s.objects + 1 + own.size ≤ s.most_cells

-- an empty store has room for all of them
pub record HasOwnRoom (s : Store) : Type 0 where
  pub objects : own_objects ≤ s.most_objects
  pub cells : own_cells ≤ s.most_cells

-- each class of the API has a number
abbrev pub HaveApiNumbers : List ClassName → Type 0
HaveApiNumbers names = (c : ApiClass) → HasNumber names (Api c)

-- one of them, as it is made
abbrev pub made_of : {V : Type 0} → V → OwnObject → Object V
made_of {V} blank o = record {
  kind = record { object_type = o.object; mark = o.mark; clears = None };
  owner = runtime;
  cells = replicate {A = V} o.size blank;
}

abbrev pub words_until : ℕ → Heap ℕ
words_until n = map (made_of 0) (own_objects_until n)

-- a store has the first n of them and nothing else, and each has the number of its class
pub record HasOwn (names : List ClassName) (before after : Store) (n : ℕ) : Type 0 where
  pub objects : after.objects ≡ words_until n
  pub classes : length after.classes ≡ n
  pub numbered : AreNumbered names after
  pub most_objects : after.most_objects ≡ before.most_objects
  pub most_cells : after.most_cells ≡ before.most_cells
