-- What the machine throws by itself is there, and may be thrown.
use Rattle.std.proofs.Common.{◌≡◌, true, Some, arith}
use Rattle.jc_api.specs.declared.class.ApiClass.{ApiClass}
use Rattle.jc_api.specs.declared.class.ApiClass.TheVariants as api
use Rattle.jc_classes.specs.Subtype.{IsSubtype, is_class_below}
use Rattle.jc_classes.specs.Subtype.IsSubtype.{by_superclass, same}
use Rattle.jc_classes.specs.World.{superclass_of}
use Rattle.jc_names.specs.declared.name.ClassName.TheVariants.{Api}
use Rattle.jc_store.specs.Heap.{Heap}
use Rattle.jc_machine.specs.Lookup.{is_throwable}
use Rattle.jc_machine.specs.Machine.{Surroundings}
use Rattle.jc_machine.specs.Natives.{IsThrown}
use Rattle.jc_machine.specs.Runtime.{HasRuntimeObject, HasRuntimeObjects, RuntimeObject}
use Rattle.jc_machine.specs.Runtime.{arithmetic_exception, array_index_exception, array_store_exception}
use Rattle.jc_machine.specs.Runtime.{class_cast_exception, negative_size_exception, null_pointer_exception}
use Rattle.jc_machine.specs.Runtime.{security_exception, system_exception}
use Rattle.jc_words.specs.Values.{TaggedValue}
use Rattle.jc_safety.proofs.Ground.{Ground}

module _ {C : Type 0} (s : Surroundings C) (ground : Ground s) where
  abbrev Below : ApiClass → ApiClass → Type 0
  Below c d = IsSubtype s.world.shapes (Api c) (Api d)

  -- along the superclasses of the API's tables
  above : (c d e : ApiClass) → superclass_of s.world.shapes (Api c) ≡ Some (Api d) → Below d e → Below c e
  above c d e up h = by_superclass (Api c) (Api d) (Api e) up h

  exceptions : Below api.Exception api.Throwable
  exceptions =
      above api.Exception api.Throwable api.Throwable (ground.api api.Exception).superclass (same (Api api.Throwable))

  runtimes : Below api.RuntimeException api.Throwable
  runtimes =
      above api.RuntimeException api.Exception api.Throwable (ground.api api.RuntimeException).superclass exceptions

  of_runtime : (c : ApiClass) → superclass_of s.world.shapes (Api c) ≡ Some (Api api.RuntimeException)
      → is_class_below s.world.shapes (Api c) (Api api.Throwable) ≡ true
  of_runtime c up = grind (arith, above, runtimes)

  of_index : is_class_below s.world.shapes (Api api.ArrayIndexOutOfBoundsException) (Api api.Throwable) ≡ true
  of_index =
      ground.heirs (Api api.ArrayIndexOutOfBoundsException) (Api api.Throwable) ground.names.throwable
      (above api.ArrayIndexOutOfBoundsException api.IndexOutOfBoundsException api.Throwable
      (ground.api api.ArrayIndexOutOfBoundsException).superclass
      (above api.IndexOutOfBoundsException api.RuntimeException api.Throwable
      (ground.api api.IndexOutOfBoundsException).superclass runtimes))

  of_system : is_class_below s.world.shapes (Api api.SystemException) (Api api.Throwable) ≡ true
  of_system =
      ground.heirs (Api api.SystemException) (Api api.Throwable) ground.names.throwable
      (above api.SystemException api.CardRuntimeException api.Throwable (ground.api api.SystemException).superclass
      (above api.CardRuntimeException api.RuntimeException api.Throwable
      (ground.api api.CardRuntimeException).superclass runtimes))

  module _ (heap : Heap TaggedValue) (have : HasRuntimeObjects heap) where
    thrown_by : (wanted : RuntimeObject) → HasRuntimeObject heap wanted
        → is_throwable s.world.shapes wanted.type ≡ true → IsThrown s.world heap wanted.number
    thrown_by wanted h may = grind arith

    pub arithmetic : IsThrown s.world heap arithmetic_exception
    arithmetic = thrown_by _ have.0 (of_runtime api.ArithmeticException (ground.api api.ArithmeticException).superclass)

    pub array_store : IsThrown s.world heap array_store_exception
    array_store =
        thrown_by _ have.1.0 (of_runtime api.ArrayStoreException (ground.api api.ArrayStoreException).superclass)

    pub class_cast : IsThrown s.world heap class_cast_exception
    class_cast =
        thrown_by _ have.1.1.0 (of_runtime api.ClassCastException (ground.api api.ClassCastException).superclass)

    pub array_index : IsThrown s.world heap array_index_exception
    array_index = thrown_by _ have.1.1.1.0 of_index

    pub negative_size : IsThrown s.world heap negative_size_exception
    negative_size =
        thrown_by _ have.1.1.1.1.0
        (of_runtime api.NegativeArraySizeException (ground.api api.NegativeArraySizeException).superclass)

    pub null_pointer : IsThrown s.world heap null_pointer_exception
    null_pointer =
        thrown_by _ have.1.1.1.1.1.0
        (of_runtime api.NullPointerException (ground.api api.NullPointerException).superclass)

    pub security : IsThrown s.world heap security_exception
    security =
        thrown_by _ have.1.1.1.1.1.1.0
        (of_runtime api.SecurityException (ground.api api.SecurityException).superclass)

    pub system : IsThrown s.world heap system_exception
    system = thrown_by _ have.1.1.1.1.1.1.1.1.0 of_system
