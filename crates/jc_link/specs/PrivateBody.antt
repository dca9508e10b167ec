-- Private. Kept initialised arrays.
use Rattle.std.specs.Prelude.{ℤ, List}
use Rattle.jc_cap.specs.declared.arrays.StaticArray.{StaticArray}
use Rattle.jc_cap.specs.declared.arrays.StaticArray.TheVariants as Of
use Rattle.jc_link.specs.declared.body.ArrayKind.{ArrayKind}
use Rattle.jc_link.specs.declared.body.ArrayKind.TheVariants.{Boolean, Byte, Short}

abbrev pub array_of : ArrayKind → List ℤ → StaticArray
array_of Boolean values = Of.Boolean values
array_of Byte values = Of.Byte values
array_of Short values = Of.Short values
