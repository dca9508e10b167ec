-- A small static image, for examples of loads.
use Rattle.std.specs.Prelude.{pos, negsuc, [], ◌∷◌}
use Rattle.jc_cap.specs.Statics.{StaticImage}
use Rattle.jc_cap.specs.declared.arrays.StaticArray.{StaticArray}
use Rattle.jc_cap.specs.declared.arrays.StaticArray.TheVariants.{Byte, Short}

-- the bytes -1 and 2; and the short -2
abbrev pub two_bytes : StaticArray
two_bytes = Byte (negsuc 0 ∷ pos 2 ∷ [])

abbrev pub one_short : StaticArray
one_short = Short (negsuc 1 ∷ [])

-- eight bytes: a reference to the first array, and another one; a byte of value 0; and three bytes with values
abbrev pub small_image : StaticImage
small_image = record {
  size = 8;
  references = 2;
  arrays = two_bytes ∷ [];
  defaults = 1;
  values = 0x12 ∷ 0x34 ∷ 0x80 ∷ [];
}
