-- The classes of the API (Java Card API Specification): in java.lang Object to SecurityException, in javacard.framework
-- Shareable to Util.
use Rattle.std.specs.Prelude.{ℕ, Bool, true, false, List, [], ◌∷◌, Option, Some, None}
use Rattle.jc_api.specs.Numbered.{numbered}
use Rattle.jc_api.specs.declared.class.ApiPackage.{ApiPackage}
use Rattle.jc_api.specs.declared.class.ApiPackage.TheVariants.{Lang, Framework}
use Rattle.jc_api.specs.declared.class.ApiClass.{ApiClass}
use Rattle.jc_api.specs.declared.class.ApiClass.TheVariants.{Object, Throwable, Exception, RuntimeException}
use Rattle.jc_api.specs.declared.class.ApiClass.TheVariants.{ArithmeticException, ArrayStoreException}
use Rattle.jc_api.specs.declared.class.ApiClass.TheVariants.{ClassCastException, IndexOutOfBoundsException}
use Rattle.jc_api.specs.declared.class.ApiClass.TheVariants.{ArrayIndexOutOfBoundsException, NegativeArraySizeException}
use Rattle.jc_api.specs.declared.class.ApiClass.TheVariants.{NullPointerException, SecurityException, Shareable}
use Rattle.jc_api.specs.declared.class.ApiClass.TheVariants.{CardRuntimeException, IsoException, SystemException}
use Rattle.jc_api.specs.declared.class.ApiClass.TheVariants.{ApduException, Aid, Apdu, Applet, JcSystem, Util}

-- the package with a number
abbrev pub package_with : ℕ → Option ApiPackage
package_with number = numbered (Lang ∷ Framework ∷ []) number

abbrev pub other_package : ApiPackage → ApiPackage
other_package Lang = Framework
other_package Framework = Lang

-- the classes by their numbers, from 1 on
abbrev pub numbered_classes : List ApiClass
numbered_classes =
    Object ∷ Throwable ∷ Exception ∷ RuntimeException ∷ ArithmeticException
    ∷ ArrayStoreException ∷ ClassCastException ∷ IndexOutOfBoundsException
    ∷ ArrayIndexOutOfBoundsException ∷ NegativeArraySizeException ∷ NullPointerException ∷ SecurityException
    ∷ Shareable ∷ CardRuntimeException ∷ IsoException ∷ SystemException ∷ ApduException
    ∷ Aid ∷ Apdu ∷ Applet ∷ JcSystem ∷ Util ∷ []

-- the number of the last class, and how many there are
abbrev pub last_class : ℕ
last_class = 22

-- the class with a number
abbrev pub class_of : ℕ → Option ApiClass
class_of number = numbered numbered_classes number

-- a class's number
abbrev pub number_of : ApiClass → ℕ
number_of Object = 1
number_of Throwable = 2
number_of Exception = 3
number_of RuntimeException = 4
number_of ArithmeticException = 5
number_of ArrayStoreException = 6
number_of ClassCastException = 7
number_of IndexOutOfBoundsException = 8
number_of ArrayIndexOutOfBoundsException = 9
number_of NegativeArraySizeException = 10
number_of NullPointerException = 11
number_of SecurityException = 12
number_of Shareable = 13
number_of CardRuntimeException = 14
number_of IsoException = 15
number_of SystemException = 16
number_of ApduException = 17
number_of Aid = 18
number_of Apdu = 19
number_of Applet = 20
number_of JcSystem = 21
number_of Util = 22

-- the package that a class is in
abbrev pub package_of : ApiClass → ApiPackage
package_of Object = Lang
package_of Throwable = Lang
package_of Exception = Lang
package_of RuntimeException = Lang
package_of ArithmeticException = Lang
package_of ArrayStoreException = Lang
package_of ClassCastException = Lang
package_of IndexOutOfBoundsException = Lang
package_of ArrayIndexOutOfBoundsException = Lang
package_of NegativeArraySizeException = Lang
package_of NullPointerException = Lang
package_of SecurityException = Lang
package_of Shareable = Framework
package_of CardRuntimeException = Framework
package_of IsoException = Framework
package_of SystemException = Framework
package_of ApduException = Framework
package_of Aid = Framework
package_of Apdu = Framework
package_of Applet = Framework
package_of JcSystem = Framework
package_of Util = Framework

-- the superclass of a class
abbrev pub superclass_of : ApiClass → Option ApiClass
superclass_of Object = None
superclass_of Throwable = Some Object
superclass_of Exception = Some Throwable
superclass_of RuntimeException = Some Exception
superclass_of ArithmeticException = Some RuntimeException
superclass_of ArrayStoreException = Some RuntimeException
superclass_of ClassCastException = Some RuntimeException
superclass_of IndexOutOfBoundsException = Some RuntimeException
superclass_of ArrayIndexOutOfBoundsException = Some IndexOutOfBoundsException
superclass_of NegativeArraySizeException = Some RuntimeException
superclass_of NullPointerException = Some RuntimeException
superclass_of SecurityException = Some RuntimeException
superclass_of Shareable = None
superclass_of CardRuntimeException = Some RuntimeException
superclass_of IsoException = Some CardRuntimeException
superclass_of SystemException = Some CardRuntimeException
superclass_of ApduException = Some CardRuntimeException
superclass_of Aid = Some Object
superclass_of Apdu = Some Object
superclass_of Applet = Some Object
superclass_of JcSystem = Some Object
superclass_of Util = Some Object

-- which classes are interfaces; Shareable marks shareable interfaces, and has no methods
abbrev pub is_interface : ApiClass → Bool
is_interface Object = false
is_interface Throwable = false
is_interface Exception = false
is_interface RuntimeException = false
is_interface ArithmeticException = false
is_interface ArrayStoreException = false
is_interface ClassCastException = false
is_interface IndexOutOfBoundsException = false
is_interface ArrayIndexOutOfBoundsException = false
is_interface NegativeArraySizeException = false
is_interface NullPointerException = false
is_interface SecurityException = false
is_interface Shareable = true
is_interface CardRuntimeException = false
is_interface IsoException = false
is_interface SystemException = false
is_interface ApduException = false
is_interface Aid = false
is_interface Apdu = false
is_interface Applet = false
is_interface JcSystem = false
is_interface Util = false

-- which classes are abstract; the interface doesn't count
abbrev pub is_abstract : ApiClass → Bool
is_abstract Object = false
is_abstract Throwable = false
is_abstract Exception = false
is_abstract RuntimeException = false
is_abstract ArithmeticException = false
is_abstract ArrayStoreException = false
is_abstract ClassCastException = false
is_abstract IndexOutOfBoundsException = false
is_abstract ArrayIndexOutOfBoundsException = false
is_abstract NegativeArraySizeException = false
is_abstract NullPointerException = false
is_abstract SecurityException = false
is_abstract Shareable = false
is_abstract CardRuntimeException = false
is_abstract IsoException = false
is_abstract SystemException = false
is_abstract ApduException = false
is_abstract Aid = false
is_abstract Apdu = false
is_abstract Applet = true
is_abstract JcSystem = false
is_abstract Util = false

-- how many cells of an object a class itself declares: a reason; a length and 16 bytes
abbrev pub size_of : ApiClass → ℕ
size_of Object = 0
size_of Throwable = 0
size_of Exception = 0
size_of RuntimeException = 0
size_of ArithmeticException = 0
size_of ArrayStoreException = 0
size_of ClassCastException = 0
size_of IndexOutOfBoundsException = 0
size_of ArrayIndexOutOfBoundsException = 0
size_of NegativeArraySizeException = 0
size_of NullPointerException = 0
size_of SecurityException = 0
size_of Shareable = 0
size_of CardRuntimeException = 1
size_of IsoException = 0
size_of SystemException = 0
size_of ApduException = 0
size_of Aid = 17
size_of Apdu = 0
size_of Applet = 0
size_of JcSystem = 0
size_of Util = 0
