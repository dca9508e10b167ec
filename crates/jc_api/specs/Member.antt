-- The members of the API's classes, with their types (Java Card API Specification).
use Rattle.std.specs.Prelude.{ℕ, Bool, true, false, List, [], ◌∷◌, Option}
use Rattle.jc_base.specs.Signature.{Signature}
use Rattle.jc_base.specs.declared.declared_type.DeclaredType.{DeclaredType}
use Rattle.jc_base.specs.declared.declared_type.DeclaredType.TheVariants.{Boolean, Byte, Short, Reference, BooleanArray}
use Rattle.jc_base.specs.declared.declared_type.DeclaredType.TheVariants.{ByteArray, ShortArray, ReferenceArray}
use Rattle.jc_base.specs.declared.declared_type.ReturnType.{ReturnType}
use Rattle.jc_base.specs.declared.declared_type.ReturnType.TheVariants.{Void, Value}
use Rattle.jc_api.specs.Numbered.{numbered}
use Rattle.jc_api.specs.declared.class.ApiClass.{ApiClass}
use Rattle.jc_api.specs.declared.class.ApiClass.TheVariants.{Object, Throwable, Exception, RuntimeException}
use Rattle.jc_api.specs.declared.class.ApiClass.TheVariants.{ArithmeticException, ArrayStoreException}
use Rattle.jc_api.specs.declared.class.ApiClass.TheVariants.{ClassCastException, IndexOutOfBoundsException}
use Rattle.jc_api.specs.declared.class.ApiClass.TheVariants.{ArrayIndexOutOfBoundsException, NegativeArraySizeException}
use Rattle.jc_api.specs.declared.class.ApiClass.TheVariants.{NullPointerException, SecurityException, Shareable}
use Rattle.jc_api.specs.declared.class.ApiClass.TheVariants.{CardRuntimeException, IsoException, SystemException}
use Rattle.jc_api.specs.declared.class.ApiClass.TheVariants.{ApduException, Aid, Apdu, Applet, JcSystem, Util}
use Rattle.jc_api.specs.declared.member.MemberKind.{MemberKind}
use Rattle.jc_api.specs.declared.member.MemberKind.TheVariants.{Constructor, Static, Virtual}
use Rattle.jc_api.specs.declared.member.Member.{Member}

-- a member of a class; the types of its parameters are without `this`
pub record ApiMember : Type 0 where
  pub class : ApiClass
  pub kind : MemberKind
  pub is_abstract : Bool
  pub signature : Signature ApiClass

-- the code's member as this record
abbrev pub shown : Member → ApiMember
shown m = record {
  class = m.class;
  kind = m.kind;
  is_abstract = m.is_abstract;
  signature = record { parameters = m.parameters.now; result = m.result };
}

-- a member that isn't abstract
abbrev pub plain : MemberKind → ApiClass → List (DeclaredType ApiClass) → ReturnType ApiClass → ApiMember
plain kind class parameters result = record {
  class = class;
  kind = kind;
  is_abstract = false;
  signature = record { parameters = parameters; result = result };
}

abbrev pub constructor : ApiClass → List (DeclaredType ApiClass) → ApiMember
constructor class parameters = plain Constructor class parameters Void

abbrev pub static : ApiClass → List (DeclaredType ApiClass) → ReturnType ApiClass → ApiMember
static class parameters result = plain Static class parameters result

abbrev pub virtual : ApiClass → List (DeclaredType ApiClass) → ReturnType ApiClass → ApiMember
virtual class parameters result = plain Virtual class parameters result

abbrev pub abstract : ApiClass → List (DeclaredType ApiClass) → ReturnType ApiClass → ApiMember
abstract class parameters result = record (virtual class parameters result) { is_abstract = true }

-- the members by their numbers, from 1 on
abbrev pub members : List ApiMember
members =
    constructor Object []  -- 1 Object
    ∷ virtual Object (Reference Object ∷ []) (Value Boolean)  -- 2 equals
    ∷ constructor Throwable []  -- 3 Throwable
    ∷ constructor Exception []  -- 4 Exception
    ∷ constructor RuntimeException []  -- 5 RuntimeException
    ∷ constructor ArithmeticException []  -- 6 ArithmeticException
    ∷ constructor ArrayStoreException []  -- 7 ArrayStoreException
    ∷ constructor ClassCastException []  -- 8 ClassCastException
    ∷ constructor IndexOutOfBoundsException []  -- 9 IndexOutOfBoundsException
    ∷ constructor ArrayIndexOutOfBoundsException []  -- 10 ArrayIndexOutOfBoundsException
    ∷ constructor NegativeArraySizeException []  -- 11 NegativeArraySizeException
    ∷ constructor NullPointerException []  -- 12 NullPointerException
    ∷ constructor SecurityException []  -- 13 SecurityException
    ∷ constructor CardRuntimeException (Short ∷ [])  -- 14 CardRuntimeException
    ∷ virtual CardRuntimeException [] (Value Short)  -- 15 getReason
    ∷ virtual CardRuntimeException (Short ∷ []) Void  -- 16 setReason
    ∷ constructor IsoException (Short ∷ [])  -- 17 ISOException
    ∷ static IsoException (Short ∷ []) Void  -- 18 throwIt
    ∷ constructor SystemException (Short ∷ [])  -- 19 SystemException
    ∷ static SystemException (Short ∷ []) Void  -- 20 throwIt
    ∷ constructor ApduException (Short ∷ [])  -- 21 APDUException
    ∷ static ApduException (Short ∷ []) Void  -- 22 throwIt
    ∷ constructor Aid (ByteArray ∷ Short ∷ Byte ∷ [])  -- 23 AID
    ∷ virtual Aid (ByteArray ∷ Short ∷ Byte ∷ []) (Value Boolean)  -- 24 equals
    ∷ virtual Aid (ByteArray ∷ Short ∷ []) (Value Byte)  -- 25 getBytes
    ∷ virtual Apdu [] (Value ByteArray)  -- 26 getBuffer
    ∷ virtual Apdu [] (Value Short)  -- 27 setIncomingAndReceive
    ∷ virtual Apdu [] (Value Short)  -- 28 setOutgoing
    ∷ virtual Apdu (Short ∷ []) Void  -- 29 setOutgoingLength
    ∷ virtual Apdu (Short ∷ Short ∷ []) Void  -- 30 sendBytes
    ∷ virtual Apdu (ByteArray ∷ Short ∷ Short ∷ []) Void  -- 31 sendBytesLong
    ∷ virtual Apdu (Short ∷ Short ∷ []) Void  -- 32 setOutgoingAndSend
    ∷ constructor Applet []  -- 33 Applet
    ∷ virtual Applet [] Void  -- 34 register
    ∷ virtual Applet (ByteArray ∷ Short ∷ Byte ∷ []) Void  -- 35 register
    ∷ virtual Applet [] (Value Boolean)  -- 36 select
    ∷ virtual Applet [] Void  -- 37 deselect
    ∷ abstract Applet (Reference Apdu ∷ []) Void  -- 38 process
    ∷ virtual Applet [] (Value Boolean)  -- 39 selectingApplet
    ∷ virtual Applet (Reference Aid ∷ Byte ∷ []) (Value (Reference Shareable))  -- 40 getShareableInterfaceObject
    ∷ static JcSystem [] (Value (Reference Aid))  -- 41 getAID
    ∷ static JcSystem (ByteArray ∷ Short ∷ Byte ∷ []) (Value (Reference Aid))  -- 42 lookupAID
    ∷ static JcSystem [] (Value (Reference Aid))  -- 43 getPreviousContextAID
    ∷ static JcSystem (Reference Aid ∷ Byte ∷ []) (Value (Reference Shareable))  -- 44 getAppletShareableInterfaceObject
    ∷ static JcSystem (Short ∷ Byte ∷ []) (Value BooleanArray)  -- 45 makeTransientBooleanArray
    ∷ static JcSystem (Short ∷ Byte ∷ []) (Value ByteArray)  -- 46 makeTransientByteArray
    ∷ static JcSystem (Short ∷ Byte ∷ []) (Value ShortArray)  -- 47 makeTransientShortArray
    ∷ static JcSystem (Short ∷ Byte ∷ []) (Value (ReferenceArray Object))  -- 48 makeTransientObjectArray
    ∷ static Util (ByteArray ∷ Short ∷ ByteArray ∷ Short ∷ Short ∷ []) (Value Short)  -- 49 arrayCopy
    ∷ static Util (ByteArray ∷ Short ∷ ByteArray ∷ Short ∷ Short ∷ []) (Value Short)  -- 50 arrayCopyNonAtomic
    ∷ static Util (ByteArray ∷ Short ∷ Short ∷ Byte ∷ []) (Value Short)  -- 51 arrayFillNonAtomic
    ∷ static Util (ByteArray ∷ Short ∷ ByteArray ∷ Short ∷ Short ∷ []) (Value Byte)  -- 52 arrayCompare
    ∷ static Util (ByteArray ∷ Short ∷ []) (Value Short)  -- 53 getShort
    ∷ static Util (ByteArray ∷ Short ∷ Short ∷ []) (Value Short)  -- 54 setShort
    ∷ static Util (Byte ∷ Byte ∷ []) (Value Short) ∷ []  -- 55 makeShort

-- the number of the last member, and how many there are
abbrev pub last_member : ℕ
last_member = 55

-- the member with a number
abbrev pub member_of : ℕ → Option ApiMember
member_of number = numbered members number
