-- What native members take and give, against the members of the API with their numbers: the kinds of their arguments
-- (words, arrays of bytes, references to objects of a class), and what each suits.
use Rattle.std.proofs.Common.{◌≡◌, ℕ, zero, suc, true, cond, List, [], ◌∷◌, map, slice_get, arith, Some, refl}
use Rattle.std.proofs.Common.{ap, subst, ◌⊎◌, Bool, false}
use Rattle.std.proofs.lemmas.Option.{none-some, same_Some}
use Rattle.jc_api.specs.Member.{ApiMember, member_of, members}
use Rattle.jc_api.specs.Numbered.{numbered}
use Rattle.jc_api.specs.declared.class.ApiClass.{ApiClass}
use Rattle.jc_api.specs.declared.class.ApiClass.TheVariants as api
use Rattle.jc_base.specs.Signature.{type_map}
use Rattle.jc_base.specs.declared.declared_type.DeclaredType.{DeclaredType}
use Rattle.jc_base.specs.declared.declared_type.DeclaredType.TheVariants as types
use Rattle.jc_cap_desc.specs.Shape.{Shape}
use Rattle.jc_classes.specs.Api.{is_static}
use Rattle.jc_machine.specs.Lookup.{are_of_types, is_byte_array, is_object_of, is_of_class, is_of_type, is_word}
use Rattle.jc_machine.specs.Lookup.{leads_to}
use Rattle.jc_machine.specs.Reading.{Pointwise}
use Rattle.jc_names.specs.declared.name.ClassName.{ClassName}
use Rattle.jc_names.specs.declared.name.ClassName.TheVariants.{Api}
use Rattle.jc_natives.proofs.Bare.{both}
use Rattle.jc_natives.proofs.Facts.{AreTyped, IsBytes}
use Rattle.jc_natives.specs.MemberTypes.{counted_name}
use Rattle.jc_natives.specs.Members.{natives}
use Rattle.jc_natives.specs.declared.native.AidNative.TheVariants as aids
use Rattle.jc_natives.specs.declared.native.ApduNative.TheVariants as apdus
use Rattle.jc_natives.specs.declared.native.AppletNative.TheVariants as applets
use Rattle.jc_natives.specs.declared.native.Native.{Native}
use Rattle.jc_natives.specs.declared.native.Native.TheVariants.{OfAid, OfApdu, OfApplet, OfObject, OfSystem}
use Rattle.jc_natives.specs.declared.native.Native.TheVariants.{OfUtility}
use Rattle.jc_natives.specs.declared.native.ObjectNative.TheVariants as objects
use Rattle.jc_natives.specs.declared.native.SystemNative.TheVariants as system
use Rattle.jc_natives.specs.declared.native.UtilityNative.TheVariants as utilities
use Rattle.jc_store.specs.Heap.{Heap}
use Rattle.jc_words.specs.Values.{TaggedValue}
use Rattle.std.specs.Prelude.{⊤}
use Rattle.jc_api.specs.declared.member.MemberKind.TheVariants.{Constructor, Static, Virtual}
use Rattle.jc_base.specs.declared.declared_type.ReturnType.{ReturnType}
use Rattle.jc_base.specs.declared.declared_type.ReturnType.TheVariants.{Void, Value}

-- a word; an array of bytes, or null; an object of a class, or null; an object of a class; another array, or null
pub data Kind : Type 0 where
  word : Kind
  bytes : Kind
  of : (class : ClassName) → Kind
  object : (class : ClassName) → Kind
  array : (type : DeclaredType ClassName) → Kind

abbrev kind_of : DeclaredType ApiClass → Kind
kind_of types.Boolean = word
kind_of types.Byte = word
kind_of types.Short = word
kind_of (types.Reference c) = of (counted_name c)
kind_of types.BooleanArray = array types.BooleanArray
kind_of types.ByteArray = bytes
kind_of types.ShortArray = array types.ShortArray
kind_of (types.ReferenceArray c) = array (types.ReferenceArray (counted_name c))

abbrev pub kinds_of : ApiMember → List Kind
kinds_of m =
    cond (is_static m.kind) (map kind_of m.signature.parameters)
    (object (Api m.class) ∷ map kind_of m.signature.parameters)

-- ---- what native members take, where the class of the object may be any

abbrev aid : ClassName
aid = Api api.Aid

abbrev pub takes : Native → ApiClass → List Kind
takes (OfObject objects.Construct) c = object (Api c) ∷ []
takes (OfObject objects.Equals) c = object (Api c) ∷ of (Api api.Object) ∷ []
takes (OfObject objects.ConstructWithReason) c = object (Api c) ∷ word ∷ []
takes (OfObject objects.GetReason) c = object (Api api.CardRuntimeException) ∷ []
takes (OfObject objects.SetReason) c = object (Api c) ∷ word ∷ []
takes (OfObject (objects.ThrowIt number)) c = word ∷ []
takes (OfAid aids.Construct) c = object aid ∷ bytes ∷ word ∷ word ∷ []
takes (OfAid aids.Equals) c = object aid ∷ bytes ∷ word ∷ word ∷ []
takes (OfAid aids.GetBytes) c = object aid ∷ bytes ∷ word ∷ []
takes (OfApdu apdus.GetBuffer) c = object (Api c) ∷ []
takes (OfApdu apdus.SetIncomingAndReceive) c = object (Api c) ∷ []
takes (OfApdu apdus.SetOutgoing) c = object (Api c) ∷ []
takes (OfApdu apdus.SetOutgoingLength) c = object (Api c) ∷ word ∷ []
takes (OfApdu apdus.SendBytes) c = object (Api c) ∷ word ∷ word ∷ []
takes (OfApdu apdus.SendBytesLong) c = object (Api c) ∷ bytes ∷ word ∷ word ∷ []
takes (OfApdu apdus.SetOutgoingAndSend) c = object (Api c) ∷ word ∷ word ∷ []
takes (OfApplet applets.Register) c = object (Api c) ∷ []
takes (OfApplet applets.RegisterBytes) c = object (Api c) ∷ bytes ∷ word ∷ word ∷ []
takes (OfApplet applets.Select) c = object (Api c) ∷ []
takes (OfApplet applets.Deselect) c = object (Api c) ∷ []
takes (OfApplet applets.Process) c = object (Api c) ∷ of (Api api.Apdu) ∷ []
takes (OfApplet applets.SelectingApplet) c = object (Api c) ∷ []
takes (OfApplet applets.GetShareable) c = object (Api c) ∷ of aid ∷ word ∷ []
takes (OfSystem system.GetAid) c = []
takes (OfSystem system.LookupAid) c = bytes ∷ word ∷ word ∷ []
takes (OfSystem system.GetPreviousAid) c = []
takes (OfSystem system.AskForShareable) c = of aid ∷ word ∷ []
takes (OfSystem system.MakeBooleans) c = word ∷ word ∷ []
takes (OfSystem system.MakeBytes) c = word ∷ word ∷ []
takes (OfSystem system.MakeShorts) c = word ∷ word ∷ []
takes (OfSystem system.MakeReferences) c = word ∷ word ∷ []
takes (OfUtility utilities.ArrayCopy) c = bytes ∷ word ∷ bytes ∷ word ∷ word ∷ []
takes (OfUtility utilities.ArrayFill) c = bytes ∷ word ∷ word ∷ word ∷ []
takes (OfUtility utilities.ArrayCompare) c = bytes ∷ word ∷ bytes ∷ word ∷ word ∷ []
takes (OfUtility utilities.GetShort) c = bytes ∷ word ∷ []
takes (OfUtility utilities.SetShort) c = bytes ∷ word ∷ word ∷ []
takes (OfUtility utilities.MakeShort) c = word ∷ word ∷ []

abbrev all_take : List Native → List ApiMember → List (List Kind)
all_take [] ms = []
all_take (n ∷ ns) [] = []
all_take (n ∷ ns) (m ∷ ms) = takes n m.class ∷ all_take ns ms

they_take : all_take natives members ≡ map kinds_of members
they_take = refl

first_same : (x y : List Kind) (xs ys : List (List Kind)) → x ∷ xs ≡ y ∷ ys → x ≡ y
first_same x y xs ys e = same_Some x y (ap (λ (l : List (List Kind)). slice_get l 0) e)

rest_same : (x y : List Kind) (xs ys : List (List Kind)) → x ∷ xs ≡ y ∷ ys → xs ≡ ys
rest_same x y xs ys e = grind arith

takes_at : (ns : List Native) (ms : List ApiMember) (i : ℕ) (n : Native) (m : ApiMember)
    → all_take ns ms ≡ map kinds_of ms → slice_get ns i ≡ Some n → slice_get ms i ≡ Some m
    → takes n m.class ≡ kinds_of m
takes_at [] ms i n m all e f = absurd (none-some n e)
takes_at (x ∷ ns) [] i n m all e f = absurd (none-some m f)
takes_at (x ∷ ns) (y ∷ ms) zero n m all e f = grind (arith, same_Some, first_same)
takes_at (x ∷ ns) (y ∷ ms) (suc i) n m all e f =
    takes_at ns ms i n m (rest_same (takes x y.class) (kinds_of y) (all_take ns ms) (map kinds_of ms) all) e f

pub takes_so : (number : ℕ) (n : Native) (m : ApiMember) → numbered natives number ≡ Some n
    → member_of number ≡ Some m → takes n m.class ≡ kinds_of m
takes_so zero n m e f = absurd (none-some n e)
takes_so (suc i) n m e f = takes_at natives members i n m they_take e f

-- ---- arguments of these kinds

module _ (world : List Shape) (heap : Heap TaggedValue) where
  abbrev pub IsOfKind : TaggedValue → Kind → Type 0
  IsOfKind v word = is_word v ≡ true
  IsOfKind v bytes = leads_to heap is_byte_array v ≡ true
  IsOfKind v (of c) = leads_to heap (is_of_class world c) v ≡ true
  IsOfKind v (object c) = is_object_of world heap c v ≡ true
  IsOfKind v (array t) = is_of_type world heap t v ≡ true

  abbrev pub AreOfKinds : List TaggedValue → List Kind → Type 0
  AreOfKinds vs kinds = Pointwise IsOfKind vs kinds

  kind_typed : (t : DeclaredType ApiClass) (v : TaggedValue) → is_of_type world heap (type_map counted_name t) v ≡ true
      → IsOfKind v (kind_of t)
  kind_typed t v h1 = grind arith

  kinds_typed : (ts : List (DeclaredType ApiClass)) (vs : List TaggedValue)
      → are_of_types world heap (map (type_map counted_name) ts) vs ≡ true → AreOfKinds vs (map kind_of ts)
  kinds_typed [] [] e = tt
  kinds_typed [] (v ∷ vs) e = absurd cc
  kinds_typed (t ∷ ts) [] e = absurd cc
  kinds_typed (t ∷ ts) (v ∷ vs) e =
      let b = both (is_of_type world heap (type_map counted_name t) v)
      (are_of_types world heap (map (type_map counted_name) ts) vs) e in
      (kind_typed t v b.0, kinds_typed ts vs b.1)

  -- the arguments of a call that begins are of the kinds that its member takes
  pub of_kinds : (m : ApiMember) (vs : List TaggedValue) → AreTyped world heap m vs → AreOfKinds vs (kinds_of m)
  of_kinds m vs typed = grind (arith, both, kinds_typed)

  pub kind_at : (vs : List TaggedValue) (kinds : List Kind) (place : ℕ) (kind : Kind) → AreOfKinds vs kinds
      → slice_get kinds place ≡ Some kind → (v : TaggedValue) × (slice_get vs place ≡ Some v) × IsOfKind v kind
  kind_at [] [] place kind all e = absurd (none-some kind e)
  kind_at [] (k ∷ kinds) place kind all e = absurd all
  kind_at (v ∷ vs) [] place kind all e = absurd all
  kind_at (v ∷ vs) (k ∷ kinds) zero kind all e = (v, refl, subst (IsOfKind v) (same_Some k kind e) all.0)
  kind_at (v ∷ vs) (k ∷ kinds) (suc place) kind all e = kind_at vs kinds place kind all.1 e

-- ---- results

pub data Result : Type 0 where
  nothing : Result
  a_word : Result
  some_bytes : Result
  booleans : Result
  shorts : Result
  references : Result
  an_aid : Result
  shareable : Result

abbrev pub is_word_type : DeclaredType ApiClass → Bool
is_word_type types.Boolean = true
is_word_type types.Byte = true
is_word_type types.Short = true
is_word_type (types.Reference c) = false
is_word_type types.BooleanArray = false
is_word_type types.ByteArray = false
is_word_type types.ShortArray = false
is_word_type (types.ReferenceArray c) = false

-- a member gives such a result
abbrev pub Gives : Result → ReturnType ApiClass → Type 0
Gives nothing r = r ≡ Void
Gives a_word r = (t : DeclaredType ApiClass) × (r ≡ Value t) × (is_word_type t ≡ true)
Gives some_bytes r = r ≡ Value types.ByteArray
Gives booleans r = r ≡ Value types.BooleanArray
Gives shorts r = r ≡ Value types.ShortArray
Gives references r = r ≡ Value (types.ReferenceArray api.Object)
Gives an_aid r = r ≡ Value (types.Reference api.Aid)
Gives shareable r = r ≡ Value (types.Reference api.Shareable)

-- ---- arguments

-- a member with an object, and without
abbrev pub HasObject : ApiMember → ApiClass → Type 0
HasObject m c = ((m.kind ≡ Constructor) ⊎ (m.kind ≡ Virtual)) × (m.class ≡ c)

-- it has a reason: of CardRuntimeException, or of a class right below it
abbrev pub HasReason : ApiMember → Type 0
HasReason m = ((m.kind ≡ Constructor) ⊎ (m.kind ≡ Virtual))
    × ((m.class ≡ api.CardRuntimeException) ⊎
    ((m.class ≡ api.IsoException) ⊎ ((m.class ≡ api.SystemException) ⊎ (m.class ≡ api.ApduException))))

-- what a native member asks of the member with its number
abbrev pub Suits : Native → ApiMember → Type 0
Suits (OfObject objects.Construct) m = Gives nothing m.signature.result
Suits (OfObject objects.Equals) m = Gives a_word m.signature.result
Suits (OfObject objects.ConstructWithReason) m = Gives nothing m.signature.result × HasReason m
Suits (OfObject objects.GetReason) m = Gives a_word m.signature.result
Suits (OfObject objects.SetReason) m = Gives nothing m.signature.result × HasReason m
Suits (OfObject (objects.ThrowIt number)) m =
    Gives nothing m.signature.result × ((number ≡ 8) ⊎ ((number ≡ 9) ⊎ (number ≡ 10)))
Suits (OfAid aids.Construct) m = Gives nothing m.signature.result × HasObject m api.Aid
Suits (OfAid aids.Equals) m = Gives a_word m.signature.result
Suits (OfAid aids.GetBytes) m = Gives a_word m.signature.result × HasObject m api.Aid × IsBytes m 0
Suits (OfApdu apdus.GetBuffer) m = Gives some_bytes m.signature.result
Suits (OfApdu apdus.SetIncomingAndReceive) m = Gives a_word m.signature.result
Suits (OfApdu apdus.SetOutgoing) m = Gives a_word m.signature.result
Suits (OfApdu apdus.SetOutgoingLength) m = Gives nothing m.signature.result
Suits (OfApdu apdus.SendBytes) m = Gives nothing m.signature.result
Suits (OfApdu apdus.SendBytesLong) m = Gives nothing m.signature.result
Suits (OfApdu apdus.SetOutgoingAndSend) m = Gives nothing m.signature.result
Suits (OfApplet applets.Register) m = Gives nothing m.signature.result × HasObject m api.Applet
Suits (OfApplet applets.RegisterBytes) m = Gives nothing m.signature.result × HasObject m api.Applet
Suits (OfApplet applets.Select) m = Gives a_word m.signature.result
Suits (OfApplet applets.Deselect) m = Gives nothing m.signature.result
Suits (OfApplet applets.Process) m = Gives nothing m.signature.result
Suits (OfApplet applets.SelectingApplet) m = Gives a_word m.signature.result
Suits (OfApplet applets.GetShareable) m = Gives shareable m.signature.result
Suits (OfSystem system.GetAid) m = Gives an_aid m.signature.result
Suits (OfSystem system.LookupAid) m = Gives an_aid m.signature.result
Suits (OfSystem system.GetPreviousAid) m = Gives an_aid m.signature.result
Suits (OfSystem system.AskForShareable) m = Gives shareable m.signature.result × (m.kind ≡ Static)
Suits (OfSystem system.MakeBooleans) m = Gives booleans m.signature.result
Suits (OfSystem system.MakeBytes) m = Gives some_bytes m.signature.result
Suits (OfSystem system.MakeShorts) m = Gives shorts m.signature.result
Suits (OfSystem system.MakeReferences) m = Gives references m.signature.result
Suits (OfUtility utilities.ArrayCopy) m =
    Gives a_word m.signature.result × (m.kind ≡ Static) × IsBytes m 0 × IsBytes m 2
Suits (OfUtility utilities.ArrayFill) m = Gives a_word m.signature.result × (m.kind ≡ Static) × IsBytes m 0
Suits (OfUtility utilities.ArrayCompare) m = Gives a_word m.signature.result
Suits (OfUtility utilities.GetShort) m = Gives a_word m.signature.result
Suits (OfUtility utilities.SetShort) m = Gives a_word m.signature.result × (m.kind ≡ Static) × IsBytes m 0
Suits (OfUtility utilities.MakeShort) m = Gives a_word m.signature.result

-- ---- all do

abbrev AllSuit : List Native → List ApiMember → Type 0
AllSuit [] ms = ⊤
AllSuit (n ∷ ns) [] = ⊥
AllSuit (n ∷ ns) (m ∷ ms) = Suits n m × AllSuit ns ms

gives_short : Gives a_word (Value types.Short)
gives_short = (types.Short, refl, refl)

gives_boolean : Gives a_word (Value types.Boolean)
gives_boolean = (types.Boolean, refl, refl)

gives_byte : Gives a_word (Value types.Byte)
gives_byte = (types.Byte, refl, refl)

all_suit : AllSuit natives members
all_suit = grind (arith, gives_boolean, gives_short, gives_byte)

suit_at : (ns : List Native) (ms : List ApiMember) (i : ℕ) (n : Native) (m : ApiMember) → AllSuit ns ms
    → slice_get ns i ≡ Some n → slice_get ms i ≡ Some m → Suits n m
suit_at [] ms i n m all e f = absurd (none-some n e)
suit_at (x ∷ ns) [] i n m all e f = absurd all
suit_at (x ∷ ns) (y ∷ ms) zero n m all e f = grind (arith, same_Some)
suit_at (x ∷ ns) (y ∷ ms) (suc i) n m all e f = suit_at ns ms i n m all.1 e f

pub suits : (number : ℕ) (n : Native) (m : ApiMember) → numbered natives number ≡ Some n → member_of number ≡ Some m
    → Suits n m
suits zero n m e f = absurd (none-some n e)
suits (suc i) n m e f = suit_at natives members i n m all_suit e f
