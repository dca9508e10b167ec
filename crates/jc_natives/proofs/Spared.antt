-- What a member writes: objects that its tests reached, or the runtime's own. And what the runtime keeps names applets
-- still.
use Rattle.std.specs.Prelude.{⊤}
use Rattle.std.proofs.Common.{◌≡◌, ◌⊎◌, inl, inr, ℕ, zero, suc, ◌==◌, ◌||◌, not, Bool, true, cond, arith, List, []}
use Rattle.std.proofs.Common.{◌∷◌, ◌++◌, nat_le, slice_get, Option, Some, refl, sym, ap, ◌∙◌}
use Rattle.std.proofs.lemmas.Bool.{eqb-true}
use Rattle.std.proofs.lemmas.Option.{none-some, same_Some}
use Rattle.std.specs.List.{AllByRecursion, list_all}
use Rattle.std.specs.Option.{option_map, option_map_or}
use Rattle.jc_api.specs.Numbered.{numbered}
use Rattle.jc_machine.specs.Apart.{is_applets}
use Rattle.jc_machine.specs.Guarded.{may_change}
use Rattle.jc_machine.specs.Machine.{By, ByCode, ByRuntime}
use Rattle.jc_machine.specs.Runtime.{apdu_buffer, apdu_exception, iso_exception, system_exception}
use Rattle.jc_natives.proofs.Bare.{both}
use Rattle.jc_natives.proofs.Changed.{either_is}
use Rattle.jc_natives.proofs.Keeping.{both_are}
use Rattle.jc_natives.specs.Cells.{Write, extended}
use Rattle.jc_natives.specs.Checks.{access_of}
use Rattle.jc_natives.specs.Kept.{Kept, aid_object, has_aid_length, is_instance_number, now_registered, with_instance}
use Rattle.jc_natives.specs.Meaning.{with_room}
use Rattle.jc_natives.specs.Members.{natives}
use Rattle.jc_natives.specs.PrivateAids.{aid_work}
use Rattle.jc_natives.specs.PrivateApdus.{apdu_work, sends}
use Rattle.jc_natives.specs.PrivateApplets.{allowed, applet_work, on_allowed, owner_of, registers}
use Rattle.jc_natives.specs.PrivateCells.{argument}
use Rattle.jc_natives.specs.PrivateMeaning.{work_of}
use Rattle.jc_natives.specs.PrivateObjects.{object_work}
use Rattle.jc_natives.specs.PrivateAids.{aid_row}
use Rattle.jc_natives.specs.PrivateMeaning.{row_of}
use Rattle.jc_natives.specs.PrivateObjects.{object_row}
use Rattle.jc_natives.specs.PrivateUtilities.{utility_row}
use Rattle.jc_natives.specs.PrivateSeen.{NativeInput}
use Rattle.jc_natives.specs.PrivateSystem.{asks, makes, system_work}
use Rattle.jc_natives.specs.PrivateUtilities.{utility_work}
use Rattle.jc_natives.specs.Apart.{installs_applet, names_applets}
use Rattle.jc_natives.specs.Work.{Asks, Does, Makes, Work, illegal_value, throws_apdu, throws_system}
use Rattle.jc_natives.specs.declared.kept.Installing.{Installing}
use Rattle.jc_natives.specs.declared.kept.Instance.{Instance}
use Rattle.jc_natives.specs.declared.native.AidNative.{AidNative}
use Rattle.jc_natives.specs.declared.native.AidNative.TheVariants as aids
use Rattle.jc_natives.specs.declared.native.ApduNative.{ApduNative}
use Rattle.jc_natives.specs.declared.native.AppletNative.{AppletNative}
use Rattle.jc_natives.specs.declared.native.Elements.{Elements}
use Rattle.jc_natives.specs.declared.native.Native.{Native}
use Rattle.jc_natives.specs.declared.native.Native.TheVariants.{OfAid, OfApdu, OfApplet, OfObject, OfSystem, OfUtility}
use Rattle.jc_natives.specs.declared.native.ObjectNative.{ObjectNative}
use Rattle.jc_natives.specs.declared.native.ObjectNative.TheVariants as objects
use Rattle.jc_natives.specs.declared.native.SystemNative.{SystemNative}
use Rattle.jc_natives.specs.declared.native.UtilityNative.{UtilityNative}
use Rattle.jc_natives.specs.declared.native.UtilityNative.TheVariants as utilities
use Rattle.jc_natives.specs.declared.row.MemberRow.{MemberRow}
use Rattle.jc_natives.specs.declared.row.Test.TheVariants as tests
use Rattle.jc_natives.specs.declared.row.Use.{Use}
use Rattle.jc_natives.specs.declared.row.Use.TheVariants as ways
use Rattle.jc_store.specs.Heap.{Heap}
use Rattle.jc_store.specs.declared.kind.ClearingEvent.{ClearingEvent}

-- ---- what is thrown by throwIt is the runtime's

abbrev is_own_exception : ℕ → Bool
is_own_exception object = object == iso_exception || (object == system_exception || object == apdu_exception)

abbrev object_throws_own : ObjectNative → Bool
object_throws_own objects.Construct = true
object_throws_own objects.Equals = true
object_throws_own objects.ConstructWithReason = true
object_throws_own objects.GetReason = true
object_throws_own objects.SetReason = true
object_throws_own (objects.ThrowIt object) = is_own_exception object

abbrev pub throws_own : Native → Bool
throws_own (OfObject native) = object_throws_own native
throws_own (OfAid native) = true
throws_own (OfApdu native) = true
throws_own (OfApplet native) = true
throws_own (OfSystem native) = true
throws_own (OfUtility native) = true

each_is : {A : Type 0} (p : A → Bool) (xs : List A) (n : ℕ) (x : A) → list_all p xs ≡ true → slice_get xs n ≡ Some x
    → p x ≡ true
each_is p [] n x e f = absurd (none-some x f)
each_is p (y ∷ xs) zero x e f = ap p (sym (same_Some y x f)) ∙ (both (p y) (list_all p xs) e).0
each_is p (y ∷ xs) (suc n) x e f = each_is p xs n x (both (p y) (list_all p xs) e).1 f

pub all_throw_own : (number : ℕ) (native : Native) → numbered natives number ≡ Some native → throws_own native ≡ true
all_throw_own zero native e = absurd (none-some native e)
all_throw_own (suc n) native e = each_is throws_own natives n native refl e

-- ---- what the runtime keeps

all_with_last : {A : Type 0} (p : A → Bool) (xs : List A) (x : A) → list_all p xs ≡ true → p x ≡ true
    → list_all p (xs ++ x ∷ []) ≡ true
all_with_last p [] x e f = both_are (p x) true f refl
all_with_last p (y ∷ xs) x e f =
    let b = both (p y) (list_all p xs) e in
    both_are (p y) (list_all p (xs ++ x ∷ [])) b.0 (all_with_last p xs x b.1 f)

still_installs : (o : Option Installing) → option_map_or installs_applet o true ≡ true
    → option_map_or installs_applet (option_map now_registered o) true ≡ true
still_installs o h1 = grind arith

with_instance_named : (k : Kept) (i : Instance) → names_applets k ≡ true → is_applets i.owner ≡ true
    → names_applets (with_instance k i) ≡ true
with_instance_named k i e f = grind (arith, both, both_are, all_with_last, still_installs)

-- ---- works

-- the objects of the runtime's that members write in its name, where this is kept
pub record SparesOwn (Spared : By → ℕ → Type 0) (k : Kept) : Type 0 where
  pub iso : Spared ByRuntime iso_exception
  pub system : Spared ByRuntime system_exception
  pub apdu : Spared ByRuntime apdu_exception
  pub buffer : Spared ByRuntime apdu_buffer
  pub registers : (i : Installing) → k.installing ≡ Some i → Spared ByRuntime (aid_object i.owner.instance)

module _ (Spared : By → ℕ → Type 0) (s : NativeInput) (k : Kept) where
  -- each object that is written is spared
  abbrev pub AreSpared : List Write → Type 0
  AreSpared writes = AllByRecursion (λ (x : Write). Spared x.by x.object) writes

  -- what is kept names applets still, where objects of numbered instances are of applets
  abbrev pub StaysNamed : Kept → Type 0
  StaysNamed after = ((number : ℕ) → is_instance_number (owner_of s.objects number).instance ≡ true
      → is_applets (owner_of s.objects number) ≡ true) → names_applets k ≡ true → names_applets after ≡ true

  abbrev pub IsApartWork : Work → Type 0
  IsApartWork (Does writes after ending) = AreSpared writes × StaysNamed after
  IsApartWork (Makes array) = ⊤
  IsApartWork (Asks question) = ⊤

  either_apart : (b : Bool) (x y : Work) → (b ≡ true → IsApartWork x) → IsApartWork y → IsApartWork (cond b x y)
  either_apart b x y h1 h2 = grind arith

  -- an object that a row tests, by a way in which it may change
  abbrev pub AreTested : List ℕ → MemberRow → Type 0
  AreTested args row = (place : ℕ) (way : Use) → may_change (access_of way) ≡ true
      → (row.first ≡ tests.Object place way) ⊎ (row.second ≡ tests.Object place way)
      → Spared ByCode (argument args place)

  kept : StaysNamed k
  kept owners e = e

  module _ (own : SparesOwn Spared k) (args : List ℕ) where
    system_apart : (reason : ℕ) → IsApartWork (throws_system k reason)
    system_apart reason = ((own.system, tt), kept)

    apdu_apart : (reason : ℕ) → IsApartWork (throws_apdu k reason)
    apdu_apart reason = ((own.apdu, tt), kept)

    exception_spared : (object : ℕ) → is_own_exception object ≡ true → Spared ByRuntime object
    exception_spared object e = grind (arith, either_is, eqb-true)

    object_apart : (native : ObjectNative) → object_throws_own native ≡ true → AreTested args (object_row native)
        → IsApartWork (object_work s k args native)
    object_apart objects.Construct e tested = (tt, kept)
    object_apart objects.Equals e tested = (tt, kept)
    object_apart objects.ConstructWithReason e tested = ((tested 0 ways.Fields refl (inl refl), tt), kept)
    object_apart objects.GetReason e tested = (tt, kept)
    object_apart objects.SetReason e tested = ((tested 0 ways.Calls refl (inl refl), tt), kept)
    object_apart (objects.ThrowIt object) e tested = ((exception_spared object e, tt), kept)

    aid_apart : (native : AidNative) → AreTested args (aid_row native) → IsApartWork (aid_work s k args native)
    aid_apart aids.Construct tested =
        either_apart (has_aid_length (extended (argument args 3))) _ _
        (λ e. ((tested 0 ways.Fields refl (inl refl), tt), kept)) (system_apart illegal_value)
    aid_apart aids.Equals tested = (tt, kept)
    aid_apart aids.GetBytes tested = ((tested 1 ways.Stores refl (inr refl), tt), kept)

    sends_apart : (array offset count : ℕ) → IsApartWork (sends s k array offset count)
    sends_apart array offset count = grind (arith, either_apart, nat_le, kept, apdu_apart)

    apdu_work_apart : (native : ApduNative) → IsApartWork (apdu_work s k args native)
    apdu_work_apart native = grind (arith, kept, either_apart, apdu_apart, nat_le, sends_apart)

    -- the instance that is being installed, where an object may register in its name
    record May (object : ℕ) (i : Installing) : Type 0 where
      installing : k.installing ≡ Some i
      number : ((owner_of s.objects object).instance == i.owner.instance) ≡ true

    may_of : (object : ℕ) (o : Option Installing) (i : Installing) → k.installing ≡ o
        → allowed s object o ≡ Some i → May object i
    may_of object o i h1 h2 = grind (arith, none-some, same_Some, both, not)

    -- it has a number
    is_numbered : (object : ℕ) (i : Installing) → May object i → names_applets k ≡ true
        → is_instance_number (owner_of s.objects object).instance ≡ true
    is_numbered object i may named = grind (arith, both, eqb-true)

    registers_apart : (object : ℕ) (aid : List ℕ) (i : Installing) → May object i
        → IsApartWork (registers s k i.owner.instance object aid)
    registers_apart object aid i may = grind (arith, either_apart, not, with_instance_named, is_numbered, system_apart)

    on_allowed_apart : (object : ℕ) (go : Installing → Work)
        → ((i : Installing) → May object i → IsApartWork (go i))
        → IsApartWork (on_allowed k (allowed s object k.installing) go)
    on_allowed_apart object go each = grind (arith, system_apart, may_of)

    applet_apart : (native : AppletNative) → IsApartWork (applet_work s k args native)
    applet_apart native = grind (arith, on_allowed_apart, registers_apart, either_apart, system_apart, kept)

    asks_apart : (word : ℕ) (o : Option Instance) → IsApartWork (asks s k word o)
    asks_apart word o = grind (arith, kept)

    makes_apart : (elements : Elements) (size : ℕ) (event : Option ClearingEvent)
        → IsApartWork (makes s k elements size event)
    makes_apart elements size event = grind (arith, system_apart, either_apart, kept)

    system_work_apart : (native : SystemNative) → IsApartWork (system_work s k args native)
    system_work_apart native = grind (arith, kept, asks_apart, makes_apart)

    utility_apart : (native : UtilityNative) → AreTested args (utility_row native)
        → IsApartWork (utility_work s k args native)
    utility_apart utilities.ArrayCopy tested = ((tested 2 ways.Stores refl (inr refl), tt), kept)
    utility_apart utilities.ArrayCompare tested = (tt, kept)
    utility_apart utilities.GetShort tested = (tt, kept)
    utility_apart utilities.MakeShort tested = (tt, kept)
    utility_apart native tested = ((tested 0 ways.Stores refl (inl refl), tt), kept)

    pub work_apart : (native : Native) → throws_own native ≡ true → AreTested args (row_of native)
        → IsApartWork (work_of s k args native)
    work_apart (OfObject native) e tested = object_apart native e tested
    work_apart (OfAid native) e tested = aid_apart native tested
    work_apart (OfApdu native) e tested = apdu_work_apart native
    work_apart (OfApplet native) e tested = applet_apart native
    work_apart (OfSystem native) e tested = system_work_apart native
    work_apart (OfUtility native) e tested = utility_apart native tested

    -- also where there is no room for an array
    pub roomy_apart : (objects cells : ℕ) {V : Type 0} (heap : Heap V) (work : Work) → IsApartWork work
        → IsApartWork (with_room objects cells heap k work)
    roomy_apart objects cells heap work h1 = grind (arith, system_apart)
