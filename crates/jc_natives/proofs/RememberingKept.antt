-- Native members change of what is kept what is theirs, and tell the AIDs of the owners that they are asked for.
use Rattle.std.proofs.Common.{◌≡◌, ◌≢◌, ℕ, zero, suc, ◌+◌, ◌==◌, ◌&&◌, not, Bool, true, false}
use Rattle.std.proofs.Common.{◌∷◌, length, nat_le, Option, Some, None, refl, sym, ap, subst, ◌∙◌, slice_get}
use Rattle.std.proofs.Common.{bytes_eq, is_some, arith, cond, List, []}
use Rattle.std.proofs.lemmas.Bool.{both_ways, eq-eqb, eqb-true}
use Rattle.std.proofs.lemmas.Bool.{ne_eqb, not-true}
use Rattle.std.proofs.lemmas.Option.{none-some, same_Some}
use Rattle.std.proofs.lemmas.Slice.Eq.{bytes_eq-Decides}
use Rattle.std.specs.List.{AllByRecursion, find}
use Rattle.std.specs.Option.{option_and_then}
use Rattle.std.specs.Prelude.{⊤}
use Rattle.jc_api.specs.Numbered.{numbered}
use Rattle.jc_link.specs.Linked.{World}
use Rattle.jc_machine.specs.Calls.{native_may_begin}
use Rattle.jc_machine.specs.Machine as machine
use Rattle.jc_machine.specs.Machine.{By, ByCode, ByRuntime, Gives, IsStuck, NativeAnswer, NativeCall, NativeEnd}
use Rattle.jc_machine.specs.Machine.{ThrowsObject, Touch}
use Rattle.jc_machine.specs.Runtime.{apdu_buffer, apdu_exception, iso_exception}
use Rattle.jc_machine.specs.Runtime.{system_exception}
use Rattle.jc_names.specs.declared.owner.Owner.{Owner}
use Rattle.jc_natives.proofs.Bare.{both}
use Rattle.jc_natives.proofs.Changed.{either_is}
use Rattle.jc_natives.proofs.Spared.{all_throw_own, throws_own}
use Rattle.jc_natives.specs.Cells.{Write, has_room, written}
use Rattle.jc_natives.specs.Checks.{Check, Passed, Refused, TestEnd, Unfit, Uses, are_aids, tested}
use Rattle.jc_natives.specs.Kept.{Kept, aid_object, expected_of, has_aid_length, instance_of}
use Rattle.jc_natives.specs.Kept.{instance_with, is_fresh, is_incoming, is_length_set, is_outgoing, is_same_owner}
use Rattle.jc_natives.specs.Kept.{most_sent, with_announced, with_instance, with_state}
use Rattle.jc_natives.specs.Meaning.{answer_of, array_or_refusal, begun, done, end_of, ended, reference, unchanged}
use Rattle.jc_natives.specs.Meaning.{new_array, with_room, worked}
use Rattle.jc_natives.specs.Members.{aid_member, aid_of, aid_of_owner, allowed, apdu_member, applet_member, asks}
use Rattle.jc_natives.specs.Members.{data_offset, ends_with, have_same_bytes, in_buffer, makes, makes_array}
use Rattle.jc_natives.specs.Members.{may_register, writes_words, member_of_native, natives}
use Rattle.jc_natives.specs.Members.{object_member, on_allowed, on_installing, registers, require_apdu, require_system}
use Rattle.jc_natives.specs.Members.{sends, sends_at_once, system_member, utility_member}
use Rattle.jc_natives.specs.Remembered.{HasRegistered}
use Rattle.jc_natives.specs.Remembered.{KeepsExchange, KeepsInstances, TellsAid, TellsPreviousAid}
use Rattle.jc_natives.specs.Remembered.{is_of_apdu, is_register, of_instance, of_none}
use Rattle.jc_natives.specs.Taking.{Called, aid_in, as_reference, as_word, called, on_aid, on_length}
use Rattle.jc_natives.specs.Taking.{on_range, on_reference, on_word, word_at, words_in}
use Rattle.jc_natives.specs.Work.{Asks, Does, Ending, GivesWord, Makes, NoResult, Work}
use Rattle.jc_natives.specs.Work.{bad_length, gives, illegal_aid, illegal_use, illegal_value}
use Rattle.jc_natives.specs.Work.{throws_apdu, throws_system, unless_system, writes_own}
use Rattle.jc_natives.specs.declared.kept.ApduState.{ApduState}
use Rattle.jc_natives.specs.declared.kept.ApduState.TheVariants.{LengthSet, Outgoing, Received}
use Rattle.jc_natives.specs.declared.kept.Installing.{Installing}
use Rattle.jc_natives.specs.declared.kept.Instance.{Instance}
use Rattle.jc_natives.specs.declared.native.AidNative.{AidNative}
use Rattle.jc_natives.specs.declared.native.AidNative.TheVariants as aids
use Rattle.jc_natives.specs.declared.native.ApduNative.{ApduNative}
use Rattle.jc_natives.specs.declared.native.ApduNative.TheVariants as apdus
use Rattle.jc_natives.specs.declared.native.AppletNative.{AppletNative}
use Rattle.jc_natives.specs.declared.native.AppletNative.TheVariants as applets
use Rattle.jc_natives.specs.declared.native.Elements.{Elements}
use Rattle.jc_natives.specs.declared.native.Native.{Native}
use Rattle.jc_natives.specs.declared.native.Native.TheVariants.{OfAid, OfApdu, OfApplet, OfObject, OfSystem, OfUtility}
use Rattle.jc_natives.specs.declared.native.ObjectNative.{ObjectNative}
use Rattle.jc_natives.specs.declared.native.ObjectNative.TheVariants as objects
use Rattle.jc_natives.specs.declared.native.SystemNative.{SystemNative}
use Rattle.jc_natives.specs.declared.native.UtilityNative.{UtilityNative}
use Rattle.jc_natives.specs.declared.native.UtilityNative.TheVariants as utilities
use Rattle.jc_natives.specs.declared.row.Length.{Length}
use Rattle.jc_natives.specs.declared.row.Length.TheVariants.{ByteAt, ShortAt}
use Rattle.jc_natives.specs.declared.row.Use.{Use}
use Rattle.jc_natives.specs.declared.row.Use.TheVariants.{Calls, Fields, Loads, Stores}
use Rattle.jc_store.specs.Heap.{Heap, Object, object_at, with_new}
use Rattle.jc_store.specs.declared.kind.ClearingEvent.{ClearingEvent}
use Rattle.jc_words.specs.Values.{Ref, TaggedValue, Word}

-- ---- the numbers of members

abbrev pub set_reason : ℕ
set_reason = 16

abbrev fits_object : ℕ → ObjectNative → Bool
fits_object n objects.Construct = true
fits_object n objects.Equals = true
fits_object n objects.ConstructWithReason = true
fits_object n objects.GetReason = true
fits_object n objects.SetReason = n == set_reason
fits_object n (objects.ThrowIt object) = true

abbrev fits_applet : ℕ → AppletNative → Bool
fits_applet n applets.Register = is_register n
fits_applet n applets.RegisterBytes = is_register n
fits_applet n applets.Select = true
fits_applet n applets.Deselect = true
fits_applet n applets.Process = true
fits_applet n applets.SelectingApplet = true
fits_applet n applets.GetShareable = true

abbrev fits_number : ℕ → Native → Bool
fits_number n (OfObject native) = fits_object n native
fits_number n (OfAid native) = true
fits_number n (OfApdu native) = is_of_apdu n
fits_number n (OfApplet native) = fits_applet n native
fits_number n (OfSystem native) = true
fits_number n (OfUtility native) = true

abbrev all_from : ℕ → List Native → Bool
all_from n [] = true
all_from n (native ∷ others) = fits_number n native && all_from (suc n) others

each_from : (from : ℕ) (xs : List Native) (n : ℕ) (x : Native) (number : ℕ) → number ≡ from + n
    → all_from from xs ≡ true → slice_get xs n ≡ Some x → fits_number number x ≡ true
each_from from [] n x number s e f = absurd (none-some x f)
each_from from (y ∷ ys) zero x number s e f =
    let same : from ≡ number = omega (arith, s) in
    subst (λ m. fits_number m x ≡ true) same
    (subst (λ z. fits_number from z ≡ true) (same_Some y x f) (both (fits_number from y) (all_from (suc from) ys) e).0)
each_from from (y ∷ ys) (suc n) x number s e f =
    each_from (suc from) ys n x number (omega (arith, s))
    (both (fits_number from y) (all_from (suc from) ys) e).1 f

has_number : (number : ℕ) (native : Native) → numbered natives number ≡ Some native → fits_number number native ≡ true
has_number zero native e = absurd (none-some native e)
has_number (suc n) native e = each_from 1 natives n native (suc n) (omega arith) refl e

-- ---- what is found in a list

record IsFound {A : Type 0} (p : A → Bool) (xs : List A) (x : A) : Type 0 where
  place : ℕ
  listed : slice_get xs place ≡ Some x
  passes : p x ≡ true

found_in : {A : Type 0} (p : A → Bool) (xs : List A) (x : A) → find p xs ≡ Some x → IsFound p xs x
found_in p [] x e = absurd (none-some x e)
found_in p (y ∷ xs) x e = by_test (p y) refl e (λ f. found_in p xs x f)
  where
    by_test : (b : Bool) → p y ≡ b → cond b (Some y) (find p xs) ≡ Some x → (find p xs ≡ Some x → IsFound p xs x)
        → IsFound p (y ∷ xs) x
    by_test true f g later =
        record { place = 0; listed = g; passes = subst (λ z. p z ≡ true) (same_Some y x g) f }
    by_test false f g later =
        let l = later g in record { place = suc l.place; listed = l.listed; passes = l.passes }

none_in : {A : Type 0} (p : A → Bool) (Q : A → Type 0) (xs : List A) → ((x : A) → p x ≡ false → Q x)
    → find p xs ≡ None → AllByRecursion Q xs
none_in p Q [] each e = tt
none_in p Q (y ∷ xs) each e = by_test (p y) refl e (λ f. none_in p Q xs each f)
  where
    by_test : (b : Bool) → p y ≡ b → cond b (Some y) (find p xs) ≡ None → (find p xs ≡ None → AllByRecursion Q xs)
        → Q y × AllByRecursion Q xs
    by_test b h1 h2 h3 = grind (arith, none-some)

-- ---- AIDs that are told

same_owner : (one other : Owner) → is_same_owner one other ≡ true → one ≡ other
same_owner one other e = grind (arith, both, eqb-true)

other_owner : (one other : Owner) → is_same_owner one other ≡ false → one ≡ other → ⊥
other_owner one other e f =
    let itself : is_same_owner other other ≡ true = grind (arith, eq-eqb) in
    both_ways (is_same_owner one other) e (ap (λ o. is_same_owner o other) f ∙ itself)

other_bytes : (a b : List ℕ) → bytes_eq a b ≡ false → a ≡ b → ⊥
other_bytes a b free same = grind (arith, bytes_eq-Decides)

is_aid_reference : (n : ℕ) → reference (aid_object n) ≡ Ref (aid_object n)
is_aid_reference n = grind (arith, ne_eqb)

pub tells_aid : (k : Kept) (owner : Owner) → TellsAid k owner (reference (aid_of_owner k (Some owner)))
tells_aid k owner = by_found (instance_of k.instances owner) refl
  where
    by_found : (o : Option Instance) → instance_of k.instances owner ≡ o → TellsAid k owner (reference (aid_of o))
    by_found None e =
        of_none (none_in (λ (i : Instance). is_same_owner i.owner owner) (λ (i : Instance). i.owner ≢ owner) k.instances
        (λ i f. other_owner i.owner owner f) e)
    by_found (Some i) e =
        let f = found_in (λ (x : Instance). is_same_owner x.owner owner) k.instances i e in
        subst (TellsAid k owner) (sym (is_aid_reference i.owner.instance))
        (of_instance f.place i f.listed (same_owner i.owner owner f.passes))

pub tells_previous : (k : Kept) (previous : Option Owner)
    → TellsPreviousAid k previous (reference (aid_of_owner k previous))
tells_previous k previous = grind (arith, tells_aid)

-- ---- what is kept

-- all that is kept fits behind a call
pub record Keeps (call : NativeCall Kept) (after : Kept) : Type 0 where
  pub instances : KeepsInstances call after
  pub numbers : after.numbers ≡ call.runtime.numbers
  pub incoming : after.incoming ≡ call.runtime.incoming
  pub expected : after.expected ≡ call.runtime.expected
  pub selecting : after.selecting ≡ call.runtime.selecting
  pub exchange : is_of_apdu call.member ≡ false → KeepsExchange call.runtime after

itself : (call : NativeCall Kept) → Keeps call call.runtime
itself call = grind arith

-- members of APDU change where the exchange stands
exchanged : (call : NativeCall Kept) → is_of_apdu call.member ≡ true → (state : ApduState) (announced : ℕ)
    (sent : List ℕ) → Keeps call (record call.runtime { state = state; announced = announced; sent = sent })
exchanged call e state announced sent = grind (arith, both_ways)

-- register adds an instance
joined : (call : NativeCall Kept) → is_register call.member ≡ true → (instance : Instance)
    → HasRegistered call (with_instance call.runtime instance) → Keeps call (with_instance call.runtime instance)
joined call e instance has = grind arith

-- ---- works

-- by such a use an object is written
abbrev pub is_writing : Use → Bool
is_writing Fields = true
is_writing Loads = false
is_writing Stores = true
is_writing Calls = false

module _ (h : Called) (Spared : By → ℕ → Type 0) where
  abbrev k : Kept
  k = h.call.runtime

  -- the argument at a place is a reference with this number
  abbrev IsArgument : ℕ → ℕ → Type 0
  IsArgument place n = option_and_then as_reference (slice_get h.call.arguments place) ≡ Some n

  -- what the runtime writes in its own name is spared, and what setReason is called on
  pub record SparesOwn : Type 0 where
    pub iso : Spared ByRuntime iso_exception
    pub system : Spared ByRuntime system_exception
    pub apdu : Spared ByRuntime apdu_exception
    pub buffer : Spared ByRuntime apdu_buffer
    pub registers : is_register h.call.member ≡ true → (i : Installing) → k.installing ≡ Some i → i.registered ≡ false
        → Spared ByRuntime (aid_object i.owner.instance)
    pub reason : h.call.member ≡ set_reason → (n : ℕ) → IsArgument 0 n → Spared ByCode n

  -- and so is what is tested, where it may be written
  abbrev pub AreTested : List Check → Type 0
  AreTested ts = (j place : ℕ) (way : Use) → is_writing way ≡ true → slice_get ts j ≡ Some (Uses place way) → (n : ℕ)
      → IsArgument place n → Spared ByCode n

  abbrev pub AreSpared : List Write → Type 0
  AreSpared writes = AllByRecursion (λ (x : Write). Spared x.by x.object) writes

  abbrev IsWork : Work → Type 0
  IsWork (Does writes after ending) = Keeps h.call after × AreSpared writes
  IsWork (Makes array) = ⊤
  IsWork (Asks question) = TellsAid k h.call.active (reference question.aid)

  -- also of a member that is stuck
  abbrev Is : Option Work → Type 0
  Is None = ⊤
  Is (Some work) = IsWork work

  still : Keeps h.call k × AreSpared []
  still = (itself h.call, tt)

  either_work : (b : Bool) (x y : Work) → IsWork x → IsWork y → IsWork (cond b x y)
  either_work b x y h1 h2 = grind arith

  either : (b : Bool) (x y : Option Work) → Is x → Is y → Is (cond b x y)
  either b x y h1 h2 = grind arith

  and_then : {A : Type 0} (o : Option A) (go : A → Option Work) → ((x : A) → o ≡ Some x → Is (go x))
      → Is (option_and_then go o)
  and_then o go h1 = grind arith

  at_reference : (place : ℕ) (go : ℕ → Option Work) → ((n : ℕ) → IsArgument place n → Is (go n))
      → Is (on_reference h place go)
  at_reference place go each = and_then (option_and_then as_reference (slice_get h.call.arguments place)) go each

  at_word : (place : ℕ) (go : ℕ → Option Work) → ((n : ℕ) → Is (go n)) → Is (on_word h place go)
  at_word place go each = and_then (option_and_then as_word (slice_get h.call.arguments place)) go (λ n e. each n)

  at_aid : (n : ℕ) (go : List ℕ → Option Work) → ((bytes : List ℕ) → Is (go bytes)) → Is (on_aid h n go)
  at_aid n go each = and_then (aid_in h.call.heap n) go (λ bytes e. each bytes)

  at_length : (count : Length) (go : ℕ → Option Work) → ((n : ℕ) → Is (go n)) → Is (on_length h count go)
  at_length count go h1 = grind (arith, at_word, at_reference, at_aid)

  at_range : (array offset : ℕ) (count : Length) (go : List ℕ → Option Work) → ((bytes : List ℕ) → Is (go bytes))
      → Is (on_range h array offset count go)
  at_range array offset count go each = search (arith, at_reference, at_word, at_length, and_then)

  module _ (own : SparesOwn) where
    system_throws : (reason : ℕ) → IsWork (throws_system k reason)
    system_throws reason = (itself h.call, (own.system, tt))

    apdu_throws : (reason : ℕ) → IsWork (throws_apdu k reason)
    apdu_throws reason = (itself h.call, (own.apdu, tt))

    requires_system : (reason : ℕ) (b : Bool) (go : Option Work) → Is go → Is (require_system h reason b go)
    requires_system reason b go e = either b go _ e (system_throws reason)

    requires_apdu : (reason : ℕ) (b : Bool) (go : Option Work) → Is go → Is (require_apdu h reason b go)
    requires_apdu reason b go e = either b go _ e (apdu_throws reason)

    exception_spared : (object : ℕ) → throws_own (OfObject (objects.ThrowIt object)) ≡ true → Spared ByRuntime object
    exception_spared object e = grind (arith, either_is, eqb-true)

    aids_keep : (one other : ℕ) (aids : Bool) → Is (cond aids (have_same_bytes h one other) (ends_with h (GivesWord 0)))
    aids_keep one other true = at_aid one _ (λ bytes. at_aid other _ (λ others. still))
    aids_keep one other false = still

    object_keeps : (native : ObjectNative) → throws_own (OfObject native) ≡ true
        → fits_object h.call.member native ≡ true → AreTested (object_member native).tests
        → Is ((object_member native).does h)
    object_keeps objects.Construct e f reached = still
    object_keeps objects.Equals e f reached =
        at_reference 0 _ (λ one is. at_reference 1 _ (λ other also.
        either (one == other) _ _ still (and_then (are_aids h) _ (λ aids g. aids_keep one other aids))))
    object_keeps objects.ConstructWithReason e f reached =
        at_reference 0 _ (λ object is. at_word 1 _ (λ reason.
        (itself h.call, (reached 0 0 Fields refl refl object is, tt))))
    object_keeps objects.GetReason e f reached =
        at_reference 0 _ (λ object is. and_then (word_at h.call.heap object 0) _ (λ reason g. still))
    object_keeps objects.SetReason e f reached =
        at_reference 0 _ (λ object is. at_word 1 _ (λ reason.
        (itself h.call, (own.reason (eqb-true h.call.member set_reason f) object is, tt))))
    object_keeps (objects.ThrowIt object) e f reached =
        at_word 0 _ (λ reason. (itself h.call, (exception_spared object e, tt)))

    aid_keeps : (native : AidNative) → AreTested (aid_member native).tests → Is ((aid_member native).does h)
    aid_keeps aids.Construct reached =
        at_reference 0 _ (λ aid is. at_range 1 2 (ByteAt 3) _ (λ bytes.
        requires_system illegal_value (has_aid_length (length bytes))
        (writes_words h aid 0 (length bytes ∷ bytes) NoResult)
        (itself h.call, (reached 0 0 Fields refl refl aid is, tt))))
    aid_keeps aids.Equals reached =
        at_reference 0 _ (λ aid is. at_reference 1 _ (λ array also.
        either (array == 0) _ _ still (at_aid aid _ (λ own. at_range 1 2 (ByteAt 3) _ (λ bytes. still)))))
    aid_keeps aids.GetBytes reached =
        at_reference 0 _ (λ aid is. at_reference 1 _ (λ array also. at_word 2 _ (λ offset. at_aid aid _ (λ bytes.
        (itself h.call, (reached 1 1 Stores refl refl array also, tt))))))

    module _ (e : is_of_apdu h.call.member ≡ true) where
      at_buffer : (offset count : ℕ) (go : List ℕ → Option Work) → ((bytes : List ℕ) → Is (go bytes))
          → Is (in_buffer h offset count go)
      at_buffer offset count go each = grind (arith, and_then, requires_apdu)

      sends_more : (bytes : List ℕ) → Is (sends h bytes)
      sends_more bytes = grind (arith, requires_apdu, exchanged)

      length_set : (count : ℕ)
          → Is (require_apdu h bad_length (nat_le count most_sent)
          (Some (gives (with_announced k LengthSet count) NoResult)))
      length_set count = grind (arith, requires_apdu, exchanged)

      sent_at_once : (offset count : ℕ)
          → Is (require_apdu h bad_length (nat_le count most_sent) (in_buffer h offset count (sends_at_once h count)))
      sent_at_once offset count = grind (arith, requires_apdu, at_buffer, exchanged)

      apdu_keeps : (native : ApduNative) → Is ((apdu_member native).does h)
      apdu_keeps apdus.GetBuffer = still
      apdu_keeps apdus.SetIncomingAndReceive =
          requires_apdu illegal_use (is_fresh k.state)
          (Some (writes_own (with_state k Received) apdu_buffer data_offset k.incoming
          (GivesWord (length k.incoming))))
          (exchanged h.call e Received k.announced k.sent, (own.buffer, tt))
      apdu_keeps apdus.SetOutgoing =
          requires_apdu illegal_use (is_incoming k.state)
          (Some (gives (with_state k Outgoing) (GivesWord (expected_of k))))
          (exchanged h.call e Outgoing k.announced k.sent, tt)
      apdu_keeps apdus.SetOutgoingLength =
          at_word 1 _ (λ count. requires_apdu illegal_use (is_outgoing k.state)
          (require_apdu h bad_length (nat_le count most_sent)
          (Some (gives (with_announced k LengthSet count) NoResult))) (length_set count))
      apdu_keeps apdus.SendBytes =
          at_word 1 _ (λ offset. at_word 2 _ (λ count.
          requires_apdu illegal_use (is_length_set k.state) (in_buffer h offset count (sends h))
          (at_buffer offset count (sends h) sends_more)))
      apdu_keeps apdus.SendBytesLong =
          requires_apdu illegal_use (is_length_set k.state) (on_range h 1 2 (ShortAt 3) (sends h))
          (at_range 1 2 (ShortAt 3) (sends h) sends_more)
      apdu_keeps apdus.SetOutgoingAndSend =
          at_word 1 _ (λ offset. at_word 2 _ (λ count.
          requires_apdu illegal_use (is_incoming k.state)
          (require_apdu h bad_length (nat_le count most_sent) (in_buffer h offset count (sends_at_once h count)))
          (sent_at_once offset count)))

    -- an applet that may register in the name of the instance that is being installed
    record May (applet : ℕ) (owner : Owner) (i : Installing) : Type 0 where
      object : Object TaggedValue
      named : slice_get h.call.arguments 0 ≡ Some (Ref applet)
      found : object_at h.call.heap applet ≡ Some object
      whose : owner ≡ object.owner
      was : k.installing ≡ Some i
      waited : i.registered ≡ false
      installs : owner ≡ i.owner

    names_object : (v : Option TaggedValue) (n : ℕ) (object : Object TaggedValue)
        → option_and_then as_reference v ≡ Some n → object_at h.call.heap n ≡ Some object → v ≡ Some (Ref n)
    names_object v n object h1 h2 = grind (arith, none-some, same_Some)

    may_of : (n : ℕ) (object : Object TaggedValue) → IsArgument 0 n → object_at h.call.heap n ≡ Some object
        → (o : Option Installing) (i : Installing) → k.installing ≡ o → allowed object.owner o ≡ Some i
        → May n object.owner i
    may_of n object is found None i was e = absurd (none-some i e)
    may_of n object is found (Some j) i was e = by_test (may_register object.owner j) refl e
      where
        by_test : (b : Bool) → may_register object.owner j ≡ b → cond b (Some j) None ≡ Some i → May n object.owner i
        by_test b h1 h2 = grind (arith, both, same_Some, names_object, not-true, same_owner, none-some)

    at_allowed : (go : ℕ → Owner → Installing → Option Work)
        → ((n : ℕ) (owner : Owner) (i : Installing) → May n owner i → Is (go n owner i)) → Is (on_allowed h go)
    at_allowed go each =
        at_reference 0 _ (λ n is. and_then (object_at h.call.heap n) _ (λ object found.
        by_installing n object is found (allowed object.owner k.installing) refl))
      where
        by_installing : (n : ℕ) (object : Object TaggedValue) → IsArgument 0 n
            → object_at h.call.heap n ≡ Some object → (o : Option Installing) → allowed object.owner k.installing ≡ o
            → Is (on_installing h o (go n object.owner))
        by_installing n object h1 h2 o h3 = grind (arith, system_throws, may_of)

    abbrev new_instance : List ℕ → ℕ → Owner → Instance
    new_instance aid object owner = record { aid = aid; object = object; owner = owner }

    registers_keep : is_register h.call.member ≡ true → (n : ℕ) (owner : Owner) (i : Installing) → May n owner i
        → (aid : List ℕ) → IsWork (registers k i.owner.instance n owner aid)
    registers_keep e n owner i may aid = by_found (instance_with k.instances aid) refl
      where
        by_found : (o : Option Instance) → instance_with k.instances aid ≡ o
            → IsWork (unless_system k illegal_aid (not (is_some o))
            (writes_own (with_instance k (new_instance aid n owner)) (aid_object i.owner.instance) 0
            (length aid ∷ aid) NoResult))
        by_found o h1 = grind (arith, system_throws, joined, none_in, bytes_eq, other_bytes)

    applet_keeps : (native : AppletNative) → fits_applet h.call.member native ≡ true
        → Is ((applet_member native).does h)
    applet_keeps native h1 = grind (arith, at_allowed, registers_keep, at_range, requires_system, still)

    makes_keep : (elements : Elements) (size : ℕ) (event : Option ClearingEvent)
        → IsWork (makes k h.call.active.context h.call.selected elements size event)
    makes_keep elements size event = grind (arith, system_throws, either_work, still)

    asks_keep : (byte : ℕ) (o : Option Instance) → IsWork (asks k h.call.active byte o)
    asks_keep byte o = grind (arith, still, tells_aid)

    array_keeps : (elements : Elements) → Is (makes_array elements h)
    array_keeps elements = grind (arith, at_word, makes_keep)

    system_keeps : (native : SystemNative) → Is ((system_member native).does h)
    system_keeps native = grind (arith, still, at_range, at_reference, at_word, at_aid, asks_keep, array_keeps)

    utility_keeps : (native : UtilityNative) → AreTested (utility_member native).tests
        → Is ((utility_member native).does h)
    utility_keeps utilities.ArrayCopy reached =
        at_reference 0 _ (λ source is. at_word 1 _ (λ from. at_reference 2 _ (λ target also. at_word 3 _ (λ to.
        at_word 4 _ (λ count. and_then (words_in h.call.heap source from count) _ (λ words e.
        (itself h.call, (reached 1 2 Stores refl refl target also, tt))))))))
    utility_keeps utilities.ArrayFill reached =
        at_reference 0 _ (λ array is. at_word 1 _ (λ from. at_word 2 _ (λ count. at_word 3 _ (λ byte.
        (itself h.call, (reached 0 0 Stores refl refl array is, tt))))))
    utility_keeps utilities.ArrayCompare reached =
        at_range 0 1 (ShortAt 4) _ (λ bytes. at_range 2 3 (ShortAt 4) _ (λ others. still))
    utility_keeps utilities.GetShort reached =
        at_reference 0 _ (λ array is. at_word 1 _ (λ from. and_then (word_at h.call.heap array from) _ (λ one e.
        and_then (word_at h.call.heap array (from + 1)) _ (λ other f. still))))
    utility_keeps utilities.SetShort reached =
        at_reference 0 _ (λ array is. at_word 1 _ (λ from. at_word 2 _ (λ short.
        (itself h.call, (reached 0 0 Stores refl refl array is, tt)))))
    utility_keeps utilities.MakeShort reached = at_word 0 _ (λ one. at_word 1 _ (λ other. still))

    native_keeps : (native : Native) → throws_own native ≡ true → fits_number h.call.member native ≡ true
        → AreTested (member_of_native native).tests → Is ((member_of_native native).does h)
    native_keeps (OfObject native) e f reached = object_keeps native e f reached
    native_keeps (OfAid native) e f reached = aid_keeps native reached
    native_keeps (OfApdu native) e f reached = apdu_keeps f native
    native_keeps (OfApplet native) e f reached = applet_keeps native f
    native_keeps (OfSystem native) e f reached = system_keeps native
    native_keeps (OfUtility native) e f reached = utility_keeps native reached

-- ---- answers

module _ (w : World) (call : NativeCall Kept) (Spared : By → ℕ → Type 0) where
  abbrev h : Called
  h = called w call

  abbrev IsGoodWork : Work → Type 0
  IsGoodWork work = IsWork h Spared work

  -- an applet that is asked is told the AID of the active owner
  abbrev pub AsksAs : NativeEnd → Type 0
  AsksAs (Gives value) = ⊤
  AsksAs (ThrowsObject object) = ⊤
  AsksAs (machine.Calls callback) = (value : TaggedValue) → slice_get callback.arguments 0 ≡ Some value
      → TellsAid call.runtime call.active value
  AsksAs IsStuck = ⊤

  -- the objects are as they were but for such writes, or there is one more
  pub data IsWritten (after : Heap TaggedValue) : Type 0 where
    by_writes : (writes : List Write) → AreSpared h Spared writes → after ≡ written Word call.heap writes
        → IsWritten after
    by_one : (object : Object TaggedValue) → after ≡ with_new call.heap object → IsWritten after

  pub record IsGood (a : NativeAnswer Kept) : Type 0 where
    pub kept : Keeps call a.runtime
    pub asks : AsksAs a.ends
    pub objects : IsWritten a.heap

  unchanged_good : (touches : List Touch) (ends : NativeEnd) → AsksAs ends → IsGood (unchanged call touches ends)
  unchanged_good touches ends asks = record { kept = itself call; asks = asks; objects = by_writes [] tt refl }

  ending_good : (ending : Ending) → AsksAs (end_of ending)
  ending_good ending = grind arith

  done_good : (touches : List Touch) (work : Work) → IsGoodWork work → IsGood (done call touches work)
  done_good touches (Does writes after ending) e =
      record { kept = e.0; asks = ending_good ending; objects = by_writes writes e.1 refl }
  done_good touches (Makes array) e =
      record { kept = itself call; asks = tt; objects = by_one (new_array call.active array) refl }
  done_good touches (Asks question) e =
      unchanged_good touches _ (λ value f. subst (TellsAid call.runtime call.active) (same_Some _ value f) e)

  module _ (own : SparesOwn h Spared) where
    room_good : (objects cells : ℕ) (work : Work) → IsGoodWork work
        → IsGoodWork (with_room objects cells call.heap call.runtime work)
    room_good objects cells (Does writes after ending) e = e
    room_good objects cells (Makes array) e = by_room (has_room objects cells call.heap array.size)
      where
        by_room : (b : Bool) → IsGoodWork (array_or_refusal b array call.runtime)
        by_room b = grind (arith, system_throws)
    room_good objects cells (Asks question) e = e

    worked_good : (touches : List Touch) (o : Option Work) → Is h Spared o → IsGood (worked call touches o)
    worked_good touches None e = unchanged_good touches IsStuck tt
    worked_good touches (Some work) e = search (arith, unchanged_good, done_good, room_good)

    begun_good : (o : Option Native) → numbered natives call.member ≡ o
        → ((native : Native) → (tested h (member_of_native native).tests).ends ≡ Passed
        → AreTested h Spared (member_of_native native).tests)
        → IsGood (begun w call o)
    begun_good None e passed = unchanged_good [] IsStuck tt
    begun_good (Some native) e passed = by_end (tested h (member_of_native native).tests).ends refl
      where
        by_end : (end : TestEnd) → (tested h (member_of_native native).tests).ends ≡ end
            → IsGood (ended call (tested h (member_of_native native).tests).touches end
            ((member_of_native native).does h))
        by_end Passed f = search (arith, worked_good, native_keeps, all_throw_own, has_number, unchanged_good)
        by_end (Refused object) f = unchanged_good _ (ThrowsObject object) tt
        by_end Unfit f = unchanged_good _ IsStuck tt

  pub answer_good : (native_may_begin w.shapes call.heap call.member call.arguments ≡ true → SparesOwn h Spared)
      → ((native : Native) → (tested h (member_of_native native).tests).ends ≡ Passed
      → AreTested h Spared (member_of_native native).tests) → IsGood (answer_of w call)
  answer_good own passed = by_begin (native_may_begin w.shapes call.heap call.member call.arguments) refl
    where
      by_begin : (b : Bool) → native_may_begin w.shapes call.heap call.member call.arguments ≡ b
          → IsGood (cond b (begun w call (numbered natives call.member)) (unchanged call [] IsStuck))
      by_begin true e = begun_good (own e) (numbered natives call.member) refl passed
      by_begin false e = unchanged_good [] IsStuck tt
