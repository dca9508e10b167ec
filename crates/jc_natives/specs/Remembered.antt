-- What native members may change of the runtime's state, and which AIDs they return (Java Card Runtime Environment
-- Specification, Applet Lifetime; Java Card API Specification, APDU, Applet.register, JCSystem).
use Rattle.std.specs.Prelude.{◌≡◌, ◌≢◌, ◌⊎◌, ℕ, ◌+◌, ◌==◌, ◌&&◌, ◌||◌, Bool, true, false, [], ◌∷◌, ◌++◌, Option}
use Rattle.std.specs.Prelude.{Some, None, nat_le, nat_lt, slice_get}
use Rattle.std.specs.List.{AllByRecursion}
use Rattle.jc_machine.specs.Machine.{Callback, Calls, Gives, NativeAnswer, NativeCall}
use Rattle.jc_machine.specs.Runtime.{first_aid_object, most_instances}
use Rattle.jc_names.specs.declared.owner.Owner.{Owner}
use Rattle.jc_natives.specs.Kept.{Kept, aid_object}
use Rattle.jc_natives.specs.declared.kept.Installing.{Installing}
use Rattle.jc_natives.specs.declared.kept.Instance.{Instance}
use Rattle.jc_store.specs.Heap.{Heap, Object, object_at}
use Rattle.jc_words.specs.Values.{Null, Ref, TaggedValue}

-- ---- members by their numbers

-- register of Applet, without and with the bytes of an AID
abbrev pub is_register : ℕ → Bool
is_register member = member == 34 || member == 35

-- the members of APDU: from getBuffer to setOutgoingAndSend
abbrev pub is_of_apdu : ℕ → Bool
is_of_apdu member = nat_le 26 member && nat_le member 32

-- getAID and getPreviousContextAID of JCSystem
abbrev pub get_aid : ℕ
get_aid = 41

abbrev pub get_previous_aid : ℕ
get_previous_aid = 43

-- ---- registered instances

-- one more instance is registered. Its object is the applet of the call's first argument, and its owner is the owner of
-- that object: the instance that is being installed. No registered instance had its AID. The instance that is being
-- installed hadn't registered; now it has
pub record HasRegistered (call : NativeCall Kept) (after : Kept) : Type 0 where
  pub instance : Instance
  pub instances : after.instances ≡ call.runtime.instances ++ instance ∷ []
  pub applet : Object TaggedValue
  pub named : slice_get call.arguments 0 ≡ Some (Ref instance.object)
  pub found : object_at call.heap instance.object ≡ Some applet
  pub owner : instance.owner ≡ applet.owner
  pub new_aid : AllByRecursion (λ (i : Instance). i.aid ≢ instance.aid) call.runtime.instances
  pub installing : Installing
  pub was : call.runtime.installing ≡ Some installing
  pub waited : installing.registered ≡ false
  pub installs : instance.owner ≡ installing.owner
  pub is : after.installing ≡ Some (record { owner = installing.owner; aid = installing.aid; registered = true })

-- the instances and the one that is being installed are unchanged; or a call of register has added one
pub data KeepsInstances (call : NativeCall Kept) (after : Kept) : Type 0 where
  as_they_were : after.instances ≡ call.runtime.instances → after.installing ≡ call.runtime.installing
      → KeepsInstances call after
  one_more : is_register call.member ≡ true → HasRegistered call after → KeepsInstances call after

-- ---- the exchange of a command and its answer

-- it is unchanged
pub record KeepsExchange (before after : Kept) : Type 0 where
  pub state : after.state ≡ before.state
  pub announced : after.announced ≡ before.announced
  pub sent : after.sent ≡ before.sent

-- ---- AIDs that are returned

-- a value is the AID of an owner: a reference to the AID object of the registered instance with this owner, or null if
-- there is no such instance
pub data TellsAid (k : Kept) (owner : Owner) : TaggedValue → Type 0 where
  of_instance : (place : ℕ) (i : Instance) → slice_get k.instances place ≡ Some i → i.owner ≡ owner
      → TellsAid k owner (Ref (aid_object i.owner.instance))
  of_none : AllByRecursion (λ (i : Instance). i.owner ≢ owner) k.instances → TellsAid k owner Null

-- the AID of the previous owner; null if there was none
abbrev pub TellsPreviousAid : Kept → Option Owner → TaggedValue → Type 0
TellsPreviousAid k None value = value ≡ Null
TellsPreviousAid k (Some owner) value = TellsAid k owner value

-- ---- AID objects

-- the AID objects of applet instances
abbrev pub is_aid_object : ℕ → Bool
is_aid_object number = nat_le first_aid_object number && nat_lt number (first_aid_object + most_instances)

-- register is called, and an object is the AID object of the instance that is being installed and hasn't registered
pub record WritesOwnAid (call : NativeCall Kept) (number : ℕ) : Type 0 where
  pub register : is_register call.member ≡ true
  pub installing : Installing
  pub was : call.runtime.installing ≡ Some installing
  pub waited : installing.registered ≡ false
  pub is : number ≡ aid_object installing.owner.instance

-- AID objects have the components that they had, except that one
abbrev pub KeepsAids : NativeCall Kept → Heap TaggedValue → Type 0
KeepsAids call after = (number : ℕ) (o p : Object TaggedValue) → is_aid_object number ≡ true
    → object_at call.heap number ≡ Some o → object_at after number ≡ Some p
    → (p.cells ≡ o.cells) ⊎ WritesOwnAid call number

-- ---- the law

-- the runtime's state after a call: the instances; how many numbers were assigned; the data of the command, its Le, and
-- whether it is the SELECT that selected; and the exchange, which only members of APDU change. And the AIDs: getAID
-- returns that of the active owner, and getPreviousContextAID that of the owner before it; an applet that is asked for
-- a shareable object gets that of the active owner
pub record IsRemembered (call : NativeCall Kept) (a : NativeAnswer Kept) : Type 0 where
  pub instances : KeepsInstances call a.runtime
  pub numbers : a.runtime.numbers ≡ call.runtime.numbers
  pub incoming : a.runtime.incoming ≡ call.runtime.incoming
  pub expected : a.runtime.expected ≡ call.runtime.expected
  pub selecting : a.runtime.selecting ≡ call.runtime.selecting
  pub exchange : is_of_apdu call.member ≡ false → KeepsExchange call.runtime a.runtime
  pub own_aid : call.member ≡ get_aid → (value : TaggedValue) → a.ends ≡ Gives (Some value)
      → TellsAid call.runtime call.active value
  pub previous_aid : call.member ≡ get_previous_aid → (value : TaggedValue) → a.ends ≡ Gives (Some value)
      → TellsPreviousAid call.runtime call.previous value
  pub asks_as : (callback : Callback) → a.ends ≡ Calls callback → (value : TaggedValue)
      → slice_get callback.arguments 0 ≡ Some value → TellsAid call.runtime call.active value
