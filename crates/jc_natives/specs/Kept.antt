-- The state of the runtime besides the objects: the instances of applets, the one that is being installed, and the
-- exchange of a command and its answer (Java Card Runtime Environment Specification, Applet Isolation and Object
-- Sharing: Contexts; Java Card API Specification, APDU, Applet).
use Rattle.std.specs.Prelude.{ℕ, ◌+◌, ◌-◌, ◌==◌, ◌&&◌, Bool, true, false, not, List, [], ◌∷◌, ◌++◌, length, take}
use Rattle.std.specs.Prelude.{Option, Some, None, bytes_eq, nat_le, nat_lt, if◌then◌else◌}
use Rattle.std.specs.List.{find, list_all}
use Rattle.std.specs.Option.{option_map, option_map_or}
use Rattle.jc_machine.specs.Runtime.{first_aid_object, most_instances}
use Rattle.jc_names.specs.declared.owner.Owner.{Owner}
use Rattle.jc_natives.specs.declared.kept.ApduState.{ApduState}
use Rattle.jc_natives.specs.declared.kept.ApduState.TheVariants.{Closed, Fresh, LengthSet, Outgoing, Received}
use Rattle.jc_natives.specs.declared.kept.Installing.{Installing}
use Rattle.jc_natives.specs.declared.kept.Instance.{Instance}

-- the registered instances in order; the instance that is being installed; how many instance numbers were assigned; the
-- state of the APDU; the data of the command; its Le, 0 for none; the announced length of the answer; the data sent so
-- far; and whether an applet has the SELECT that selected it
pub record Kept : Type 0 where
  pub instances : List Instance
  pub installing : Option Installing
  pub numbers : ℕ
  pub state : ApduState
  pub incoming : List ℕ
  pub expected : ℕ
  pub announced : ℕ
  pub sent : List ℕ
  pub selecting : Bool

-- ---- states of the exchange

abbrev pub is_fresh : ApduState → Bool
is_fresh Closed = false
is_fresh Fresh = true
is_fresh Received = false
is_fresh Outgoing = false
is_fresh LengthSet = false

-- the direction wasn't turned yet
abbrev pub is_incoming : ApduState → Bool
is_incoming Closed = false
is_incoming Fresh = true
is_incoming Received = true
is_incoming Outgoing = false
is_incoming LengthSet = false

abbrev pub is_outgoing : ApduState → Bool
is_outgoing Closed = false
is_outgoing Fresh = false
is_outgoing Received = false
is_outgoing Outgoing = true
is_outgoing LengthSet = false

abbrev pub is_length_set : ApduState → Bool
is_length_set Closed = false
is_length_set Fresh = false
is_length_set Received = false
is_length_set Outgoing = false
is_length_set LengthSet = true

-- ---- the state with one part replaced

abbrev pub with_state : Kept → ApduState → Kept
with_state k state = record k { state = state }

abbrev pub with_announced : Kept → ApduState → ℕ → Kept
with_announced k state announced = record k { state = state; announced = announced }

abbrev pub with_sent : Kept → List ℕ → Kept
with_sent k sent = record k { sent = sent }

-- one more instance, and the one that is being installed has registered
abbrev pub now_registered : Installing → Installing
now_registered i = record i { registered = true }

abbrev pub with_instance : Kept → Instance → Kept
with_instance k instance =
    record k { instances = k.instances ++ instance ∷ []; installing = option_map now_registered k.installing }

-- ---- between calls

-- the state of a new card
abbrev pub nothing_kept : Kept
nothing_kept = record {
  instances = [];
  installing = None;
  numbers = 0;
  state = Closed;
  incoming = [];
  expected = 0;
  announced = 0;
  sent = [];
  selecting = false;
}

-- an install begins: of an instance, whose applet has this AID. Its number is assigned then, whatever the end of the
-- install
abbrev pub with_install : Kept → Owner → List ℕ → Kept
with_install k owner aid = record k {
  installing = Some (record { owner = owner; aid = aid; registered = false });
  numbers = owner.instance;
}

-- an instance has registered in the current install
abbrev pub has_registered : Kept → Bool
has_registered k = option_map_or (λ (i : Installing). i.registered) k.installing false

-- an install ends: if it failed, the instance that registered, which is the last, is removed
abbrev pub kept_instances : List Instance → Bool → List Instance
kept_instances instances true = take (length instances - 1) instances
kept_instances instances false = instances

abbrev pub after_install : Kept → Bool → Kept
after_install k succeeds = record k {
  instances = kept_instances k.instances (has_registered k && not succeeds);
  installing = None;
}

-- an applet has a command: its data, its Le, and whether it is the SELECT that selected the applet
abbrev pub with_command : Kept → List ℕ → ℕ → Bool → Kept
with_command k incoming expected selecting = record {
  instances = k.instances;
  installing = k.installing;
  numbers = k.numbers;
  state = Fresh;
  incoming = incoming;
  expected = expected;
  announced = 0;
  sent = [];
  selecting = selecting;
}

-- no applet has a command; the sent data stay until the next
abbrev pub without_command : Kept → Kept
without_command k = record k { state = Closed; selecting = false }

-- ---- sent data

-- a command without Le, or with Le 0, expects as many bytes as possible
abbrev pub most_sent : ℕ
most_sent = 256

abbrev pub expected_of : Kept → ℕ
expected_of k = if k.expected == 0 then most_sent else k.expected

-- ---- AIDs

-- bytes of 8 bits
abbrev pub are_bytes : List ℕ → Bool
are_bytes bytes = list_all (λ b. nat_lt b 256) bytes

-- an AID has 5 to 16 bytes
abbrev pub has_aid_length : ℕ → Bool
has_aid_length count = nat_le 5 count && nat_le count 16

abbrev pub is_aid : List ℕ → Bool
is_aid bytes = has_aid_length (length bytes) && are_bytes bytes

-- ---- instances

abbrev pub is_same_owner : Owner → Owner → Bool
is_same_owner one other = one.context == other.context && one.instance == other.instance

-- the registered instance with an AID, and the one of an owner
abbrev pub instance_with : List Instance → List ℕ → Option Instance
instance_with instances aid = find (λ (i : Instance). bytes_eq i.aid aid) instances

abbrev pub instance_of : List Instance → Owner → Option Instance
instance_of instances owner = find (λ (i : Instance). is_same_owner i.owner owner) instances

-- the AID object of the instance with a number, from 1 on
abbrev pub aid_object : ℕ → ℕ
aid_object number = first_aid_object - 1 + number

-- instances have numbers from 1 to 32
abbrev pub is_instance_number : ℕ → Bool
is_instance_number number = nat_le 1 number && nat_le number 32

-- an instance is being installed, and hasn't registered
abbrev pub is_waiting : Option Installing → Bool
is_waiting installing = option_map_or (λ (i : Installing). not i.registered) installing false

abbrev pub waits : Kept → Bool
waits k = is_waiting k.installing

-- each instance has a number of its own: at most 32 were assigned, with one for an instance that waits
abbrev pub have_numbers : List Instance → Option Installing → ℕ → Bool
have_numbers instances installing numbers =
    nat_le (length instances + (if is_waiting installing then 1 else 0)) numbers && nat_le numbers most_instances

abbrev pub has_numbers : Kept → Bool
has_numbers k = have_numbers k.instances k.installing k.numbers
