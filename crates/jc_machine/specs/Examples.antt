-- Packages, objects and native members for the examples of the defensive machine. The native members do almost nothing.
use Rattle.std.specs.Prelude.{ℕ, Bool, true, false, ◌==◌, if◌then◌else◌, List, [], ◌∷◌, ◌++◌, length, map, Option, Some}
use Rattle.std.specs.Prelude.{None}
use Rattle.std.specs.List.{list_all}
use Rattle.jc_api.specs.Bound.{default_binding}
use Rattle.jc_api.specs.declared.class.ApiClass.{ApiClass}
use Rattle.jc_api.specs.declared.class.ApiClass.TheVariants.{ArithmeticException, ArrayStoreException}
use Rattle.jc_api.specs.declared.class.ApiClass.TheVariants.{ClassCastException, ArrayIndexOutOfBoundsException}
use Rattle.jc_api.specs.declared.class.ApiClass.TheVariants.{NegativeArraySizeException, NullPointerException}
use Rattle.jc_api.specs.declared.class.ApiClass.TheVariants.{SecurityException, IsoException, SystemException}
use Rattle.jc_api.specs.declared.class.ApiClass.TheVariants.{ApduException}
use Rattle.jc_cap.specs.declared.handler.Handler.{Handler}
use Rattle.jc_cap_desc.specs.Shape.{Package, Shape}
use Rattle.jc_classes.specs.Api.{api_world}
use Rattle.jc_names.specs.declared.name.ClassName.TheVariants as classes
use Rattle.jc_names.specs.declared.name.MethodName.{MethodName}
use Rattle.jc_names.specs.declared.name.MethodName.TheVariants.{Loaded}
use Rattle.jc_link.specs.Kept.{kept_of}
use Rattle.jc_link.specs.Linked.{LinkedBody, World}
use Rattle.jc_store.specs.Heap.{Heap, Object}
use Rattle.jc_store.specs.declared.kind.Mark.{Mark}
use Rattle.jc_store.specs.declared.kind.Mark.TheVariants.{Plain, TemporaryEntryPoint}
use Rattle.jc_store.specs.declared.kind.ObjectType.{ObjectType}
use Rattle.jc_store.specs.declared.kind.ObjectType.TheVariants.{Instance, BooleanArray, ByteArray, ShortArray}
use Rattle.jc_store.specs.declared.kind.ObjectType.TheVariants.{ReferenceArray}
use Rattle.jc_names.specs.declared.owner.Owner.{Owner}
use Rattle.jc_firewall.specs.declared.access.Access.{Access}
use Rattle.jc_firewall.specs.declared.access.Access.TheVariants.{InvokeVirtual, LoadComponent}
use Rattle.jc_firewall.specs.declared.access.Rule.{Rule}
use Rattle.jc_firewall.specs.declared.access.Verdict.{Verdict}
use Rattle.jc_firewall.specs.declared.access.Verdict.TheVariants.{Allowed}
use Rattle.jc_machine.specs.Lookup.{fields_of}
use Rattle.jc_machine.specs.Machine.{ByCode, Calls, Ends, Gives, Limits, Machine, NativeAnswer, NativeCall, Natives}
use Rattle.jc_machine.specs.Machine.{Next, Outcome, Stuck, Surroundings, Throws, Touch, UsedUp}
use Rattle.jc_machine.specs.Runtime.{RuntimeObject, runtime_objects}
use Rattle.jc_machine.specs.Step.{defensive_step, CallEnd, Gave, RanOut, Start, Threw, WasStuck, runtime_call}
use Rattle.jc_machine.specs.ExamplePackages.{client, probe, server}
use Rattle.jc_words.specs.Values.{Null, Ref, TaggedValue, Unset, Word}

-- ---- worlds

-- a package's body, as the machine uses it
abbrev pub body_in : Package → LinkedBody
body_in p = record { kept = kept_of p.body; targets = [] }

-- packages after those of the API
abbrev pub world_with : List Package → World
world_with packages =
    record {
      shapes = api_world default_binding ++ map (λ (p : Package). p.shape) packages;
      bodies = map body_in packages;
    }

-- native members that return nothing and change nothing
abbrev pub quiet : Natives (Unit {0})
quiet = record {
  answer = λ w call. record { touches = []; heap = call.heap; runtime = call.runtime; ends = Gives None };
  fits = λ w heap runtime. true;
  registers = λ runtime. None;
}

-- native members that return nothing, except that the one that asks for a shareable object calls that of object 11, and
-- this one accesses the object
abbrev pub asked_natives : ℕ → NativeCall (Unit {0}) → NativeAnswer (Unit {0})
asked_natives member call =
    if member == 44 then record {
      touches = [];
      heap = call.heap;
      runtime = call.runtime;
      ends = Calls (record { member = 40; object = 11; arguments = Null ∷ Word 0 ∷ [] });
    }
    else if member == 40 then record {
      touches = record {
        by = ByCode;
        active = call.active.context;
        access = InvokeVirtual;
        object = 11;
        stored = None;
        wanted = None;
        verdict = Allowed;
      } ∷ [];
      heap = call.heap;
      runtime = call.runtime;
      ends = Gives (Some Null);
    } else record { touches = []; heap = call.heap; runtime = call.runtime; ends = Gives None }

abbrev pub asking : Natives (Unit {0})
asking = record {
  answer = λ w call. asked_natives call.member call;
  fits = λ w heap runtime. true;
  registers = λ runtime. None;
}

abbrev pub bounds : Limits
bounds = record { objects = 100; cells = 1000; frames = 4; frame_words = 100 }

abbrev pub around : Natives (Unit {0}) → List Package → Surroundings (Unit {0})
around natives packages = record { world = world_with packages; natives = natives; limits = bounds; selected = None }

-- ---- objects

abbrev pub owner : ℕ → ℕ → Owner
owner context instance = record { context = context; instance = instance }

abbrev pub object : ObjectType → Mark → Owner → List TaggedValue → Object TaggedValue
object type mark of cells =
    record { kind = record { object_type = type; mark = mark; clears = None }; owner = of; cells = cells }

abbrev pub exception : ApiClass → List TaggedValue → Object TaggedValue
exception class cells = object (Instance (classes.Api class)) TemporaryEntryPoint (owner 0 0) cells

-- the exceptions of the runtime, 1 to 10
abbrev pub exceptions : Heap TaggedValue
exceptions =
    exception ArithmeticException [] ∷ exception ArrayStoreException [] ∷ exception ClassCastException []
    ∷ exception ArrayIndexOutOfBoundsException [] ∷ exception NegativeArraySizeException []
    ∷ exception NullPointerException []
    ∷ exception SecurityException [] ∷ exception IsoException (Word 0 ∷ []) ∷ exception SystemException (Word 0 ∷ [])
    ∷ exception ApduException (Word 0 ∷ []) ∷ []

-- ---- runs

abbrev pub start_of : Heap TaggedValue → Owner → MethodName → List TaggedValue → Start (Unit {0})
start_of heap of method arguments =
    record { heap = heap; statics = [] ∷ [] ∷ []; runtime = tt; owner = of; method = method; arguments = arguments }

-- how a call ends; of a throw the access that was denied, if one was
pub data End : Type 0 where
  a_value : Option TaggedValue → End
  an_object : ℕ → End
  denied_access : (thrown : ℕ) (access : Access) (object : ℕ) (rule : Rule) → End
  used_up : End
  stuck : End

abbrev pub end_of : CallEnd (Unit {0}) → End
end_of (Gave m value) = a_value value
end_of (Threw m object at None) = an_object object
end_of (Threw m object at (Some denied)) = denied_access object denied.access denied.object denied.rule
end_of (RanOut m spent at) = used_up
end_of WasStuck = stuck

-- code reads a component of an array, with this verdict
abbrev pub reading : ℕ → Verdict → Touch
reading object verdict = record {
  by = ByCode;
  active = 1;
  access = LoadComponent;
  object = object;
  stored = None;
  wanted = None;
  verdict = verdict;
}

-- the shown part of an access: from which context, the access, to which object, and the verdict on it
pub record ShownTouch : Type 0 where
  pub active : ℕ
  pub access : Access
  pub object : ℕ
  pub verdict : Verdict

abbrev pub shown_touch : Touch → ShownTouch
shown_touch t = record { active = t.active; access = t.access; object = t.object; verdict = t.verdict }

-- the shown part of a call: its accesses, and its end
pub record Shown : Type 0 where
  pub touches : List ShownTouch
  pub end : End

abbrev pub shown : List ShownTouch → End → Shown
shown touches end = record { touches = touches; end = end }

-- a call without accesses
abbrev pub untouched : End → Shown
untouched end = shown [] end

-- an access from a context to an object, and the verdict on it
abbrev pub touch : ℕ → Access → ℕ → Verdict → ShownTouch
touch active access object verdict = record { active = active; access = access; object = object; verdict = verdict }

unfoldable pub run_with : Natives (Unit {0}) → List Package → ℕ → Start (Unit {0}) → Shown
run_with natives packages steps start =
    let called = runtime_call (around natives packages) steps start in
    record { touches = map shown_touch called.touches; end = end_of called.ends }

abbrev pub run : List Package → ℕ → Start (Unit {0}) → Shown
run packages steps start = run_with quiet packages steps start

-- ---- objects of the server, after the runtime's

abbrev pub served : ℕ → Object TaggedValue
served offset = object (Instance (classes.Loaded 1 offset)) Plain (owner 1 1) (Word 7 ∷ [])

-- the runtime's objects, and an object of the server's class at an offset, which is number 11
abbrev pub with_served : ℕ → Heap TaggedValue
with_served offset = exceptions ++ served offset ∷ []

-- a call of a method of the server or the client with at most `steps` steps, on the server's object of the class at an
-- offset
abbrev pub served_run : ℕ → ℕ → Owner → MethodName → Shown
served_run steps class of method =
    run (server ∷ client ∷ []) steps (start_of (with_served class) of method (Ref 11 ∷ []))

-- a probe without arguments, and one with an object of the class at an offset
abbrev pub probed : ℕ → Shown
probed offset = run (probe ∷ []) 20 (start_of exceptions (owner 1 1) (Loaded 1 offset) [])

abbrev pub probed_on : ℕ → ℕ → Shown
probed_on class offset = run (probe ∷ []) 20 (start_of (with_served class) (owner 1 1) (Loaded 1 offset) (Ref 11 ∷ []))

-- the runtime's exceptions, and an array of bytes with one component, which is number 11
abbrev pub with_component : TaggedValue → Heap TaggedValue
with_component v = exceptions ++ object ByteArray Plain (owner 1 1) (v ∷ []) ∷ []

-- a probe that loads this component
abbrev pub probed_with : TaggedValue → Shown
probed_with v = run (probe ∷ []) 20 (start_of (with_component v) (owner 1 1) (Loaded 1 290) (Ref 11 ∷ []))

-- ---- machines at an instruction

-- the probe's method at 180, after its first instruction, with one operand
abbrev pub behind_push : TaggedValue → Machine (Unit {0})
behind_push v = record {
  heap = exceptions;
  statics = [] ∷ [];
  runtime = tt;
  top = record {
    method = record { number = 1; offset = 180 };
    pc = 1;
    locals = Unset ∷ [];
    operands = v ∷ [];
    active = owner 1 1;
    previous = None;
  };
  waiting = [];
}

-- whether a step is stuck
abbrev pub is_stuck : Outcome (Unit {0}) → Bool
is_stuck (Next m) = false
is_stuck (Throws m object) = false
is_stuck (Ends m value) = false
is_stuck (UsedUp m) = false
is_stuck Stuck = true

unfoldable pub is_stuck_with : TaggedValue → Bool
is_stuck_with v = is_stuck (defensive_step (around quiet (probe ∷ [])) (behind_push v)).outcome

-- ---- the runtime's objects

-- whether an object of the runtime has as many components as its class says, if only the API's packages are loaded; an
-- array may have any number
abbrev pub has_its_size : List Shape → RuntimeObject → Bool
has_its_size world wanted = of_type wanted.type
  where
    of_type : ObjectType → Bool
    of_type (Instance c) = length (fields_of world c) == wanted.size
    of_type BooleanArray = true
    of_type ByteArray = true
    of_type ShortArray = true
    of_type (ReferenceArray c) = true

unfoldable pub have_their_sizes : Bool
have_their_sizes = list_all (has_its_size (api_world default_binding)) runtime_objects

-- an exception handler that covers `length` bytes from `start` on
abbrev pub handler_from : ℕ → ℕ → Handler
handler_from start length = record { start = start; active_length = length; handler = 0; catch_type = 0 }
