-- What is closed once an instruction has been visited.
use Rattle.std.proofs.Common.{◌≡◌, ℕ, Bool, true, false, List, Option, Some, Ok, Result, arith}
use Rattle.std.specs.Prelude.{IfErr, IfNone, IfOk, IfSome, IsSome}
use Rattle.std.proofs.lemmas.Option.{none-some, same_Some}
use Rattle.jc_code.specs.Listing.{PlacedInstr}
use Rattle.jc_check.specs.Method.{CheckedMethod}
use Rattle.jc_check.specs.Rules.{Rules}
use Rattle.jc_check.specs.Typing.{Typing}
use Rattle.jc_types.specs.State.{Types}
use Rattle.jc_verify.specs.PrivateFlow.{ClosedIf, FallsIf, IsClosed, IsVisited, meets, goes_on}

-- what holds of what is there, from something else that does
pub if_ok : {A E : Type 0} (r : Result A E) (P Q : A → Type 0) → IfOk r P → ((x : A) → P x → Q x) → IfOk r Q
if_ok r P Q h1 h2 = grind arith

-- an instruction whose handlers and branches lead on, and behind which there is no place, or one that holds what goes on
pub closed_by : (rules : Rules) (m : CheckedMethod) (numbers : List (Option ℕ)) (typing : Typing) (on : Bool) (x : PlacedInstr) (s after : Types) → rules.decoder m.code x.pc ≡ Ok x.instr
    → IsVisited rules m typing x s after → FallsIf on rules m numbers typing x.instr.next_pc after → ClosedIf on rules m numbers typing x.instr.next_pc after → IsClosed rules m numbers typing x.pc s
closed_by rules m numbers typing true x s after decoded visited falls closed = goes_on x s after decoded visited falls.0 falls.1 closed
closed_by rules m numbers typing false x s after decoded visited falls closed = meets x s after decoded visited falls

pub if_err : {A E : Type 0} (r : Result A E) (P Q : E → Type 0) → IfErr r P → ((e : E) → P e → Q e) → IfErr r Q
if_err r P Q h1 h2 = grind arith

-- what is there unless something fails, which holds
pub is_some_unless : {A : Type 0} (o : Option A) (P : Type 0) → IfNone o (P → ⊥) → P → IsSome o
is_some_unless o P h1 h2 = grind arith

-- what holds of what is there
pub holds : {A : Type 0} (o : Option A) (P : A → Type 0) (x : A) → o ≡ Some x → IfSome o P → P x
holds o P x h1 h2 = grind (arith, none-some, same_Some)

pub if_ok_five : {A E : Type 0} (r : Result A E) (P Q S T U R : A → Type 0) → IfOk r P → IfOk r Q → IfOk r S → IfOk r T → IfOk r U → ((x : A) → P x → Q x → S x → T x → U x → R x) → IfOk r R
if_ok_five r P Q S T U R h1 h2 h3 h4 h5 h6 = grind arith
