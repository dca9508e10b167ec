-- What a rule of the machine comes to is safe: one lemma for each way to go on.
use Rattle.std.proofs.Common.{◌≡◌, ℕ, List, Option, Some, Bool, true, sym, subst, arith}
use Rattle.jc_firewall.specs.declared.access.Verdict.{Verdict}
use Rattle.jc_names.specs.declared.owner.Owner.{Owner}
use Rattle.jc_words.specs.Values.{TaggedValue}
use Rattle.jc_store.specs.Heap.{Object}
use Rattle.jc_machine.specs.Going.{StepContext, by_verdict, check, judged, on_some, require, touched}
use Rattle.jc_machine.specs.Machine.{Asked, Ends, Machine, Next, Outcome, Stepped, Stuck, Surroundings, Throws, Touch}
use Rattle.jc_machine.specs.Machine.{UsedUp}
use Rattle.jc_machine.specs.Natives.{IsThrown}
use Rattle.jc_machine.specs.Runtime.{security_exception}
use Rattle.jc_machine.specs.Typed.{IsPlaced, IsTyped, IsTypedBeside, WaitTyped, given_by}
use Rattle.jc_safety.specs.Safety.{EndsWith}

-- an object is thrown in a machine whose frames are as they should be, but for the operands of the one that runs
pub record MayUnwind {C : Type 0} (s : Surroundings C) (m : Machine C) (number : ℕ) : Type 0 where
  pub beside : IsTypedBeside s m
  pub placed : IsPlaced s.world m.heap m.top
  pub waiting : WaitTyped s.world m.heap (given_by s.world m.top) m.waiting
  pub thrown : IsThrown s.world m.heap number

-- what an instruction comes to, before what it throws is caught
abbrev pub IsFine : {C : Type 0} → Surroundings C → Outcome C → Type 0
IsFine s (Next m) = IsTyped s m
IsFine s (Throws m number) = MayUnwind s m number
IsFine s (Ends m value) = EndsWith s m value
IsFine s (UsedUp m) = IsTypedBeside s m
IsFine s Stuck = ⊥

pub record IsSafe {C : Type 0} (s : Surroundings C) (x : Stepped C) : Type 0 where
  pub fine : IsFine s x.outcome

module _ {C : Type 0} (s : Surroundings C) where
  pub safe_touched : (touches : List Touch) (x : Stepped C) → IsSafe s x → IsSafe s (touched touches x)
  safe_touched touches x h = record { fine = h.fine }

  pub safe_check : (b : Bool) (x : Stepped C) → b ≡ true → IsSafe s x → IsSafe s (check b x)
  safe_check b x h1 h2 = grind arith

  pub safe_some : {A : Type 0} (x : Option A) (a : A) (go : A → Stepped C) → x ≡ Some a → IsSafe s (go a)
      → IsSafe s (on_some x go)
  safe_some {A} x a go e h = subst (λ (o : Option A). IsSafe s (on_some o go)) (sym e) h

  pub safe_require : (h : StepContext C) (exception : ℕ) (b : Bool) (x : Stepped C) → MayUnwind s h.machine exception
      → (b ≡ true → IsSafe s x) → IsSafe s (require h exception b x)
  safe_require h exception b x h1 h2 = grind arith

  safe_verdict : (h : StepContext C) (asked : Asked) (verdict : Verdict) (go : Option Owner → Stepped C)
      → MayUnwind s h.machine security_exception
      → ((switch : Option Owner) → IsSafe s (go switch)) → IsSafe s (by_verdict h asked verdict go)
  safe_verdict h asked verdict go h1 h2 = grind arith

  -- an access: it is denied, or the step goes on, whoever is active then
  pub safe_judged : (h : StepContext C) (asked : Asked) (object : Object TaggedValue) (go : Option Owner → Stepped C)
      → MayUnwind s h.machine security_exception
      → ((switch : Option Owner) → IsSafe s (go switch)) → IsSafe s (judged h asked object go)
  safe_judged h asked object go may each = grind (arith, safe_verdict)
