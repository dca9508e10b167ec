-- Native members that do nothing keep the law of native members.
use Rattle.std.proofs.Common.{◌≡◌, ◌&&◌, Bool, true, Option, Some, arith}
use Rattle.std.proofs.lemmas.Option.{none-some}
use Rattle.jc_link.specs.Linked.{World}
use Rattle.jc_store.specs.Heap.{Object}
use Rattle.jc_machine.specs.Accepted.{IsAccepted}
use Rattle.jc_machine.specs.Idle.{idle}
use Rattle.jc_machine.specs.Machine.{NativeCall}
use Rattle.jc_machine.specs.Natives.{IsFitAnswer, IsFitCall, IsGuardedAnswer, IsLawful}
use Rattle.jc_machine.proofs.ApiResults.{idle_fits, passed_some}

both : (a b : Bool) → (a && b) ≡ true → (a ≡ true) × (b ≡ true)
both a b h1 = grind arith

same : {V : Type 0} (found : Option (Object V)) (o p : Object V) → found ≡ Some o → found ≡ Some p → p ≡ o
same found o p e f = cc

-- nothing is accessed, and nothing changes
idle_is_guarded : (w : World) (call : NativeCall (Unit {0})) → IsGuardedAnswer idle w call (idle.answer w call)
idle_is_guarded w call = grind (arith, same, none-some)

-- what is given is of the declared type
idle_is_fit : (w : World) (call : NativeCall (Unit {0})) → IsAccepted w → IsFitCall idle w call
    → IsFitAnswer idle w call (idle.answer w call)
idle_is_fit w call accepted fit = grind (arith, both, passed_some, idle_fits)

pub idle_is_lawful : IsLawful idle
idle_is_lawful = search (arith, idle_is_guarded, idle_is_fit)
