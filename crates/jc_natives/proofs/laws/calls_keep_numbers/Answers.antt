use Rattle.std.proofs.Common.{◌==◌, refl, subst, sym}
use Rattle.std.proofs.lemmas.Bool.{eq-eqb}
use Rattle.jc_machine.specs.Keeping.{MembersKeep}
use Rattle.jc_machine.specs.Natives.{AreNativesGuarded}
use Rattle.jc_machine.specs.Step.{runtime_call}
use Rattle.jc_natives.proofs.Counting.{left_same, members_same}
use Rattle.jc_natives.specs.Kept.{Kept}
use Rattle.jc_natives.proofs.laws.calls_keep_numbers.Goals as goal

pub returns : goal.returns
returns c = λ s is steps start.
    let numbers = start.runtime.numbers in
    left_same numbers (runtime_call s steps start).ends
    (c.calls_keep_what_members_keep.ensures (λ (k : Kept). k.numbers == numbers) s
    (subst AreNativesGuarded (sym is) c.members_are_guarded.ensures)
    (subst (MembersKeep (λ (k : Kept). k.numbers == numbers)) (sym is) (members_same numbers)) steps start
    (eq-eqb numbers numbers refl))
