use Rattle.std.proofs.Common.{subst, sym}
use Rattle.jc_machine.specs.Keeping.{MembersKeep}
use Rattle.jc_machine.specs.Natives.{AreNativesGuarded}
use Rattle.jc_machine.specs.Step.{runtime_call}
use Rattle.jc_natives.proofs.Registering.{left_registered, members_register, registers, registers_itself}
use Rattle.jc_natives.proofs.laws.calls_register_the_installed.Goals as goal

pub returns : goal.returns
returns c = λ s is steps start.
    let before = start.runtime in
    left_registered before (runtime_call s steps start).ends
    (c.calls_keep_what_members_keep.ensures (registers before) s
    (subst AreNativesGuarded (sym is) c.members_are_guarded.ensures)
    (subst (MembersKeep (registers before)) (sym is)
    (members_register c.members_keep_what_is_kept.ensures.remembered before)) steps start (registers_itself before))
