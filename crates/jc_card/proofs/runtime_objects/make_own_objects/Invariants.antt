use Rattle.jc_card.specs.PrivateNew.{HasOwn}
use Rattle.jc_card.proofs.runtime_objects.make_own_objects.Given as goal

abbrev pub invariant-loop-place : goal.invariant-loop-place
invariant-loop-place l = HasOwn l.classes l.initial.store l.store l.place
