use Rattle.std.proofs.Common.{◌≡◌, ◌+◌, drop}
use Rattle.jc_card.specs.Install.{applet_from}
use Rattle.jc_card.proofs.places.applet_among.Given as goal

abbrev pub invariant-loop-at : goal.invariant-loop-at
invariant-loop-at l = applet_from 1 l.bodies l.aid ≡ applet_from (l.at + 1) (drop l.at l.bodies) l.aid
