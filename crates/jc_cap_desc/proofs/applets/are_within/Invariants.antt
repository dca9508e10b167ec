use Rattle.std.proofs.Common.{◌≡◌, length}
use Rattle.std.specs.List.{list_all}
use Rattle.jc_base.specs.NumberSet.{has_number}
use Rattle.jc_cap_desc.proofs.applets.are_within.Given as goal

-- what is left says the same of all
abbrev pub invariant-loop-applet : goal.invariant-loop-applet
invariant-loop-applet l = list_all (λ a. has_number l.set a.install) l.applets ≡ list_all (λ a. has_number l.set a.install) l.left

abbrev pub decreases-loop-applet : goal.decreases-loop-applet
decreases-loop-applet l = length l.left
