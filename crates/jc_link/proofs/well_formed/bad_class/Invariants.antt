use Rattle.std.proofs.Common.{◌≡◌, false, take}
use Rattle.std.specs.List.{list_any}
use Rattle.jc_link.specs.WellFormed.{is_bad_class}
use Rattle.jc_link.proofs.well_formed.bad_class.Given as goal

-- the classes before are well-formed
abbrev pub invariant-loop-index : goal.invariant-loop-index
invariant-loop-index l = list_any (is_bad_class l.table l.home) (take l.index l.classes) ≡ false
