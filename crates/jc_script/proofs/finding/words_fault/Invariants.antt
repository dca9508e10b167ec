use Rattle.std.proofs.Common.{◌≡◌, ◌+◌, ◌≤◌, drop}
use Rattle.jc_script.specs.Faults.{spread, words_fault}
use Rattle.jc_script.proofs.finding.words_fault.Given as goal

-- what is left to look at has the fault of all
abbrev pub invariant-loop-form : goal.invariant-loop-form
invariant-loop-form l =
    (words_fault l.fn.forms l.fn.needed l.fn.column l.fn.words
    ≡ words_fault (drop l.form-index l.forms) l.left l.at l.words)
    × (l.at + spread l.words ≤ 1027)
