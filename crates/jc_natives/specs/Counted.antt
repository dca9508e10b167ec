-- How many instance numbers are assigned after a call.
use Rattle.std.specs.Prelude.{⊤, ◌≡◌, ℕ}
use Rattle.jc_machine.specs.Step.{CallEnd, Gave, RanOut, Threw, WasStuck}
use Rattle.jc_natives.specs.Kept.{Kept}

-- as many as these, unless the call was stuck
abbrev pub LeavesNumbers : ℕ → CallEnd Kept → Type 0
LeavesNumbers numbers (Gave m value) = m.runtime.numbers ≡ numbers
LeavesNumbers numbers (Threw m object at denied) = m.runtime.numbers ≡ numbers
LeavesNumbers numbers (RanOut m spent at) = m.runtime.numbers ≡ numbers
LeavesNumbers numbers WasStuck = ⊤
