use Rattle.std.proofs.Common.{◌≡◌, ◌+◌, ◌^◌, ◌≤◌, length}
use Rattle.jc_api.specs.Binding.{with_lines}
use Rattle.jc_api.specs.Text.{lines_of}
use Rattle.jc_api.proofs.draft.Draft.take_text.Given as goal

-- what is left decides
abbrev pub invariant-loop-line : goal.invariant-loop-line
invariant-loop-line l = (l.number + length l.lines ≤ 2 ^ 63) × (with_lines 1 l.fn.self (lines_of l.text) ≡ with_lines (l.number + 1) l.self l.lines)

abbrev pub decreases-loop-line : goal.decreases-loop-line
decreases-loop-line l = length l.lines
