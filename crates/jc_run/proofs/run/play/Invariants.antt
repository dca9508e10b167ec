use Rattle.std.proofs.Common.{◌≡◌, ◌≤◌, ◌+◌, ◌-◌, ℕ, List, Some}
use Rattle.jc_card.specs.Card.{CardState}
use Rattle.jc_card.specs.Reads.{Holds}
use Rattle.jc_source.specs.Source.{HoldSame}
use Rattle.jc_run.specs.PrivatePlay.{HasPlayed}
use Rattle.jc_run.specs.EndCauses.{IsUnreadable, IsUnwritable, end_causes}
use Rattle.jc_script.specs.Reading.{pending}
use Rattle.jc_run.proofs.run.play.Given as goal

abbrev pub invariant-loop-number : goal.invariant-loop-number
invariant-loop-number g l =
    (l.number ≤ 100001)
    × (g.S.PackageSource.failed l.source ≡ g.S.PackageSource.failed l.fn.source)
    × (g.S.PackageSource.short l.source ≡ g.S.PackageSource.short l.fn.source)
    × HoldSame (g.S.PackageSource.holds_image l.fn.source) (g.S.PackageSource.holds_image l.source)
    × HoldSame (g.S.PackageSource.holds_certificate l.fn.source) (g.S.PackageSource.holds_certificate l.source)
    × (g.R.Input.faults l.reader ≡ g.R.Input.faults l.fn.reader)
    × (g.R.Input.calls l.reader ≡ g.R.Input.calls l.fn.reader + l.lines.calls)
    × (g.W.Output.faults l.writer ≡ g.W.Output.faults l.fn.writer)
    × (g.W.Output.calls l.fn.writer ≤ g.W.Output.calls l.writer)
    × ((c : CardState) (bytes before : List ℕ) → Holds l.fn.card c → g.R.Input.remaining l.fn.reader ≡ Some bytes
    → g.W.Output.contents l.fn.writer ≡ Some before
    → HasPlayed (g.S.PackageSource.holds_image l.fn.source) (g.S.PackageSource.holds_certificate l.fn.source)
    (λ s r w. end_causes (g.S.PackageSource.failed_at s) (g.S.PackageSource.short l.fn.source)
    (g.S.PackageSource.short s)
    (IsUnreadable (g.R.Input.calls l.fn.reader) (g.R.Input.calls r) (g.R.Input.faults l.fn.reader)
    (g.R.Input.faults r))
    (IsUnwritable (g.W.Output.calls l.fn.writer) (g.W.Output.calls w) (g.W.Output.faults l.fn.writer)
    (g.W.Output.faults w)))
    g.T.Teller.tells l.fn.teller c bytes before l.number l.card l.teller
    (pending l.lines.unread (g.R.Input.remaining l.reader)) (g.W.Output.contents l.writer))

abbrev pub decreases-loop-number : goal.decreases-loop-number
decreases-loop-number g l = 100001 - l.number
