use Rattle.std.proofs.Common.{◌≡◌, drop}
use Rattle.jc_check.specs.FirstFault.{all_handle}
use Rattle.jc_check.specs.PrivateInput.{ForListing}
use Rattle.jc_check.specs.PrivateSeen.{WereCaught}
use Rattle.jc_check.proofs.pass.handle_each.Given as goal

abbrev pub invariant-loop-index : goal.invariant-loop-index
invariant-loop-index g l =
    let rules = g.R.CheckRules.rules l.rules in ForListing rules l.input (λ listing.
    WereCaught rules l.input.claims.now l.handlers l.seen
    → all_handle rules l.input.claims.now l.pc l.state.types (drop l.index l.handlers)
    ≡ all_handle rules l.input.claims.now l.pc l.state.types l.handlers)
