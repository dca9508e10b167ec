use Rattle.std.proofs.Common.{◌≡◌, drop}
use Rattle.jc_check.specs.FirstFault.{all_arrive}
use Rattle.jc_check.specs.PrivateInput.{ForListing}
use Rattle.jc_check.proofs.pass.arrive_all.Given as goal

abbrev pub invariant-loop-index : goal.invariant-loop-index
invariant-loop-index g l =
    let rules = g.R.CheckRules.rules l.rules in ForListing rules l.input (λ listing.
    all_arrive rules listing l.input.claims.now l.state.types (drop l.index l.targets)
    ≡ all_arrive rules listing l.input.claims.now l.state.types l.targets)
