use Rattle.std.proofs.Common.{◌≡◌, List, [], length, map, vec_len, vec_capacity}
use Rattle.jc_code.specs.Listing.{PlacedInstr}
use Rattle.jc_cert.specs.Cert.{stated}
use Rattle.jc_check.specs.PrivateMarks.{IsTable}
use Rattle.jc_check.proofs.Standing.{StatesSoFar}
use Rattle.jc_check.proofs.table.mark_states.Given as goal

abbrev pub invariant-loop-index : goal.invariant-loop-index
invariant-loop-index g l =
    ((listing : List PlacedInstr) → IsTable (g.R.CheckRules.rules l.rules) l.method listing [] l.fn.marks → StatesSoFar (g.R.CheckRules.rules l.rules) l.method listing (map stated l.states) l.index l.claims.items l.marks)
    × (vec_len l.claims ≡ l.index) × (vec_capacity l.claims ≡ length l.states)
