use Rattle.std.proofs.Common.{◌≡◌, drop}
use Rattle.jc_check.specs.FirstFault.{handlers_stand}
use Rattle.jc_check.specs.PrivateMarks.{ForTable}
use Rattle.jc_check.proofs.table.stand_handlers.Given as goal

abbrev pub invariant-loop-index : goal.invariant-loop-index
invariant-loop-index l =
    ForTable l.marks (λ listing. handlers_stand listing (drop l.index l.handlers) ≡ handlers_stand listing l.handlers)
