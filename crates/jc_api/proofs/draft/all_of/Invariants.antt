use Rattle.std.proofs.Common.{◌≡◌, length, take, drop}
use Rattle.jc_api.proofs.Filling.{IsFilled}
use Rattle.jc_api.proofs.draft.all_of.Given as goal

abbrev pub invariant-loop-index : goal.invariant-loop-index
invariant-loop-index g l = (length l.tokens ≡ length l.named) × IsFilled l.named (take l.index l.tokens) (drop l.index l.named)
