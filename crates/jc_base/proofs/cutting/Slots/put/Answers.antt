use Rattle.std.proofs.Common.{◌<◌, ◌^◌, length, not, get_or, arith}
use Rattle.std.proofs.lemmas.List.{length-set}
use Rattle.jc_base.proofs.Put.{infos_first, repeats_first, infos_again, repeats_again, infos_skip, repeats_skip, was_none, was_some, holds_set}
use Rattle.jc_base.proofs.cutting.Slots.put.Goals as goal

pub returns-then-is_none-clause-holds : goal.returns-then-is_none-clause-holds
returns-then-is_none-clause-holds c = grind (arith, get_or, not, length-set, infos_first, repeats_first, was_none)

pub returns-then-is_none-clause-short : goal.returns-then-is_none-clause-short
returns-then-is_none-clause-short c = λ short are. holds_set (λ info. length info.now < 2 ^ 16) c.args.self.now.infos _ _ short are

pub returns-else-is_none-clause-holds : goal.returns-else-is_none-clause-holds
returns-else-is_none-clause-holds c = grind (arith, get_or, not, was_some, infos_again, length-set, repeats_again)

pub returns-else-place-lt13-clause-holds : goal.returns-else-place-lt13-clause-holds
returns-else-place-lt13-clause-holds c = grind (arith, infos_skip, repeats_skip)
