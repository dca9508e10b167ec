use Rattle.std.proofs.Common.{arith}
use Rattle.jc_cap_desc.proofs.FreshNumbers.{stops, adds_one, ends, fresh_is_distinct}
use Rattle.jc_cap_desc.proofs.across.tokens_differ.Goals as goal

pub returns-then-not-is_fresh : goal.returns-then-not-is_fresh
returns-then-not-is_fresh c = grind (arith, stops, adds_one, fresh_is_distinct)

pub returns : goal.returns
returns c = grind (arith, ends, fresh_is_distinct)
