use Rattle.std.proofs.Common.{arith}
use Rattle.std.proofs.lemmas.List.{map-append}
use Rattle.jc_cap_desc.proofs.FreshNumbers.{goes_on, stops, ends, fresh_is_distinct}
use Rattle.jc_cap_desc.proofs.across.offsets_differ.Goals as goal

pub loop-row-preserved : goal.loop-row-preserved
loop-row-preserved c records holds = grind (arith, goes_on, map-append)

pub returns-then-not-row_is_fresh : goal.returns-then-not-row_is_fresh
returns-then-not-row_is_fresh c records holds = grind (arith, stops, map-append, fresh_is_distinct)

pub returns : goal.returns
returns c records holds = grind (arith, ends, fresh_is_distinct)
