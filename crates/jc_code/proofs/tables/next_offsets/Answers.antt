use Rattle.jc_code.proofs.TableLemmas.{offsets_taken}
use Rattle.jc_code.proofs.tables.next_offsets.Goals as goal

pub invariant_of-result : goal.invariant_of-result
invariant_of-result c = offsets_taken c.args.count c.args.cursor.now c.in-Some.bytes.now c.take.new.self c.in-Some.ensures
