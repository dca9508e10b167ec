use Rattle.std.proofs.Common.{◌+◌, List, sym, subst, arith}
use Rattle.std.proofs.lemmas.Option.{slice_get-get_or}
use Rattle.jc_program.specs.Called.{KeyedTable}
use Rattle.jc_program.specs.PrivateCalled.{AreListed, HasCalled, lists_of}
use Rattle.jc_program.proofs.Beginning.{begins_more}
use Rattle.jc_program.proofs.Calling.{none_public, table_more}
use Rattle.jc_program.proofs.virtuals.put_tables.Goals as goal

pub table_made-requires-clause-none : goal.table_made-requires-clause-none
table_made-requires-clause-none c = grind (arith, none_public)

pub loop-at-preserved : goal.loop-at-preserved
loop-at-preserved c =
    let has = HasCalled c.args.table.now c.args.methods.now 0 0 128 in
    let names = c.args.names.now in
    let at = c.loop-at.at in
    let made = c.loop-at.made in
    let more : KeyedTable = record { key = 0; called = c.deref.result.now } in
    record {
      listed = subst (λ (ts : List KeyedTable). AreListed has names (at + 1) (lists_of ts))
          (sym c.in_ok-put.ensures.done)
          (table_more c.args.table.now c.args.methods.now names made more at _
          (slice_get-get_or names at _ (omega (arith, c.loop-at-test.true))) c.loop-at.invariant.listed
          (subst (has _) (sym c.deref.ensures.value) c.in_ok-table_made.ensures));
      begins = rw (c.in_ok-put.ensures.done) (begins_more c.args.made.now made _ c.loop-at.invariant.begins);
    }
