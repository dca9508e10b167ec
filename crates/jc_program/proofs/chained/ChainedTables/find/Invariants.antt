use Rattle.std.proofs.Common.{◌≡◌, ◌-◌, length}
use Rattle.jc_program.specs.Called.{keyed_in}
use Rattle.jc_program.specs.PrivateChained.{tables_at, tables_from}
use Rattle.jc_program.proofs.chained.ChainedTables.find.Given as goal

-- what the tables from the next on have is what all have
abbrev pub invariant-loop : goal.invariant-loop
invariant-loop l =
    keyed_in (tables_from l.self (length l.self.tables - l.counter) l.number) l.key l.token
    ≡ keyed_in (tables_at l.self l.fn.head) l.key l.token
