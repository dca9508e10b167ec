use Rattle.std.proofs.Common.{◌≡◌, length, take}
use Rattle.jc_program.specs.PrivateCalled.{AreListed, HasCalled, lists_of}
use Rattle.jc_program.proofs.virtuals.put_tables.Given as goal

abbrev pub invariant-loop-at : goal.invariant-loop-at
invariant-loop-at l = record {
  listed : AreListed (HasCalled l.table l.methods 0 0 128) l.names l.at (lists_of l.made);
  begins : take (length l.fn.made) l.made ≡ l.fn.made;
}
