use Rattle.std.proofs.Common.{◌≡◌, length, take}
use Rattle.jc_program.specs.PrivateCalled.{AreListed, HasVisible}
use Rattle.jc_program.proofs.visible.VisibleMethods.grow.Given as goal

abbrev pub invariant-loop-at : goal.invariant-loop-at
invariant-loop-at l = record {
  listed : AreListed (HasVisible l.table l.methods) l.names l.at l.self;
  begins : take (length l.fn.self) l.self ≡ l.fn.self;
}
