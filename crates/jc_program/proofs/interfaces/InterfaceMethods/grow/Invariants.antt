use Rattle.std.proofs.Common.{◌≡◌, length, map, take}
use Rattle.jc_program.specs.InterfaceRows.{class_interfaces}
use Rattle.jc_program.proofs.interfaces.InterfaceMethods.grow.Given as goal

abbrev pub invariant-loop-at : goal.invariant-loop-at
invariant-loop-at l = record {
  rows : l.self ≡ map (class_interfaces l.table l.classes) (take l.at l.names);
  begins : take (length l.fn.self) l.self ≡ l.fn.self;
}
