use Rattle.std.proofs.Common.{◌≡◌, ◌++◌, length}
use Rattle.jc_cap_desc.specs.Across.{class_methods}
use Rattle.jc_cap_desc.specs.PrivateInterfaceRows.{HoldsInterfaces}
use Rattle.jc_cap_desc.proofs.bodies.ClassMethodRows.next.Given as goal

-- the rows at hand and those of the classes that are left are all rows, and it is known which are interfaces'
abbrev pub invariant-loop-self : goal.invariant-loop-self
invariant-loop-self l = record {
  all : l.fn.self ≡ l.self-inside.rows ++ class_methods l.self-inside.records.now l.self-inside.classes;
  holds : HoldsInterfaces l.self-inside.interfaces l.self-inside.records.now;
}

abbrev pub decreases-loop-self : goal.decreases-loop-self
decreases-loop-self l = length l.self-inside.classes
