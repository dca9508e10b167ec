use Rattle.std.proofs.Common.{◌≡◌, ◌++◌, Some, drop, map}
use Rattle.std.specs.List.{filter_map}
use Rattle.jc_classes.specs.World.{class_named, listed_refs}
use Rattle.jc_names.specs.Names.{home_of}
use Rattle.jc_program.specs.Classes.{class_number}
use Rattle.jc_program.proofs.supertypes.put_listed.Given as goal

abbrev pub invariant-loop-index : goal.invariant-loop-index
invariant-loop-index l =
    map Some l.numbers.items ++ map (class_number l.classes)
    (filter_map (class_named l.table (home_of l.lister)) (drop l.index (listed_refs l.found.body)))
    ≡ map Some l.initial.numbers.items ++ map (class_number l.classes)
    (filter_map (class_named l.table (home_of l.lister)) (listed_refs l.found.body))
