use Rattle.std.proofs.Common.{◌≡◌, ◌++◌, length, take, map}
use Rattle.std.specs.Int.{w16, to_be_bytes}
use Rattle.std.specs.List.{flat_map}
use Rattle.jc_cert.specs.Writing.{stated_bytes}
use Rattle.jc_cert.specs.Cert.{stated}
use Rattle.jc_cert.proofs.writing.put_row.Given as goal

abbrev pub invariant-loop-state : goal.invariant-loop-state
invariant-loop-state l =
    l.out.items ≡ l.fn.out.items ++ (to_be_bytes w16 l.method.offset ++ (to_be_bytes w16 (length l.method.states.items) ++ flat_map stated_bytes (map stated (take l.state-index l.method.states.items))))
