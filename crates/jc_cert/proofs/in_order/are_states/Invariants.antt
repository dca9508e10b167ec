use Rattle.std.proofs.Common.{◌↔◌, drop, map}
use Rattle.std.specs.List.{AllByRecursion}
use Rattle.jc_cert.specs.Cert.{IsStated, PcsAscend, stated}
use Rattle.jc_cert.proofs.in_order.are_states.Given as goal

-- all are in order where those that are left are, from the least pc on
abbrev pub invariant-loop-state : goal.invariant-loop-state
invariant-loop-state l =
    let left = map stated (drop l.state-index l.states) in
    (AllByRecursion IsStated (map stated l.states) × PcsAscend 0 (map stated l.states)) ↔ (AllByRecursion IsStated left × PcsAscend l.least left)
