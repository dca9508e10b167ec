use Rattle.std.proofs.Common.{arith, ap, sym, ◌∙◌}
use Rattle.jc_script.specs.Faults.{spread}
use Rattle.jc_script.proofs.Faulting.{words_spread}
use Rattle.jc_script.proofs.finding.fault_among.Goals as goal

pub fault_behind-requires : goal.fault_behind-requires
fault_behind-requires c =
    let all = (words_spread c.args.line.now).size_is in
    let parts = ap spread (sym c.new-words.ensures ∙ c.in-Some.ensures.some) in
    omega (arith, all, parts, c.requires)
