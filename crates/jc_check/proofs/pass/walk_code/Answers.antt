use Rattle.std.proofs.Common.{arith, sym, ◌∙◌}
use Rattle.jc_check.proofs.Walking.{goes_on, stops, is_done, decodes}
use Rattle.jc_check.proofs.pass.walk_code.Goals as goal

pub loop-pc-init : goal.loop-pc-init
loop-pc-init g c = grind arith

pub unreachable-requires : goal.unreachable-requires
unreachable-requires g c = grind (arith, decodes)

pub returns-in-Err : goal.returns-in-Err
returns-in-Err g c listing table =
    let lt = rw c.code-code.ensures at c.loop-pc-test.true in
    let at = rw c.code-code.ensures at (sym c.decode.ensures ∙ c.in-Ok.is) in
    sym (stops (g.R.CheckRules.rules c.args.rules.now) c.args.input.now.method.now listing c.args.input.now.claims.now _ c.loop-pc.pc c.in-Ok.instr c.visit_at.new.state.types c.in-Err.reason _ lt at (c.in-Err.ensures.flow listing table) (c.loop-pc.invariant.left listing table))

pub loop-pc-smaller : goal.loop-pc-smaller
loop-pc-smaller g c = grind arith

pub loop-pc-preserved : goal.loop-pc-preserved
loop-pc-preserved g c = grind (arith, goes_on)

pub returns : goal.returns
returns g c listing table = grind (arith, is_done)
