use Rattle.std.proofs.Common.{arith, ◌∙◌}
use Rattle.std.proofs.Math.ListN.{length-set}
use Rattle.jc_api.proofs.Filling.{filled_at, filled_all}
use Rattle.jc_api.proofs.draft.all_of.Goals as goal

pub loop-index-preserved : goal.loop-index-preserved
loop-index-preserved g c =
    let same = c.loop-index.invariant.0 in (
      length-set c.loop-index.tokens c.loop-index.index _ ∙ same,
      filled_at c.args.named.now c.loop-index.tokens c.loop-index.index c.in_ok-tokens.field-0 (omega (arith, c.told-named)) (omega (arith, same, c.told-named)) c.in_ok-tokens.was c.loop-index.invariant.1,
    )

pub returns : goal.returns
returns g c =
    let same = c.loop-index.invariant.0 in
    filled_all c.args.named.now c.loop-index.tokens c.loop-index.index (omega (arith, c.told-named)) (omega (arith, same, c.told-named)) c.loop-index.invariant.1
