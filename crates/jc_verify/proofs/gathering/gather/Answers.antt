use Rattle.std.proofs.Common.{◌<◌, ◌+◌, ◌^◌, rules, ap, arith, map, subst, sym, refl, ◌∙◌}
use Rattle.jc_cap_desc.specs.Shape.{MethodBody}
use Rattle.jc_cert.specs.Cert.{rows, stated}
use Rattle.jc_check.specs.Package.{method_of, package_rules}
use Rattle.jc_verify.specs.PrivateTold.{Tells}
use Rattle.jc_verify.specs.PrivateTurns.{AreCounted}
use Rattle.jc_verify.specs.MethodFault.{IsToldOf}
use Rattle.jc_verify.specs.PrivateGathered.{IsPut}
use Rattle.jc_verify.proofs.Tallying.{counted_put}
use Rattle.jc_verify.proofs.Telling.{carried_now, is_passed, isnt_passed, passed_over, told_now, without}
use Rattle.jc_verify.proofs.Rows.{put}
use Rattle.jc_verify.proofs.Visiting.{if_ok}
use Rattle.jc_verify.proofs.gathering.gather.Goals as goal

pub returns-in-Ok-clause-gathered : goal.returns-in-Ok-clause-gathered
returns-in-Ok-clause-gathered c =
    let l = c.args.linked.now in
    let b = c.args.body.now in
    let same = sym (ap (λ (b : MethodBody). b.offset) c.body.view_is) in
    let small : c.args.body.now.offset < 2 ^ 16 = search rules in
    let before = rows c.args.gathered.now.rows.items in
    let after = rows c.put_states.new.gathered.rows.items in
    let states = map stated c.in-Ok.states.items in
    if_ok c.put_states.result _ _ c.put_states.ensures.put (λ u is_put n at so_far.
    carried_now l n b at c.args.gathered.now so_far c.put_states.new.gathered states c.in-Ok.ensures.inferred c.put_states.ensures.told
    (λ none. put l c.requires.fit.apart n before (so_far.gathered (sym c.put_states.ensures.told ∙ none)) b at states _ small
    c.in-Ok.ensures.inferred (subst (λ o. IsPut o states before after) (sym same) is_put))
    (λ none. subst (AreCounted l (n + 1) after) (sym c.put_states.ensures.followed)
    (counted_put l n _ states before after c.args.gathered.now.followed _
    (so_far.counted (sym c.put_states.ensures.told ∙ none)) c.in-Ok.ensures.counted is_put)))

pub returns-then-is_passed_over-clause-gathered : goal.returns-then-is_passed_over-clause-gathered
returns-then-is_passed_over-clause-gathered c n at so_far = grind (arith, is_passed, passed_over)

pub returns-in-Err-Refused-clause-gathered : goal.returns-in-Err-Refused-clause-gathered
returns-in-Err-Refused-clause-gathered c n at so_far =
    let l = c.args.linked.now in
    let b = c.args.body.now in
    let same = ap (λ (b : MethodBody). b.offset) c.body.view_is in
    told_now l n b at c.args.gathered.now so_far _ c.told_at.result refl (c.told_at.ensures.method ∙ same)
    (λ u e. let lt = isnt_passed c.args.gathered.now.told _ (sym c.is_passed_over.ensures ∙ c.if-is_passed_over.false) u e in omega (arith, lt, same))
    (without l (method_of l b) (c.requires.fit.named n b at) (c.in-Err-Refused.ensures.refused c.in-Err-Refused.pc c.in-Err-Refused.reason c.in-Err-Refused.field-0-is))
    (subst (IsToldOf (package_rules l) (method_of l b)) (sym c.told_at.ensures.fault)
    (subst (Tells (package_rules l) (method_of l b)) c.in-Err-Refused.field-0-is (c.in-Err-Refused.ensures.told (c.requires.fit.named n b at))))
