use Rattle.std.proofs.Common.{sym, ◌∙◌}
use Rattle.std.proofs.lemmas.Result.{err_from_is_err_and}
use Rattle.jc_verify.proofs.Denying.{refused_for, refuses_on}
use Rattle.jc_verify.proofs.Lying.{goes_with, handled_there, has_effect}
use Rattle.jc_verify.proofs.Reaching.{branches_ways, falls_reaches, handlers_ways, told_effect, told_fallen, told_uncaught, told_unled}
use Rattle.jc_verify.proofs.Seeing.{seen_on}
use Rattle.jc_verify.proofs.Taking.{under_visited, visited_ends, visited_on}
use Rattle.jc_verify.proofs.Visiting.{if_err, if_ok}
use Rattle.jc_verify.proofs.flow.visit.Goals as goal

pub handle_all-requires-clause-ways : goal.handle_all-requires-clause-ways
handle_all-requires-clause-ways c = handlers_ways c.requires.stands

pub branch_all-requires-clause-ways : goal.branch_all-requires-clause-ways
branch_all-requires-clause-ways c = branches_ways c.requires.stands c.in_ok-take_effect.ensures.became

pub flow_to-requires-clause-flows : goal.flow_to-requires-clause-flows
flow_to-requires-clause-flows c = (falls_reaches c.requires.stands c.in_ok-take_effect.ensures.became (sym c.falls_through.ensures ∙ c.if-falls_through.true)).flows

-- ---- what was visited

pub returns-then-falls_through-clause-visited : goal.returns-then-falls_through-clause-visited
returns-then-falls_through-clause-visited c =
    let falls = sym c.falls_through.ensures ∙ c.if-falls_through.true in
    if_ok c.flow_to.result _ _ c.flow_to.ensures.taken (λ on fallen. visited_on c.requires.stands c.in_ok-take_effect.ensures.became c.in_ok-handle_all.ensures.taken c.in_ok-branch_all.ensures.taken falls on fallen)

pub returns-else-falls_through-clause-visited : goal.returns-else-falls_through-clause-visited
returns-else-falls_through-clause-visited c =
    visited_ends c.requires.stands c.in_ok-take_effect.ensures.became c.in_ok-handle_all.ensures.taken c.in_ok-branch_all.ensures.taken (sym c.falls_through.ensures ∙ c.if-falls_through.false)

pub returns-then-falls_through-clause-seen : goal.returns-then-falls_through-clause-seen
returns-then-falls_through-clause-seen c =
    if_ok c.flow_to.result _ _ c.flow_to.ensures.taken (λ on fallen.
    seen_on c.args.flow.now c.handle_all.new.seen c.in_ok-branch_all.ensures.taken.work fallen.grown.risen
    (seen_on c.args.flow.now c.handle_all.new.seen c.in_ok-handle_all.ensures.taken.work c.in_ok-branch_all.ensures.taken.grown.risen
    c.in_ok-handle_all.ensures.seen))

pub returns-else-falls_through-clause-seen : goal.returns-else-falls_through-clause-seen
returns-else-falls_through-clause-seen c =
    seen_on c.args.flow.now c.handle_all.new.seen c.in_ok-handle_all.ensures.taken.work c.in_ok-branch_all.ensures.taken.grown.risen
    c.in_ok-handle_all.ensures.seen

-- ---- what is refused

pub returns-in_err-handle_all-clause-refused : goal.returns-in_err-handle_all-clause-refused
returns-in_err-handle_all-clause-refused c =
    let p = err_from_is_err_and c.from_residual.result c.from_residual.ensures.1 in
    rw (p.1, p.2) (refuses_on c.in_err-handle_all.ensures.refused (λ typing carrier under bears. (under, handled_there c.requires.stands bears)) (told_uncaught c.requires.stands))

pub returns-in_err-take_effect-clause-refused : goal.returns-in_err-take_effect-clause-refused
returns-in_err-take_effect-clause-refused c =
    let p = err_from_is_err_and c.from_residual-in_err-take_effect.result c.from_residual-in_err-take_effect.ensures.1 in
    let became = c.in_err-take_effect.ensures.became in
    rw (p.1, p.2) (refused_for (record { denied = λ typing carrier under bears. has_effect c.requires.stands bears _ became; told = told_effect c.requires.stands _ became }))

pub returns-in_err-branch_all-clause-refused : goal.returns-in_err-branch_all-clause-refused
returns-in_err-branch_all-clause-refused c =
    let p = err_from_is_err_and c.from_residual-in_err-branch_all.result c.from_residual-in_err-branch_all.ensures.1 in
    let became = c.in_ok-take_effect.ensures.became in
    rw (p.1, p.2) (refuses_on c.in_err-branch_all.ensures.refused (λ typing carrier under bears.
    let goes = goes_with c.requires.stands bears became in
    (c.in_ok-handle_all.ensures.taken.least typing under goes.handled, goes.branches)) (told_unled c.requires.stands became))

pub returns-then-falls_through-clause-refused : goal.returns-then-falls_through-clause-refused
returns-then-falls_through-clause-refused c =
    let falls = sym c.falls_through.ensures ∙ c.if-falls_through.true in
    let became = c.in_ok-take_effect.ensures.became in
    if_err c.flow_to.result _ _ c.flow_to.ensures.refused (λ stop refused.
    refuses_on refused (λ typing carrier under bears.
    (under_visited c.requires.stands became c.in_ok-handle_all.ensures.taken c.in_ok-branch_all.ensures.taken under bears, (goes_with c.requires.stands bears became).falls falls))
    (told_fallen c.requires.stands became falls c.in_ok-branch_all.ensures.taken.work))
