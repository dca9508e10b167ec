use Rattle.std.proofs.Common.{◌≡◌, ◌+◌, ◌-◌, ◌<◌, true, false, sym, ap, subst, ◌∙◌, arith}
use Rattle.std.specs.List.{list_any, range_with_len}
use Rattle.jc_link.specs.Inherited.{leaves_at, leaves_package_abstract}
use Rattle.jc_link.proofs.Looking.{left_at}
use Rattle.jc_link.proofs.Tokens.{all_package, fails, leaves_none, passes, rest_fails}
use Rattle.jc_link.proofs.inherited.leaves_package_abstract.Goals as goal

pub returns-then-count-eq0 : goal.returns-then-count-eq0
returns-then-count-eq0 c =
    rest_fails (leaves_at c.args.table.now c.args.class c.args.asker) _ 128 256
    (ap (list_any (leaves_at c.args.table.now c.args.class c.args.asker)) all_package)
    (λ m least less. leaves_none c.args.table.now c.args.class c.args.asker c.visible_tokens-count.result
    c.visible_tokens-count.ensures.none m (omega (arith, c.if-count-eq0.true, least)) less)

pub loop-place-init : goal.loop-place-init
loop-place-init c = ap (list_any (leaves_at c.args.table.now c.args.class c.args.asker)) all_package

pub returns-then-is_left : goal.returns-then-is_left
returns-then-is_left c =
    let most = c.visible_tokens-count.ensures.most in
    let less : c.loop-place.place < 128 = omega (arith, c.loop-place-test.true, most) in
    passes (leaves_at c.args.table.now c.args.class c.args.asker) _ (128 + c.loop-place.place) 256
    c.loop-place.invariant (omega (arith, less))
    (left_at _ _ _ _ _ true c.visible_methods-methods.ensures less (sym c.at.ensures)
    (sym c.is_left.ensures ∙ c.if-is_left.true))

pub loop-place-preserved : goal.loop-place-preserved
loop-place-preserved c =
    let most = c.visible_tokens-count.ensures.most in
    let less : c.loop-place.place < 128 = omega (arith, c.loop-place-test.true, most) in
    let further : 128 + c.loop-place.place + 1 ≡ 128 + (c.loop-place.place + 1) = omega arith in
    subst
    (λ n. list_any (leaves_at c.args.table.now c.args.class c.args.asker) (range_with_len n (256 - n))
    ≡ leaves_package_abstract c.args.table.now c.args.class c.args.asker) further
    (fails (leaves_at c.args.table.now c.args.class c.args.asker) _ (128 + c.loop-place.place) 256
    c.loop-place.invariant (omega (arith, less))
    (left_at _ _ _ _ _ false c.visible_methods-methods.ensures less (sym c.at.ensures)
    (sym c.is_left.ensures ∙ c.if-is_left.false)))

pub returns : goal.returns
returns c =
    rest_fails (leaves_at c.args.table.now c.args.class c.args.asker) _ (128 + c.loop-place.place) 256
    c.loop-place.invariant
    (λ m least less. leaves_none c.args.table.now c.args.class c.args.asker c.visible_tokens-count.result
    c.visible_tokens-count.ensures.none m (omega (arith, c.loop-place-test.false, least)) less)
