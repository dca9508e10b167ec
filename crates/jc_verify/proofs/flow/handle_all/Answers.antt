use Rattle.std.proofs.Common.{◌≡◌, ◌≤◌, [], List, length, ap, refl, subst, sym, ◌∙◌, arith}
use Rattle.std.specs.List.{AllByRecursion, Contains}
use Rattle.std.proofs.lemmas.Bool.{eqb-true}
use Rattle.std.proofs.lemmas.Option.{slice_get_read}
use Rattle.std.proofs.lemmas.Result.{err_from_is_err_and}
use Rattle.jc_check.specs.Method.{CheckedHandler}
use Rattle.jc_check.specs.Package.{package_rules}
use Rattle.jc_check.specs.Typing.{HandlerLeads}
use Rattle.jc_verify.proofs.Denying.{refuses_on}
use Rattle.jc_verify.proofs.Lists.{none_left}
use Rattle.jc_verify.proofs.Passing.{all_at, contains_at}
use Rattle.jc_verify.proofs.Seeing.{seen_by, seen_on, seen_then}
use Rattle.jc_verify.proofs.Taking.{passed_all, passed_none, passed_one, taken_none}
use Rattle.jc_verify.proofs.flow.handle_all.Goals as goal

pub returns-then-is_empty-clause-taken : goal.returns-then-is_empty-clause-taken
returns-then-is_empty-clause-taken c =
    let count : length c.handlers-handlers.result.now ≡ 0 =
    eqb-true _ 0 (sym c.is_empty.ensures ∙ c.if-is_empty.true) in
    let none : c.args.flow.now.method.now.handlers ≡ [] =
    sym c.handlers-handlers.ensures ∙ none_left c.handlers-handlers.result.now (omega (arith, count)) in
    let rules = package_rules c.args.flow.now.linked.now in
    taken_none c.requires.work (λ typing.
    subst (λ (hs : List CheckedHandler). AllByRecursion (HandlerLeads rules typing c.args.pc c.args.state.now.types) hs)
    (sym none) tt)

pub loop-index-init : goal.loop-index-init
loop-index-init c = record { passed = passed_none _ _ c.requires.work; caught = c.requires.room.caught }

pub loop-index-preserved : goal.loop-index-preserved
loop-index-preserved c =
    let handlers = c.handlers-handlers.result.now in
    let index = c.loop-index.index in
    let handler = c.index-handlers-index in
    let at = slice_get_read handlers (length handlers) index handler.result refl c.loop-index-test.true handler.is in
    record {
      passed = passed_one _ _ index handler.result at c.loop-index.invariant.passed c.in_ok-handle.ensures.taken;
      caught = c.handle.ensures.caught;
    }

pub handle-requires-clause-way : goal.handle-requires-clause-way
handle-requires-clause-way c = grind (arith, slice_get_read, length, all_at)

pub handle-requires-clause-seen : goal.handle-requires-clause-seen
handle-requires-clause-seen c =
    let handlers = c.handlers-handlers.result.now in
    let index = c.loop-index.index in
    let handler = c.index-handlers-index in
    let at = slice_get_read handlers (length handlers) index handler.result refl c.loop-index-test.true handler.is in
    let risen = c.loop-index.invariant.passed.grown.risen in
    seen_by c.args.flow.now c.args.seen.now index handler.result (rw c.handlers-handlers.ensures at at)
    (seen_on c.args.flow.now c.args.seen.now c.requires.work risen c.requires.seen)

pub returns-in_err-handle-clause-refused : goal.returns-in_err-handle-clause-refused
returns-in_err-handle-clause-refused c =
    let p = err_from_is_err_and c.from_residual.result c.from_residual.ensures.1 in
    let f = c.args.flow.now in
    let handlers = c.handlers-handlers.result.now in
    let index = c.loop-index.index in
    let handler = c.index-handlers-index in
    let at = slice_get_read handlers (length handlers) index handler.result refl c.loop-index-test.true handler.is in
    let among : Contains f.method.now.handlers handler.result =
    subst (λ (hs : List CheckedHandler). Contains hs handler.result) c.handlers-handlers.ensures
    (contains_at handlers index handler.result at) in
    let rules = package_rules f.linked.now in
    rw (p.1, p.2) (refuses_on c.in_err-handle.ensures.refused (λ typing carrier under leads.
    let lead : AllByRecursion (HandlerLeads rules typing c.args.pc c.args.state.now.types) handlers =
    rw c.handlers-handlers.ensures leads in
    (c.loop-index.invariant.passed.least typing under lead, all_at _ handlers index handler.result at lead))
    (λ reason u. record {
      h = u.h;
      class = u.class;
      is = subst (Contains f.method.now.handlers) (sym u.is) among;
      covered = u.covered;
      catches = u.catches;
      untaken = u.untaken;
    }))

pub returns-clause-seen : goal.returns-clause-seen
returns-clause-seen c =
    let f = c.args.flow.now in
    let t = c.args.state.now.types in
    let passed = rw c.handlers-handlers.ensures at c.loop-index.invariant.passed in
    let count = ap (λ (hs : List CheckedHandler). length hs) c.handlers-handlers.ensures in
    let end : length f.method.now.handlers ≤ c.loop-index.index = omega (arith, count, c.loop-index-test.false) in
    seen_then f c.note.new.self t (passed_all _ f.method.now.handlers c.loop-index.index end passed) c.in_ok-note.ensures.at (c.in_ok-note.ensures.locals ∙ c.locals-2.ensures)
