use Rattle.std.proofs.Common.{arith}
use Rattle.jc_check.specs.Package.{package_rules}
use Rattle.jc_check.specs.Typing.{BranchLeads}
use Rattle.std.specs.Prelude.{pos}
use Rattle.std.specs.List.{AllByRecursion}
use Rattle.std.proofs.lemmas.Option.{slice_get-get_or}
use Rattle.std.proofs.lemmas.Result.{err_from_is_err_and}
use Rattle.jc_verify.proofs.Denying.{refuses_on}
use Rattle.jc_verify.proofs.Passing.{all_at, contains_at}
use Rattle.jc_verify.proofs.Reaching.{unled_in}
use Rattle.jc_verify.proofs.Taking.{passed_none, passed_one, taken_as}
use Rattle.jc_verify.proofs.Lying.{branch_at}
use Rattle.jc_verify.proofs.flow.branch_all.Goals as goal

pub loop-index-init : goal.loop-index-init
loop-index-init c = passed_none _ _ c.requires.work

pub loop-index-preserved : goal.loop-index-preserved
loop-index-preserved c =
    let at = slice_get-get_or c.targets-targets.result c.loop-index.index (pos 0) (omega (arith, c.loop-index-test.true, c.len-index-end.ensures)) in
    passed_one _ _ c.loop-index.index _ at c.loop-index.invariant (taken_as c.in_ok-branch_to.ensures.taken (λ typing leads. leads _ at) (λ typing leads place is. branch_at c.targets-targets.result c.loop-index.index at is leads))

pub branch_to-requires-clause-way : goal.branch_to-requires-clause-way
branch_to-requires-clause-way c place e = grind (arith, all_at)

pub returns-in_err-branch_to-clause-refused : goal.returns-in_err-branch_to-clause-refused
returns-in_err-branch_to-clause-refused c =
    let p = err_from_is_err_and c.from_residual.result c.from_residual.ensures.1 in
    let targets = c.targets-targets.result in
    rw (p.1, p.2) (refuses_on c.in_err-branch_to.ensures.refused (λ typing carrier under leads.
    let lead : AllByRecursion (BranchLeads (package_rules c.args.flow.now.linked.now) typing c.args.state.now.types) targets = rw c.targets-targets.ensures leads in
    (c.loop-index.invariant.least typing under lead, λ place e. all_at _ targets c.loop-index.index place e lead)) (unled_in c.args.flow.now.linked.now c.args.flow.now.method.now _ _ c.args.state.now.types (λ place e.
    rw c.targets-targets.ensures at (contains_at targets c.loop-index.index place e))))
