use Rattle.std.proofs.Common.{rules, ◌≡◌, ℕ, Some, ap, pos, slice_get, ◌∙◌}
use Rattle.std.proofs.lemmas.Option.{slice_get-get_or}
use Rattle.std.proofs.lemmas.Result.{err_from_is_err_and}
use Rattle.jc_verify.proofs.Denying.{falls_in, refuses_on}
use Rattle.jc_verify.proofs.Lying.{branch_here, branch_on, branch_way}
use Rattle.jc_verify.proofs.Reaching.{meets_reached}
use Rattle.jc_verify.proofs.Taking.{taken_as}
use Rattle.jc_verify.proofs.flow.branch_to.Goals as goal

pub flow_to-requires-clause-flows : goal.flow_to-requires-clause-flows
flow_to-requires-clause-flows c =
    let at : slice_get c.args.targets.now c.args.index ≡ Some (pos c.unsigned_abs.result) = search rules in
    (branch_way (c.requires.way (pos c.unsigned_abs.result) at)).flows

pub returns-then-target-lt0-clause-refused : goal.returns-then-target-lt0-clause-refused
returns-then-target-lt0-clause-refused c =
    let never : (pc : ℕ) → slice_get c.args.targets.now c.args.index ≡ Some (pos pc) → ⊥ = search rules in
    let at = slice_get-get_or c.args.targets.now c.args.index (pos 0) c.requires.index in
    let way = c.requires.way _ at in
    absurd (never way.pc (at ∙ ap Some way.is))

pub returns-clause-taken : goal.returns-clause-taken
returns-clause-taken c =
    let at : slice_get c.args.targets.now c.args.index ≡ Some (pos c.unsigned_abs.result) = search rules in
    let way = branch_way (c.requires.way (pos c.unsigned_abs.result) at) in
    taken_as c.in_ok-flow_to.ensures.taken (λ typing falls place is. branch_on c.args.targets.now c.args.index at is (falls_in c.args.flow.now _ way.place falls)) (λ typing leads. branch_here (leads (pos c.unsigned_abs.result) at))

pub returns-in_err-flow_to-clause-refused : goal.returns-in_err-flow_to-clause-refused
returns-in_err-flow_to-clause-refused c =
    let p = err_from_is_err_and c.from_residual.result c.from_residual.ensures.1 in
    let at : slice_get c.args.targets.now c.args.index ≡ Some (pos c.unsigned_abs.result) = search rules in
    let work = c.requires.work in
    rw (p.1, p.2) (refuses_on c.in_err-flow_to.ensures.refused (λ typing carrier under leads. (under, branch_here (leads (pos c.unsigned_abs.result) at))) (λ reason meets. record {
      pc = c.unsigned_abs.result;
      is = at;
      meets = meets_reached c.args.flow.now.linked.now c.args.flow.now.method.now work.sound.laws c.args.flow.now.numbers.now c.args.places.now work.numbered work.reached c.unsigned_abs.result c.args.state.now.types reason meets;
    }))
