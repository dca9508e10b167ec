use Rattle.std.proofs.Common.{arith, ◌∙◌, sym, ap, Some}
use Rattle.jc_script.specs.declared.fault.LineFault.{LineFault}
use Rattle.jc_script.specs.declared.finding.Form.TheVariants.{Name}
use Rattle.jc_script.proofs.Faulting.{fault_here, goes_on, no_more, none_left, one_too_many}
use Rattle.jc_script.proofs.finding.words_fault.Goals as goal

pub returns-in_default : goal.returns-in_default
returns-in_default c =
    c.missing_fault.ensures
    ∙ sym (c.loop-form.invariant.0
    ∙ none_left c.args.forms.now c.loop-form.form-index Name c.loop-form-test.true c.loop-form.left c.loop-form.at _
    c.in_default.ensures.none.0)

pub word_fault-fault-requires : goal.word_fault-fault-requires
word_fault-fault-requires c = grind (arith, c.loop-form.invariant.1, c.in-Some.ensures.some)

pub returns-then-is_some : goal.returns-then-is_some
returns-then-is_some c =
    sym (c.loop-form.invariant.0
    ∙ fault_here c.args.forms.now c.loop-form.form-index _ c.loop-form-test.true c.loop-form.left c.loop-form.at _ _ _ _
    c.in-Some.ensures.some c.word_fault-fault.ensures c.if-is_some.ensures)

pub overflow_add-at-in-loop-form : goal.overflow_add-at-in-loop-form
overflow_add-at-in-loop-form c = grind (arith, c.loop-form.invariant.1, c.in-Some.ensures.some)

pub loop-form-preserved : goal.loop-form-preserved
loop-form-preserved c = (
  c.loop-form.invariant.0
      ∙ goes_on c.args.forms.now c.loop-form.form-index _ c.loop-form-test.true c.loop-form.left c.loop-form.at
      _ _ _ _ _
      c.in-Some.ensures.some c.saturating_sub-left.ensures c.word_fault-fault.ensures c.if-is_some.ensures,
  grind (arith, c.loop-form.invariant.1, c.in-Some.ensures.some),
)

pub returns-in-Some-next : goal.returns-in-Some-next
returns-in-Some-next c =
    ap (λ (f : LineFault). Some f) c.extra_fault.ensures
    ∙ sym (c.loop-form.invariant.0
    ∙ one_too_many c.args.forms.now c.loop-form.form-index (grind (arith, c.loop-form-test.false)) c.loop-form.left
    c.loop-form.at _ _ _ c.in-Some-next.ensures.some)

pub returns-in-None : goal.returns-in-None
returns-in-None c =
    sym (c.loop-form.invariant.0
    ∙ no_more c.args.forms.now c.loop-form.form-index (grind (arith, c.loop-form-test.false)) c.loop-form.left
    c.loop-form.at _ c.in-None.ensures.none.0)
