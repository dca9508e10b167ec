use Rattle.std.proofs.Common.{ℕ, false, sym, true, ap, ◌∙◌}
use Rattle.jc_check.specs.Claim.{Claim}
use Rattle.jc_check.specs.declared.mark.ByteMark.{ByteMark}
use Rattle.jc_check.specs.declared.mark.ByteMark.TheVariants.{Holds}
use Rattle.jc_check.proofs.Unchanged.{still_held}
use Rattle.jc_check.proofs.pass.catch_changed.Goals as goal

pub returns-then-are_below_within : goal.returns-then-are_below_within
returns-then-are_below_within g c listing table seen caught agree was =
    let numbered : ℕ → ByteMark = λ n. Holds n in
    let mark = rw c.from.ensures at (sym c.mark_at.ensures ∙ c.in-Holds.is) ∙ ap numbered (sym c.from-in-Holds.ensures) in
    let claimed = c.deref.ensures.value ∙ ap (λ (k : Claim). k.locals) c.claim.view_is in
    let below = rw (c.locals.ensures, c.order.ensures, claimed) at c.are_below_within.ensures in
    still_held (g.R.CheckRules.rules c.args.rules.now) c.args.input.now listing seen c.args.state.now.types c.args.pc caught c.from-in-Holds.result c.index-input-from.result true table mark (λ held. sym c.if-are_below_within.true ∙ below seen agree held) was

pub returns-else-are_below_within : goal.returns-else-are_below_within
returns-else-are_below_within g c listing table seen caught agree was =
    let numbered : ℕ → ByteMark = λ n. Holds n in
    let mark = rw c.from.ensures at (sym c.mark_at.ensures ∙ c.in-Holds.is) ∙ ap numbered (sym c.from-in-Holds.ensures) in
    let claimed = c.deref.ensures.value ∙ ap (λ (k : Claim). k.locals) c.claim.view_is in
    let below = rw (c.locals.ensures, c.order.ensures, claimed) at c.are_below_within.ensures in
    still_held (g.R.CheckRules.rules c.args.rules.now) c.args.input.now listing seen c.args.state.now.types c.args.pc caught c.from-in-Holds.result c.index-input-from.result false table mark (λ held. sym c.if-are_below_within.false ∙ below seen agree held) was
