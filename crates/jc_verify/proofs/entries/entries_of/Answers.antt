use Rattle.std.proofs.Common.{rules, ◌≡◌, ◌≢◌, ◌≤◌, [], length, arith}
use Rattle.std.proofs.lemmas.Result.{IfErr-weaker, err_from_is_err_and}
use Rattle.jc_verify.proofs.Lists.{none_left}
use Rattle.jc_verify.proofs.Refusing.{never_refused, never_stopped}
use Rattle.jc_verify.proofs.Visiting.{if_ok}
use Rattle.jc_verify.proofs.Ending.{tells_astray, tells_handler, tells_undecoded}
use Rattle.jc_verify.specs.PrivateLive.{IsGround}
use Rattle.jc_verify.specs.MethodFault.{empty}
use Rattle.jc_verify.proofs.entries.entries_of.Goals as goal

pub returns-in_err-starts-clause-refused : goal.returns-in_err-starts-clause-refused
returns-in_err-starts-clause-refused c =
    let p = err_from_is_err_and c.from_residual.result c.from_residual.ensures.1 in
    let off = rw c.code-code.ensures at c.in_err-starts.ensures.refused in
    rw (p.1, p.2) (λ pc reason is rules decodes states k.
    never_stopped rules c.args.method.now states k c.listing_laws.ensures.all decodes c.in_err-starts.field-0.0 off pc
    reason is)

pub returns-clause-refused : goal.returns-clause-refused
returns-clause-refused c =
    let m = c.args.method.now in
    let found = rw c.code-code.ensures at c.in_ok-starts.ensures.ok in
    IfErr-weaker c.follow_all.result _ _ (λ fault off pc reason is rules decodes states k.
    never_refused rules m states k c.listing_laws.ensures.all decodes found.0 c.in_ok-starts.starts c.requires.short found.1 fault off pc reason is) c.follow_all.ensures.refused

pub returns-clause-found : goal.returns-clause-found
returns-clause-found c = grind (arith, rules, if_ok)

pub returns-in_err-starts-clause-told : goal.returns-in_err-starts-clause-told
returns-in_err-starts-clause-told c =
    let p = err_from_is_err_and c.from_residual.result c.from_residual.ensures.1 in
    let off = rw c.code-code.ensures at c.in_err-starts.ensures.refused in
    rw (p.1, p.2) (λ l. tells_undecoded l c.args.method.now c.in_err-starts.field-0.0 off)

pub returns-then-is_empty-clause-told : goal.returns-then-is_empty-clause-told
returns-then-is_empty-clause-told c =
    let short : length c.code-code.result.now ≤ 0 = search rules in
    let none : c.args.method.now.code ≡ [] = rw c.code-code.ensures at (none_left c.code-code.result.now short) in
    rw c.refusal.ensures (λ l. empty none)

pub returns-in_err-stand_handlers-clause-told : goal.returns-in_err-stand_handlers-clause-told
returns-in_err-stand_handlers-clause-told c =
    let p = err_from_is_err_and c.from_residual-in_err-stand_handlers.result c.from_residual-in_err-stand_handlers.ensures.1 in
    let m = c.args.method.now in
    let found = rw c.code-code.ensures at c.in_ok-starts.ensures.ok in
    let some : m.code ≢ [] = search rules in
    let told = rw c.handlers.ensures at c.in_err-stand_handlers.ensures.told in
    rw (p.1, p.2) (λ l. tells_handler l m found.0 c.in_ok-starts.starts found.1 some c.in_err-stand_handlers.field-0.0.pc c.in_err-stand_handlers.field-0.0.reason (told m.code found.0 found.1))

pub returns-clause-told : goal.returns-clause-told
returns-clause-told c =
    let m = c.args.method.now in
    let found = rw c.code-code.ensures at c.in_ok-starts.ensures.ok in
    let stand = rw c.handlers.ensures at c.in_ok-stand_handlers.ensures.ok in
    let ground : IsGround m found.0 c.in_ok-starts.starts = record { laws = c.listing_laws.ensures.all; short = c.requires.short; decoded = found.1; handlers = stand m.code found.0 found.1 } in
    IfErr-weaker c.follow_all.result _ _ (λ fault off l. tells_astray l m found.0 c.in_ok-starts.starts ground fault off) c.follow_all.ensures.refused
