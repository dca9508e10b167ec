use Rattle.std.proofs.Common.{refl, ◌∙◌, arith}
use Rattle.std.proofs.lemmas.Result.{err_from_is_err_and}
use Rattle.jc_cert.specs.Cert.{rows}
use Rattle.jc_cert.proofs.Laws.{is_found, is_only, memory_only, never_refused}
use Rattle.jc_cert.proofs.reading.read.Goals as goal

pub returns-in_err-methods-clause-only : goal.returns-in_err-methods-clause-only
returns-in_err-methods-clause-only c = λ rs is text.
    let p = err_from_is_err_and c.from_residual.result c.from_residual.ensures.1 in
    let m = memory_only c.in_err-methods.field-0.0 c.args.bytes.now rs c.in_err-methods.ensures is text in
    rw (p.1, p.2, m) refl

pub returns-in_err-methods-clause-refused : goal.returns-in_err-methods-clause-refused
returns-in_err-methods-clause-refused c = λ refused rs is text.
    let p = err_from_is_err_and c.from_residual.result c.from_residual.ensures.1 in
    never_refused _ c.from_residual.result p.0 c.in_err-methods.field-0.0 p.1 p.2 (memory_only c.in_err-methods.field-0.0 c.args.bytes.now rs c.in_err-methods.ensures is text) refused

pub from_rows-requires : goal.from_rows-requires
from_rows-requires c = (is_found c.args.bytes.now (rows c.in_ok-methods.methods.items) (λ i. omega (arith, c.type_inv.bytes i)) c.in_ok-methods.ensures).0

pub returns-clause-found : goal.returns-clause-found
returns-clause-found c = rw c.from_rows.ensures (is_found c.args.bytes.now (rows c.in_ok-methods.methods.items) (λ i. omega (arith, c.type_inv.bytes i)) c.in_ok-methods.ensures)

pub returns-clause-only : goal.returns-clause-only
returns-clause-only c = λ rs is text. c.from_rows.ensures ∙ is_only c.args.bytes.now (rows c.in_ok-methods.methods.items) rs c.in_ok-methods.ensures is text
