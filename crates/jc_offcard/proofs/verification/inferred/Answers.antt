use Rattle.std.proofs.Common.{subst, sym}
use Rattle.jc_verify.specs.Refusal.{IsRefusal}
use Rattle.jc_offcard.specs.Verify.{IsCarriedByNone}
use Rattle.jc_offcard.proofs.Verifying.{carried_by_none}
use Rattle.jc_offcard.proofs.verification.inferred.Goals as goal

pub returns-in-Err-NoCertificate : goal.returns-in-Err-NoCertificate
returns-in-Err-NoCertificate c =
    let l = c.args.linked.now in
    let method = c.in-Err-NoCertificate.method in
    let fault = c.in-Err-NoCertificate.fault in
    let refused = subst (IsRefusal l) c.in-Err-NoCertificate.field-0-is c.in-Err-NoCertificate.ensures.refused in
    subst (IsCarriedByNone l _) (sym c.in-Err-NoCertificate.fault-is) (subst (λ method. IsCarriedByNone l method fault) (sym c.in-Err-NoCertificate.method-is) (carried_by_none l method fault refused))
