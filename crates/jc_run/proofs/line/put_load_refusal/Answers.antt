use Rattle.jc_run.proofs.line.put_load_refusal.Goals as goal

pub returns-in-MissingComponent-clause-items : goal.returns-in-MissingComponent-clause-items
returns-in-MissingComponent-clause-items c =
    rw c.in-MissingComponent.is (rw c.from.ensures at c.put_placed.ensures.items)

pub returns-in-RepeatedComponent-clause-items : goal.returns-in-RepeatedComponent-clause-items
returns-in-RepeatedComponent-clause-items c =
    rw c.in-RepeatedComponent.is
    (rw c.from-in-RepeatedComponent.ensures at c.put_placed-in-RepeatedComponent.ensures.items)

pub returns-in-IntPackage-clause-items : goal.returns-in-IntPackage-clause-items
returns-in-IntPackage-clause-items c =
    rw c.in-IntPackage.is c.put_bytes-in-IntPackage.ensures.items

pub returns-in-Malformed-clause-items : goal.returns-in-Malformed-clause-items
returns-in-Malformed-clause-items c =
    rw c.in-Malformed.is (rw c.from-in-Malformed.ensures at c.put_placed-in-Malformed.ensures.items)

pub returns-in-MissingImport-clause-items : goal.returns-in-MissingImport-clause-items
returns-in-MissingImport-clause-items c =
    rw c.in-MissingImport.is (rw c.from-in-MissingImport.ensures at c.put_placed-in-MissingImport.ensures.items)

pub returns-in-Unresolved-clause-items : goal.returns-in-Unresolved-clause-items
returns-in-Unresolved-clause-items c =
    rw c.in-Unresolved.is c.put_placed-in-Unresolved.ensures.items

pub returns-in-TypeMismatch-clause-items : goal.returns-in-TypeMismatch-clause-items
returns-in-TypeMismatch-clause-items c =
    rw c.in-TypeMismatch.is c.put_placed-in-TypeMismatch.ensures.items

pub returns-in-BadStatic-clause-items : goal.returns-in-BadStatic-clause-items
returns-in-BadStatic-clause-items c =
    rw c.in-BadStatic.is c.put_placed-in-BadStatic.ensures.items

pub returns-in-DuplicatePackage-clause-items : goal.returns-in-DuplicatePackage-clause-items
returns-in-DuplicatePackage-clause-items c =
    rw c.in-DuplicatePackage.is c.put_bytes-in-DuplicatePackage.ensures.items

pub returns-in-BadCertificate-clause-items : goal.returns-in-BadCertificate-clause-items
returns-in-BadCertificate-clause-items c =
    rw c.in-BadCertificate.is c.put_bytes-in-BadCertificate.ensures.items
