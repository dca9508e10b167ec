use Rattle.std.proofs.Common.{◌≡◌, rules}
use Rattle.std.specs.IoError.{error_kind}
use Rattle.std.specs.declared.io.ErrorKind.TheVariants.{NotFound}
use Rattle.jc_host.specs.Verify.IsReplaceable.{absent}
use Rattle.jc_host.proofs.verify_folders.look_for_place.Goals as goal

pub returns-in-Err-clause-place : goal.returns-in-Err-clause-place
returns-in-Err-clause-place g c =
    let none : error_kind c.in-Err.error ≡ NotFound = search rules in
    absent c.in-Err.error c.in-Err.ensures.failing none
