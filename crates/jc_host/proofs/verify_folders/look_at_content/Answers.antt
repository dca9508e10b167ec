use Rattle.std.proofs.Common.{ℕ, Bool, true, List, subst}
use Rattle.jc_host.specs.PrivateVerify.{MayBeLost}
use Rattle.jc_host.proofs.Jobs.{replaceable}
use Rattle.jc_host.proofs.verify_folders.look_at_content.Goals as goal

pub returns-then-branch-clause-place : goal.returns-then-branch-clause-place
returns-then-branch-clause-place g c =
    let lost : MayBeLost c.deref.result.now true =
    subst (λ (b : Bool). MayBeLost c.deref.result.now b) c.if-branch.true c.in_ok-may_be_lost.ensures in
    replaceable (g.F.Files.holds c.args.files.now c.args.path.now) c.in-Ok.bytes.items c.in-Ok.ensures.read.held
    (subst (λ (bytes : List ℕ). MayBeLost bytes true) c.deref.ensures.value lost)
