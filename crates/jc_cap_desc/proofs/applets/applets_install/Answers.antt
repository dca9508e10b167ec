use Rattle.std.proofs.Common.{◌∙◌}
use Rattle.jc_cap_desc.proofs.Installing.{same_all}
use Rattle.jc_cap_desc.proofs.applets.applets_install.Goals as goal

pub returns : goal.returns
returns c records types holds is =
    c.are_within.ensures
    ∙ same_all _ _
    (λ a. c.install_offsets-installers.ensures records types holds is a.install)
    c.args.applets.now
