use Rattle.jc_cap_desc.proofs.Bodied.{bodies_in, installs_in}
use Rattle.jc_cap_desc.proofs.Differing.{stand_apart_in}
use Rattle.jc_cap_desc.proofs.Headed.{headed_in}
use Rattle.jc_cap_desc.proofs.Whole.{whole_in}
use Rattle.jc_cap_desc.proofs.package.read_package.Goals as goal

pub returns-clause-package : goal.returns-clause-package
returns-clause-package c = c.package_in.ensures.package

pub returns-clause-apart : goal.returns-clause-apart
returns-clause-apart c =
    let is = c.package_in.ensures in
    stand_apart_in c.args.parts.now c.package_in.result is.package is.short

pub returns-clause-headers : goal.returns-clause-headers
returns-clause-headers c = headed_in c.args.parts.now c.package_in.result c.package_in.ensures.package

pub returns-clause-bodies : goal.returns-clause-bodies
returns-clause-bodies c = bodies_in c.args.parts.now c.package_in.result c.package_in.ensures.package

pub returns-clause-installs : goal.returns-clause-installs
returns-clause-installs c = installs_in c.args.parts.now c.package_in.result c.package_in.ensures.package

pub returns-clause-whole : goal.returns-clause-whole
returns-clause-whole c = whole_in c.args.parts.now c.package_in.result c.package_in.ensures.package
