use Rattle.jc_cap_desc.proofs.Joined.{all_read, refusal}
use Rattle.std.proofs.Common.{◌∙◌}
use Rattle.jc_cap_desc.proofs.package.package_in.Goals as goal

pub joined-requires : goal.joined-requires
joined-requires c =
    let found = c.read_components-found in
    let is = all_read c.args.parts.now found.result c.package_fault.result found.ensures.read found.ensures.few
    c.package_fault.ensures c.in-None.is in
    record { records = is.few; imports = found.ensures.imports; typed = is.typed; rows = is.rows }

pub returns-in-Some-clause-package : goal.returns-in-Some-clause-package
returns-in-Some-clause-package c =
    let found = c.read_components-found in
    refusal c.args.parts.now found.result c.package_fault.result c.in-Some.fault found.ensures.read
    c.package_fault.ensures c.in-Some.is

pub returns-in-None-clause-package : goal.returns-in-None-clause-package
returns-in-None-clause-package c =
    let found = c.read_components-found in
    let is = all_read c.args.parts.now found.result c.package_fault.result found.ensures.read found.ensures.few
    c.package_fault.ensures c.in-None.is in
    c.joined.ensures ∙ is.read
