use Rattle.std.proofs.Common.{rules, ◌≡◌, Some}
use Rattle.jc_check.proofs.Names.{another}
use Rattle.jc_check.specs.Package.{class_of_name}
use Rattle.jc_check.specs.PrivateNames.{spelled_name}
use Rattle.jc_check.proofs.class_names.name_of_class.Goals as goal

pub returns-else-eq-clause-none : goal.returns-else-eq-clause-none
returns-else-eq-clause-none c =
    let spelled : spelled_name c.args.table.now c.args.class ≡ Some c.in_ok-name.name = search rules in
    let stands : class_of_name c.args.table.now c.in_ok-name.name ≡ Some c.in_ok-class_of_name.field-0 = search rules in
    let differs : c.in_ok-class_of_name.field-0 ≡ c.args.class → ⊥ = search rules in
    λ e. another c.args.table.now c.args.class c.in_ok-class_of_name.field-0 c.in_ok-name.name c.requires spelled stands differs
