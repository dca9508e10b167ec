use Rattle.std.proofs.Common.{◌≤◌, length, sym, subst}
use Rattle.jc_cap_desc.specs.Shape.{Shape}
use Rattle.jc_api.specs.declared.class.ApiPackage.TheVariants.{Lang, Framework}
use Rattle.jc_classes.proofs.Numbering.{few_classes}
use Rattle.jc_classes.specs.Limits.{most_classes_of_one}
use Rattle.jc_classes.proofs.table.ClassTable.new.Goals as goal

pub put_package-requires-clause-few : goal.put_package-requires-clause-few
put_package-requires-clause-few c = subst (λ (s : Shape). length s.classes ≤ most_classes_of_one) (sym c.in_ok-lang.ensures) (few_classes c.args.binding.now Lang)

pub put_package-requires-2-clause-few : goal.put_package-requires-2-clause-few
put_package-requires-2-clause-few c = subst (λ (s : Shape). length s.classes ≤ most_classes_of_one) (sym c.in_ok-framework.ensures) (few_classes c.args.binding.now Framework)
