use Rattle.std.proofs.Common.{arith}
use Rattle.jc_base.specs.PackageInfo.{next_package_info}
use Rattle.jc_base.specs.Tag.{import_tag}
use Rattle.jc_cap.proofs.Few.{few_whole}
use Rattle.jc_cap.proofs.imports.all_imports.Goals as goal

pub returns-clause-few : goal.returns-clause-few
returns-clause-few c = few_whole (next_package_info import_tag) c.from.result c.args.cursor _ c.whole.result (omega (arith, c.from.ensures, c.ranges.count.fits)) c.whole.ensures
