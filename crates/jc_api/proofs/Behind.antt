-- What is done behind a reading of lines.
use Rattle.std.proofs.Common.{Result, ok_or}
use Rattle.jc_base.specs.Results.{◌>>=◌}
use Rattle.jc_api.specs.Bound.{Bound}
use Rattle.jc_api.specs.Draft.{whole_of}
use Rattle.jc_api.specs.declared.fault.BindingFault.{BindingFault}
use Rattle.jc_api.specs.declared.fault.BindingFault.TheVariants.{Missing}
use Rattle.jc_api.specs.declared.draft.Draft.{Draft}

abbrev pub whole_behind : Result Draft BindingFault → Result Bound BindingFault
whole_behind r = r >>= λ draft. ok_or (whole_of draft) Missing
