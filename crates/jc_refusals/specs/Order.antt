-- The ranges of the refusals' numbers.
use Rattle.std.specs.Prelude.{ℕ, ◌≤◌}
use Rattle.jc_base.specs.Fault.{number_of}
use Rattle.jc_base.specs.declared.fault.LoadFault.{LoadFault}

-- a refusal's number is in a range
pub record IsBetween (least most : ℕ) (fault : LoadFault) : Type 0 where
  pub from : least ≤ number_of fault
  pub to : number_of fault ≤ most
