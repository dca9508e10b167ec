use Rattle.std.proofs.Common.{◌≡◌, ◌++◌, ◌-◌}
use Rattle.std.specs.Prelude.{replicate}
use Rattle.jc_types.specs.declared.ty.Ty.TheVariants.{Top}
use Rattle.jc_types.proofs.state.push_tops.Given as goal

abbrev pub invariant-loop : goal.invariant-loop
invariant-loop l = l.types.items ++ replicate (l.count - l.counter) Top ≡ l.fn.types.items ++ replicate l.count Top
