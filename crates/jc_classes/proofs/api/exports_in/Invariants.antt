use Rattle.std.proofs.Common.{◌≡◌}
use Rattle.jc_classes.specs.Api.{each_below, export_of}
use Rattle.jc_classes.proofs.api.exports_in.Given as goal

abbrev pub invariant-loop-token : goal.invariant-loop-token
invariant-loop-token l = l.rows.items ≡ each_below l.token (export_of l.binding l.which)
