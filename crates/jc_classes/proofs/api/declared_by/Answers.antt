use Rattle.std.proofs.Common.{ap, sym, ◌∙◌}
use Rattle.std.specs.Option.{option_map}
use Rattle.jc_api.specs.Member.{shown}
use Rattle.jc_classes.proofs.Numbering.{few_parameters}
use Rattle.jc_classes.proofs.api.declared_by.Goals as goal

pub returns-then-number-clause-few : goal.returns-then-number-clause-few
returns-then-number-clause-few c = few_parameters c.args.number c.in_ok-member.member (sym c.from_number.ensures ∙ ap (option_map shown) c.in_ok-member.was)
