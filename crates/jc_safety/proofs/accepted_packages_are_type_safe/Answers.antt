use Rattle.jc_safety.proofs.ApiMembers.{have_members}
use Rattle.jc_safety.proofs.Grounding.{grounded}
use Rattle.jc_safety.proofs.Starting.{called_safely, finds_method, first_typed}
use Rattle.jc_safety.proofs.Stepping.{runs_safely, steps_safely}
use Rattle.jc_safety.proofs.accepted_packages_are_type_safe.Goals as goal

pub returns : goal.returns
returns g c =
    let laws = c.laws_below.ensures in
    let words = c.operations_on_words_keep_types.ensures in record {
      steps = λ s may m typed.
          let ground = grounded laws words s may in steps_safely s ground (have_members s ground) m typed;
      runs = λ s may n m typed.
          let ground = grounded laws words s may in runs_safely s ground (have_members s ground) n m typed;
      calls = λ s may n start typed.
          let ground = grounded laws words s may in called_safely s ground (have_members s ground) start n typed;
      first = λ s may start place can beside.
          let ground = grounded laws words s may in first_typed s ground (have_members s ground) start place can beside;
      members = λ s may start beside member object call.
          let ground = grounded laws words s may in
          finds_method s ground (have_members s ground) start beside member object call;
    }
