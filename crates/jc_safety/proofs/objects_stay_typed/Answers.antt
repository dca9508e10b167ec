use Rattle.jc_safety.proofs.Grounding.{grounded}
use Rattle.jc_safety.proofs.Zeroed.{byte_beside, zeroed_beside}
use Rattle.jc_safety.proofs.objects_stay_typed.Goals as goal

pub returns : goal.returns
returns g c =
    let laws = c.laws_below.ensures in
    let words = c.operations_on_words_keep_types.ensures in record {
      zeroed = λ s may m typed test. zeroed_beside s (grounded laws words s may) m typed test;
      byte = λ s may m typed number index byte o found array small.
          byte_beside s (grounded laws words s may) m typed number index byte o found array small;
    }
