use Rattle.jc_interp.proofs.LoadedAgree.{load_agrees}
use Rattle.jc_interp.proofs.laws.loads_stay_in_agreement.Goals as goal

pub returns : goal.returns
returns g c = λ s p q u kept m l image h.
    load_agrees c.classes_have_numbers.ensures.kept c.classes_have_numbers.ensures.object
    c.classes_have_numbers.ensures.named s p q u kept m l image h
