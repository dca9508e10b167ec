-- Private. A handler takes eight bytes. The lemma stands here, since the row's law takes it from specs alone.
use Rattle.std.specs.Prelude.{◌∷◌}
use Rattle.std.proofs.Common.{ap, sym, arith}
use Rattle.jc_base.specs.Cursor.{Read}
use Rattle.jc_base.specs.Rows.{HasSize}
use Rattle.jc_base.proofs.Binding.{the_ok}
use Rattle.jc_cap.specs.Handler.{next_handler}
use Rattle.jc_cap.specs.declared.handler.Handler.{Handler}

pub handler_has_size : HasSize 8 next_handler
unfolding next_handler
handler_has_size (a ∷ b ∷ c ∷ d ∷ e ∷ f ∷ g ∷ h ∷ bytes) x is =
    (ap (λ (r : Read Handler). r.rest) (sym (the_ok _ x is)), omega arith)
handler_has_size _ x is = absurd cc
