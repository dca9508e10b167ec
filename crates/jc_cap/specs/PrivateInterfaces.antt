-- Private. A superinterface takes two bytes. The lemma stands here, since the row's law takes it from specs alone.
use Rattle.std.specs.Prelude.{◌∷◌}
use Rattle.std.proofs.Common.{ap, sym, arith}
use Rattle.jc_base.specs.Cursor.{Read}
use Rattle.jc_base.specs.Rows.{HasSize}
use Rattle.jc_base.proofs.Binding.{the_ok}
use Rattle.jc_cap.specs.declared.interfaces.Superinterface.{Superinterface}
use Rattle.jc_cap.specs.Interfaces.{next_superinterface}

pub superinterface_has_size : HasSize 2 next_superinterface
unfolding next_superinterface
superinterface_has_size (a ∷ b ∷ bytes) x e =
    (ap (λ (r : Read Superinterface). r.rest) (sym (the_ok _ x e)), omega arith)
superinterface_has_size _ x e = absurd cc
