use Rattle.jc_interp.proofs.image.offsets_are_known.Goals as goal

pub returns : goal.returns
returns c = λ shape is. c.static_fields_have_own_offsets.ensures _ _ _ shape c.body.ensures.known.loaded is
