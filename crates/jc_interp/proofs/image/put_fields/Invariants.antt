use Rattle.std.proofs.Common.{◌≡◌, drop}
use Rattle.jc_interp.specs.PrivateImage.{with_fields}
use Rattle.jc_interp.proofs.image.put_fields.Given as goal

-- the words so far, with those of the fields that are left
abbrev pub invariant-loop-field : goal.invariant-loop-field
invariant-loop-field l =
    with_fields l.objects l.statics l.words (drop l.field-index l.fields)
    ≡ with_fields l.objects l.statics l.fn.words l.fields
