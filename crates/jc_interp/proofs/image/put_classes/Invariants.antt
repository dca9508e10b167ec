use Rattle.std.proofs.Common.{◌≡◌, drop}
use Rattle.jc_interp.specs.PrivateImage.{with_classes}
use Rattle.jc_interp.proofs.image.put_classes.Given as goal

-- the words so far, with those of the classes that are left
abbrev pub invariant-loop-class : goal.invariant-loop-class
invariant-loop-class l =
    with_classes l.objects l.statics l.words (drop l.class-index l.classes)
    ≡ with_classes l.objects l.statics l.fn.words l.classes
