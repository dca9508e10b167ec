-- Walks up the superclasses.
use Rattle.std.proofs.Common.{◌≡◌, ℕ, suc, ◌+◌, ◌-◌, ◌<◌, ◌≤◌, refl, arith}
use Rattle.jc_classes.specs.Walk.{most_classes}

pub most_is : most_classes ≡ 17_085
unfolding most_classes
most_is = refl

-- one step of the whole walk
pub one_less : (counter : ℕ) → counter < 17_085 → most_classes - counter ≡ suc (most_classes - (counter + 1))
one_less counter h = omega (arith, most_is)

pub all_left : most_classes - 0 ≡ most_classes
all_left = omega arith

pub none_left : (counter : ℕ) → 17_085 ≤ counter → most_classes - counter ≡ 0
none_left counter h = omega (arith, most_is)
