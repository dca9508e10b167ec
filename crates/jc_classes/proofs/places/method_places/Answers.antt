use Rattle.std.proofs.Common.{◌≡◌, ◌-◌, suc, subst, drop, arith, ℕ}
use Rattle.std.specs.Option.{option_and_then}
use Rattle.jc_classes.proofs.Placing.{class_more}
use Rattle.jc_classes.specs.PrivatePlaces.{place_at, first_method, led_to}
use Rattle.jc_classes.proofs.places.method_places.Goals as goal

pub loop-left-preserved : goal.loop-left-preserved
loop-left-preserved c =
    let one : c.loop-left.left ≡ suc (c.loop-left.left - 1) = omega (arith, c.loop-left-test.true) in
    record {
      within = omega (arith, c.loop-left.invariant.within);
      behind = class_more c.args.classes.now (c.loop-left.left - 1) c.index-classes-left.result c.loop-left.places.items c.put_class.new.places.items (omega (arith, c.loop-left.invariant.within, c.loop-left-test.true)) c.index-classes-left.is
          (subst (λ n. (i : ℕ) → option_and_then (led_to c.args.classes.now) (place_at c.loop-left.places.items i) ≡ first_method i (drop n c.args.classes.now)) one c.loop-left.invariant.behind)
          c.in_ok-put_class.ensures;
    }
