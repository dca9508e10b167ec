use Rattle.std.proofs.Common.{Some, arith, refl, sym, ◌∙◌}
use Rattle.jc_verify.proofs.Following.{reached_followed, reached_grown}
use Rattle.jc_verify.proofs.Numbers.{has_itself}
use Rattle.jc_verify.proofs.Passing.{led_none}
use Rattle.jc_verify.specs.declared.entries.Followed.{Followed}
use Rattle.jc_verify.proofs.entries.reach.Goals as goal

pub returns-then-contains-clause-led : goal.returns-then-contains-clause-led
returns-then-contains-clause-led c = led_none c.args.followed.now (sym c.contains.ensures ∙ c.if-contains.true)

pub returns-clause-led : goal.returns-clause-led
returns-clause-led c =
    let before = c.args.followed.now in
    let after : Followed = record { live = c.insert.new.self; entered = before.entered; stack = c.push.new.self } in
    let has = c.in_ok-insert.ensures in
    let items = c.in_ok-push.ensures.items in
    record {
      met = has_itself before.live c.insert.new.self c.args.pc has;
      grown = reached_grown before after c.args.pc has refl items (sym c.contains.ensures ∙ c.if-contains.false)
          (omega (arith, c.ranges.pc.fits));
      followed = λ m listing now. reached_followed before after c.args.pc has refl items m listing (Some now);
    }
