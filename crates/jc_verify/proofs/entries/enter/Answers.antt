use Rattle.std.proofs.Common.{Some, refl}
use Rattle.jc_verify.proofs.Following.{entered_followed, entered_grown, grown_through, reached_of}
use Rattle.jc_verify.proofs.Numbers.{has_itself}
use Rattle.jc_verify.proofs.Visiting.{if_ok}
use Rattle.jc_verify.specs.declared.entries.Followed.{Followed}
use Rattle.jc_verify.proofs.entries.enter.Goals as goal

pub returns-clause-led : goal.returns-clause-led
returns-clause-led c =
    let before = c.args.followed.now in
    let pc = c.args.pc in
    let now : Followed = record { live = before.live; entered = c.insert.new.self; stack = before.stack } in
    let has = c.in_ok-insert.ensures in
    if_ok c.reach.result _ _ c.reach.ensures.led (λ u led. record {
      met = record {
        live = led.met;
        entered = led.grown.entered pc (has_itself before.entered c.insert.new.self pc has);
      };
      grown = grown_through before now c.reach.new.followed (entered_grown before now pc refl has refl) led.grown;
      followed = λ m listing at found h. led.followed m listing at (reached_of m listing pc found)
          (entered_followed before now pc refl has refl m listing (Some at) found h);
    })
