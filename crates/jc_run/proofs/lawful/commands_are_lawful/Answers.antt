use Rattle.jc_card.specs.Accesses.{IsApartCard}
use Rattle.jc_card.specs.New.{new_card}
use Rattle.jc_run.proofs.Isolating.{all_isolated}
use Rattle.jc_run.proofs.NeverStuck.{never_stuck}
use Rattle.jc_run.proofs.Running.{all_guarded, loads_are_safe}
use Rattle.jc_run.specs.Loading.{anything, exactly}
use Rattle.jc_run.specs.Runs.{AreGuarded}
use Rattle.jc_run.proofs.lawful.commands_are_lawful.Goals as goal

pub returns : goal.returns
returns c = λ limits binding few clear.
    let guarded : AreGuarded IsApartCard (exactly anything anything) = all_guarded (record {
      apdu = c.commands_are_guarded.ensures.apdu;
      install = c.commands_are_guarded.ensures.install;
      reset = c.commands_are_guarded.ensures.reset;
      load = c.commands_are_guarded.ensures.load;
      apart_apdu = c.commands_stay_apart.ensures.apdu;
      apart_install = c.commands_stay_apart.ensures.install;
      apart_reset = c.commands_stay_apart.ensures.reset;
      apart_load = c.commands_stay_apart.ensures.load;
      none = c.accesses_add_up.ensures.none;
      more = c.accesses_add_up.ensures.more;
    }) anything anything in record {
      loads = loads_are_safe;
      accesses = guarded;
      isolated = all_isolated (record {
        apdu = c.commands_see_no_contents.ensures.apdu;
        install = c.commands_see_no_contents.ensures.install;
        reset = c.commands_see_no_contents.ensures.reset;
        load = c.commands_see_no_contents.ensures.load;
        members = c.members_keep_what_is_kept.ensures.remembered;
        aids = c.members_keep_what_is_kept.ensures.aids;
        answered = c.commands_are_answered.ensures;
        keep = record {
          apdu = c.commands_keep_contents.ensures.apdu;
          install = c.commands_keep_contents.ensures.install;
          reset = c.commands_keep_contents.ensures.reset;
        };
      }) anything anything guarded;
      begins = c.commands_stay_apart.ensures.new limits binding clear;
      never_stuck = λ commands fit. never_stuck (record {
        apdu = c.commands_are_never_stuck.ensures.apdu;
        install = c.commands_are_never_stuck.ensures.install;
        reset = c.commands_are_never_stuck.ensures.reset;
        load = c.commands_are_never_stuck.ensures.load;
      }) anything anything commands fit (new_card limits binding)
          (c.commands_are_never_stuck.ensures.new limits binding few clear);
    }
