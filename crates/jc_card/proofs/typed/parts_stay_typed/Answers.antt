use Rattle.jc_card.proofs.typed.parts_stay_typed.Goals as goal

pub returns : goal.returns
returns c = record {
  applets = record {
    sound = c.built_worlds_are_sound.ensures;
    order = c.superclass_laws.ensures.order;
    call = record { lawful = c.law.ensures; calls = c.accepted_packages_are_type_safe.ensures.calls };
    declared = c.members_are_declared.ensures;
    members = c.accepted_packages_are_type_safe.ensures.members;
  };
  byte = c.objects_stay_typed.ensures.byte;
  zeroed = c.objects_stay_typed.ensures.zeroed;
  numbers = c.calls_keep_numbers.ensures;
  begun = c.calls_keep_fitting.ensures.begun;
  over = c.calls_keep_fitting.ensures.over;
  opened = c.calls_keep_fitting.ensures.opened;
  closed = c.calls_keep_fitting.ensures.closed;
}
