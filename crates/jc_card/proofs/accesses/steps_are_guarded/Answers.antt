use Rattle.jc_natives.specs.Apart.{names_applets}
use Rattle.jc_card.proofs.accesses.steps_are_guarded.Goals as goal

pub returns : goal.returns
returns c = record {
  members = c.members_are_guarded.ensures;
  steps = c.accesses_are_guarded.ensures.guarded;
  owned = c.owners_go_by_calls.ensures;
  accesses = c.accesses_are_the_instructions.ensures;
  thrown = c.throws_are_caught.ensures;
  blind = c.members_see_no_contents.ensures;
  alike = λ context s guarded blind. c.contents_are_unseen.ensures.calls context s guarded blind names_applets;
  kept = c.accesses_are_guarded.ensures.kept;
  apart_members = c.members_stay_apart.ensures.members;
  apart_steps = c.steps_stay_apart.ensures.steps names_applets;
  apart_objects = c.steps_stay_apart.ensures.objects;
  held = c.held_values_stay.ensures.held;
  fields = c.held_values_stay.ensures.fields;
  words = c.written_words_are_held.ensures;
  api = c.api_runs_its_own_code.ensures;
  numbers = c.calls_keep_numbers.ensures;
  begun = c.members_stay_apart.ensures.begun;
  over = c.members_stay_apart.ensures.over;
  opened = c.members_stay_apart.ensures.opened;
  closed = c.members_stay_apart.ensures.closed;
}
