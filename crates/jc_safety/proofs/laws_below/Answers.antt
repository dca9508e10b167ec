use Rattle.jc_safety.proofs.laws_below.Goals as goal

pub returns : goal.returns
returns c = record {
  lookups = c.growing_keeps_lookups.ensures.kept;
  first = c.growing_keeps_lookups.ensures.first;
  smaller = c.growing_keeps_lookups.ensures.small;
  stand = c.growing_keeps_lookups.ensures.there;
  linking = c.growing_keeps_linking.ensures.kept;
  has_api = c.growing_keeps_linking.ensures.api;
  first_built = c.growing_keeps_linking.ensures.first;
  members = c.growing_keeps_effects.ensures.members;
  orders = c.growing_keeps_effects.ensures.orders;
  methods = c.growing_keeps_effects.ensures.methods;
  sound = c.built_worlds_are_sound.ensures;
  names = c.built_worlds_name_classes.ensures;
  on_api = c.built_worlds_stand_on_the_api.ensures;
  cells = c.cells_follow_superclasses.ensures;
  order = c.superclass_laws.ensures.order;
  along = c.superclass_laws.ensures.subtypes;
  found = c.found_subtypes_are_subtypes.ensures.found;
  below = c.found_subtypes_are_subtypes.ensures.below;
  classes = c.found_subtypes_are_subtypes.ensures.classes;
  code = c.methods_have_code.ensures;
  typed = c.accepted_methods_are_typed.ensures;
  listing = c.listing_laws.ensures.all;
  listed = c.instructions_begin_in_turn.ensures.listed;
  stay = c.runtime_objects_stay.ensures;
}
