use Rattle.jc_types.proofs.Bounded.{types_at_most}
use Rattle.jc_types.specs.PrivateStates.{types_below_self, types_below_both, types_below_through, is_join, types_fall}
use Rattle.jc_types.proofs.lattice.order_laws.Goals as goal

pub returns : goal.returns
returns c = record {
  tables = c.superclass_laws.ensures.order;
  reflexive = types_below_self;
  antisymmetric = types_below_both;
  transitive = types_below_through;
  lattices = c.superclass_laws.ensures.lattice;
  joins = is_join;
  heights = types_fall;
  bound = types_at_most;
}
