use Rattle.jc_words.proofs.Bounds.{binary_bound, incremented_bound, unary_bound}
use Rattle.jc_words.proofs.Offsets.{lookup_named, stable_named}
use Rattle.jc_words.proofs.laws.word_laws.Goals as goal

pub returns : goal.returns
returns c = record {
  binary = binary_bound;
  unary = unary_bound;
  increment = incremented_bound;
  stable = stable_named;
  lookup = lookup_named;
}
