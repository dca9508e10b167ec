use Rattle.std.proofs.Common.{◌≡◌, ◌≢◌, ℕ, true}
use Rattle.jc_names.specs.Names.{home_of}
use Rattle.jc_program.specs.PrivateNearest.{FindsAs}
use Rattle.jc_program.proofs.nearest.nearest_above.Given as goal

abbrev pub invariant-loop : goal.invariant-loop
invariant-loop l = record {
  others : (asker : ℕ) → home_of l.fn.class ≢ asker → FindsAs l.table l.fn.class l.at asker;
  all : l.shares ≡ true → (asker : ℕ) → FindsAs l.table l.fn.class l.at asker;
}
