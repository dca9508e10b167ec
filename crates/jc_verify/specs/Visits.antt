-- How often inference follows control flow: at most once from the entry of each method, and from a pc with a state at
-- most once for each change of that state.
use Rattle.std.specs.Prelude.{ℕ, ◌+◌, ◌*◌, ◌≤◌, List, length}
use Rattle.std.specs.List.{sum_by}
use Rattle.jc_cap_desc.specs.Shape.{Shape}
use Rattle.jc_cert.specs.Cert.{Row, Stated}
use Rattle.jc_classes.specs.Subtype.{classes_above}
use Rattle.jc_link.specs.Linked.{Linked}
use Rattle.jc_names.specs.declared.name.ClassName.{ClassName}
use Rattle.jc_verify.specs.declared.package.Inferred.{Inferred}

-- no class has more superclasses than this number
abbrev pub IsDepth : List Shape → ℕ → Type 0
IsDepth world depth = (c : ClassName) → classes_above world c ≤ depth

-- how often a state changes at most: once when control flow first reaches its pc, and then each time that one of its
-- types rises. The lowest type is Null. Above it are arrays of references to a class and to each of its superclasses,
-- then Object, then Top. So a type rises at most three times, and once more for each superclass
abbrev pub most_changes : ℕ → Stated → ℕ
most_changes depth s = 1 + (length s.locals + length s.operands) * (3 + depth)

-- how often the states of a method's row change at most
abbrev pub most_in_row : ℕ → Row → ℕ
most_in_row depth r = sum_by (most_changes depth) r.states

-- how many states a method's row has
abbrev pub states_in_row : Row → ℕ
states_in_row r = length r.states

-- in a package, control flow is followed at most once for each method with code, plus as often as the certificate's
-- states change at most; and at least once for each of these states
pub record HasBoundedCount (l : Linked) (i : Inferred) : Type 0 where
  pub most : (depth : ℕ) → IsDepth l.world depth
      → i.followed ≤ length l.body.kept.methods + sum_by (most_in_row depth) i.cert
  pub least : sum_by states_in_row i.cert ≤ i.followed
